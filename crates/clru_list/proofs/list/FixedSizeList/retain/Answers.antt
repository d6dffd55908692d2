use Rattle.std.proofs.Common.{rules}
use Rattle.clru_list.specs.Retains.{CalledAtItem, TakesItem}
use Rattle.clru_list.proofs.PassedOn.{callable_passed, retained_passed}
use Rattle.clru_list.proofs.list.FixedSizeList.retain.Goals as goal

pub retain_mut-requires : goal.retain_mut-requires
retain_mut-requires g c =
    callable_passed (CalledAtItem g.F.FnMut) _ (λ s. s.0.now) (λ s p v b w s' t. search rules)
    (TakesItem g.F.FnMut) _ (λ s p v may. search rules) _ _ c.requires

pub returns-clause-called : goal.returns-clause-called
returns-clause-called g c =
    retained_passed (CalledAtItem g.F.FnMut) _ (λ s. s.0.now) (λ s p v b w s' t. search rules) _ _ _ c.retain_mut.ensures.called
