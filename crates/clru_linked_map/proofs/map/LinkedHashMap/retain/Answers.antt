use Rattle.std.proofs.Common.{rules, ap}
use Rattle.clru_list.proofs.PassedOn.{callable_passed, retained_passed}
use Rattle.clru_linked_map.specs.Retains.{CalledAtShownPair, TakesShownPair}
use Rattle.clru_linked_map.proofs.map.LinkedHashMap.retain.Goals as goal

pub sift-requires-clause-callable : goal.sift-requires-clause-callable
sift-requires-clause-callable g c =
    callable_passed (CalledAtShownPair g.F.FnMut) _ (λ s. s.0.now) (λ s k v b w s' t. search rules)
    (TakesShownPair g.F.FnMut) _ (λ s k v may. search rules) _ _ (rw (← c.self.view_is) at c.requires.callable)

pub sift-requires-clause-steady : goal.sift-requires-clause-steady
sift-requires-clause-steady g c = λ s k v b w s' t.
    let shown : CalledAtShownPair g.F.FnMut s.0.now k v b w s'.0.now = search rules in ap (g.W.WeightScale.weight c.args.scale.now k) shown.stays

pub returns-clause-kept : goal.returns-clause-kept
returns-clause-kept g c =
    rw (← c.self.view_is) (retained_passed (CalledAtShownPair g.F.FnMut) _ (λ s. s.0.now) (λ s k v b w s' t. search rules) _ _ _ c.sift.ensures.kept)
