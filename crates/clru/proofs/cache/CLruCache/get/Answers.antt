use Rattle.std.proofs.Common.{◌≡◌, None, slice_get, refl, sym, ap, ◌∙◌}
use Rattle.std.specs.Map.Iter.{deref_pair}
use Rattle.std.specs.Option.{option_map}
use Rattle.clru_model.proofs.Finding.{held, first_touched}
use Rattle.clru_model.proofs.Orders.{permutation-touch}
use Rattle.clru.specs.Cache.{cache}
use Rattle.clru.proofs.Keeping.{IsCache-ordered}
use Rattle.clru.proofs.cache.CLruCache.get.Goals as goal

pub invariant_of-self : goal.invariant_of-self
invariant_of-self g c =
    IsCache-ordered _ g.met.K.Eq.laws (permutation-touch g.Q.Equivalent.equivalent c.args.key _) c.self.invariant c.touch.ensures.entries

pub unreachable-requires : goal.unreachable-requires
unreachable-requires g c =
    let e = ap (λ m. m.entries) c.touch.ensures.entries in let eq = g.Q.Equivalent.equivalent in let key = c.args.key in
    let h = held (eq key) c.if-touch.ensures.found in
    let none : None ≡ slice_get c.touch.new.self.entries 0 = sym (ap (option_map deref_pair) c.in_default.is) ∙ c.front.ensures in
    let no = first_touched eq key h e none ∙ h.value in cc

pub returns-then-touch : goal.returns-then-touch
returns-then-touch g c =
    let e = c.touch.ensures.entries in let eq = g.Q.Equivalent.equivalent in let key = c.args.key in
    rw (← c.self.view_is) (
      (refl, λ _. tt, ap (λ m. cache m.entries m.capacity c.self.inside.scale m.places) e),
      record { touches = tt; value = first_touched eq key (held (eq key) c.if-touch.ensures.found) (ap (λ m. m.entries) e) c.in-Some.ensures },
    )

pub invariant_of-self-else-touch : goal.invariant_of-self-else-touch
invariant_of-self-else-touch g c =
    IsCache-ordered _ g.met.K.Eq.laws (permutation-touch g.Q.Equivalent.equivalent c.args.key _) c.self.invariant c.touch.ensures.entries
