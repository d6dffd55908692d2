use Rattle.std.proofs.Common.{sym, ap, ◌∙◌}
use Rattle.clru_model.specs.Entries.{touch}
use Rattle.clru_model.proofs.Finding.{held, first_touched, with_front-set_value}
use Rattle.clru_model.proofs.Orders.{permutation-touch}
use Rattle.clru_linked_map.proofs.Lending.{ends_alike}
use Rattle.clru_linked_map.proofs.WrittenItems.{front_at}
use Rattle.clru.specs.Cache.{cache}
use Rattle.clru_model.specs.Entries.{with_value_at}
use Rattle.clru.proofs.Keeping.{IsCache-ordered}
use Rattle.clru.proofs.Values.{IsCache-at}
use Rattle.clru.proofs.cache.get.CLruCache+K+V+S+ZeroWeightScale+A.get_mut.Goals as goal

pub invariant_of-self-lent : goal.invariant_of-self-lent
invariant_of-self-lent g c = λ w.
    IsCache-at 0 w (IsCache-ordered _ g.met.K.Eq.laws (permutation-touch g.Q.Equivalent.equivalent c.args.key _) c.self.invariant c.touch.ensures.entries)

pub returns : goal.returns
returns g c =
    let eq = g.Q.Equivalent.equivalent in let key = c.args.key in let e = c.touch.ensures.entries in let f = c.self.inside in
    let h = held (eq key) c.if-not-touch.ensures.found in
    rw (← c.self.view_is) (
      ends_alike (λ w. ap (λ m. cache (with_value_at 0 w m.entries) m.capacity f.scale m.places) e
          ∙ ap (λ l. cache l f.map.capacity f.scale f.map.places) (sym (front_at w (touch eq key f.map.entries)) ∙ with_front-set_value eq key h w)),
      record { lends = tt; value = first_touched eq key h (ap (λ m. m.entries) e) (sym c.front_mut.ensures.entry) },
    )

pub invariant_of-self : goal.invariant_of-self
invariant_of-self g c =
    IsCache-ordered _ g.met.K.Eq.laws (permutation-touch g.Q.Equivalent.equivalent c.args.key _) c.self.invariant c.touch.ensures.entries
