use Rattle.std.proofs.Common.{refl, ap, arith}
use Rattle.std.proofs.Math.Bridge.{le_prop}
use Rattle.clru.specs.EntryMut.{length-with_value_at, index, with_value}
use Rattle.clru.proofs.entry.methods.EntryMutDerefMut.deref_mut.Goals as goal

pub invariant_of-self-lent : goal.invariant_of-self-lent
invariant_of-self-lent g c w =
    let e = c.args.self.now in
    (omega (arith, e.some, length-with_value_at (index e) w e.cache.now.entries), tt)

pub returns : goal.returns
returns g c =
    let e = c.args.self.now in (
      (refl, λ w. ap (λ q. record (with_value e w) { some = q }) (le_prop _ (with_value e w).some)),
      record { lends = tt; value = c.end_value.ensures.value },
    )
