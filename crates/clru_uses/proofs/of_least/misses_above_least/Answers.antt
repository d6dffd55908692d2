use Rattle.std.proofs.Common.{◌≤◌, subst, sym}
use Rattle.std.specs.Int.NonZero.{non_zero_usize_get}
use Rattle.clru_uses.proofs.of_least.misses_above_least.Goals as goal

pub returns-in-Ok : goal.returns-in-Ok
returns-in-Ok g c =
    let k = non_zero_usize_get c.args.capacity in
    let rs = c.args.keys.now in
    let law = c.law_least.ensures in
    let some = c.args.capacity.ok in
    let (n, least) = law.there k rs some in
    (n, least, law.any_start k n rs some least, subst (λ m. n ≤ m) (sym c.in-Ok.ensures.misses) (law.below k n rs some least))
