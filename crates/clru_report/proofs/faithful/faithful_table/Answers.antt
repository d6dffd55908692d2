use Rattle.std.proofs.Common.{[], map, sym, subst, arith}
use Rattle.std.specs.Int.NonZero.{non_zero_usize_get}
use Rattle.std.proofs.lemmas.List.{append-nil, drop_all}
use Rattle.clru_report.specs.Faithful.{AreAdded, AreWithAdded, none}
use Rattle.clru_report.proofs.faithful.faithful_table.Goals as goal

pub returns : goal.returns
returns g c =
    let m = g.C.Curve.misses c.args.curve.now in let whole = c.args.whole in let before = c.loop-capacity.before in
    let empty = drop_all c.loop-capacity.capacity-index c.in-Some.rest.now (omega (arith, c.loop-capacity-test.false)) in
    subst (AreWithAdded m whole (map non_zero_usize_get c.args.capacities.now)) (append-nil (map non_zero_usize_get c.loop-capacity.table.items))
    (c.loop-capacity.invariant [] (subst (λ xs. AreAdded m whole before (map non_zero_usize_get xs) []) (sym empty) (none before)))
