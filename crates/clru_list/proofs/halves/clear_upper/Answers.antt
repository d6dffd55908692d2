use Rattle.std.proofs.Common.{arith}
use Rattle.clru_list.proofs.NodeLemmas.{column-set}
use Rattle.clru_list.proofs.halves.clear_upper.Goals as goal

pub returns-then-place-len-clause-next : goal.returns-then-place-len-clause-next
returns-then-place-len-clause-next g c = let v = c.args.upper.now in
    column-set (λ u. u.next) 0 v.items c.args.place (record { prev = 0; next = 0 }) (omega (arith, v.ok.0, c.len.ensures, c.if-place-len.true))

pub returns-then-place-len-clause-prev : goal.returns-then-place-len-clause-prev
returns-then-place-len-clause-prev g c = let v = c.args.upper.now in
    column-set (λ u. u.prev) 0 v.items c.args.place (record { prev = 0; next = 0 }) (omega (arith, v.ok.0, c.len.ensures, c.if-place-len.true))
