use Rattle.std.proofs.Common.{arith, refl, vec_len, ◌-◌}
use Rattle.clru_list.specs.declared.halves.Upper.{Upper}
use Rattle.clru_list.proofs.NodeLemmas.{column-resized}
use Rattle.clru_list.proofs.halves.widen.Goals as goal

pub returns-in-Ok-resize-clause-next : goal.returns-in-Ok-resize-clause-next
returns-in-Ok-resize-clause-next g c =
    let none : Upper = record { prev = 0; next = 0 } in let old = c.reserve_exact.new.self in
    column-resized (λ u. u.next) 0 c.args.upper.now.items old.items c.args.places (c.args.places - vec_len old) c.resize.new.self.items none refl
    c.reserve_exact.ensures.items (omega (arith, c.args.upper.now.ok.0, c.if-places-len.false, c.len-len.ensures)) c.in-Ok-resize.ensures.items

pub returns-in-Ok-resize-clause-prev : goal.returns-in-Ok-resize-clause-prev
returns-in-Ok-resize-clause-prev g c =
    let none : Upper = record { prev = 0; next = 0 } in let old = c.reserve_exact.new.self in
    column-resized (λ u. u.prev) 0 c.args.upper.now.items old.items c.args.places (c.args.places - vec_len old) c.resize.new.self.items none refl
    c.reserve_exact.ensures.items (omega (arith, c.args.upper.now.ok.0, c.if-places-len.false, c.len-len.ensures)) c.in-Ok-resize.ensures.items
