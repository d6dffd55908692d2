use Rattle.std.proofs.Common.{◌-◌, drop, length, drop-drop, length-drop, sym, ap, ◌∙◌, arith}
use Rattle.std.specs.Prelude.{◌==◌}
use Rattle.std.specs.List.{position_or_len}
use Rattle.clru_log.proofs.LineLemmas.{first_taken, position_behind, position-is}
use Rattle.clru_log.proofs.newline.newline_at.Goals as goal

pub loop-start-init : goal.loop-start-init
loop-start-init c = (omega arith, omega arith)

pub overflow_sub-bytes : goal.overflow_sub-bytes
overflow_sub-bytes c = c.loop-start.invariant.0

pub returns-then-at-lt16 : goal.returns-then-at-lt16
returns-then-at-lt16 c =
    let bytes = c.args.bytes.now in let start = c.loop-start.start in let i = c.loop-start.invariant in
    let len = length-drop start bytes in
    let first = first_taken (λ b. b == 10) (drop start bytes) 16 (omega (arith, c.loop-start-test.true)) in
    let at = c.first_of_sixteen-at.ensures in let short = c.if-at-lt16.true in
    sym (position-is (λ b. b == 10) bytes _ (omega (arith, i.1, at, first.0 (omega (arith, at, short)))) (omega (arith, i.0, c.loop-start-test.true, short)))

pub loop-start-smaller : goal.loop-start-smaller
loop-start-smaller c = omega (arith, c.loop-start-test.true)

pub loop-start-preserved : goal.loop-start-preserved
loop-start-preserved c =
    let bytes = c.args.bytes.now in let start = c.loop-start.start in let i = c.loop-start.invariant in
    let len = length-drop start bytes in
    let first = first_taken (λ b. b == 10) (drop start bytes) 16 (omega (arith, c.loop-start-test.true)) in
    let on = ap (position_or_len (λ b. b == 10)) (drop-drop 16 start bytes) in
    (omega (arith, i.0, c.loop-start-test.true), omega (arith, i.1, on, first.1 (omega (arith, c.first_of_sixteen-at.ensures, c.if-at-lt16.false))))

pub returns-in-Some : goal.returns-in-Some
returns-in-Some c =
    let bytes = c.args.bytes.now in let start = c.loop-start.start in let i = c.loop-start.invariant in
    sym ((position_behind (λ b. b == 10) bytes start (length bytes - start) i.0 (omega (arith, i.0)) i.1).0 c.in-Some.at (sym c.newline_in.ensures ∙ c.in-Some.is))

pub returns-in-None : goal.returns-in-None
returns-in-None c =
    let bytes = c.args.bytes.now in let start = c.loop-start.start in let i = c.loop-start.invariant in
    sym ((position_behind (λ b. b == 10) bytes start (length bytes - start) i.0 (omega (arith, i.0)) i.1).1 (sym c.newline_in.ensures ∙ c.in-None.is))
