use Rattle.std.proofs.Common.{◌≡◌, ◌+◌, ◌++◌, [], ◌∷◌, ◌<◌, suc, drop, is_some, IfErr, OnOk, length, length-take-le, take, take_all, refl, sym, ap, ◌∙◌, subst, arith}
use Rattle.std.specs.Int.NonZero.{non_zero_usize_get}
use Rattle.std.proofs.lemmas.List.{length-map}
use Rattle.clru_text.specs.Keys.{line_of}
use Rattle.clru_text.specs.Samples.{kept_of}
use Rattle.clru_report.specs.KeyLogs.{line_at, lines_in}
use Rattle.clru_report.specs.SizedLinePasses.{HasTakenOf}
use Rattle.clru_report.specs.SizedLines.{HaveFault}
use Rattle.clru_report.proofs.FaultLemmas.{lines_unwritten}
use Rattle.clru_report.proofs.KeyLines.{key_read, line_read, lines_around, one_more_line}
use Rattle.clru_report.proofs.SettledCurves.{settled_curve}
use Rattle.clru_report.proofs.SizedSamples.{added_free}
use Rattle.clru_report.proofs.sized.one_size.curve_of_log.Goals as goal

pub loop-index-init : goal.loop-index-init
loop-index-init g c = (refl, c.new-lines.ensures.taken)

pub index-requires : goal.index-requires
index-requires g c =
    let low : c.loop-index.index < length c.args.log.now.requests.items = omega (arith, c.loop-index-test.true, c.len-index-end.ensures) in
    let key = key_read c.args.log.now c.loop-index.index c.index-number.result.now c.requires low c.index-number.ensures in
    omega (arith, key, c.requires.sized)

pub index-requires-in-loop-index : goal.index-requires-in-loop-index
index-requires-in-loop-index g c =
    let low : c.loop-index.index < length c.args.log.now.requests.items = omega (arith, c.loop-index-test.true, c.len-index-end.ensures) in
    omega (arith, key_read c.args.log.now c.loop-index.index c.index-number.result.now c.requires low c.index-number.ensures)

pub take_line-requires : goal.take_line-requires
take_line-requires g c =
    let log = c.args.log.now in let i = c.loop-index.index in
    let low : i < length log.requests.items = omega (arith, c.loop-index-test.true, c.len-index-end.ensures) in (
      c.new-lines.result,
      take i (lines_in log),
      c.loop-index.invariant,
      omega (arith, low, length-take-le i (lines_in log), length-map log.requests.items (line_at log)),
    )

pub loop-index-preserved : goal.loop-index-preserved
loop-index-preserved g c =
    let log = c.args.log.now in let i = c.loop-index.index in let lines = take i (lines_in log) in
    let number = c.index-number.result.now in let tail = c.index-in-loop-index.result.now in
    let low : i < length log.requests.items = omega (arith, c.loop-index-test.true, c.len-index-end.ensures) in
    let line = line_read log i number c.index.result.now tail c.write_line.new.line.0.items c.requires low c.index-number.ensures
    c.index.ensures c.index-in-loop-index.ensures c.in-Ok.ensures in
    let more : take (i + 1) (lines_in log) ≡ lines ++ line_of c.write_line.new.line ∷ [] =
    one_more_line log i low ∙ ap (λ l. lines ++ l ∷ []) (sym line) in
    rw more (subst (λ r. OnOk r ((c.take_line.new.self.one_in ≡ c.new-lines.result.one_in)
    × HasTakenOf (is_some c.new-lines.result.reuses) (non_zero_usize_get c.take_line.new.self.one_in) (lines ++ line_of c.write_line.new.line ∷ [])
    c.take_line.new.self.size c.take_line.new.self.pass c.take_line.new.self.reuses)) c.in-Ok-taken.is (c.in-Ok-take_line.ensures.taken c.new-lines.result lines c.loop-index.invariant
    (omega (arith, low, length-take-le i (lines_in log), length-map log.requests.items (line_at log)))))

pub returns-in-Err-clause-refused : goal.returns-in-Err-clause-refused
returns-in-Err-clause-refused g c of =
    let log = c.args.log.now in let i = c.loop-index.index in let all = lines_in log in let rest = drop (suc i) all in
    let number = c.index-number.result.now in let tail = c.index-in-loop-index.result.now in
    let low : i < length log.requests.items = omega (arith, c.loop-index-test.true, c.len-index-end.ensures) in
    let line = line_read log i number c.index.result.now tail c.write_line.new.line.0.items c.requires low c.index-number.ensures
    c.index.ensures c.index-in-loop-index.ensures c.in-Ok.ensures in
    let around : all ≡ take i all ++ line_of c.write_line.new.line ∷ rest =
    lines_around log i low ∙ ap (λ l. take i all ++ l ∷ rest) (sym line) in
    subst (λ ls. HaveFault ls c.in-Err.fault) (sym around)
    (subst (λ r. IfErr r (HaveFault (take i all ++ line_of c.write_line.new.line ∷ rest))) c.in-Err.is
    (c.in-Ok-take_line.ensures.refused c.new-lines.result (take i all) rest c.loop-index.invariant
    (omega (arith, low, length-take-le i all, length-map log.requests.items (line_at log)))))

pub returns-in-Err-clause-fault : goal.returns-in-Err-clause-fault
returns-in-Err-clause-fault g c =
    let log = c.args.log.now in let i = c.loop-index.index in let all = lines_in log in
    let low : i < length log.requests.items = omega (arith, c.loop-index-test.true, c.len-index-end.ensures) in
    lines_unwritten _ c.in-Err.fault (subst (λ r. IfErr r (HaveFault (take i all ++ line_of c.write_line.new.line ∷ []))) c.in-Err.is
    (c.in-Ok-take_line.ensures.refused c.new-lines.result (take i all) [] c.loop-index.invariant
    (omega (arith, low, length-take-le i all, length-map log.requests.items (line_at log))))).0

pub returns-in-Ok-into_curve-clause-curve : goal.returns-in-Ok-into_curve-clause-curve
returns-in-Ok-into_curve-clause-curve g c input =
    let log = c.args.log.now in let all = lines_in log in let n = non_zero_usize_get c.args.one_in in
    let long = length-map log.requests.items (line_at log) in
    let whole : take c.loop-index.index all ≡ all =
    take_all c.loop-index.index all (omega (arith, long, c.loop-index-test.false, c.len-index-end.ensures)) in
    let so = c.loop-index.invariant in let now = c.loop-index.lines in let first = c.new-lines.result in
    let kept = subst (λ k. HasTakenOf (is_some first.reuses) k (take c.loop-index.index all) now.size now.pass now.reuses)
    (ap non_zero_usize_get (so.0 ∙ c.new-lines.ensures.sample)) so.1 in
    let of_all = subst (λ ls. HasTakenOf (is_some first.reuses) n ls now.size now.pass now.reuses) whole kept in
    let has = subst (λ b. HasTakenOf b n all now.size now.pass now.reuses) c.new-lines.ensures.floored of_all in
    let e = c.in-Ok-into_curve.ensures in let made = e.curve c.args.floored n all has in (
      record {
        sizes = has.added.sizes;
        of_kept = made.0;
        no_fault = added_free all now.size has.added;
        counted = sym long;
        summed = e.size ∙ has.added.summed;
        in_bytes = refl;
      },
      made.1,
    )

pub returns-in-Ok-into_curve-clause-settled : goal.returns-in-Ok-into_curve-clause-settled
returns-in-Ok-into_curve-clause-settled g c =
    settled_curve (kept_of (non_zero_usize_get c.args.one_in) (lines_in c.args.log.now)) c.in-Ok-into_curve.found.0
    (returns-in-Ok-into_curve-clause-curve g c []).0.of_kept
