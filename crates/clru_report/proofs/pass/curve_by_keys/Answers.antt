use Rattle.std.proofs.Common.{[], is_some, refl, sym, ap, subst}
use Rattle.std.specs.Int.NonZero.{non_zero_usize_get}
use Rattle.clru_text.specs.Lines.{lines_of}
use Rattle.clru_text.specs.Samples.{kept_of}
use Rattle.clru_report.proofs.TakenLines.{asked_floor, asked_foresight, distinct_taken, foreseen_for, misses_taken, taken_for}
use Rattle.clru_report.specs.LinePasses.{HasTakenFor}
use Rattle.clru_report.specs.Passes.{HasFloorPass, HasForesight, IsFloorFor}
use Rattle.clru_report.proofs.pass.curve_by_keys.Goals as goal

pub read_keys-requires : goal.read_keys-requires
read_keys-requires g c =
    let later = c.foresight_for.result in let reused = c.floor_pass_for.result in (
      refl,
      record {
        past = [];
        shown = refl;
        taken = c.new.ensures;
        foreseen = subst (λ b. HasForesight {A = g.row.A.Denot} b [] later) (sym (asked_foresight {A = g.row.A.Denot} c.args.least [] later c.foresight_for.ensures)) c.foresight_for.ensures;
        floored = subst (λ b. HasFloorPass {A = g.row.A.Denot} (λ _. 0) b [] reused)
            (sym (asked_floor {A = g.row.A.Denot} (λ _. 0) c.args.floored [] reused (c.floor_pass_for.ensures (λ _. 0)))) (c.floor_pass_for.ensures (λ _. 0));
      },
    )

pub returns : goal.returns
returns g c =
    let least = c.args.least in let floored = c.args.floored in
    let read = c.in_ok-requests.ensures.taken in let got = read.3.taken in let now = c.read_keys.new.taker in
    let lines = kept_of (non_zero_usize_get c.args.one_in) (lines_of read.0) in
    let next = now.pass in let foresight = now.foresight in let reuses = now.reuses in
    let later = c.foresight_for.result in let reused = c.floor_pass_for.result in
    let kept = subst (λ n. HasTakenFor (is_some later) (is_some reused) (kept_of n (lines_of read.0)) next foresight reuses)
    (ap non_zero_usize_get got.0) got.1 in
    let of_least = subst (λ b. HasTakenFor b (is_some reused) lines next foresight reuses)
    (asked_foresight {A = g.row.A.Denot} least [] later c.foresight_for.ensures) kept in
    let all = subst (λ b. HasTakenFor least b lines next foresight reuses)
    (asked_floor {A = g.row.A.Denot} (λ _. 0) floored [] reused (c.floor_pass_for.ensures (λ _. 0))) of_least in
    let taken = taken_for least floored lines next foresight reuses all in let curve = c.into_curve-curve.result in (
      read.0,
      read.1,
      read.2,
      (
        record {
          misses = misses_taken lines next taken curve (λ past is. c.into_curve-curve.ensures.misses past is);
          distinct_keys = distinct_taken lines next taken curve (λ past is. c.into_curve-curve.ensures.distinct past is);
          counted = read.3.counted;
          in_bytes = read.3.in_bytes;
        },
        foreseen_for least floored lines next foresight reuses all,
        subst (λ ls. IsFloorFor floored ls c.in-Ok.floor) all.shown (c.in-Ok.ensures floored all.past all.floored),
      ),
    )
