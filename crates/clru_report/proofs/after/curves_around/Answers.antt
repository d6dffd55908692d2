use Rattle.std.proofs.Common.{[], refl, ap, subst, arith}
use Rattle.std.specs.Int.NonZero.{non_zero_usize_get}
use Rattle.clru_text.specs.Lines.{lines_of}
use Rattle.clru_report.proofs.TakenLines.{distinct_taken, misses_taken}
use Rattle.clru_report.specs.AfterPasses.{IsHead}
use Rattle.clru_report.proofs.after.curves_around.Goals as goal

pub read_keys-requires : goal.read_keys-requires
read_keys-requires g c = (refl, record { past = []; shown = refl; taken = c.new.ensures }, omega arith)

pub returns : goal.returns
returns g c =
    let read = c.in_ok-requests.ensures.taken in let got = read.3.taken in let now = c.read_keys.new.taker in
    let lines = lines_of read.0 in let curve = c.into_curve.result in (
      read.0,
      read.1,
      read.2,
      record {
        whole = record {
          misses = misses_taken lines now.pass got.1 curve (λ past is. c.into_curve.ensures.misses past is);
          distinct_keys = distinct_taken lines now.pass got.1 curve (λ past is. c.into_curve.ensures.distinct past is);
        };
        before = subst (λ n. IsHead n lines now.head) (ap non_zero_usize_get got.0) got.2;
        all_counted = read.3.counted;
        in_bytes = read.3.in_bytes;
      },
    )
