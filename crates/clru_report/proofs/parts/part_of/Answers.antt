use Rattle.std.proofs.Common.{[], append-nil, refl, sym, ap, ◌∙◌, subst}
use Rattle.std.specs.Prelude.{bytes_eq}
use Rattle.clru_model.specs.Parts.{firsts, lasts}
use Rattle.clru_text.proofs.Texts.{free_lines}
use Rattle.clru_text.specs.Lines.{lines_of}
use Rattle.clru_text.specs.Texts.{bytes_of}
use Rattle.clru_report.specs.LinePasses.{HasTakenLines}
use Rattle.clru_report.proofs.TakenLines.{distinct_taken, misses_taken}
use Rattle.clru_report.proofs.parts.part_of.Goals as goal

pub read_keys-requires : goal.read_keys-requires
read_keys-requires g c = (
  ([], record { past = []; shown = refl; taken = c.new-pass.ensures }),
  λ before has. subst (λ ls. HasTakenLines ls c.new-pass.result) (sym (append-nil before)) has,
)

pub returns : goal.returns
returns g c =
    let read = c.in_ok-requests.ensures.taken in
    let lines = lines_of read.0 in let pass = c.read_keys.new.taker in
    let taken = read.3.taken.1 [] (record { past = []; shown = refl; taken = c.new-pass.ensures }) in let curve = c.into_curve.result in (
      read.0,
      read.1,
      read.2,
      (
        read.3.in_bytes,
        record {
          known = record {
            free = free_lines read.0;
            missed = record {
              misses = misses_taken lines pass taken curve (λ past is. c.into_curve.ensures.misses past is);
              distinct_lines = distinct_taken lines pass taken curve (λ past is. c.into_curve.ensures.distinct past is);
            };
            latest_lines = c.in-Ok-lasts.ensures taken.past taken.taken ∙ ap (λ ls. bytes_of (lasts bytes_eq ls)) taken.shown;
          };
          counted = read.3.counted;
          first_lines = c.in-Ok.ensures taken.past taken.taken ∙ ap (λ ls. bytes_of (firsts bytes_eq ls)) taken.shown;
        },
      ),
    )
