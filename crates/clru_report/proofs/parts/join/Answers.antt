use Rattle.std.proofs.Common.{◌≡◌, [], ◌++◌, refl, sym, ap, ◌∙◌, subst}
use Rattle.std.specs.Cmp.Lexicographic.{nat_list_eq_equiv}
use Rattle.std.specs.Prelude.{bytes_eq}
use Rattle.clru_model.proofs.Parts.{all-append, all_firsts, all_lasts, lasts_joined}
use Rattle.clru_model.specs.Parts.{firsts, lasts}
use Rattle.clru_text.proofs.Texts.{lines_of-bytes_of}
use Rattle.clru_text.specs.Lines.{lines_of}
use Rattle.clru_text.specs.LinesRead.{IsFree}
use Rattle.clru_text.specs.Texts.{bytes_of}
use Rattle.clru_report.specs.Parts.{HasCurve}
use Rattle.clru_report.proofs.TakenLines.{distinct_taken, misses_taken}
use Rattle.clru_report.proofs.parts.join.Goals as goal

pub take_text-requires : goal.take_text-requires
take_text-requires g c = ([], record { past = []; shown = refl; taken = c.new-pass.ensures })

pub take_text-requires-2 : goal.take_text-requires-2
take_text-requires-2 g c =
    (lines_of c.args.one.lasts.now, c.in_ok-take_text.ensures [] (record { past = []; shown = refl; taken = c.new-pass.ensures }))

pub take_text-requires-3 : goal.take_text-requires-3
take_text-requires-3 g c =
    let first = lines_of c.args.one.lasts.now in
    let begun = c.in_ok-take_text.ensures [] (record { past = []; shown = refl; taken = c.new-pass.ensures }) in
    (first ++ lines_of c.args.firsts.now, c.in_ok-take_text-2.ensures first begun)

pub returns : goal.returns
returns g c lines more requests one two few =
    let latest = lines_of c.args.one.lasts.now in let first = lines_of c.args.firsts.now in
    let one_taken = c.in_ok-take_text.ensures [] (record { past = []; shown = refl; taken = c.new-pass.ensures }) in
    let two_taken = c.in_ok-take_text-2.ensures latest one_taken in
    let all_taken = c.in_ok-take_text-3.ensures (latest ++ first) two_taken in
    let latest_is : latest ≡ lasts bytes_eq lines =
    ap lines_of one.latest_lines ∙ lines_of-bytes_of (lasts bytes_eq lines) (all_lasts IsFree bytes_eq lines one.free) in
    let first_is : first ≡ firsts bytes_eq more =
    ap lines_of two.first_lines ∙ lines_of-bytes_of (firsts bytes_eq more) (all_firsts IsFree bytes_eq more two.known.free) in
    let later_is : lines_of c.args.two.lasts.now ≡ lasts bytes_eq more =
    ap lines_of two.known.latest_lines ∙ lines_of-bytes_of (lasts bytes_eq more) (all_lasts IsFree bytes_eq more two.known.free) in
    let between_is : latest ++ first ≡ lasts bytes_eq lines ++ firsts bytes_eq more = ap (λ ls. ls ++ first) latest_is ∙ ap (λ ls. lasts bytes_eq lines ++ ls) first_is in
    let all_is : (latest ++ first) ++ lines_of c.args.two.lasts.now ≡ (lasts bytes_eq lines ++ firsts bytes_eq more) ++ lasts bytes_eq more =
    ap (λ ls. ls ++ lines_of c.args.two.lasts.now) between_is ∙ ap (λ ls. (lasts bytes_eq lines ++ firsts bytes_eq more) ++ ls) later_is in
    let between = c.in_ok-between.between in
    let middle : HasCurve (latest ++ first) between = record {
      misses = misses_taken (latest ++ first) c.take_text-2.new.pass two_taken between (λ past is. c.in_ok-between.ensures.misses past is);
      distinct_lines = distinct_taken (latest ++ first) c.take_text-2.new.pass two_taken between (λ past is. c.in_ok-between.ensures.distinct past is);
    } in
    record {
      free = all-append IsFree lines more one.free two.known.free;
      missed = c.in_ok-curve.ensures lines more one.missed (subst (HasCurve (lasts bytes_eq lines ++ firsts bytes_eq more)) (sym c.as_slice.ensures) (subst (λ ls. HasCurve ls between) between_is middle))
          two.known.missed few;
      latest_lines = c.in_ok-lasts.ensures all_taken.past all_taken.taken ∙ ap (λ ls. bytes_of (lasts bytes_eq ls)) (all_taken.shown ∙ all_is)
          ∙ ap bytes_of (lasts_joined bytes_eq nat_list_eq_equiv lines more);
    }
