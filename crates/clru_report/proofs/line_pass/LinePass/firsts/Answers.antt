use Rattle.std.proofs.Common.{ℕ, List, [], map, reverse, get_or, sym, ap, ◌∙◌, arith}
use Rattle.std.proofs.lemmas.List.{length-reverse}
use Rattle.std.proofs.lemmas.Option.{slice_get-get_or}
use Rattle.std.specs.Prelude.{bytes_eq}
use Rattle.clru_model.proofs.Views.{map-reverse}
use Rattle.clru_model.specs.Parts.{firsts}
use Rattle.clru_text.specs.Keys.{line_of}
use Rattle.clru_text.specs.Texts.{bytes_of}
use Rattle.clru_report.proofs.DistinctLines.{all_written, first_lines, line_written}
use Rattle.clru_report.proofs.line_pass.LinePass.firsts.Goals as goal

pub loop-index-preserved : goal.loop-index-preserved
loop-index-preserved g c =
    let latest = c.args.self.now.latest in let es = reverse latest in let i = c.loop-index.index in
    let none : List ℕ × ℕ = ([], 0) in
    let there = slice_get-get_or es i none (omega (arith, c.len-index-end.ensures, length-reverse latest, c.loop-index-test.true)) in
    c.in_ok-push_line.ensures (get_or es i none) there ∙ line_written es i (get_or es i none) c.loop-index.text.items there c.loop-index.invariant

pub returns : goal.returns
returns g c past is =
    let latest = c.args.self.now.latest in
    c.loop-index.invariant
    ∙ all_written (reverse latest) c.loop-index.index (omega (arith, c.len-index-end.ensures, length-reverse latest, c.loop-index-test.false))
    ∙ ap bytes_of (first_lines (map line_of past) latest is.keys ∙ ap (firsts bytes_eq) (sym (map-reverse line_of past)))
