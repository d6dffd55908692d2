use Rattle.std.proofs.Common.{◌≡◌, ℕ, Some, List, [], map, get_or, sym, ap, ◌∙◌, arith, subst}
use Rattle.std.proofs.lemmas.Option.{slice_get-get_or}
use Rattle.std.specs.Cmp.Lexicographic.{nat_list_eq_equiv}
use Rattle.std.specs.List.{slice_get}
use Rattle.std.specs.Prelude.{bytes_eq}
use Rattle.clru_model.proofs.LatestOrder.{latest_order}
use Rattle.clru_model.proofs.Views.{map-reverse}
use Rattle.clru_model.specs.Parts.{lasts}
use Rattle.clru_text.proofs.ByteLemmas.{same_bytes}
use Rattle.clru_text.specs.Keys.{line_of}
use Rattle.clru_text.specs.Texts.{bytes_of}
use Rattle.clru_report.specs.LinePasses.{IsInOrder}
use Rattle.clru_report.proofs.DistinctLines.{all_written, line_written}
use Rattle.clru_report.proofs.LatestLines.{placed}
use Rattle.clru_report.proofs.line_pass.LinePass.lasts.Goals as goal

pub loop-line-init : goal.loop-line-init
loop-line-init g c order = c.new-text.ensures.items

pub loop-line-preserved : goal.loop-line-preserved
loop-line-preserved g c order =
    let i = c.loop-line.line-index in let none : List ℕ × ℕ = ([], 0) in let e = get_or order.sorted i none in
    let there : slice_get order.sorted i ≡ Some e = slice_get-get_or order.sorted i none (omega (arith, order.long, c.loop-line-test.true)) in
    c.in_ok-push_line.ensures e (order.stands i (placed 0 0) c.loop-line-test.true ∙ there) ∙ line_written order.sorted i e c.loop-line.text.items there (c.loop-line.invariant order)

pub returns : goal.returns
returns g c past is =
    let order = subst (IsInOrder c.args.self.now.latest) (sym c.deref-line-items.ensures.value) c.in_ok-order.ensures in
    let es = order.sorted in
    let keys = latest_order bytes_eq nat_list_eq_equiv same_bytes (map line_of past) c.args.self.now.latest es is.keys
    (λ line. (is.noted line).known) (λ line. (is.noted line).position) order.moved order.rising in
    c.loop-line.invariant order ∙ all_written es c.loop-line.line-index (omega (arith, order.long, c.loop-line-test.false))
    ∙ ap bytes_of (keys ∙ ap (lasts bytes_eq) (sym (map-reverse line_of past)))
