use Rattle.std.proofs.Common.{◌≡◌, ℕ, ◌+◌, ◌∙◌, ap, drop, length, slice_range, arith}
use Rattle.std.proofs.lemmas.List.{length-take, length-drop}
use Rattle.clru_log.proofs.WindowLemmas.{consumed}
use Rattle.clru_log.proofs.window.Window.consume_line.Goals as goal

pub returns : goal.returns
returns g c =
    let w = c.self.inside in let n = c.args.len in
    let len = ap length c.self.view_is in
    let place : w.start + n + 1 ≡ w.start + (n + 1) = omega arith in
    ap (λ at. slice_range w.bytes.items at w.end) place
    ∙ consumed w.bytes.items w.start w.end (n + 1) (omega (arith, len, c.requires, length-take {A = ℕ}, length-drop {A = ℕ}))
    ∙ ap (drop (n + 1)) c.self.view_is
