use Rattle.std.proofs.Common.{ℕ, ◌∙◌, ap, drop, length, arith}
use Rattle.std.proofs.lemmas.List.{length-take, length-drop}
use Rattle.clru_log.proofs.WindowLemmas.{consumed}
use Rattle.clru_log.proofs.window.Window.consume.Goals as goal

pub returns : goal.returns
returns g c =
    let w = c.self.inside in
    let len = ap length c.self.view_is in
    consumed w.bytes.items w.start w.end c.args.count (omega (arith, len, length-take {A = ℕ}, length-drop {A = ℕ}))
    ∙ ap (drop c.args.count) c.self.view_is
