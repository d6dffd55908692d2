use Rattle.std.proofs.Common.{◌≡◌, ◌++◌, length, take, drop, drop-drop, take-append-drop, length-take, sym, ap, ◌∙◌, arith}
use Rattle.std.proofs.lemmas.List.{length-drop, take_all, take_at}
use Rattle.clru_log.proofs.output.Output.give.Goals as goal

pub returns-clause-bytes : goal.returns-clause-bytes
returns-clause-bytes g c =
    let o = c.self.inside in let n = c.min-count.result in
    let ready = drop o.given o.bytes.items in let copied = c.copy_from_slice.new.self in
    let same : copied ≡ take n ready = rw (← c.as_slice.ensures.value) (c.copy_from_slice.ensures.after ∙ ap (take n) (take_all _ (drop o.given c.as_slice.result.now) (omega (arith, length-drop o.given c.as_slice.result.now)))) in
    let len : length copied ≡ n = omega (arith, c.copy_from_slice.ensures.len, length-take n c.args.buf.now, c.min-count.ensures) in
    sym c.self.view_is ∙ sym (take-append-drop n ready)
    ∙ ap (λ l. l ++ drop n ready) (sym (take_at copied (drop n c.args.buf.now) n len ∙ same))
    ∙ ap (λ l. take n (copied ++ drop n c.args.buf.now) ++ l) (drop-drop n o.given o.bytes.items)
