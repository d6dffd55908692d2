use Rattle.std.proofs.Common.{◌≡◌, ◌+◌, ◌-◌, ◌++◌, ◌∷◌, [], length, min, take, ap, ◌∙◌, arith}
use Rattle.std.specs.Prelude.{codes}
use Rattle.clru_web.proofs.Lines.{said}
use Rattle.clru_web.proofs.text.say.Goals as goal

pub returns-clause-said : goal.returns-clause-said
returns-clause-said c =
    let room = length c.args.text.now in let line = c.args.line.now in let name = codes "clru_mrc: " in
    let one = c.put-named in let two = c.put-told in
    let long : length one.new.text ≡ room = one.ensures.length in
    let longer : length two.new.text ≡ room = two.ensures.length ∙ long in
    let whole : room - 0 ≡ room = omega arith in
    said room name line (10 ∷ []) one.result two.result (take one.result one.new.text) (take two.result two.new.text)
    (take c.put.result c.put.new.text) one.ensures.end (two.ensures.end ∙ ap (λ n. min n (one.result + length line)) long)
    (one.ensures.put ∙ ap (λ n. take n name) whole)
    (two.ensures.put ∙ ap (λ n. take one.result one.new.text ++ take (n - one.result) line) long)
    (c.put.ensures.put ∙ ap (λ n. take two.result two.new.text ++ take (n - two.result) (10 ∷ [])) longer)
