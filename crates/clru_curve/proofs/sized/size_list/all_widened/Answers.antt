use Rattle.std.proofs.Common.{◌≡◌, ◌+◌, ◌<◌, ◌∷◌, [], ◌++◌, length, map, take, sym, ap, ◌∙◌, arith}
use Rattle.std.proofs.lemmas.List.{map-append, take_more}
use Rattle.clru_curve.specs.SizeLists.{widened}
use Rattle.clru_curve.proofs.sized.size_list.all_widened.Goals as goal

pub loop-at-preserved : goal.loop-at-preserved
loop-at-preserved g c =
    let ss = c.args.sizes.now.items in let at = c.loop-at.at in let s = c.index-size.result.now in
    let inside : at < length ss = omega (arith, c.loop-at-test.true, c.len-at-end.ensures, c.args.sizes.now.ok.0) in
    let more : take (at + 1) ss ≡ take at ss ++ s ∷ [] = take_more ss at s inside ∙ ap (λ x. take at ss ++ x ∷ []) (sym c.index-size.ensures) in
    c.in-Ok.ensures.items ∙ ap (λ l. l ++ widened s ∷ []) c.loop-at.invariant
    ∙ sym (ap (map widened) more ∙ map-append widened (take at ss) (s ∷ []))
