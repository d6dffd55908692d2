use Rattle.std.proofs.Common.{◌≡◌, ℕ, ◌+◌, ◌-◌, ◌%◌, ◌<◌, true, eqb, List, [], ◌∷◌, slice_index_or, bit_and, mod-eq_of_lt, refl, ap, ◌∙◌, arith}
use Rattle.std.proofs.lemmas.Bool.{agree_below_at, eqb-true}
use Rattle.std.proofs.lemmas.Nat.{and_mask, mod_below, div-add-mod'}
use Rattle.std.specs.Int.Bits.{and_zero_r}
use Rattle.clru_curve.proofs.SizeLists.{value_seen}
use Rattle.clru_curve.proofs.sized.size_list.size_behind.Goals as goal

-- the masks from the ninth on
abbrev all : ℕ
all = 18446744073709551615

abbrev masks : List ℕ
masks = 0 ∷ 0 ∷ 0 ∷ 0 ∷ 0 ∷ 0 ∷ 0 ∷ 0 ∷ all ∷ all ∷ all ∷ all ∷ all ∷ all ∷ all ∷ all ∷ []

pub returns-clause-before : goal.returns-clause-before
returns-clause-before g c lt =
    let at = c.args.at in let place = c.args.place in let size = c.value.result in
    let mask = 8 + place % 8 - at % 8 in
    let short : mask < 8 = omega (arith, lt, c.requires.block, div-add-mod' at 8, div-add-mod' place 8, mod_below at 8 (omega arith)) in
    let none = eqb-true _ _ (agree_below_at (λ i. eqb (slice_index_or masks i 0) 0) (λ _. true) 8 mask refl short) in
    ap (λ m. bit_and size m) none ∙ and_zero_r size

pub returns-clause-behind : goal.returns-clause-behind
returns-clause-behind g c le =
    let at = c.args.at in let place = c.args.place in let size = c.value.result in
    let rest = mod_below at 8 (omega arith) in let rest' = mod_below place 8 (omega arith) in
    let behind = place - at in
    let same : 8 + place % 8 - at % 8 ≡ 8 + behind = omega (arith, le, c.requires.block, div-add-mod' at 8, div-add-mod' place 8, rest) in
    let near : behind < 8 = omega (arith, le, c.requires.block, div-add-mod' at 8, div-add-mod' place 8, rest') in
    let mask = eqb-true _ _ (agree_below_at (λ i. eqb (slice_index_or masks (8 + i) 0) all) (λ _. true) 8 behind refl near) in
    ap (λ m. bit_and size m) (ap (λ i. slice_index_or masks i 0) same ∙ mask) ∙ and_mask size 64 ∙ mod-eq_of_lt c.value.type_inv
    ∙ c.value.ensures ∙ value_seen g.T.NumberedValue.seen c.args.sizes.now place _ c.requires.inside c.index-sizes-place.is
