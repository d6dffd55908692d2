use Rattle.std.proofs.Common.{◌≡◌, List, length, [], ◌∷◌, refl, ap, arith}
use Rattle.std.proofs.lemmas.Bool.{eqb-true, eq-eqb}
use Rattle.clru_list.proofs.Views.{seen_length, seen_valid}
use Rattle.clru_list.proofs.list.FixedSizeList.is_empty.Goals as goal

nothing : {X : Type 0} (es : List X) → length es ≡ 0 → es ≡ []
nothing [] h = refl
nothing (e ∷ es) h = absurd (omega arith)

pub returns-clause-empty : goal.returns-clause-empty
returns-clause-empty g c =
    let len = seen_length _ _ _ _ _ c.self.invariant.0 _ c.self.view_is in
    (λ h. nothing _ (omega (arith, len, eqb-true _ _ h)), λ h. eq-eqb _ _ (omega (arith, len, ap length h)))

pub returns-clause-valid : goal.returns-clause-valid
returns-clause-valid g c = seen_valid _ _ _ _ _ c.self.invariant.0 _ c.self.view_is
