-- What a walk comes to after so many steps, from the front and from the back.
use Rattle.std.proofs.Common.{◌≡◌, ℕ, List, [], ◌∷◌, length, Option, reverse, slice_get, refl, ap, ◌∙◌}
use Rattle.std.specs.Iterator.{SkipsThenYields, YieldsFirstBy, YieldsLastBy}
use Rattle.std.specs.Option.{option_map}
use Rattle.std.proofs.lemmas.Iterator.Consumers.{nth_from_yields_List, YieldsList-from_first, YieldsList-from_shown}
use Rattle.std.proofs.lemmas.List.{reverse-append}

module _ {A B : Type 0} (view : A → B) (es : List B) (n : ℕ) (r : Option A) (left : List B) where
  pub nth-first : SkipsThenYields (YieldsFirstBy view (λ l. l)) es n r left → option_map view r ≡ slice_get es n
  nth-first ran = nth_from_yields_List r left n ran (YieldsList-from_first view (λ l. l) es refl)

  pub nth-last : SkipsThenYields (YieldsLastBy view (λ l. l)) es n r left → option_map view r ≡ slice_get (reverse es) n
  nth-last ran = nth_from_yields_List r left n ran (YieldsList-from_shown (YieldsLastBy view (λ l. l)) view reverse
      (λ s t given. ap (λ l. length (reverse l)) given.0)
      (λ s x t given. ap reverse given ∙ reverse-append t (view x ∷ [])) es)
