-- Bytes are compared as they are.
use Rattle.std.proofs.Common.{◌≡◌, ℕ, true, List, refl, sym, ap, ◌∙◌}
use Rattle.std.specs.Cmp.{IsEquivalence}
use Rattle.std.specs.Prelude.{bytes_eq}
use Rattle.std.proofs.lemmas.Slice.Eq.{bytes_eq-Decides}
use Rattle.clru_model.proofs.Cases.{split}

-- bytes are compared as they are
pub same_bytes : (xs ys : List ℕ) → bytes_eq xs ys ≡ true → xs ≡ ys
same_bytes xs ys = (bytes_eq-Decides xs ys).0

alike : (xs : List ℕ) → bytes_eq xs xs ≡ true
alike xs = (bytes_eq-Decides xs xs).1 refl

either_way : (xs ys : List ℕ) → bytes_eq xs ys ≡ bytes_eq ys xs
either_way xs ys =
    split (bytes_eq xs ys)
    (λ t. t ∙ sym (ap (λ l. bytes_eq l xs) (sym (same_bytes xs ys t)) ∙ alike xs))
    (λ f. split (bytes_eq ys xs)
    (λ t. ap (λ l. bytes_eq l ys) (sym (same_bytes ys xs t)) ∙ alike ys ∙ sym t)
    (λ g. f ∙ sym g))

pub bytes_laws : IsEquivalence bytes_eq
bytes_laws = record {
  refl = alike;
  symm = either_way;
  congr = λ x y z t. ap (λ l. bytes_eq l z) (same_bytes x y t);
}
