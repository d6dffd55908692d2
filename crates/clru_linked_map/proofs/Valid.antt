-- What keeps a list valid: an item that is written, one that is taken out, and one that comes first.
use Rattle.std.proofs.Common.{◌≡◌, ℕ, ◌==◌, Some, List, [], ◌∷◌, refl, ap, ◌∙◌, arith, inl, inr}
use Rattle.std.proofs.lemmas.Bool.{cases_eq, eq-eqb, ne_eqb}
use Rattle.std.proofs.lemmas.Map.{keys-set_value, length-set_value}
use Rattle.clru_list.specs.Places.{count}
use Rattle.clru_list.specs.PlaceList.{PlaceList, with_entries, item_at, without, with_at, IsApart, IsValid}
use Rattle.clru_list.proofs.EntryLists.{counts_from_apart, apart_from_counts}
use Rattle.clru_linked_map.proofs.Placed.{item_at-with_at, item_at-without, length-without, length-without_held}

module _ {T : Type 0} (l : PlaceList T) (valid : IsValid l) where
  -- a list is valid once an item is written
  pub valid-with_at : (p : ℕ) (w i : T) → item_at p l.entries ≡ Some i → IsValid (with_entries l (with_at p w l.entries))
  valid-with_at p w i held =
      let keys = keys-set_value (λ q. p == q) l.entries w in let len = length-set_value (λ q. p == q) l.entries w in
      record {
        apart = apart_from_counts (with_at p w l.entries) (λ k. omega (arith, ap (count k) keys, counts_from_apart l.entries valid.apart k));
        below = λ q some. valid.below q (elim (cases_eq p q) [
          | inl e ↦ rw (← e, held) refl
          | inr n ↦ let same = item_at-with_at p q w l.entries i held in rw (same, ne_eqb p q n) at some
        ]);
        countable = valid.countable;
        fits = omega (arith, valid.fits, len);
        held = omega (arith, valid.held, len);
      }

  -- what is left is apart
  apart-without : (p : ℕ) (es : List (ℕ × T)) → IsApart es → IsApart (without p es)
  apart-without p [] apart = apart
  apart-without p (e ∷ es) apart = elim (cases_eq p e.0) [
    | inl here ↦ rw (eq-eqb p e.0 here) apart.1
    | inr there ↦ rw (ne_eqb p e.0 there) (item_at-without p e.0 es apart.1 ∙ rw (ne_eqb p e.0 there) apart.0, apart-without p es apart.1)
  ]

  -- and once one is taken out
  pub valid-without : (p : ℕ) → IsValid (with_entries l (without p l.entries))
  valid-without p = record {
    apart = apart-without p l.entries valid.apart;
    below = λ q some. elim (cases_eq p q) [
      | inl e ↦ let no = rw (item_at-without p q l.entries valid.apart, eq-eqb p q e) at some in cc
      | inr n ↦ valid.below q (rw (item_at-without p q l.entries valid.apart, ne_eqb p q n) at some)
    ];
    countable = valid.countable;
    fits = omega (arith, valid.fits, length-without p l.entries);
    held = omega (arith, valid.held, length-without p l.entries);
  }

  -- and where one comes first, with what is written to it
  pub valid-front : (p : ℕ) (w i : T) → item_at p l.entries ≡ Some i → IsValid (with_entries l ((p, w) ∷ without p l.entries))
  valid-front p w i held =
      let gone = item_at-without p p l.entries valid.apart ∙ rw (eq-eqb p p refl) refl in
      record {
        apart = (gone, apart-without p l.entries valid.apart);
        below = λ q some. elim (cases_eq q p) [
          | inl e ↦ valid.below q (rw (e, held) refl)
          | inr n ↦ (valid-without p).below q (rw (ne_eqb q p n) at some)
        ];
        countable = valid.countable;
        fits = omega (arith, valid.fits, length-without_held p l.entries i held);
        held = omega (arith, valid.held, length-without_held p l.entries i held);
      }
