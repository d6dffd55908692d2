-- What a plain put of a new key leaves, and what it drops.
use Rattle.std.proofs.Common.{◌≡◌, ℕ, ◌-◌, ◌<◌, Bool, List, ◌∷◌, length, take, None, slice_get, sym, ap, ◌∙◌, arith, take_all}
use Rattle.std.proofs.lemmas.Option.{slice_get_past}
use Rattle.clru_model.specs.Entries.{plain_put, plain_drop}
use Rattle.clru_model.proofs.Finding.{IsMissed, plain_put-missed}

module _ {K V : Type 0} (eq : K → K → Bool) where
  -- a plain put of a new key where the last entry went, since the list had as many entries as the capacity
  pub put_full : {es : List (K × V)} (c : ℕ) (x : K) (v : V) → IsMissed (eq x) es → length es ≡ c
      → (x, v) ∷ take (length es - 1) es ≡ plain_put eq c x v es
  put_full {es} c x v m full = ap (λ n. (x, v) ∷ take (n - 1) es) full ∙ sym (plain_put-missed eq x m c v)

  -- and where no entry had to go
  pub put_free : {es : List (K × V)} (c : ℕ) (x : K) (v : V) → IsMissed (eq x) es → length es < c → (x, v) ∷ es ≡ plain_put eq c x v es
  put_free {es} c x v m free = ap (λ l. (x, v) ∷ l) (sym (take_all (c - 1) es (omega arith))) ∙ sym (plain_put-missed eq x m c v)

  -- the pair that goes there
  pub drop_full : {es : List (K × V)} (c : ℕ) (x : K) → IsMissed (eq x) es → length es ≡ c → slice_get es (length es - 1) ≡ plain_drop eq c x es
  drop_full {es} c x m full = rw m.value (ap (λ n. slice_get es (n - 1)) full)

  -- and none here
  pub drop_free : {es : List (K × V)} (c : ℕ) (x : K) → IsMissed (eq x) es → length es < c → None ≡ plain_drop eq c x es
  drop_free {es} c x m free = rw m.value (sym (slice_get_past es (c - 1) (omega arith)))
