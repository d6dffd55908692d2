-- Lists that are left when some elements go and the others keep their order.
use Rattle.std.proofs.Common.{◌≡◌, ℕ, zero, suc, ◌≤◌, Bool, true, false, cond, List, [], ◌∷◌, ◌++◌, length, take, None, arith}
use Rattle.std.specs.List.{AllByRecursion, IsDistinct, sum_by, remove}
use Rattle.std.specs.Map.{keys_of, lookup, remove_entry}
use Rattle.std.proofs.lemmas.List.Sums.{sum_by-cons}
use Rattle.std.proofs.lemmas.Map.{lookup-none, none_passes_from_lookup}
use Rattle.std.proofs.lemmas.Map.Keys.{IsDistinct-head, IsDistinct-tail, IsDistinct-cons}

-- the second list is the first less some elements
pub data IsSublist {X : Type 0} : List X → List X → Type 0 where
  nothing : IsSublist [] []
  stays : {x : X} {xs ys : List X} → IsSublist xs ys → IsSublist (x ∷ xs) (x ∷ ys)
  goes : {x : X} {xs ys : List X} → IsSublist xs ys → IsSublist (x ∷ xs) ys

module _ {X : Type 0} where
  pub sublist_itself : (xs : List X) → IsSublist xs xs
  sublist_itself [] = nothing
  sublist_itself (x ∷ xs) = stays (sublist_itself xs)

  pub sublist_none : (xs : List X) → IsSublist xs []
  sublist_none [] = nothing
  sublist_none (x ∷ xs) = goes (sublist_none xs)

  pub sublist_take : (n : ℕ) (xs : List X) → IsSublist xs (take n xs)
  sublist_take zero xs = sublist_none xs
  sublist_take (suc n) [] = nothing
  sublist_take (suc n) (x ∷ xs) = stays (sublist_take n xs)

  pub sublist_remove : (xs : List X) (i : ℕ) → IsSublist xs (remove xs i)
  sublist_remove [] zero = nothing
  sublist_remove [] (suc i) = nothing
  sublist_remove (x ∷ xs) zero = goes (sublist_itself xs)
  sublist_remove (x ∷ xs) (suc i) = stays (sublist_remove xs i)

  pub sublist_front : (xs ys : List X) → IsSublist (xs ++ ys) xs
  sublist_front [] ys = sublist_none ys
  sublist_front (x ∷ xs) ys = stays (sublist_front xs ys)

  pub sublist_trans : {xs ys zs : List X} → IsSublist xs ys → IsSublist ys zs → IsSublist xs zs
  sublist_trans nothing t = t
  sublist_trans (stays s) (stays t) = stays (sublist_trans s t)
  sublist_trans (stays s) (goes t) = goes (sublist_trans s t)
  sublist_trans (goes s) t = goes (sublist_trans s t)

  -- what holds of each element still does
  pub All-sublist : (P : X → Type 0) {xs ys : List X} → IsSublist xs ys → AllByRecursion P xs → AllByRecursion P ys
  All-sublist P nothing all = all
  All-sublist P (stays s) all = (all.0, All-sublist P s all.1)
  All-sublist P (goes s) all = All-sublist P s all.1

  pub length-sublist : {xs ys : List X} → IsSublist xs ys → length ys ≤ length xs
  length-sublist nothing = omega arith
  length-sublist (stays s) = omega (arith, length-sublist s)
  length-sublist (goes s) = omega (arith, length-sublist s)

  pub sum_by-sublist : (f : X → ℕ) {xs ys : List X} → IsSublist xs ys → sum_by f ys ≤ sum_by f xs
  sum_by-sublist f nothing = omega arith
  sum_by-sublist f (stays {x} {xs} {ys} s) = rw (sum_by-cons f x xs, sum_by-cons f x ys) (omega (arith, sum_by-sublist f s))
  sum_by-sublist f (goes {x} {xs} {ys} s) = rw (sum_by-cons f x xs) (omega (arith, sum_by-sublist f s))

module _ {K V : Type 0} where
  pub sublist_keys : {es fs : List (K × V)} → IsSublist es fs → IsSublist (keys_of es) (keys_of fs)
  sublist_keys nothing = nothing
  sublist_keys (stays s) = stays (sublist_keys s)
  sublist_keys (goes s) = goes (sublist_keys s)

  pub sublist_remove_entry : (test : K → Bool) (es : List (K × V)) → IsSublist es (remove_entry test es)
  sublist_remove_entry test [] = nothing
  sublist_remove_entry test (e ∷ es) = elim (test e.0) as (λ b. IsSublist (e ∷ es) (cond b es (e ∷ remove_entry test es))) [
    | true ↦ goes (sublist_itself es)
    | false ↦ stays (sublist_remove_entry test es)
  ]

-- keys that are apart stay so
pub IsDistinct-sublist : {K : Type 0} (eq : K → K → Bool) {ks js : List K} → IsSublist ks js → IsDistinct eq ks → IsDistinct eq js
IsDistinct-sublist eq nothing d = d
IsDistinct-sublist eq (stays {x} {xs} {ys} s) d =
    IsDistinct-cons eq x ys (All-sublist (λ y. eq x y ≡ false) s (IsDistinct-head eq x xs d)) (IsDistinct-sublist eq s (IsDistinct-tail eq x xs d))
IsDistinct-sublist eq (goes {x} {xs} {ys} s) d = IsDistinct-sublist eq s (IsDistinct-tail eq x xs d)

-- a key that is not held is not held once some entries went
pub lookup-sublist : {K V : Type 0} (test : K → Bool) {es fs : List (K × V)} → IsSublist es fs → lookup test es ≡ None → lookup test fs ≡ None
lookup-sublist test {es} {fs} s absent = lookup-none test fs (All-sublist (λ e. test e.0 ≡ false) s (none_passes_from_lookup test es absent))
