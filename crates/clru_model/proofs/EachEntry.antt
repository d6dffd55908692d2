-- What holds of each entry holds of each after a touch and a removal, and after a put if it holds of the new pair. So each entry is
-- then an old one or the new one.
use Rattle.std.proofs.Common.{◌≡◌, ℕ, ◌-◌, Bool, true, Option, Some, None, List, [], ◌∷◌, take, refl}
use Rattle.std.proofs.lemmas.List.Elements.{All-from_recursion, recursion_from_All, All-cons, All-head, All-tail}
use Rattle.std.proofs.lemmas.Option.{same_Some}
use Rattle.std.specs.Cmp.{IsEquivalence}
use Rattle.std.specs.List.{All, AllByRecursion}
use Rattle.std.specs.Map.{lookup, lookup_entry}
use Rattle.std.specs.Option.{IfSome, option_map_or}
use Rattle.clru_model.specs.Entries.{without, touch, plain_put, weighted_put}
use Rattle.clru_model.proofs.Cases.{split}
use Rattle.clru_model.proofs.Fitting.{sublist_fit}
use Rattle.clru_model.proofs.Sublists.{IsSublist, All-sublist, sublist_take, sublist_trans, sublist_remove_entry}

module _ {K V : Type 0} (P : K × V → Type 0) where
  -- when some entries go
  pub All-fewer : {es fs : List (K × V)} → IsSublist es fs → All P es → All P fs
  All-fewer {es} {fs} s all = All-from_recursion P fs (All-sublist P s (recursion_from_All P es all))

  found_entry : (test : K → Bool) (es : List (K × V)) (e : K × V) → AllByRecursion P es → lookup_entry test es ≡ Some e
      → (test e.0 ≡ true) × P e
  found_entry test [] e all h = cc
  found_entry test (f ∷ es) e all h = split (test f.0)
      (λ t. let is : f ≡ e = same_Some f e (rw t at h) in rw (← is) (t, all.0))
      (λ t. found_entry test es e all.1 (rw t at h))

  -- of the entry of a key that is found, so that something is true of its value
  pub All-lookup : (Q : V → Type 0) (test : K → Bool) (es : List (K × V)) → All P es → ((k : K) (v : V) → test k ≡ true → P (k, v) → Q v)
      → IfSome (lookup test es) Q
  All-lookup Q test [] all tells = tt
  All-lookup Q test (e ∷ es) all tells = split (test e.0)
      (λ t. rw t (tells e.0 e.1 t (All-head P e es all)))
      (λ t. rw t (All-lookup Q test es (All-tail P e es all) tells))

  module _ {X : Type 0} (eq : X → K → Bool) (x : X) (es : List (K × V)) (all : All P es) where
    -- after a removal
    pub All-without : All P (without eq x es)
    All-without = All-fewer (sublist_remove_entry (eq x) es) all

    touched : (o : Option (K × V)) → lookup_entry (eq x) es ≡ o → All P (option_map_or (λ e. e ∷ without eq x es) o es)
    touched None h = all
    touched (Some e) h = All-cons P e (without eq x es) (found_entry (eq x) es e (recursion_from_All P es all) h).1 All-without

    -- after a touch
    pub All-touch : All P (touch eq x es)
    All-touch = touched (lookup_entry (eq x) es) refl

  module _ (eq : K → K → Bool) (c : ℕ) (x : K) (v : V) (es : List (K × V)) (all : All P es) where
    put_at : (o : Option (K × V)) → lookup_entry (eq x) es ≡ o → P (x, v) → ((k : K) → eq x k ≡ true → P (k, v))
        → All P (option_map_or (λ e. (e.0, v) ∷ without eq x es) o ((x, v) ∷ take (c - 1) es))
    put_at None h new stored = All-cons P (x, v) (take (c - 1) es) new (All-fewer (sublist_take (c - 1) es) all)
    put_at (Some e) h new stored =
        All-cons P (e.0, v) (without eq x es) (stored e.0 (found_entry (eq x) es e (recursion_from_All P es all) h).0) (All-without eq x es all)

    -- after a plain put, which keeps the stored key of the new value
    pub All-plain_put : IsEquivalence eq → ((k : K) → eq x k ≡ true → P (k, v)) → All P (plain_put eq c x v es)
    All-plain_put laws new = put_at (lookup_entry (eq x) es) refl (new x (laws.refl x)) new

    -- after a weighted put
    pub All-weighted_put : (weight : K → V → ℕ) → P (x, v) → All P (weighted_put eq weight c x v es)
    All-weighted_put weight new =
        let others = without eq x es in
        let room : ℕ = c - 1 - weight x v in
        All-cons P (x, v) _ new (All-fewer (sublist_trans (sublist_remove_entry (eq x) es) (sublist_fit weight room others)) all)
