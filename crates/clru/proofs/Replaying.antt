-- What a replay keeps from request to request.
use Rattle.std.proofs.Common.{◌≡◌, ℕ, ◌+◌, ◌-◌, ◌≤◌, min, Bool, true, false, cond, List, [], ◌∷◌, ◌++◌, length, take, reverse, Option, Some, None, is_some, sym, ap, ◌∙◌, arith}
use Rattle.std.proofs.lemmas.List.{reverse-append, length_push}
use Rattle.std.specs.Cmp.{IsEquivalence}
use Rattle.std.specs.Borrow.{Bor, MutBor}
use Rattle.std.specs.Fn.{Mut, Called}
use Rattle.std.specs.Map.{keys_of, lookup, lookup_entry, remove_entry}
use Rattle.std.specs.Option.{option_map_or}
use Rattle.std.proofs.lemmas.Map.Made.{is_some-lookup}
use Rattle.clru_model.specs.Entries.{plain_put}
use Rattle.clru_model.specs.Requests.{hit, marks, misses}
use Rattle.clru_model.proofs.Hits.{HoldsHits, HoldsHits_held, HoldsHits_put}
use Rattle.clru_model.proofs.Marks.{marks_push, misses_push}
use Rattle.clru_model.proofs.PutSteps.{IsPut-plain}
use Rattle.clru_model.proofs.Sublists.{length-sublist, sublist_take, sublist_remove_entry}
use Rattle.clru.specs.Cache.{Cache, with_entries}
use Rattle.clru.specs.Closures.{PutsOrModifies}

-- a put-or-modify whose put operation makes `false` and whose modify operation leaves `true` lends whether the entry was there
pub lends_whether_held : {P M K : Type 0} (p : Mut P (Bor K × (Unit {0} × Unit {0})) Bool)
    (m : Mut M (Bor K × (MutBor Bool × (Unit {0} × Unit {0}))) (Unit {0} × (MutBor Bool × Unit {0})))
    (held : Option (K × Bool)) {put : P} {modify : M} (x : K) {v : Bool}
    → ((shown : Bor K) (r : Bool) (put' : P) → Called p put (shown, (tt, tt)) r put' → r ≡ false)
    → ((shown : Bor K) (lent left : MutBor Bool) (modify' : M)
    → Called m modify (shown, (lent, (tt, tt))) (tt, (left, tt)) modify' → left.now ≡ true)
    → PutsOrModifies p m held put modify x tt v → v ≡ is_some held
lends_whether_held p m None x puts modifies c = puts c.1.shown _ c.0 c.1.called
lends_whether_held p m (Some e) x puts modifies c = sym c.1.leaves ∙ modifies c.1.shown c.1.lent c.1.left c.0 c.1.called

-- a plain put adds one entry at most
length-plain_put-le : {K V : Type 0} (eq : K → K → Bool) (c : ℕ) (x : K) (v : V) (es : List (K × V)) → length (plain_put eq c x v es) ≤ 1 + length es
length-plain_put-le eq c x v es =
    let rest = remove_entry (eq x) es in
    elim (lookup_entry (eq x) es) as (λ o. length (option_map_or (λ e. (e.0, v) ∷ rest) o ((x, v) ∷ take (c - 1) es)) ≤ 1 + length es) [
      | None ↦ omega (arith, length-sublist (sublist_take (c - 1) es))
      | Some e ↦ omega (arith, length-sublist (sublist_remove_entry (eq x) es))
    ]

module _ {K W : Type 0} (eq : K → K → Bool) where
  -- after the requests xs, of n in all, to a cache of capacity k: the marks and the misses so far, and the cache as it then is
  pub record Replays (k n : ℕ) (xs : List K) (ms : List Bool) (m : ℕ) (c : Cache K Bool W) : Type 0 where
    pub marks : ms ≡ marks eq k xs
    pub misses : m ≡ misses eq k xs
    pub keeps : HoldsHits eq k (reverse xs) (keys_of c.entries)
    pub capacity : c.capacity ≡ k
    pub places : c.places ≡ min n k
    pub covered : length c.entries ≤ c.places
    pub fewer : length c.entries ≤ length xs

  -- one more request
  pub Replays-push : {k n : ℕ} {xs : List K} {ms ms' : List Bool} {m m' : ℕ} {c new : Cache K Bool W} (x : K) (held : Bool)
      → IsEquivalence eq → Replays k n xs ms m c → held ≡ is_some (lookup (eq x) c.entries)
      → new ≡ with_entries c (plain_put eq c.capacity x held c.entries) → length new.entries ≤ new.places
      → ms' ≡ ms ++ held ∷ [] → m' ≡ m + cond held 0 1 → Replays k n (xs ++ x ∷ []) ms' m' new
  Replays-push {k} {n} {xs} {ms} {ms'} {m} {m'} {c} {new} x held laws r is put covers marked missed =
      let short : length c.entries ≤ k = omega (arith, r.covered, r.places) in
      let entries : new.entries ≡ plain_put eq k x held c.entries =
      ap (λ d. d.entries) put ∙ ap (λ i. plain_put eq i x held c.entries) r.capacity in
      let hits : held ≡ hit eq k x (reverse xs) = is ∙ is_some-lookup (eq x) c.entries ∙ HoldsHits_held eq x c.entries short r.keeps in
      record {
        marks = marked ∙ ap (λ l. l ++ held ∷ []) r.marks ∙ ap (λ b. marks eq k xs ++ b ∷ []) hits ∙ sym (marks_push eq k xs x);
        misses = missed ∙ ap (λ i. i + cond held 0 1) r.misses ∙ ap (λ b. misses eq k xs + cond b 0 1) hits ∙ sym (misses_push eq k xs x);
        keeps = rw (reverse-append xs (x ∷ [])) (HoldsHits_put eq laws x c.entries new.entries r.keeps (IsPut-plain eq laws k x held c.entries new.entries entries));
        capacity = ap (λ d. d.capacity) put ∙ r.capacity;
        places = ap (λ d. d.places) put ∙ r.places;
        covered = covers;
        fewer = omega (arith, length_push xs x, ap length entries, length-plain_put-le eq k x held c.entries, r.fewer);
      }
