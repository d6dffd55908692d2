-- Runs of a cache whose values tell when they were fetched, that get longer by one step at their end, with how many requests found
-- no fresh value.
use Rattle.std.proofs.Common.{◌≡◌, ℕ, ◌+◌, Bool, true, false, cond, not, Option, List, [], ◌∷◌, ◌++◌, is_some, slice_get, refl, sym, ap, ◌∙◌}
use Rattle.std.proofs.lemmas.Map.Made.{is_some-lookup}
use Rattle.std.proofs.lemmas.Option.{same_Some}
use Rattle.std.specs.Cmp.{IsEquivalence}
use Rattle.std.specs.List.{count_by}
use Rattle.std.specs.Map.{keys_of}
use Rattle.clru_model.specs.AgedRuns.{is_fresh, IsAgedStep, fresh_before}
use Rattle.clru_model.specs.Entries.{touch, plain_put}
use Rattle.clru_model.specs.Requests.{holds}
use Rattle.clru_model.specs.Runs.{IsRunOf, IsPut}
use Rattle.clru_model.proofs.Finding.{touch-held, touch-missed, plain_put-held, plain_put-missed}
use Rattle.clru_model.proofs.GrowingRuns.{last_of, last_of-push, run_push}
use Rattle.clru_model.proofs.Lookups.{by_entry}
use Rattle.clru_model.proofs.Marks.{count_by-not-push}
use Rattle.clru_model.proofs.PutSteps.{IsPut-plain}

module _ {K V : Type 0} (eq : K → K → Bool) (fetched_at : V → ℕ) (age : Option ℕ) (put : K → List (K × V) → List (K × V) → Type 0) where
  fresh_push : (first : List (K × V)) (later : List (List (K × V))) (rs : List (K × ℕ)) (r : K × ℕ) (next : List (K × V))
      → IsRunOf (IsAgedStep eq fetched_at age put) (first ∷ later) rs
      → fresh_before eq fetched_at age (first ∷ (later ++ next ∷ [])) (rs ++ r ∷ [])
      ≡ fresh_before eq fetched_at age (first ∷ later) rs ++ is_fresh eq fetched_at age r (last_of first later) ∷ []
  fresh_push first [] [] r next run = refl
  fresh_push first (l ∷ later) [] r next run = cc
  fresh_push first [] (q ∷ rs) r next run = absurd run.0
  fresh_push first (l ∷ later) (q ∷ rs) r next run = ap (λ bs. is_fresh eq fetched_at age q first ∷ bs) (fresh_push l later rs r next run.1)

  -- a run of steps for the requests from the empty list, with the entries at its end and how many found no fresh value
  pub record CountedAgedRuns (rs : List (K × ℕ)) (es : List (K × V)) (misses : ℕ) : Type 0 where
    pub later : List (List (K × V))
    pub run : IsRunOf (IsAgedStep eq fetched_at age put) ([] ∷ later) rs
    pub ends : last_of [] later ≡ es
    pub missed : misses ≡ count_by not (fresh_before eq fetched_at age ([] ∷ later) rs)

  -- one more step
  pub CountedAgedRuns-push : {rs : List (K × ℕ)} {es next : List (K × V)} {misses misses' : ℕ} (r : K × ℕ) (fresh : Bool)
      → CountedAgedRuns rs es misses → fresh ≡ is_fresh eq fetched_at age r es → IsAgedStep eq fetched_at age put r es next
      → misses' ≡ misses + cond fresh 0 1 → CountedAgedRuns (rs ++ r ∷ []) next misses'
  CountedAgedRuns-push {rs} {es} {next} r fresh s is made counted =
      let marks = fresh_before eq fetched_at age ([] ∷ s.later) rs in
      let last : fresh ≡ is_fresh eq fetched_at age r (last_of [] s.later) = is ∙ ap (is_fresh eq fetched_at age r) (sym s.ends) in
      record {
        later = s.later ++ next ∷ [];
        run = run_push (IsAgedStep eq fetched_at age put) [] s.later rs r next s.run (rw s.ends made);
        ends = last_of-push [] s.later next;
        missed = counted ∙ ap (λ n. n + cond fresh 0 1) s.missed ∙ sym (count_by-not-push marks fresh)
            ∙ ap (λ b. count_by not (marks ++ b ∷ [])) last ∙ ap (count_by not) (sym (fresh_push [] s.later rs r next s.run));
      }

  -- a look-up of a fresh value
  pub IsAgedStep-fresh : (r : K × ℕ) (es next : List (K × V)) → is_fresh eq fetched_at age r es ≡ true → next ≡ touch eq r.0 es
      → IsAgedStep eq fetched_at age put r es next
  IsAgedStep-fresh r es next fresh touched = record { fresh = λ t. touched; stale = λ f. cc; fetched = λ f. cc }

module _ {K V : Type 0} (eq : K → K → Bool) (k : ℕ) (x : K) (es next : List (K × V)) where
  -- a put after a look-up of its key is a put
  pub IsPut-touched : IsPut eq k x (touch eq x es) next → IsPut eq k x es next
  IsPut-touched put = by_entry eq x es
      (λ h. let there = rw (touch-held eq x h) at put.entries in
      let held : holds eq x (keys_of es) ≡ true = sym (is_some-lookup (eq x) es) ∙ ap is_some h.value in record {
        key = put.key;
        value = put.value;
        same = put.same;
        entries = rw held (rw h.passes at there);
      })
      (λ m. rw (touch-missed eq x m) at put)

module _ {K V : Type 0} (eq : K → K → Bool) (laws : IsEquivalence eq) (k : ℕ) where
  -- the first value after a plain put is the one that was put
  plain_put-first : (x : K) (v : V) (es : List (K × V)) (e : K × V) (rest : List (K × V)) → plain_put eq k x v es ≡ e ∷ rest → e.1 ≡ v
  plain_put-first x v es e rest is = by_entry eq x es
      (λ h. sym (ap (λ (p : K × V). p.1) (same_Some (h.entry.0, v) e (ap (λ l. slice_get l 0) (sym (plain_put-held eq x h k v) ∙ is)))))
      (λ m. sym (ap (λ (p : K × V). p.1) (same_Some (x, v) e (ap (λ l. slice_get l 0) (sym (plain_put-missed eq x m k v) ∙ is)))))

  -- a look-up that finds no fresh value, and a plain put of one that was fetched at that time
  pub IsAgedStep-stale : (fetched_at : V → ℕ) (age : Option ℕ) (r : K × ℕ) (v : V) (es next : List (K × V))
      → is_fresh eq fetched_at age r es ≡ false → fetched_at v ≡ r.1 → next ≡ plain_put eq k r.0 v (touch eq r.0 es)
      → IsAgedStep eq fetched_at age (IsPut eq k) r es next
  IsAgedStep-stale fetched_at age r v es next stale now made = record {
    fresh = λ t. cc;
    stale = λ f. IsPut-touched eq k r.0 es next (IsPut-plain eq laws k r.0 v (touch eq r.0 es) next made);
    fetched = λ f e rest is. ap fetched_at (plain_put-first r.0 v (touch eq r.0 es) e rest (sym made ∙ is)) ∙ now;
  }
