-- What a caller's proof cites of a walk: a step from either end of an iterator, and a loop that writes each value through a cursor.
use Rattle.std.proofs.Common.{◌≡◌, List, [], ◌∷◌, ◌++◌, length, map, take, drop, Option, Some, None, slice_get, refl, sym, ap, ◌∙◌, append_assoc, ◌-◌}
use Rattle.std.proofs.lemmas.List.{take-append-drop, map-append, append-nil}
use Rattle.std.specs.Iterator.{YieldsFirst, YieldsLast}
use Rattle.std.specs.Option.{option_map}
use Rattle.clru_model.specs.declared.weight.ZeroWeightScale.{ZeroWeightScale}
use Rattle.clru.specs.Cache.{Cache, with_entries}
use Rattle.clru.specs.Walks.{IsAtStart, Passes, PassesBack, cursor_cache, cursor_rest, cursor_before, cursor_after}
use Rattle.clru.specs.declared.cursor.CLruCacheIterMut.{CLruCacheIterMut}
use Rattle.clru.proofs.CallerLemmas.{last_of-push}

-- the entries with f of each value
abbrev pub with_values : {K V : Type 0} → (V → V) → List (K × V) → List (K × V)
with_values {K} {V} f es = map {B = K × V} (λ (e : K × V). (e.0, f e.1)) es

module _ {K V S A H : Type 0} where
  -- the cache's entries are those that the cursor passed from the front, those that it has left, and those that it passed from the back
  pub cursor-parts : (c : CLruCacheIterMut K V S A H) → (cursor_cache c).entries ≡ cursor_before c ++ (cursor_rest c ++ cursor_after c)
  cursor-parts c =
      let es = c.cache.now.entries in let stretch = take c.end es in
      sym (sym (append_assoc (take c.done stretch) (drop c.done stretch) (drop c.end es))
      ∙ ap (λ l. l ++ drop c.end es) (take-append-drop c.done stretch) ∙ take-append-drop c.end es)

  module _ (f : V → V) (start : Cache K V ZeroWeightScale) where
    -- each value that the cursor passed has become f of it, and the others are as they were at the start
    pub record Writes (c : CLruCacheIterMut K V S A H) : Type 0 where
      pub ahead : List (K × V)
      pub behind : List (K × V)
      pub before : cursor_before c ≡ with_values f ahead
      pub after : cursor_after c ≡ with_values f behind
      pub all : start.entries ≡ ahead ++ (cursor_rest c ++ behind)
      pub cache : cursor_cache c ≡ with_entries start (cursor_cache c).entries

    pub writes-start : (c : CLruCacheIterMut K V S A H) → IsAtStart c start → Writes c
    writes-start c s = record {
      ahead = [];
      behind = [];
      before = s.before;
      after = s.after;
      all = sym (append-nil (cursor_rest c) ∙ s.rest);
      cache = s.cache ∙ ap (λ m. with_entries start m.entries) (sym s.cache);
    }

    pub writes-next : (c d : CLruCacheIterMut K V S A H) (x : V) → Writes c → Passes c x (f x) d → Writes d
    writes-next c d x w p = record {
      ahead = w.ahead ++ (p.key, x) ∷ [];
      behind = w.behind;
      before = p.before ∙ ap (λ es. es ++ (p.key, f x) ∷ []) w.before ∙ sym (map-append {B = K × V} (λ (e : K × V). (e.0, f e.1)) w.ahead ((p.key, x) ∷ []));
      after = p.after ∙ w.after;
      all = w.all ∙ ap (λ es. w.ahead ++ (es ++ w.behind)) p.rest ∙ sym (append_assoc w.ahead ((p.key, x) ∷ []) (cursor_rest d ++ w.behind));
      cache = p.cache ∙ ap (λ m. with_entries m (cursor_cache d).entries) w.cache;
    }

    pub writes-next_back : (c d : CLruCacheIterMut K V S A H) (x : V) → Writes c → PassesBack c x (f x) d → Writes d
    writes-next_back c d x w p = record {
      ahead = w.ahead;
      behind = (p.key, x) ∷ w.behind;
      before = p.before ∙ w.before;
      after = p.after ∙ ap (λ es. (p.key, f x) ∷ es) w.after;
      all = w.all ∙ ap (λ es. w.ahead ++ (es ++ w.behind)) p.rest ∙ ap (λ es. w.ahead ++ es) (append_assoc (cursor_rest d) ((p.key, x) ∷ []) w.behind);
      cache = p.cache ∙ ap (λ m. with_entries m (cursor_cache d).entries) w.cache;
    }

    -- a cursor that has none left has written each value
    pub writes-end : (c : CLruCacheIterMut K V S A H) → Writes c → cursor_rest c ≡ [] → cursor_cache c ≡ with_entries start (with_values f start.entries)
    writes-end c w none =
        w.cache ∙ ap (with_entries start) (
        cursor-parts c ∙ (λ i. w.before i ++ (none i ++ w.after i))
        ∙ sym (ap (with_values f) (w.all ∙ ap (λ es. w.ahead ++ (es ++ w.behind)) none) ∙ map-append {B = K × V} (λ (e : K × V). (e.0, f e.1)) w.ahead w.behind)
        )

-- where there is no first value there is none
pub first-none : {K V : Type 0} (es : List (K × V)) → None ≡ option_map {T = K × V} (λ e. e.1) (slice_get es 0) → es ≡ []
first-none [] none = refl
first-none (e ∷ es) none = cc

module _ {X : Type 0} where
  -- what a step gave is the first of what was left, or the last
  pub first-given : (es fs : List X) (r : Option X) → YieldsFirst (λ (l : List X). l) es r fs → r ≡ slice_get es 0
  first-given es fs None given = sym (ap (λ l. slice_get l 0) given.0)
  first-given es fs (Some x) given = sym (ap (λ l. slice_get l 0) given)

  pub last-given : (es fs : List X) (r : Option X) → YieldsLast (λ (l : List X). l) es r fs → r ≡ slice_get es (length es - 1)
  last-given es fs None given = sym (ap (λ l. slice_get l (length l - 1)) given.0)
  last-given es fs (Some x) given = sym (ap (λ l. slice_get l (length l - 1)) given ∙ last_of-push fs x)
