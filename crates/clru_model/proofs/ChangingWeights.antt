-- Runs of puts by weight where the weight of a key changes between its puts: what is held is between what would be held by the low weights
-- and by the high ones.
use Rattle.std.proofs.Common.{◌≡◌, ℕ, zero, suc, ◌+◌, ◌-◌, ◌≤◌, leb, Bool, true, Some, List, [], ◌∷◌, ◌++◌, length, refl, sym, ap, ◌∙◌, subst, arith}
use Rattle.std.proofs.Common.{append_assoc}
use Rattle.std.proofs.lemmas.Bool.{or_left, leb-true}
use Rattle.std.proofs.lemmas.Option.{same_Some}
use Rattle.std.specs.Cmp.{IsEquivalence}
use Rattle.std.specs.List.{AllByRecursion, slice_get}
use Rattle.std.specs.Map.{keys_of}
use Rattle.clru_model.specs.Entries.{without, size_of, fit}
use Rattle.clru_model.specs.Requests.{holds}
use Rattle.clru_model.specs.Runs.{held_before}
use Rattle.clru_model.specs.Sizes.{SameWeights, hit_by_size, marks_by_size_after}
use Rattle.clru_model.specs.SizedRuns.{IsSizedPut, IsSizedPutRun, PutsWeighBetween, HighHitsAreHeld, HeldHitsByLow}
use Rattle.clru_model.proofs.Cases.{split}
use Rattle.clru_model.proofs.Distinct.{holds-append}
use Rattle.clru_model.proofs.Fitting.{size_of-cons, fit_is_longest, size_of-fit, sublist_fit}
use Rattle.clru_model.proofs.SizedRuns.{IsOrder, order_none, order_cons, held_hits, fit-without-fit}
use Rattle.clru_model.proofs.Sublists.{IsSublist, sublist_front, All-sublist, sublist_trans, sublist_remove_entry}

-- one list begins another
abbrev Begins : {X : Type 0} → List X → List X → Type 0
Begins {X} front xs = (back : List X) × (xs ≡ front ++ back)

-- of two lists that begin one, the shorter begins the longer
shorter_begins : {X : Type 0} (xs fs gs : List X) → Begins fs xs → Begins gs xs → length fs ≤ length gs → Begins fs gs
shorter_begins xs [] gs f g short = (gs, refl)
shorter_begins xs (a ∷ fs) [] f g short = absurd (omega (arith, short))
shorter_begins [] (a ∷ fs) (b ∷ gs) f g short = cc (f.1)
shorter_begins (x ∷ xs) (a ∷ fs) (b ∷ gs) f g short =
    let ea : x ≡ a = let h = f.1 in cc in
    let eb : x ≡ b = let h = g.1 in cc in
    let ta : xs ≡ fs ++ f.0 = let h = f.1 in cc in
    let tb : xs ≡ gs ++ g.0 = let h = g.1 in cc in
    let (back, is) = shorter_begins xs fs gs (f.0, ta) (g.0, tb) (omega (arith, short)) in
    (back, cc (sym ea ∙ eb, is))

begins_trans : {X : Type 0} (xs fs gs : List X) → Begins fs gs → Begins gs xs → Begins fs xs
begins_trans xs fs gs f g = (f.0 ++ g.0, g.1 ∙ ap (λ l. l ++ g.0) f.1 ∙ append_assoc fs f.0 g.0)

begins_cons : {X : Type 0} (x : X) (xs fs : List X) → Begins fs xs → Begins (x ∷ fs) (x ∷ xs)
begins_cons x xs fs f = (f.0, ap (λ l. x ∷ l) f.1)

module _ {K V : Type 0} (eq : K → K → Bool) where
  without-append : (x : K) (fs es : List (K × V)) → Begins (without eq x fs) (without eq x (fs ++ es))
  without-append x [] es = (without eq x es, refl)
  without-append x (e ∷ fs) es = split (eq x e.0)
      (λ t. rw t (es, refl))
      (λ f. rw f (begins_cons e (without eq x (fs ++ es)) (without eq x fs) (without-append x fs es)))

  begins_without : (x : K) (es fs : List (K × V)) → Begins fs es → Begins (without eq x fs) (without eq x es)
  begins_without x es fs f = subst (λ l. Begins (without eq x fs) (without eq x l)) (sym f.1) (without-append x fs f.0)

  keys-append : (es fs : List (K × V)) → keys_of (es ++ fs) ≡ keys_of es ++ keys_of fs
  keys-append [] fs = refl
  keys-append (e ∷ es) fs = ap (λ l. e.0 ∷ l) (keys-append es fs)

  held_from_front : (x : K) (es fs : List (K × V)) → Begins fs es → holds eq x (keys_of fs) ≡ true → holds eq x (keys_of es) ≡ true
  held_from_front x es fs f h = rw (f.1, keys-append fs f.0, holds-append eq x (keys_of fs) (keys_of f.0)) (or_left (holds eq x (keys_of fs)) (holds eq x (keys_of f.0)) h)

-- what is lighter in each pair is lighter
size_of-le : {K V : Type 0} (light heavy : K → V → ℕ) (es : List (K × V)) → AllByRecursion (λ (e : K × V). light e.0 e.1 ≤ heavy e.0 e.1) es
    → size_of light es ≤ size_of heavy es
size_of-le light heavy [] all = omega arith
size_of-le light heavy (e ∷ es) all = omega (arith, size_of-cons light e es, size_of-cons heavy e es, all.0, size_of-le light heavy es all.1)

-- what fits begins the list
fit_begins : {K V : Type 0} (weight : K → V → ℕ) (c : ℕ) (es : List (K × V)) → Begins (fit weight c es) es
fit_begins weight c es = let l = fit_is_longest weight c es in (l.rest, l.begins)

module _ {K V : Type 0} (eq : K → K → Bool) (laws : IsEquivalence eq) (low high : K → ℕ) (same_low : SameWeights eq low)
    (same_high : SameWeights eq high) (pair_weight : K → V → ℕ) (c : ℕ) where
  abbrev by_low : K → V → ℕ
  by_low k v = low k

  abbrev by_high : K → V → ℕ
  by_high k v = high k

  -- the entries held are the first of all that were requested: those that fit by the high weights, and maybe more
  record IsBetween (past : List K) (all es : List (K × V)) : Type 0 where
    order_low : IsOrder eq laws low same_low by_low (λ k v. refl) past all
    order_high : IsOrder eq laws high same_high by_high (λ k v. refl) past all
    begins : Begins es all
    above : AllByRecursion (λ (e : K × V). low e.0 ≤ pair_weight e.0 e.1) es
    below : AllByRecursion (λ (e : K × V). pair_weight e.0 e.1 ≤ high e.0) es
    fits : size_of pair_weight es ≤ c
    has_high : Begins (fit by_high c all) es

  -- what would hit by the high weights is held
  high_held : {past : List K} {all es : List (K × V)} (x : K) → IsBetween past all es → hit_by_size eq high c x past ≡ true
      → holds eq x (keys_of es) ≡ true
  high_held {past} {all} {es} x b h =
      held_from_front eq x es (fit by_high c all) b.has_high
      (held_hits eq laws high same_high by_high (λ k v. refl) c x b.order_high refl ∙ h)

  -- and what is held would hit by the low ones
  held_low : {past : List K} {all es : List (K × V)} (x : K) → IsBetween past all es → holds eq x (keys_of es) ≡ true
      → hit_by_size eq low c x past ≡ true
  held_low {past} {all} {es} x b h =
      let small = size_of-le by_low pair_weight es b.above in
      let longest = fit_is_longest by_low c all in
      let short = longest.longest es b.begins.0 b.begins.1 (omega (arith, small, b.fits)) in
      let within = shorter_begins all es (fit by_low c all) b.begins (fit_begins by_low c all) short in
      sym (held_hits eq laws low same_low by_low (λ k v. refl) c x b.order_low refl) ∙ held_from_front eq x (fit by_low c all) es within h

  between_none : IsBetween [] [] []
  unfolding fit
  between_none = record {
    order_low = order_none eq laws low same_low by_low (λ k v. refl);
    order_high = order_none eq laws high same_high by_high (λ k v. refl);
    begins = ([], refl);
    above = tt;
    below = tt;
    fits = omega arith;
    has_high = ([], refl);
  }

  -- what fits by the high weights after a put begins what the put leaves
  high_next : (key : K) (value : V) (all es : List (K × V)) → pair_weight key value ≤ high key
      → AllByRecursion (λ (e : K × V). pair_weight e.0 e.1 ≤ high e.0) es → Begins (fit by_high c all) es
      → Begins (fit by_high c ((key, value) ∷ without eq key all)) ((key, value) ∷ fit pair_weight (c - 1 - pair_weight key value) (without eq key es))
  unfolding fit
  high_next key value all es under below has_high =
      let room : ℕ = c - 1 - pair_weight key value in
      let rest = without eq key es in
      let kept = fit pair_weight room rest in
      split (leb (1 + high key) c)
      (λ t. let i : ℕ = c - (1 + high key) in
      let whole : i + (1 + high key) ≡ c = omega (arith, leb-true (1 + high key) c t) in
      let fitting = without eq key (fit by_high c all) in
      let same : fit by_high i (without eq key all) ≡ fit by_high i fitting =
      sym (fit-without-fit eq laws high same_high by_high (λ k v. refl) key i all) ∙ ap (λ n. fit by_high i (without eq key (fit by_high n all))) whole in
      let front = fit by_high i fitting in
      let in_rest = begins_trans rest front fitting (fit_begins by_high i fitting) (begins_without eq key es (fit by_high c all) has_high) in
      let light = All-sublist (λ (e : K × V). pair_weight e.0 e.1 ≤ high e.0) (sublist_trans (sublist_remove_entry (eq key) es)
      (subst (λ l. IsSublist l front) (sym in_rest.1) (sublist_front front in_rest.0))) below in
      let small = size_of-le pair_weight by_high front light in
      let longest = fit_is_longest pair_weight room rest in
      let short = longest.longest front in_rest.0 in_rest.1 (omega (arith, small, size_of-fit by_high i fitting, under)) in
      let within = shorter_begins rest front kept in_rest (fit_begins pair_weight room rest) short in
      rw (t, same) (begins_cons (key, value) kept front within))
      (λ f. rw f ((key, value) ∷ kept, refl))

  between_next : {past : List K} {all es next : List (K × V)} (x : K) → IsBetween past all es → (p : IsSizedPut eq pair_weight c x es next)
      → low p.key ≤ pair_weight p.key p.value → pair_weight p.key p.value ≤ high p.key
      → IsBetween (x ∷ past) ((p.key, p.value) ∷ without eq p.key all) next
  between_next {past} {all} {es} {next} x b p above below =
      let first : K × V = (p.key, p.value) in
      let w : ℕ = pair_weight p.key p.value in
      let rest = without eq p.key es in
      let others = without eq p.key all in
      let kept = fit pair_weight (c - 1 - w) rest in
      let is : next ≡ first ∷ kept = p.entries in
      let room = size_of-fit pair_weight (c - 1 - w) rest in
      let stays = sublist_trans (sublist_remove_entry (eq p.key) es) (sublist_fit pair_weight (c - 1 - w) rest) in
      let rest_begins = begins_without eq p.key all es b.begins in
      let all_low = All-sublist (λ (e : K × V). low e.0 ≤ pair_weight e.0 e.1) stays b.above in
      let all_high = All-sublist (λ (e : K × V). pair_weight e.0 e.1 ≤ high e.0) stays b.below in
      record {
        order_low = order_cons eq laws low same_low by_low (λ k v. refl) x p.key p.value p.same b.order_low;
        order_high = order_cons eq laws high same_high by_high (λ k v. refl) x p.key p.value p.same b.order_high;
        begins = subst (λ l. Begins l (first ∷ others)) (sym is) (begins_cons first others kept (begins_trans others kept rest (fit_begins pair_weight (c - 1 - w) rest) rest_begins));
        above = subst (AllByRecursion (λ (e : K × V). low e.0 ≤ pair_weight e.0 e.1)) (sym is) (above, all_low);
        below = subst (AllByRecursion (λ (e : K × V). pair_weight e.0 e.1 ≤ high e.0)) (sym is) (below, all_high);
        fits = rw is (omega (arith, size_of-cons pair_weight first kept, room, p.light));
        has_high = subst (Begins (fit by_high c (first ∷ others))) (sym is) (high_next p.key p.value all es below b.below b.has_high);
      }

  -- each step of a run keeps it, and so each mark is between those by the weights
  held_between : (past : List K) (all es : List (K × V)) (later : List (List (K × V))) (rs : List K) (i : ℕ) → IsBetween past all es
      → PutsWeighBetween low high pair_weight later → IsSizedPutRun eq pair_weight c (es ∷ later) rs
      → (slice_get (marks_by_size_after eq high c past rs) i ≡ Some true → slice_get (held_before eq (es ∷ later) rs) i ≡ Some true)
      × (slice_get (held_before eq (es ∷ later) rs) i ≡ Some true → slice_get (marks_by_size_after eq low c past rs) i ≡ Some true)
  held_between past all es later [] i b puts run = (λ h. cc, λ h. cc)
  held_between past all es [] (x ∷ rs) i b puts run = absurd run.0
  held_between past all es (next ∷ later) (x ∷ rs) zero b puts run =
      (λ h. ap Some (high_held x b (same_Some _ _ h)), λ h. ap Some (held_low x b (same_Some _ _ h)))
  held_between past all es (next ∷ later) (x ∷ rs) (suc i) b puts run =
      let p = run.0 in
      let kept = fit pair_weight (c - 1 - pair_weight p.key p.value) (without eq p.key es) in
      let (above, below) = puts 0 p.key p.value kept (ap Some p.entries) in
      held_between (x ∷ past) ((p.key, p.value) ∷ without eq p.key all) next later rs i (between_next x b p above below) (λ j. puts (suc j)) run.1

module _ {K : Type 0} (eq : K → K → Bool) (V : Type 0) (laws : IsEquivalence eq) where
  pub high_hits_are_held : HighHitsAreHeld eq V
  high_hits_are_held low high pair_weight c i rs later same_low same_high puts run =
      (held_between eq laws low high same_low same_high pair_weight c [] [] [] later rs i
      (between_none eq laws low high same_low same_high pair_weight c) puts run).0

  pub held_hits_by_low : HeldHitsByLow eq V
  held_hits_by_low low high pair_weight c i rs later same_low same_high puts run =
      (held_between eq laws low high same_low same_high pair_weight c [] [] [] later rs i
      (between_none eq laws low high same_low same_high pair_weight c) puts run).1
