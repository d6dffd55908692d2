-- Entries by the place of one of them.
use Rattle.std.proofs.Common.{◌≡◌, ℕ, ◌<◌, ◌≤◌, eqb, List, [], ◌∷◌, ◌++◌, length, drop, Option, Some, None, IsSome, refl, sym, ap, ◌∙◌, arith, subst}
use Rattle.std.proofs.lemmas.List.{map-append, length-append}
use Rattle.std.specs.Option.{option_map}
use Rattle.std.specs.Map.{keys_of}
use Rattle.clru_list.specs.PlaceList.{item_at, without, with_at, last_entry_from, last_entry, first_place, last_place, place_after, place_before_from, with_last, IsApart}
use Rattle.clru_list.specs.Places.{count, nowhere}
use Rattle.clru_list.specs.Links.{place_of}
use Rattle.clru_list.proofs.Puts.{split, decide}
use Rattle.clru_list.proofs.Paths.{count-append, count-here, count-other, apart_head, apart_tail, last_or, first_or, last_or-counted}

pub place_of-some : (k : ℕ) → (nowhere ≡ k → ⊥) → place_of k ≡ Some k
place_of-some k ne = decide nowhere k (λ e _. absurd (ne e)) (λ _ f. rw f refl)

module _ {T : Type 0} where
  pub item_at-here : (k : ℕ) (x : T) (es : List (ℕ × T)) → item_at k ((k, x) ∷ es) ≡ Some x
  item_at-here k x es = decide k k (λ _ t. rw t refl) (λ ne _. absurd (ne refl))

  pub item_at-other : (k p : ℕ) (x : T) (es : List (ℕ × T)) → (k ≡ p → ⊥) → item_at k ((p, x) ∷ es) ≡ item_at k es
  item_at-other k p x es ne = decide k p (λ e _. absurd (ne e)) (λ _ f. rw f refl)

  -- no item is at a place that is not counted
  pub item_at-none : (k : ℕ) (es : List (ℕ × T)) → count k (keys_of es) ≡ 0 → item_at k es ≡ None
  item_at-none k [] h = refl
  item_at-none k (e ∷ es) h =
      decide k e.0 (λ same _. absurd (apart_head k e.0 (keys_of es) h same))
      (λ _ f. rw f (item_at-none k es (apart_tail k e.0 (keys_of es) h)))

  pub absent : (k : ℕ) (es : List (ℕ × T)) → item_at k es ≡ None → count k (keys_of es) ≡ 0
  absent k [] h = refl
  absent k (e ∷ es) h =
      split (eqb k e.0) (λ t. let same : Some e.1 ≡ None = rw t at h in absurd (cc))
      (λ f. rw f (let ih = absent k es (rw f at h) in omega arith))

  -- the entries before and behind an item's
  pub record Split (p : ℕ) (x : T) (es : List (ℕ × T)) : Type 0 where
    pub before : List (ℕ × T)
    pub behind : List (ℕ × T)
    pub is : es ≡ before ++ (p, x) ∷ behind
    pub absent : count p (keys_of before) ≡ 0

  pub split_at : (p : ℕ) (x : T) (es : List (ℕ × T)) → item_at p es ≡ Some x → Split p x es
  split_at p x [] h = absurd (cc)
  split_at p x (e ∷ es) h =
      decide p e.0
      (λ same t. let value : Some e.1 ≡ Some x = rw t at h in let item : e.1 ≡ x = cc in
      record { before = []; behind = es; is = λ i. (sym same i, item i) ∷ es; absent = refl })
      (λ ne f. let rest = split_at p x es (rw f at h) in
      record { before = e ∷ rest.before; behind = rest.behind; is = ap (λ l. e ∷ l) rest.is; absent = count-other p e.0 (keys_of rest.before) ne ∙ rest.absent })

  pub keys-split : (bs cs : List (ℕ × T)) (p : ℕ) (x : T) → keys_of (bs ++ (p, x) ∷ cs) ≡ keys_of bs ++ p ∷ keys_of cs
  keys-split bs cs p x = map-append (λ e. e.0) bs ((p, x) ∷ cs)

  pub keys-joined : (bs cs : List (ℕ × T)) → keys_of (bs ++ cs) ≡ keys_of bs ++ keys_of cs
  keys-joined bs cs = map-append (λ e. e.0) bs cs

  -- the same entries in another order
  pub record IsReordered (es ds : List (ℕ × T)) : Type 0 where
    pub items : (k : ℕ) → item_at k es ≡ item_at k ds
    pub counts : (k : ℕ) → count k (keys_of es) ≡ count k (keys_of ds)
    pub lengths : length es ≡ length ds

  module _ (p : ℕ) (x : T) where
    item_at-split : (k : ℕ) (bs cs : List (ℕ × T)) → count p (keys_of bs) ≡ 0 → item_at k (bs ++ (p, x) ∷ cs) ≡ item_at k ((p, x) ∷ (bs ++ cs))
    item_at-split k [] cs h = refl
    item_at-split k (e ∷ bs) cs h =
        let ih = item_at-split k bs cs (apart_tail p e.0 (keys_of bs) h) in
        decide k e.0
        (λ same t. let ne : k ≡ p → ⊥ = λ d. apart_head p e.0 (keys_of bs) h (sym d ∙ same) in
        rw t (decide k p (λ d _. absurd (ne d)) (λ _ f. rw f refl)))
        (λ _ f. decide k p (λ _ u. rw (f, u) (rw u at ih)) (λ _ g. rw (f, g) (rw g at ih)))

    -- an entry comes first
    pub reordered : (bs cs : List (ℕ × T)) → count p (keys_of bs) ≡ 0 → IsReordered (bs ++ (p, x) ∷ cs) ((p, x) ∷ (bs ++ cs))
    reordered bs cs h = record {
      items = λ k. item_at-split k bs cs h;
      counts = λ k. let split = ap (count k) (keys-split bs cs p x) ∙ count-append k (keys_of bs) (p ∷ keys_of cs) in
          let joined = ap (count k) (keys-joined bs cs) ∙ count-append k (keys_of bs) (keys_of cs) in omega arith;
      lengths = omega (arith, length-append bs ((p, x) ∷ cs), length-append bs cs);
    }

    pub without-split : (bs cs : List (ℕ × T)) → count p (keys_of bs) ≡ 0 → without p (bs ++ (p, x) ∷ cs) ≡ bs ++ cs
    without-split [] cs h = decide p p (λ _ t. rw t refl) (λ ne _. absurd (ne refl))
    without-split (e ∷ bs) cs h =
        decide p e.0 (λ same _. absurd (apart_head p e.0 (keys_of bs) h same))
        (λ _ f. rw f (ap (λ l. e ∷ l) (without-split bs cs (apart_tail p e.0 (keys_of bs) h))))

    pub with_at-split : (w : T) (bs cs : List (ℕ × T)) → count p (keys_of bs) ≡ 0 → with_at p w (bs ++ (p, x) ∷ cs) ≡ bs ++ (p, w) ∷ cs
    with_at-split w [] cs h = decide p p (λ _ t. rw t refl) (λ ne _. absurd (ne refl))
    with_at-split w (e ∷ bs) cs h =
        decide p e.0 (λ same _. absurd (apart_head p e.0 (keys_of bs) h same))
        (λ _ f. rw f (ap (λ l. e ∷ l) (with_at-split w bs cs (apart_tail p e.0 (keys_of bs) h))))

    pub item_at-in : (bs cs : List (ℕ × T)) → count p (keys_of bs) ≡ 0 → item_at p (bs ++ (p, x) ∷ cs) ≡ Some x
    item_at-in bs cs h = item_at-split p bs cs h ∙ item_at-here p x (bs ++ cs)

    pub place_after-split : (bs cs : List (ℕ × T)) → count p (keys_of bs) ≡ 0 → place_after p (bs ++ (p, x) ∷ cs) ≡ first_place cs
    place_after-split [] cs h = decide p p (λ _ t. rw t refl) (λ ne _. absurd (ne refl))
    place_after-split (e ∷ bs) cs h =
        decide p e.0 (λ same _. absurd (apart_head p e.0 (keys_of bs) h same))
        (λ _ f. rw f (place_after-split bs cs (apart_tail p e.0 (keys_of bs) h)))

  pub first_place-is : (es : List (ℕ × T)) → count nowhere (keys_of es) ≡ 0 → first_place es ≡ place_of (first_or nowhere (keys_of es))
  first_place-is [] h = refl
  first_place-is (e ∷ es) h = sym (place_of-some e.0 (apart_head nowhere e.0 (keys_of es) h))

  last_place-from : (e : ℕ × T) (es : List (ℕ × T)) → option_map (λ d. d.0) (last_entry_from (Some e) es) ≡ Some (last_or e.0 (keys_of es))
  last_place-from e [] = refl
  last_place-from e (d ∷ es) = last_place-from d es

  pub last_place-is : (es : List (ℕ × T)) → count nowhere (keys_of es) ≡ 0 → last_place es ≡ place_of (last_or nowhere (keys_of es))
  last_place-is [] h = refl
  last_place-is (e ∷ es) h =
      let held = last_or-counted e.0 (keys_of es) in
      let ne : nowhere ≡ last_or e.0 (keys_of es) → ⊥ = λ d. let P : ℕ → Type 0 = λ k. 0 < count k (e.0 ∷ keys_of es) in let some = subst P (sym d) held in absurd (omega arith) in
      last_place-from e es ∙ sym (place_of-some (last_or e.0 (keys_of es)) ne)

  pub place_before-split : (a p : ℕ) (x : T) (bs cs : List (ℕ × T)) → count p (keys_of bs) ≡ 0 → count nowhere (keys_of bs) ≡ 0
      → place_before_from (place_of a) p (bs ++ (p, x) ∷ cs) ≡ place_of (last_or a (keys_of bs))
  place_before-split a p x [] cs h n = decide p p (λ _ t. rw t refl) (λ ne _. absurd (ne refl))
  place_before-split a p x (e ∷ bs) cs h n =
      let ih = place_before-split e.0 p x bs cs (apart_tail p e.0 (keys_of bs) h) (apart_tail nowhere e.0 (keys_of bs) n) in
      let same = place_of-some e.0 (apart_head nowhere e.0 (keys_of bs) n) in
      decide p e.0 (λ d _. absurd (apart_head p e.0 (keys_of bs) h d))
      (λ _ f. rw f (ap (λ o. place_before_from o p (bs ++ (p, x) ∷ cs)) (sym same) ∙ ih))

  -- places that are each counted once differ
  pub apart_from_counts : (es : List (ℕ × T)) → ((k : ℕ) → count k (keys_of es) ≤ 1) → IsApart es
  apart_from_counts [] once = tt
  apart_from_counts (e ∷ es) once =
      let here = count-here e.0 (keys_of es) in
      (item_at-none e.0 es (omega (arith, once e.0)), apart_from_counts es (λ k. omega (arith, once k)))

  -- no entry is at the place, so none goes
  pub without-none : (p : ℕ) (es : List (ℕ × T)) → item_at p es ≡ None → without p es ≡ es
  without-none p [] h = refl
  without-none p (e ∷ es) h =
      split (eqb p e.0) (λ t. let same : Some e.1 ≡ None = rw t at h in absurd (cc)) (λ f. rw f (ap (λ l. e ∷ l) (without-none p es (rw f at h))))

  -- the first entry goes
  pub without-first : (es : List (ℕ × T)) → without (first_or nowhere (keys_of es)) es ≡ drop 1 es
  without-first [] = refl
  without-first (e ∷ es) = decide e.0 e.0 (λ _ t. rw t refl) (λ ne _. absurd (ne refl))

  -- the entries before the last one
  pub record IsLast (p : ℕ) (es : List (ℕ × T)) : Type 0 where
    pub before : List (ℕ × T)
    pub item : T
    pub is : es ≡ before ++ (p, item) ∷ []
    pub absent : count p (keys_of before) ≡ 0

  last_is-from : (p : ℕ) (e : ℕ × T) (es : List (ℕ × T)) → IsApart (e ∷ es) → option_map (λ d. d.0) (last_entry_from (Some e) es) ≡ Some p → IsLast p (e ∷ es)
  last_is-from p e [] apart h = let same : e.0 ≡ p = cc in record { before = []; item = e.1; is = λ i. (same i, e.1) ∷ []; absent = refl }
  last_is-from p e (d ∷ es) apart h =
      let rest = last_is-from p d es apart.1 h in
      let ne : p ≡ e.0 → ⊥ = λ same. let none = absent e.0 (d ∷ es) apart.0 in
      let all = ap (λ l. count e.0 (keys_of l)) rest.is ∙ ap (count e.0) (keys-split rest.before [] p rest.item) ∙ count-append e.0 (keys_of rest.before) (p ∷ []) in
      let here = count-other e.0 p [] in
      let P : ℕ → Type 0 = λ k. count e.0 (k ∷ []) ≡ 1 in let one = subst P (sym same) (count-here e.0 []) in
      absurd (omega arith) in
      record { before = e ∷ rest.before; item = rest.item; is = ap (λ l. e ∷ l) rest.is; absent = count-other p e.0 (keys_of rest.before) ne ∙ rest.absent }

  -- the last place ends the entries
  pub last_is : (p : ℕ) (es : List (ℕ × T)) → IsApart es → last_place es ≡ Some p → IsLast p es
  last_is p [] apart h = absurd (cc)
  last_is p (e ∷ es) apart h = last_is-from p e es apart h

  last_from-append : (o : Option (ℕ × T)) (bs : List (ℕ × T)) (e : ℕ × T) → last_entry_from o (bs ++ e ∷ []) ≡ Some e
  last_from-append o [] e = refl
  last_from-append o (b ∷ bs) e = last_from-append (Some b) bs e

  pub last_entry-append : (bs : List (ℕ × T)) (e : ℕ × T) → last_entry (bs ++ e ∷ []) ≡ Some e
  last_entry-append bs e = last_from-append None bs e

  pub with_last-append : (w : T) (bs : List (ℕ × T)) (e : ℕ × T) → with_last w (bs ++ e ∷ []) ≡ bs ++ (e.0, w) ∷ []
  with_last-append w [] e = refl
  with_last-append w (b ∷ []) e = refl
  with_last-append w (b ∷ (d ∷ bs)) e = ap (λ l. b ∷ l) (with_last-append w (d ∷ bs) e)

  -- another item at the last place
  pub with_at-last : (p : ℕ) (w : T) (es : List (ℕ × T)) → IsLast p es → with_at p w es ≡ with_last w es
  with_at-last p w es last = ap (with_at p w) last.is ∙ with_at-split p last.item w last.before [] last.absent
      ∙ sym (ap (with_last w) last.is ∙ with_last-append w last.before (p, last.item))

  pub item_at-last : (p : ℕ) (es : List (ℕ × T)) → IsLast p es → item_at p es ≡ option_map (λ d. d.1) (last_entry es)
  item_at-last p es last = ap (item_at p) last.is ∙ item_at-in p last.item last.before [] last.absent
      ∙ sym (ap (λ l. option_map (λ d. d.1) (last_entry l)) last.is ∙ ap (option_map (λ d. d.1)) (last_entry-append last.before (p, last.item)))

  pub last_some : (p : ℕ) (es : List (ℕ × T)) → IsLast p es → IsSome (item_at p es)
  last_some p es last = rw (ap (item_at p) last.is ∙ item_at-in p last.item last.before [] last.absent) refl

  -- places that differ are each counted once
  pub counts_from_apart : (es : List (ℕ × T)) → IsApart es → (k : ℕ) → count k (keys_of es) ≤ 1
  counts_from_apart [] apart k = omega arith
  counts_from_apart (e ∷ es) apart k =
      let ih = counts_from_apart es apart.1 k in let none = absent e.0 es apart.0 in
      decide k e.0
      (λ same t. let P : ℕ → Type 0 = λ m. count m (keys_of es) ≡ 0 in let gone = subst P (sym same) none in rw t (omega arith))
      (λ _ f. rw f (omega arith))

  -- a place does not stand before its entry
  pub absent_before : (bs cs : List (ℕ × T)) (p : ℕ) (x : T) → IsApart (bs ++ (p, x) ∷ cs) → count p (keys_of bs) ≡ 0
  absent_before bs cs p x apart =
      let once = counts_from_apart (bs ++ (p, x) ∷ cs) apart p in let here = count-here p (keys_of cs) in
      let all = ap (count p) (keys-split bs cs p x) ∙ count-append p (keys_of bs) (p ∷ keys_of cs) in omega arith

  -- the entry of the first place comes first
  pub record IsHead (p : ℕ) (es : List (ℕ × T)) : Type 0 where
    pub value : T
    pub rest : List (ℕ × T)
    pub is : es ≡ (p, value) ∷ rest

  pub head_is : (p : ℕ) (es : List (ℕ × T)) → first_place es ≡ Some p → IsHead p es
  head_is p [] h = absurd (cc)
  head_is p (e ∷ es) h = let same : e.0 ≡ p = cc in record { value = e.1; rest = es; is = λ i. (same i, e.1) ∷ es }

  pub no_head : (es : List (ℕ × T)) → ((p : ℕ) → first_place es ≡ Some p → ⊥) → es ≡ []
  no_head [] h = refl
  no_head (e ∷ es) h = absurd (h e.0 refl)
