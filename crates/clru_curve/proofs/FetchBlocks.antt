-- The times that are kept of each key: one key more, more times of a key, and a request.
use Rattle.std.proofs.Common.{◌≡◌, ◌≢◌, ℕ, zero, suc, ◌+◌, ◌-◌, ◌*◌, ◌<◌, ◌≤◌, ◌⊎◌, min, Bool, ◌&&◌, nat_le, nat_lt, cond, List, [], ◌∷◌, ◌++◌, length, map, replicate, take, get_or, set, inl, inr, refl, sym, ap, ◌∙◌, subst, arith, length-set, get_or-set_other, get_or-set_same}
use Rattle.std.proofs.lemmas.Bool.{cases_lt, le-leb, lt-ltb}
use Rattle.std.proofs.lemmas.List.{get_or-append_right, get_or-replicate, get_or_append_left, get_or_push, length-append, length-map, length-replicate, length_push, take_all}
use Rattle.std.proofs.lemmas.List.FromFn.{length-range_with_len}
use Rattle.std.specs.List.{range_with_len}
use Rattle.clru_model.proofs.Cases.{split}
use Rattle.clru_curve.proofs.FetchRows.{row_at, row_constant, rows_at, rows_fetched, rows_same}
use Rattle.clru_curve.proofs.FetchTables.{AreCounted-then, none_less}
use Rattle.clru_curve.specs.Fetches.{is_row_hit, rows_by, time_at, times_by, AreBlocks, AreCounted, AreFetched}

-- what is read where there is something
pub read_at : (xs : List ℕ) (i x : ℕ) → i < length xs → x ≡ get_or xs i x → x ≡ get_or xs i 0
read_at [] i x inside is = absurd (omega (arith, inside))
read_at (y ∷ ys) zero x inside is = is
read_at (y ∷ ys) (suc i) x inside is = read_at ys i x (omega (arith, inside)) is

-- a vector that is resized to so many more
pub resized_by : (n many len : ℕ) (old new : List ℕ) (time : ℕ) → new ≡ take n old ++ replicate (n - len) time → n ≡ length old + many
    → len ≡ length old → new ≡ old ++ replicate many time
resized_by n many len old new time resized to from =
    let left : n - len ≡ many = omega (arith, to, from) in
    resized ∙ cc (take_all n old (omega (arith, to)), ap (λ k. replicate k time) left)

module _ (narrow : ℕ) (cs fs ws ts : List ℕ) (are : AreBlocks narrow cs fs ws ts) where
  -- where the i-th time of a key is, is among its own
  place_inside : (k i : ℕ) → k < length fs → i < length cs → get_or fs k 0 + min i (get_or ws k 0 - 1) < get_or fs k 0 + get_or ws k 0
  place_inside k i here inside = omega (arith, are.some (omega (arith, inside)), are.wide k here)

  -- one key more
  module _ (time : ℕ) where
    abbrev added : List ℕ
    added = ts ++ replicate narrow time

    abbrev firsts : List ℕ
    firsts = fs ++ length ts ∷ []

    abbrev widths : List ℕ
    widths = ws ++ narrow ∷ []

    longer : length added ≡ length ts + narrow
    longer = length-append ts (replicate narrow time) ∙ ap (λ m. length ts + m) (length-replicate narrow time)

    old_first : (k : ℕ) → k < length fs → get_or firsts k 0 ≡ get_or fs k 0
    old_first k here = get_or_append_left fs (length ts ∷ []) 0 k here

    old_width : (k : ℕ) → k < length fs → get_or widths k 0 ≡ get_or ws k 0
    old_width k here = get_or_append_left ws (narrow ∷ []) 0 k (omega (arith, here, are.as_many))

    new_first : (k : ℕ) → length fs ≡ k → get_or firsts k 0 ≡ length ts
    new_first k is = get_or_push fs (length ts) 0 k is

    new_width : (k : ℕ) → length fs ≡ k → get_or widths k 0 ≡ narrow
    new_width k is = get_or_push ws narrow 0 k (are.as_many ∙ is)

    last_of : (k : ℕ) → k < length firsts → length fs ≤ k → length fs ≡ k
    last_of k here far = omega (arith, here, far, length_push fs (length ts))

    pub AreBlocks-add : AreBlocks narrow cs firsts widths added
    AreBlocks-add = record {
      some = are.some;
      few = are.few;
      ascend = are.ascend;
      as_many = omega (arith, length_push fs (length ts), length_push ws narrow, are.as_many);
      wide = λ k here. elim (cases_lt k (length fs)) [
        | inl lt ↦ omega (arith, are.wide k lt, old_width k lt)
        | inr ge ↦ omega (arith, new_width k (last_of k here ge))
      ];
      within = λ k here. elim (cases_lt k (length fs)) [
        | inl lt ↦ omega (arith, are.within k lt, old_width k lt)
        | inr ge ↦ omega (arith, are.few, new_width k (last_of k here ge))
      ];
      inside = λ k here. elim (cases_lt k (length fs)) [
        | inl lt ↦ omega (arith, are.inside k lt, old_first k lt, old_width k lt, longer)
        | inr ge ↦ omega (arith, new_first k (last_of k here ge), new_width k (last_of k here ge), longer)
      ];
      apart = λ j k less here. elim (cases_lt k (length fs)) [
        | inl lt ↦ let low : j < length fs = omega (arith, less, lt) in elim (are.apart j k less lt) [
          | inl before ↦ inl (omega (arith, before, old_first j low, old_width j low, old_first k lt))
          | inr behind ↦ inr (omega (arith, behind, old_first j low, old_first k lt, old_width k lt))
        ]
        | inr ge ↦ let is = last_of k here ge in let low : j < length fs = omega (arith, less, is) in
            inl (omega (arith, are.inside j low, old_first j low, old_width j low, new_first k is))
      ];
    }

    old_time : (k : ℕ) → k < length fs → (i : ℕ) → i < length cs → time_at firsts widths added k i ≡ time_at fs ws ts k i
    old_time k here i inside =
        let p = get_or fs k 0 + min i (get_or ws k 0 - 1) in
        ap (λ m. get_or added m 0) (cc (old_first k here, old_width k here))
        ∙ get_or_append_left ts (replicate narrow time) 0 p (omega (arith, place_inside k i here inside, are.inside k here))

    new_time : (i : ℕ) → i < length cs → time_at firsts widths added (length fs) i ≡ time
    new_time i inside =
        let some = are.some (omega (arith, inside)) in let q = min i (narrow - 1) in
        let back : length ts + q - length ts ≡ q = omega arith in
        ap (λ m. get_or added m 0) (cc (new_first (length fs) refl, new_width (length fs) refl))
        ∙ get_or-append_right ts (replicate narrow time) (length ts) (length ts + q) 0 refl (omega arith)
        ∙ ap (λ m. get_or (replicate narrow time) m 0) back ∙ get_or-replicate narrow q time 0 (omega (arith, some))

    pub times_add : times_by (length cs) firsts widths added ≡ times_by (length cs) fs ws ts ++ replicate (length cs) time
    times_add =
        let f = time_at firsts widths added in let n = length cs in
        ap (λ m. rows_by f n m) (length_push fs (length ts) ∙ suc_is (length fs))
        ∙ cc (
          rows_same n (time_at fs ws ts) f (length fs) old_time,
          row_constant (f (length fs)) time 0 n (λ i inside. new_time i (omega (arith, inside))),
        )
      where
        suc_is : (m : ℕ) → m + 1 ≡ suc m
        suc_is m = omega arith

  -- more times of the k-th key, behind the others
  module _ (k wide : ℕ) (here : k < length fs) (more : get_or ws k 0 ≤ wide) (within : wide ≤ length cs) where
    abbrev copy : ℕ → ℕ
    copy p = get_or ts (get_or fs k 0 + min p (get_or ws k 0 - 1)) 0

    abbrev moved : List ℕ
    moved = ts ++ map copy (range_with_len 0 wide)

    abbrev moved_firsts : List ℕ
    moved_firsts = set fs k (length ts)

    abbrev moved_widths : List ℕ
    moved_widths = set ws k wide

    keys_stay : (j : ℕ) → j < length moved_firsts → j < length fs
    keys_stay j below = omega (arith, below, length-set fs k (length ts))

    far : length moved ≡ length ts + wide
    far = omega (arith, length-append ts (map copy (range_with_len 0 wide)), length-map (range_with_len 0 wide) copy, length-range_with_len 0 wide)

    own_first : get_or moved_firsts k 0 ≡ length ts
    own_first = get_or-set_same fs k (length ts) 0 here

    own_width : get_or moved_widths k 0 ≡ wide
    own_width = get_or-set_same ws k wide 0 (omega (arith, here, are.as_many))

    other_first : (j : ℕ) → j ≢ k → get_or moved_firsts j 0 ≡ get_or fs j 0
    other_first j other = get_or-set_other fs k j (length ts) 0 other

    other_width : (j : ℕ) → j ≢ k → get_or moved_widths j 0 ≡ get_or ws j 0
    other_width j other = get_or-set_other ws k j wide 0 other

    pub AreBlocks-move : AreBlocks narrow cs moved_firsts moved_widths moved
    AreBlocks-move = record {
      some = are.some;
      few = are.few;
      ascend = are.ascend;
      as_many = omega (arith, length-set fs k (length ts), length-set ws k wide, are.as_many);
      wide = λ j below. elim (same_or j k) [
        | inl is ↦ omega (arith, are.wide k here, more, own_width, ap (λ m. get_or moved_widths m 0) is)
        | inr other ↦ omega (arith, are.wide j (keys_stay j below), other_width j other)
      ];
      within = λ j below. elim (same_or j k) [
        | inl is ↦ omega (arith, within, own_width, ap (λ m. get_or moved_widths m 0) is)
        | inr other ↦ omega (arith, are.within j (keys_stay j below), other_width j other)
      ];
      inside = λ j below. elim (same_or j k) [
        | inl is ↦ omega (arith, far, own_first, own_width, ap (λ m. get_or moved_widths m 0) is, ap (λ m. get_or moved_firsts m 0) is)
        | inr other ↦ omega (arith, are.inside j (keys_stay j below), far, other_first j other, other_width j other)
      ];
      apart = λ i j less below. let high = keys_stay j below in let low : i < length fs = omega (arith, less, high) in
          elim (same_or j k) [
            | inl is ↦ let other : i ≢ k = omega (arith, less, is) in
                inl (omega (arith, are.inside i low, other_first i other, other_width i other, own_first, ap (λ m. get_or moved_firsts m 0) is))
            | inr other ↦ elim (same_or i k) [
              | inl is ↦ inr (omega (arith, are.inside j high, other_first j other, other_width j other, own_first, ap (λ m. get_or moved_firsts m 0) is))
              | inr else ↦ elim (are.apart i j less high) [
                | inl before ↦ inl (omega (arith, before, other_first i else, other_width i else, other_first j other))
                | inr behind ↦ inr (omega (arith, behind, other_first i else, other_first j other, other_width j other))
              ]
            ]
          ];
    }
      where
        same_or : (i j : ℕ) → (i ≡ j) ⊎ (i ≢ j)
        same_or i j = elim (cases_lt i j) [
          | inl lt ↦ inr (omega (arith, lt))
          | inr ge ↦ elim (cases_lt j i) [
            | inl gt ↦ inr (omega (arith, gt))
            | inr le ↦ inl (omega (arith, ge, le))
          ]
        ]

    pub times_move : 0 < get_or ws k 0 → times_by (length cs) moved_firsts moved_widths moved ≡ times_by (length cs) fs ws ts
    times_move some =
        ap (λ m. rows_by (time_at moved_firsts moved_widths moved) (length cs) m) (length-set fs k (length ts))
        ∙ rows_same (length cs) (time_at fs ws ts) (time_at moved_firsts moved_widths moved) (length fs) same_time
      where
        own_time : (i : ℕ) → i < length cs → time_at moved_firsts moved_widths moved k i ≡ time_at fs ws ts k i
        own_time i inside =
            let q = min i (wide - 1) in
            let back : length ts + q - length ts ≡ q = omega arith in
            let low : q < wide = omega (arith, some, more) in
            let capped : min q (get_or ws k 0 - 1) ≡ min i (get_or ws k 0 - 1) = omega (arith, more) in
            ap (λ m. get_or moved m 0) (cc (own_first, own_width))
            ∙ get_or-append_right ts (map copy (range_with_len 0 wide)) (length ts) (length ts + q) 0 refl (omega arith)
            ∙ ap (λ m. get_or (map copy (range_with_len 0 wide)) m 0) back
            ∙ row_at wide copy q low ∙ ap (λ m. get_or ts (get_or fs k 0 + m) 0) capped

        other_time : (j : ℕ) → j < length fs → j ≢ k → (i : ℕ) → i < length cs → time_at moved_firsts moved_widths moved j i ≡ time_at fs ws ts j i
        other_time j below other i inside =
            let p = get_or fs j 0 + min i (get_or ws j 0 - 1) in
            ap (λ m. get_or moved m 0) (cc (other_first j other, other_width j other))
            ∙ get_or_append_left ts (map copy (range_with_len 0 wide)) 0 p (omega (arith, place_inside j i below inside, are.inside j below))

        same_time : (j : ℕ) → j < length fs → (i : ℕ) → i < length cs → time_at moved_firsts moved_widths moved j i ≡ time_at fs ws ts j i
        same_time j below i inside = elim (cases_lt j k) [
          | inl lt ↦ other_time j below (omega (arith, lt)) i inside
          | inr ge ↦ elim (cases_lt k j) [
            | inl gt ↦ other_time j below (omega (arith, gt)) i inside
            | inr le ↦ let is : j ≡ k = omega (arith, ge, le) in
                subst (λ m. time_at moved_firsts moved_widths moved m i ≡ time_at fs ws ts m i) (sym is) (own_time i inside)
          ]
        ]

  -- a request of the k-th key
  module _ (ts' : List ℕ) (k : ℕ) (here : k < length fs) (hits : ℕ → Bool) (time : ℕ)
      (took : AreFetched hits (get_or ws k 0) (get_or fs k 0) time ts ts') where
    pub AreBlocks-take : AreBlocks narrow cs fs ws ts'
    AreBlocks-take = record {
      some = are.some;
      few = are.few;
      ascend = are.ascend;
      as_many = are.as_many;
      wide = are.wide;
      within = are.within;
      inside = λ j below. omega (arith, are.inside j below, took.same_length);
      apart = are.apart;
    }

    other_stays : (j : ℕ) → j < length fs → j ≢ k → (i : ℕ) → i < length cs → time_at fs ws ts' j i ≡ time_at fs ws ts j i
    other_stays j below other i inside =
        let at = place_inside j i below inside in let p = get_or fs j 0 + min i (get_or ws j 0 - 1) in
        elim (cases_lt j k) [
          | inl lt ↦ elim (are.apart j k lt here) [
            | inl before ↦ took.below p (omega (arith, at, before))
            | inr behind ↦ took.above p (omega (arith, behind))
          ]
          | inr ge ↦ let lt : k < j = omega (arith, ge, other) in elim (are.apart k j lt below) [
            | inl before ↦ took.above p (omega (arith, before))
            | inr behind ↦ took.below p (omega (arith, at, behind))
          ]
        ]

    -- where it hits at each capacity as at its last own one, or at its own
    pub times_take : (all : ℕ → Bool) → 0 < length cs → ((i : ℕ) → i < length cs → all i ≡ hits (min i (get_or ws k 0 - 1)))
        → AreFetched all (length cs) (k * length cs) time (times_by (length cs) fs ws ts) (times_by (length cs) fs ws ts')
    times_take all some alike =
        rows_fetched (length cs) (time_at fs ws ts) (time_at fs ws ts') (length fs) k other_stays all time some here
        (λ i inside. let q = min i (get_or ws k 0 - 1) in
        took.fetched q (omega (arith, are.some some, are.wide k here)) ∙ ap (λ b. cond b (time_at fs ws ts k i) time) (sym (alike i inside)))

  -- a request of the k-th key of this span: it has times enough
  module _ (k : ℕ) (here : k < length fs) (some : 0 < length cs) (soon : Bool) (span time age : ℕ)
      (enough : (get_or ws k 0 ≡ length cs) ⊎ (span ≤ get_or cs (get_or ws k 0 - 1) 0)) where
    -- whether it hits by the times that are kept, and by those of all capacities
    abbrev own : ℕ → Bool
    own = is_row_hit soon span time age (get_or fs k 0) cs ts

    abbrev all : ℕ → Bool
    all = is_row_hit soon span time age (k * length cs) cs (times_by (length cs) fs ws ts)

    pub hits_alike : (i : ℕ) → i < length cs → all i ≡ own (min i (get_or ws k 0 - 1))
    hits_alike i inside =
        let q = min i (get_or ws k 0 - 1) in
        ap (λ t. soon && (nat_le span (get_or cs i 0) && nat_le (time - t) age))
        (rows_at (length cs) (time_at fs ws ts) (length fs) k i here inside)
        ∙ ap (λ b. soon && (b && nat_le (time - get_or ts (get_or fs k 0 + q) 0) age)) (within_alike i inside)
      where
        within_alike : (i : ℕ) → i < length cs → nat_le span (get_or cs i 0) ≡ nat_le span (get_or cs (min i (get_or ws k 0 - 1)) 0)
        within_alike i inside = elim (cases_lt i (get_or ws k 0)) [
          | inl lt ↦ let q : min i (get_or ws k 0 - 1) ≡ i = omega (arith, lt) in ap (λ m. nat_le span (get_or cs m 0)) (sym q)
          | inr ge ↦ let q : min i (get_or ws k 0 - 1) ≡ get_or ws k 0 - 1 = omega (arith, ge) in elim enough [
            | inl full ↦ absurd (omega (arith, full, ge, inside))
            | inr near ↦ let last = get_or ws k 0 - 1 in
                let up = are.ascend last i (omega (arith, are.wide k here)) (omega (arith, ge)) inside in
                le-leb span (get_or cs i 0) (omega (arith, near, up))
                ∙ sym (le-leb span (get_or cs last 0) near) ∙ ap (λ m. nat_le span (get_or cs m 0)) (sym q)
          ]
        ]

    -- what is counted at its own capacities, and then at the others
    pub counted_all : (rest : ℕ) → rest ≡ cond (own (get_or ws k 0 - 1)) (length cs) (get_or ws k 0)
        → (amount : ℕ) (old mid new : List ℕ) → AreCounted own (get_or ws k 0) amount old mid
        → AreCounted (λ i. nat_lt i rest) (length cs) amount mid new → AreCounted all (length cs) amount old new
    counted_all rest is amount old mid new first then =
        AreCounted-then own (λ i. nat_lt i rest) all (get_or ws k 0) (length cs) amount old mid new (are.within k here) first then
        (λ i low. (
          split (own (get_or ws k 0 - 1))
              (λ t. let to : rest ≡ length cs = is ∙ rw t refl in lt-ltb i rest (omega (arith, to, low, are.within k here)))
              (λ f. let to : rest ≡ get_or ws k 0 = is ∙ rw f refl in lt-ltb i rest (omega (arith, to, low))),
          hits_alike i (omega (arith, low, are.within k here)) ∙ ap own (own_place i low),
        ))
        (λ i high inside. hits_alike i inside ∙ ap own (last_place i high) ∙ split (own (get_or ws k 0 - 1))
        (λ t. let to : rest ≡ length cs = is ∙ rw t refl in t ∙ sym (lt-ltb i rest (omega (arith, to, inside))))
        (λ f. let to : rest ≡ get_or ws k 0 = is ∙ rw f refl in f ∙ sym (none_less i rest (omega (arith, to, high)))))
      where
        own_place : (i : ℕ) → i < get_or ws k 0 → min i (get_or ws k 0 - 1) ≡ i
        own_place i low = omega (arith, low)

        last_place : (i : ℕ) → get_or ws k 0 ≤ i → min i (get_or ws k 0 - 1) ≡ get_or ws k 0 - 1
        last_place i high = omega (arith, high)
