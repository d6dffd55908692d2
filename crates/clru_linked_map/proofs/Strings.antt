-- The strings in a buffer: where they stand, one more, and another value at a place.
use Rattle.std.proofs.Common.{◌≡◌, ℕ, zero, suc, ◌+◌, ◌-◌, ◌<◌, ◌≤◌, Bool, true, false, inl, inr, None, Some, subst, List, [], ◌∷◌, ◌++◌, length, reverse, take, drop, set, slice_range, slice_index_or, refl, sym, ap, ◌∙◌, arith, append_assoc}
use Rattle.std.proofs.lemmas.List.{drop-append-le, take-append-le, drop_at, length-append, length-drop, length-reverse, reverse-append, take_all}
use Rattle.std.proofs.lemmas.Bool.{cases_Bool}
use Rattle.std.proofs.lemmas.Option.{none-some}
use Rattle.std.specs.Cmp.Lexicographic.{nat_list_eq_equiv}
use Rattle.std.specs.List.{slice_get}
use Rattle.std.specs.Map.{lookup, set_value}
use Rattle.clru_model.proofs.Positions.{slice_get_middle}
use Rattle.std.specs.Prelude.{bytes_eq}
use Rattle.clru_linked_map.specs.BytesTable.{AreApart, Fills, IsFoundAt, NonePass, StandsAt, entries_onto, hashes_of, start_from, string_at}
use Rattle.clru_linked_map.specs.declared.bytes_table.Item.{Item}

-- bytes behind leave a part that ends before them
pub part_stays : (xs ys : List ℕ) (start end : ℕ) → start ≤ end → end ≤ length xs → slice_range (xs ++ ys) start end ≡ slice_range xs start end
part_stays xs ys start end order within =
    ap (λ l. take (end - start) l) (drop-append-le start xs ys (omega (arith, order, within)))
    ∙ take-append-le (end - start) (drop start xs) ys (omega (arith, order, within, length-drop start xs))

-- and are the part behind
pub part_behind : (xs ys : List ℕ) → slice_range (xs ++ ys) (length xs) (length xs + length ys) ≡ ys
part_behind xs ys =
    ap (λ l. take (length xs + length ys - length xs) l) (drop_at xs ys (length xs) refl)
    ∙ take_all (length xs + length ys - length xs) ys (omega arith)

-- a list has one entry with so many behind it
split_once : {X : Type 0} (ks ls : List X) (a b : X) (cs ds : List X) → ks ++ a ∷ cs ≡ ls ++ b ∷ ds → length cs ≡ length ds
    → (ks ≡ ls) × (a ≡ b) × (cs ≡ ds)
split_once [] [] a b cs ds same long = (refl, cc, cc)
split_once [] (y ∷ ls) a b cs ds same long = absurd (omega (arith, ap length same, length-append ls (b ∷ ds), long))
split_once (x ∷ ks) [] a b cs ds same long = absurd (omega (arith, ap length same, length-append ks (a ∷ cs), long))
split_once (x ∷ ks) (y ∷ ls) a b cs ds same long =
    let head : x ≡ y = cc in let tail : ks ++ a ∷ cs ≡ ls ++ b ∷ ds = cc in
    let rest = split_once ks ls a b cs ds tail long in
    (ap (λ z. z ∷ ks) head ∙ ap (λ l. y ∷ l) rest.0, rest.1, rest.2)

module _ {V : Type 0} where
  fills_within : (start len : ℕ) (is : List (Item V)) → Fills start len is → start ≤ len
  fills_within start len [] fills = omega (arith, fills)
  fills_within start len (i ∷ is) fills = let rest = fills_within i.end len is fills.1 in omega (arith, fills.0, rest)

  -- one more string fills more
  pub fills_more : (start len end : ℕ) (is : List (Item V)) (i : Item V) → Fills start len is → len ≤ end → i.end ≡ end
      → Fills start end (is ++ i ∷ [])
  fills_more start len end [] i fills more is_end = (omega (arith, fills, more, is_end), is_end)
  fills_more start len end (j ∷ is) i fills more is_end = (fills.0, fills_more j.end len end is i fills.1 more is_end)

  -- where a string begins and ends
  pub string_spans : (bytes : List ℕ) (start len : ℕ) (is : List (Item V)) (p : ℕ) (i : Item V) → Fills start len is → p < length is
      → i ≡ slice_index_or is p i
      → (start_from start is p ≤ i.end) × (i.end ≤ len) × (string_at bytes start is p ≡ slice_range bytes (start_from start is p) i.end)
  string_spans bytes start len [] p i fills within at = absurd (omega arith)
  string_spans bytes start len (j ∷ is) zero i fills within at =
      let same : i ≡ j = at in rw same (fills.0, fills_within j.end len is fills.1, refl)
  string_spans bytes start len (j ∷ is) (suc p) i fills within at = string_spans bytes j.end len is p i fills.1 (omega arith) at

  -- it begins where the one before it ends
  pub start_behind : (start : ℕ) (is : List (Item V)) (p : ℕ) (i : Item V) → p < length is → i ≡ slice_index_or is p i
      → start_from start is (suc p) ≡ i.end
  start_behind start [] p i within at = absurd (omega arith)
  start_behind start (j ∷ is) zero i within at = ap (λ (k : Item V). k.end) (sym at)
  start_behind start (j ∷ is) (suc p) i within at = start_behind j.end is p i (omega arith) at

  length-entries_onto : (bytes : List ℕ) (start : ℕ) (is : List (Item V)) (earlier : List (List ℕ × V))
      → length (entries_onto bytes start is earlier) ≡ length is + length earlier
  length-entries_onto bytes start [] earlier = omega arith
  length-entries_onto bytes start (i ∷ is) earlier =
      let rest = length-entries_onto bytes i.end is ((slice_range bytes start i.end, i.value) ∷ earlier) in omega (arith, rest)

  -- entries stand in front of the earlier ones
  entries_in_front : (bytes : List ℕ) (start : ℕ) (is : List (Item V)) (earlier : List (List ℕ × V))
      → entries_onto bytes start is earlier ≡ entries_onto bytes start is [] ++ earlier
  entries_in_front bytes start [] earlier = refl
  entries_in_front bytes start (i ∷ is) earlier =
      let e : List ℕ × V = (slice_range bytes start i.end, i.value) in
      entries_in_front bytes i.end is (e ∷ earlier)
      ∙ sym (ap (λ l. l ++ earlier) (entries_in_front bytes i.end is (e ∷ [])) ∙ append_assoc (entries_onto bytes i.end is []) (e ∷ []) earlier)

  -- bytes behind leave the strings
  pub entries_stay : (bytes more : List ℕ) (start : ℕ) (is : List (Item V)) (earlier : List (List ℕ × V)) → Fills start (length bytes) is
      → entries_onto (bytes ++ more) start is earlier ≡ entries_onto bytes start is earlier
  entries_stay bytes more start [] earlier fills = refl
  entries_stay bytes more start (i ∷ is) earlier fills =
      entries_stay bytes more i.end is ((slice_range (bytes ++ more) start i.end, i.value) ∷ earlier) fills.1
      ∙ ap (λ s. entries_onto bytes i.end is ((s, i.value) ∷ earlier))
      (part_stays bytes more start i.end fills.0 (fills_within i.end (length bytes) is fills.1))

  -- one more item adds an entry in front
  pub entries_more : (bytes : List ℕ) (start len : ℕ) (is : List (Item V)) (i : Item V) (earlier : List (List ℕ × V)) → Fills start len is
      → entries_onto bytes start (is ++ i ∷ []) earlier ≡ (slice_range bytes len i.end, i.value) ∷ entries_onto bytes start is earlier
  entries_more bytes start len [] i earlier fills = ap (λ k. (slice_range bytes k i.end, i.value) ∷ earlier) fills
  entries_more bytes start len (j ∷ is) i earlier fills =
      entries_more bytes j.end len is i ((slice_range bytes start j.end, j.value) ∷ earlier) fills.1

  -- the hashes of one string more
  pub hashes_more : (hash : List ℕ → ℕ) (bytes : List ℕ) (start : ℕ) (is : List (Item V)) (p : ℕ) (earlier : List (List ℕ × V)) → p < length is
      → hashes_of hash (entries_onto bytes start (take (suc p) is) earlier)
      ≡ hash (string_at bytes start is p) ∷ hashes_of hash (entries_onto bytes start (take p is) earlier)
  hashes_more hash bytes start [] p earlier within = absurd (omega arith)
  hashes_more hash bytes start (i ∷ is) zero earlier within = refl
  hashes_more hash bytes start (i ∷ is) (suc p) earlier within =
      hashes_more hash bytes i.end is p ((slice_range bytes start i.end, i.value) ∷ earlier) (omega arith)

  -- the item with another value
  abbrev pub valued : Item V → V → Item V
  valued i v = record i { value = v }

  pub fills_valued : (start len : ℕ) (is : List (Item V)) (p : ℕ) (i : Item V) (v : V) → Fills start len is → i ≡ slice_index_or is p i
      → Fills start len (set is p (valued i v))
  fills_valued start len [] p i v fills at = fills
  fills_valued start len (j ∷ is) zero i v fills at = let same : i ≡ j = at in rw same fills
  fills_valued start len (j ∷ is) (suc p) i v fills at = (fills.0, fills_valued j.end len is p i v fills.1 at)

  -- what stands at a place, and what a value written there changes
  record Placed (bytes : List ℕ) (start : ℕ) (is : List (Item V)) (p : ℕ) (i : Item V) (earlier : List (List ℕ × V)) : Type 0 where
    pub before : List (List ℕ × V)
    pub behind : List (List ℕ × V)
    pub split : entries_onto bytes start is earlier ≡ before ++ (string_at bytes start is p, i.value) ∷ behind
    pub place : length behind ≡ p + length earlier
    pub written : (v : V) → entries_onto bytes start (set is p (valued i v)) earlier ≡ before ++ (string_at bytes start is p, v) ∷ behind

  placed : (bytes : List ℕ) (start : ℕ) (is : List (Item V)) (p : ℕ) (i : Item V) (earlier : List (List ℕ × V)) → p < length is
      → i ≡ slice_index_or is p i → Placed bytes start is p i earlier
  placed bytes start [] p i earlier within at = absurd (omega arith)
  placed bytes start (j ∷ is) zero i earlier within at =
      let same : i ≡ j = at in
      record {
        before = entries_onto bytes j.end is [];
        behind = earlier;
        split = rw same (entries_in_front bytes j.end is ((slice_range bytes start j.end, j.value) ∷ earlier));
        place = omega arith;
        written = λ v. rw same (entries_in_front bytes j.end is ((slice_range bytes start j.end, v) ∷ earlier));
      }
  placed bytes start (j ∷ is) (suc p) i earlier within at =
      let next = placed bytes j.end is p i ((slice_range bytes start j.end, j.value) ∷ earlier) (omega arith) at in
      record {
        before = next.before;
        behind = next.behind;
        split = next.split;
        place = let n = next.place in omega (arith, n);
        written = next.written;
      }

  pub length-entries : (bytes : List ℕ) (is : List (Item V)) → length (entries_onto bytes 0 is []) ≡ length is
  length-entries bytes is = let all = length-entries_onto bytes 0 is [] in omega (arith, all)

  -- each place has an item
  item_there : (is : List (Item V)) (p : ℕ) → p < length is → (i : Item V) × (i ≡ slice_index_or is p i)
  item_there [] p within = absurd (omega arith)
  item_there (i ∷ is) zero within = (i, refl)
  item_there (i ∷ is) (suc p) within = item_there is p (omega arith)

  -- the string at a place is that of its entry
  pub string_stands : (bytes : List ℕ) (is : List (Item V)) (p : ℕ) (string : List ℕ) → p < length is
      → StandsAt string p (entries_onto bytes 0 is []) → string ≡ string_at bytes 0 is p
  string_stands bytes is p string within stands =
      let i = item_there is p within in let here = placed bytes 0 is p i.0 [] within i.1 in
      let same = split_once stands.later here.before (string, stands.value) (string_at bytes 0 is p, i.0.value) stands.earlier here.behind
      (sym stands.split ∙ here.split) (omega (arith, stands.place, here.place)) in
      ap (λ (e : List ℕ × V). e.0) same.1

  -- from the back the entries stand at their places
  pub entry_at : (bytes : List ℕ) (is : List (Item V)) (p : ℕ) (i : Item V) → p < length is → i ≡ slice_index_or is p i
      → slice_get (reverse (entries_onto bytes 0 is [])) p ≡ Some (string_at bytes 0 is p, i.value)
  entry_at bytes is p i within at =
      let here = placed bytes 0 is p i [] within at in
      let e : List ℕ × V = (string_at bytes 0 is p, i.value) in
      let place : length (reverse here.behind) ≡ p = let n = here.place in length-reverse here.behind ∙ omega (arith, n) in
      ap (λ l. slice_get (reverse l) p) here.split
      ∙ ap (λ l. slice_get l p) (reverse-append here.before (e ∷ here.behind) ∙ ap (λ l. l ++ reverse here.before) (reverse-append (e ∷ []) here.behind)
      ∙ append_assoc (reverse here.behind) (e ∷ []) (reverse here.before))
      ∙ ap (λ n. slice_get (reverse here.behind ++ e ∷ reverse here.before) n) (sym place)
      ∙ slice_get_middle (reverse here.behind) (reverse here.before) e

  module _ (test : List ℕ → Bool) where
    -- the first entry that passes
    value_found : (later : List (List ℕ × V)) (e : List ℕ × V) (earlier : List (List ℕ × V)) → NonePass test later → test e.0 ≡ true
        → lookup test (later ++ e ∷ earlier) ≡ Some e.1
    value_found [] e earlier passed same = rw same refl
    value_found (d ∷ later) e earlier passed same = rw (passed.0) (value_found later e earlier passed.1 same)

    value_set : (later : List (List ℕ × V)) (e : List ℕ × V) (earlier : List (List ℕ × V)) (v : V) → NonePass test later → test e.0 ≡ true
        → set_value test (later ++ e ∷ earlier) v ≡ later ++ (e.0, v) ∷ earlier
    value_set [] e earlier v passed same = rw same refl
    value_set (d ∷ later) e earlier v passed same = rw (passed.0) (ap (λ l. d ∷ l) (value_set later e earlier v passed.1 same))

  -- another value leaves the hashes
  hashes_valued : (hash : List ℕ → ℕ) (later : List (List ℕ × V)) (string : List ℕ) (v w : V) (earlier : List (List ℕ × V))
      → hashes_of hash (later ++ (string, v) ∷ earlier) ≡ hashes_of hash (later ++ (string, w) ∷ earlier)
  hashes_valued hash [] string v w earlier = refl
  hashes_valued hash (e ∷ later) string v w earlier = ap (λ l. hash e.0 ∷ l) (hashes_valued hash later string v w earlier)

  -- so does one that is written at a place
  pub hashes_written : (hash : List ℕ → ℕ) (bytes : List ℕ) (is : List (Item V)) (p : ℕ) (i : Item V) (v : V) → p < length is
      → i ≡ slice_index_or is p i
      → hashes_of hash (entries_onto bytes 0 (set is p (valued i v)) []) ≡ hashes_of hash (entries_onto bytes 0 is [])
  hashes_written hash bytes is p i v within at =
      let here = placed bytes 0 is p i [] within at in
      ap (hashes_of hash) (here.written v) ∙ hashes_valued hash here.before (string_at bytes 0 is p) v i.value here.behind
      ∙ sym (ap (hashes_of hash) here.split)

  -- what is found at a place, and what a value written there leaves
  module _ (test : List ℕ → Bool) (bytes : List ℕ) (is : List (Item V)) (p : ℕ) (i : Item V) (within : p < length is) (at : i ≡ slice_index_or is p i)
      (found : IsFoundAt test p (entries_onto bytes 0 is [])) where
    found_here : (found.later ≡ (placed bytes 0 is p i [] within at).before) × (found.entry ≡ (string_at bytes 0 is p, i.value))
        × (found.earlier ≡ (placed bytes 0 is p i [] within at).behind)
    found_here =
        let here = placed bytes 0 is p i [] within at in
        split_once found.later here.before found.entry (string_at bytes 0 is p, i.value) found.earlier here.behind
        (sym found.split ∙ here.split) (omega (arith, found.place, here.place))

    pub found_value : lookup test (entries_onto bytes 0 is []) ≡ Some i.value
    found_value =
        ap (λ es. lookup test es) found.split ∙ value_found test found.later found.entry found.earlier found.passed found.same
        ∙ ap (λ (e : List ℕ × V). Some e.1) found_here.1

    pub found_set : (v : V) → entries_onto bytes 0 (set is p (valued i v)) [] ≡ set_value test (entries_onto bytes 0 is []) v
    found_set v =
        let here = placed bytes 0 is p i [] within at in let same = found_here in
        here.written v
        ∙ sym (ap (λ es. set_value test es v) found.split ∙ value_set test found.later found.entry found.earlier v found.passed found.same
        ∙ ap (λ l. l ++ (found.entry.0, v) ∷ found.earlier) same.0 ∙ ap (λ (e : List ℕ × V). here.before ++ (e.0, v) ∷ found.earlier) same.1
        ∙ ap (λ l. here.before ++ (string_at bytes 0 is p, v) ∷ l) same.2)

  -- another value leaves strings apart
  none_valued : (test : List ℕ → Bool) (later : List (List ℕ × V)) (string : List ℕ) (v w : V) (earlier : List (List ℕ × V))
      → NonePass test (later ++ (string, v) ∷ earlier) → NonePass test (later ++ (string, w) ∷ earlier)
  none_valued test [] string v w earlier none = none
  none_valued test (e ∷ later) string v w earlier none = (none.0, none_valued test later string v w earlier none.1)

  apart_valued : (later : List (List ℕ × V)) (string : List ℕ) (v w : V) (earlier : List (List ℕ × V))
      → AreApart (later ++ (string, v) ∷ earlier) → AreApart (later ++ (string, w) ∷ earlier)
  apart_valued [] string v w earlier apart = apart
  apart_valued (e ∷ later) string v w earlier apart =
      (none_valued (bytes_eq e.0) later string v w earlier apart.0, apart_valued later string v w earlier apart.1)

  -- so does one that is written at a place
  pub apart_written : (bytes : List ℕ) (is : List (Item V)) (p : ℕ) (i : Item V) (v : V) → p < length is → i ≡ slice_index_or is p i
      → AreApart (entries_onto bytes 0 is []) → AreApart (entries_onto bytes 0 (set is p (valued i v)) [])
  apart_written bytes is p i v within at apart =
      let here = placed bytes 0 is p i [] within at in
      subst AreApart (sym (here.written v))
      (apart_valued here.before (string_at bytes 0 is p) i.value v here.behind (subst AreApart here.split apart))

  -- one that is not found stays apart from them
  pub none_found : (test : List ℕ → Bool) (es : List (List ℕ × V)) → lookup test es ≡ None → NonePass test es
  none_found test [] none = tt
  none_found test (e ∷ es) none = elim (cases_Bool (test e.0)) [
    | inl t ↦ absurd (none-some e.1 (sym none ∙ rw t refl))
    | inr f ↦ (f, none_found test es (let rest : lookup test (e ∷ es) ≡ lookup test es = rw f refl in sym rest ∙ none))
  ]

  none_at : (test : List ℕ → Bool) (later : List (List ℕ × V)) (e : List ℕ × V) (earlier : List (List ℕ × V))
      → NonePass test (later ++ e ∷ earlier) → test e.0 ≡ false
  none_at test [] e earlier none = none.0
  none_at test (d ∷ later) e earlier none = none_at test later e earlier none.1

  -- of strings that are apart, no other passes before one that stands there
  none_before : (key string : List ℕ) (v : V) (later earlier : List (List ℕ × V)) → bytes_eq key string ≡ true
      → AreApart (later ++ (string, v) ∷ earlier) → NonePass (bytes_eq key) later
  none_before key string v [] earlier same apart = tt
  none_before key string v (e ∷ later) earlier same apart = (
    nat_list_eq_equiv.congr key string e.0 same ∙ nat_list_eq_equiv.symm string e.0 ∙ none_at (bytes_eq e.0) later (string, v) earlier apart.0,
    none_before key string v later earlier same apart.1,
  )

  -- so it is found at its place
  pub found_apart : (bytes : List ℕ) (is : List (Item V)) (p : ℕ) (key : List ℕ) → p < length is
      → bytes_eq key (string_at bytes 0 is p) ≡ true → AreApart (entries_onto bytes 0 is [])
      → IsFoundAt (bytes_eq key) p (entries_onto bytes 0 is [])
  found_apart bytes is p key within same apart =
      let i = item_there is p within in let here = placed bytes 0 is p i.0 [] within i.1 in
      record {
        later = here.before;
        entry = (string_at bytes 0 is p, i.0.value);
        earlier = here.behind;
        split = here.split;
        passed = none_before key (string_at bytes 0 is p) i.0.value here.before here.behind same (subst AreApart here.split apart);
        same = same;
        place = omega (arith, here.place);
      }
