-- The requests of a log by the numbers of their keys, after one more line.
use Rattle.std.proofs.Common.{◌≡◌, ◌≢◌, ℕ, zero, suc, ◌+◌, ◌<◌, Bool, true, false, cond, List, [], ◌∷◌, ◌++◌, length, map, max, reverse, Option, None, Some, set, get_or, get_or-set_same, get_or-set_other, ltb-true, ltb-false, append-nil, length-append, length-set, refl, sym, ap, ◌∙◌, arith}
use Rattle.std.specs.Prelude.{bytes_eq, decimal, nat_lt, slice_index}
use Rattle.std.specs.List.{All, AllZip, filter}
use Rattle.std.specs.Option.{option_map_or}
use Rattle.std.proofs.Math.ListN.{get_or-append}
use Rattle.std.proofs.Math.Seq.{get_or-append_seam}
use Rattle.std.proofs.lemmas.List.Elements.{All-cons, All-nil, filter-append}
use Rattle.std.proofs.lemmas.List.{length-map, reverse-append}
use Rattle.std.proofs.lemmas.Slice.Eq.{bytes_eq-Decides}
use Rattle.clru_curve.specs.SizedCurves.{greatest_of}
use Rattle.clru_model.proofs.Cases.{split}
use Rattle.clru_text.specs.Sizes.{tail_of_line, weight_of_line}
use Rattle.clru_report.specs.KeyLogs.{HasNoted}
use Rattle.clru_report.specs.OneSize.{greatest_of_key, with_greatest}
use Rattle.clru_report.specs.Sizes.{greatest_size}

-- one more line of lines has the greatest size, or another of them has it
greatest_push : (lines : List (List ℕ)) (line : List ℕ) → greatest_size (lines ++ line ∷ []) ≡ max (greatest_size lines) (1 + weight_of_line line)
greatest_push lines line =
    let before = greatest_of weight_of_line (reverse lines) in
    ap (λ ls. 1 + greatest_of weight_of_line ls) (reverse-append lines (line ∷ []))
    ∙ split (nat_lt before (weight_of_line line)) (λ t. rw t (omega (arith, ltb-true before (weight_of_line line) t))) (λ f. rw f (omega (arith, ltb-false before (weight_of_line line) f)))

-- one more line raises the greatest size of its key, and of no other
greatest_more : (lines : List (List ℕ)) (line tail : List ℕ) → greatest_of_key (lines ++ line ∷ []) tail
    ≡ cond (bytes_eq tail (tail_of_line line)) (max (greatest_of_key lines tail) (1 + weight_of_line line)) (greatest_of_key lines tail)
greatest_more lines line tail =
    let test = λ (l : List ℕ). bytes_eq tail (tail_of_line l) in
    ap greatest_size (filter-append test lines (line ∷ []))
    ∙ split (bytes_eq tail (tail_of_line line))
    (λ t. rw t (greatest_push (filter test lines) line))
    (λ f. rw f (ap greatest_size (append-nil (filter test lines))))

-- what holds of two lists place by place still holds with one more of each
zip_push : {X Y : Type 0} (R S : X → Y → Type 0) (xs : List X) (ys : List Y) (x : X) (y : Y)
    → ((a : X) (b : Y) → R a b → S a b) → AllZip R xs ys → S x y → AllZip S (xs ++ x ∷ []) (ys ++ y ∷ [])
zip_push R S [] [] x y more zip one = (one, tt)
zip_push R S [] (b ∷ bs) x y more zip one = absurd zip
zip_push R S (a ∷ us) [] x y more zip one = absurd zip
zip_push R S (a ∷ us) (b ∷ bs) x y more zip one = (more a b zip.0, zip_push R S us bs x y more zip.1 one)

same_bytes : (xs ys : List ℕ) → bytes_eq xs ys ≡ true → xs ≡ ys
same_bytes xs ys = (bytes_eq-Decides xs ys).0

alike : (xs ys : List ℕ) → xs ≡ ys → bytes_eq xs ys ≡ true
alike xs ys = (bytes_eq-Decides xs ys).1

no_both_tests : (b : Bool) → b ≡ true → b ≡ false → {P : Type 0} → P
no_both_tests b t f = absurd (cc)

some_same : (m n : ℕ) → Some m ≡ Some n → m ≡ n
some_same m n e = cc

no_both : (o : Option ℕ) (n : ℕ) → o ≡ None → o ≡ Some n → {P : Type 0} → P
no_both o n none some = absurd (cc)

-- nothing is noted
pub noted_none : {K : Type 0} (tail_of : K → List ℕ) (find : K → Option ℕ) (tails : List (List ℕ)) (sizes requests : List ℕ)
    → ((k : K) → find k ≡ None) → tails ≡ [] → sizes ≡ [] → requests ≡ [] → HasNoted tail_of [] find tails sizes requests
noted_none tail_of find tails sizes requests none no_tails no_sizes no_requests = rw (no_tails, no_sizes, no_requests) (record {
  sized = refl;
  found = λ k n is. no_both (find k) n (none k) is;
  own = λ k n low is. absurd (omega (arith, low));
  greatest = λ k. rw (none k) refl;
  told = tt;
})

module _ {K : Type 0} (tail_of : K → List ℕ) (lines : List (List ℕ)) (find : K → Option ℕ) (tails : List (List ℕ))
    (sizes requests : List ℕ) (has : HasNoted tail_of lines find tails sizes requests) (line : List ℕ) (size : ℕ)
    (is : size ≡ 1 + weight_of_line line) (key : K) (same : tail_of key ≡ tail_of_line line) where
  abbrev Here : List (List ℕ) → ℕ → List ℕ → Type 0
  Here ts n l = (n < length ts) × (get_or ts n [] ≡ tail_of_line l)

  -- the greatest sizes with one more line: that of its key, and those of others
  of_key : (k : K) → bytes_eq (tail_of k) (tail_of_line line) ≡ true
      → greatest_of_key (lines ++ line ∷ []) (tail_of k) ≡ max (greatest_of_key lines (tail_of k)) size
  of_key k t = greatest_more lines line (tail_of k) ∙ rw (t, is) refl

  of_other : (k : K) → bytes_eq (tail_of k) (tail_of_line line) ≡ false
      → greatest_of_key (lines ++ line ∷ []) (tail_of k) ≡ greatest_of_key lines (tail_of k)
  of_other k f = greatest_more lines line (tail_of k) ∙ rw f refl

  -- a key that came before
  module _ (n : ℕ) (known : find key ≡ Some n) where
    abbrev raised : List ℕ
    raised = set sizes n (max (slice_index sizes n) size)

    here : (n < length tails) × (get_or tails n [] ≡ tail_of_line line)
    here = ((has.found key n known).0, (has.found key n known).1 ∙ same)

    -- its size is that of this line if that is greater
    raised_own : (k : K) → bytes_eq (tail_of k) (tail_of_line line) ≡ true
        → option_map_or (slice_index raised) (find k) 1 ≡ greatest_of_key (lines ++ line ∷ []) (tail_of k)
    raised_own k t =
        let at : find k ≡ Some n = has.own k n here.0 (here.1 ∙ sym (same_bytes (tail_of k) (tail_of_line line) t)) in
        let before : slice_index sizes n ≡ greatest_of_key lines (tail_of k) = rw at at (has.greatest k) in
        rw at (get_or-set_same sizes n (max (slice_index sizes n) size) 0 (omega (arith, here.0, has.sized))
        ∙ ap (λ m. max m size) before ∙ sym (of_key k t))

    -- and others stay
    raised_other : (k : K) (o : Option ℕ) → find k ≡ o → bytes_eq (tail_of k) (tail_of_line line) ≡ false
        → option_map_or (slice_index raised) o 1 ≡ greatest_of_key (lines ++ line ∷ []) (tail_of k)
    raised_other k None at f = rw at at (has.greatest k) ∙ sym (of_other k f)
    raised_other k (Some m) at f =
        let other : m ≢ n = λ e. no_both_tests (bytes_eq (tail_of k) (tail_of_line line))
        (alike (tail_of k) (tail_of_line line) (sym (has.found k m at).1 ∙ ap (λ j. get_or tails j []) e ∙ here.1)) f in
        get_or-set_other sizes n m (max (slice_index sizes n) size) 0 other ∙ rw at at (has.greatest k) ∙ sym (of_other k f)

    pub noted_again : HasNoted tail_of (lines ++ line ∷ []) find tails raised (requests ++ n ∷ [])
    noted_again = record {
      sized = length-set sizes n (max (slice_index sizes n) size) ∙ has.sized;
      found = has.found;
      own = has.own;
      greatest = λ k. split (bytes_eq (tail_of k) (tail_of_line line)) (raised_own k) (raised_other k (find k) refl);
      told = zip_push (Here tails) (Here tails) requests lines n line (λ m l h. h) has.told here;
    }

  -- a new key
  module _ (unknown : find key ≡ None) (after : K → Option ℕ)
      (finds : (k : K) → after k ≡ cond (bytes_eq (tail_of key) (tail_of k)) (Some (length tails)) (find k)) where
    abbrev longer : List (List ℕ)
    longer = tails ++ tail_of key ∷ []

    at_end : get_or longer (length tails) [] ≡ tail_of key
    at_end = get_or-append_seam tails (tail_of key) [] []

    long : length longer ≡ length tails + 1
    long = length-append tails (tail_of key ∷ [])

    own_longer : (k : K) (n : ℕ) → n < length longer → get_or longer n [] ≡ tail_of k → after k ≡ Some n
    own_longer k n in_range is_tail =
        split (nat_lt n (length tails))
        (λ t. let low = ltb-true n (length tails) t in
        let at : find k ≡ Some n = has.own k n low (sym (get_or-append tails (tail_of key ∷ []) [] n low) ∙ is_tail) in
        finds k ∙ split (bytes_eq (tail_of key) (tail_of k))
        (λ u. no_both (find key) n unknown (has.own key n low ((has.found k n at).1 ∙ sym (same_bytes (tail_of key) (tail_of k) u))))
        (λ u. rw u at))
        (λ f. let e : n ≡ length tails = omega (arith, ltb-false n (length tails) f, in_range, long) in
        let t = alike (tail_of key) (tail_of k) (sym at_end ∙ ap (λ j. get_or longer j []) (sym e) ∙ is_tail) in
        finds k ∙ rw (t, e) refl)

    found_longer : (k : K) (n : ℕ) → after k ≡ Some n → (n < length longer) × (get_or longer n [] ≡ tail_of k)
    found_longer k n at =
        split (bytes_eq (tail_of key) (tail_of k))
        (λ t. let e : length tails ≡ n = some_same (length tails) n (sym (finds k ∙ rw t refl) ∙ at) in (
          omega (arith, e, long),
          ap (λ j. get_or longer j []) (sym e) ∙ at_end ∙ same_bytes (tail_of key) (tail_of k) t,
        ))
        (λ f. let before = has.found k n (sym (finds k ∙ rw f refl) ∙ at) in (
          omega (arith, before.0, long),
          get_or-append tails (tail_of key ∷ []) [] n before.0 ∙ before.1,
        ))

    -- it has the size of this line
    added_own : (k : K) → bytes_eq (tail_of key) (tail_of k) ≡ true
        → option_map_or (slice_index (sizes ++ size ∷ [])) (after k) 1 ≡ greatest_of_key (lines ++ line ∷ []) (tail_of k)
    added_own k t =
        let tail = same_bytes (tail_of key) (tail_of k) t in
        let none : 1 ≡ greatest_of_key lines (tail_of k) = rw unknown at (has.greatest key) ∙ ap (greatest_of_key lines) tail in
        let at : after k ≡ Some (length tails) = finds k ∙ rw t refl in
        let own : get_or (sizes ++ size ∷ []) (length tails) 0 ≡ size =
        ap (λ j. get_or (sizes ++ size ∷ []) j 0) (sym has.sized) ∙ get_or-append_seam sizes size [] 0 in
        rw at (omega (arith, own, is, none, of_key k (alike (tail_of k) (tail_of_line line) (sym tail ∙ same))))

    differ : (k : K) → bytes_eq (tail_of key) (tail_of k) ≡ false → bytes_eq (tail_of k) (tail_of_line line) ≡ false
    differ k f =
        split (bytes_eq (tail_of k) (tail_of_line line))
        (λ t. no_both_tests (bytes_eq (tail_of key) (tail_of k))
        (alike (tail_of key) (tail_of k) (same ∙ sym (same_bytes (tail_of k) (tail_of_line line) t))) f)
        (λ g. g)

    -- and others keep theirs
    added_other : (k : K) (o : Option ℕ) → find k ≡ o → bytes_eq (tail_of key) (tail_of k) ≡ false
        → option_map_or (slice_index (sizes ++ size ∷ [])) o 1 ≡ greatest_of_key (lines ++ line ∷ []) (tail_of k)
    added_other k None at f = rw at at (has.greatest k) ∙ sym (of_other k (differ k f))
    added_other k (Some m) at f =
        get_or-append sizes (size ∷ []) 0 m (omega (arith, (has.found k m at).0, has.sized))
        ∙ rw at at (has.greatest k) ∙ sym (of_other k (differ k f))

    pub noted_new : HasNoted tail_of (lines ++ line ∷ []) after longer (sizes ++ size ∷ []) (requests ++ length tails ∷ [])
    noted_new = record {
      sized = omega (arith, has.sized, length-append sizes (size ∷ []), long);
      found = found_longer;
      own = own_longer;
      greatest = λ k. split (bytes_eq (tail_of key) (tail_of k)) (added_own k)
          (λ f. ap (λ o. option_map_or (slice_index (sizes ++ size ∷ [])) o 1) (finds k ∙ rw f refl) ∙ added_other k (find k) refl f);
      told = zip_push (Here tails) (Here longer) requests lines (length tails) line
          (λ m l h. (omega (arith, h.0, long), get_or-append tails (tail_of key ∷ []) [] m h.0 ∙ h.1)) has.told
          (omega (arith, long), at_end ∙ same);
    }

-- what is made of two lists is the same where it is so place by place
zip_map : {X Y Z : Type 0} (R : X → Y → Type 0) (f : X → Z) (g : Y → Z) → ((x : X) (y : Y) → R x y → f x ≡ g y)
    → (xs : List X) (ys : List Y) → AllZip R xs ys → map f xs ≡ map g ys
zip_map R f g same [] [] zip = refl
zip_map R f g same [] (y ∷ ys) zip = absurd zip
zip_map R f g same (x ∷ xs) [] zip = absurd zip
zip_map R f g same (x ∷ xs) (y ∷ ys) zip = rw (same x y zip.0) (ap (λ zs. g y ∷ zs) (zip_map R f g same xs ys zip.1))

-- a number below the number of keys is that of one
key_at : {K : Type 0} (tail_of : K → List ℕ) (keys : List K) (n : ℕ) → n < length (map tail_of keys)
    → (k : K) × (get_or (map tail_of keys) n [] ≡ tail_of k)
key_at tail_of [] n low = absurd (omega (arith, low))
key_at tail_of (k ∷ ks) zero low = (k, refl)
key_at tail_of (k ∷ ks) (suc n) low = key_at tail_of ks n (omega (arith, low))

-- each number is that of a line
zip_all : {X Y : Type 0} (R : X → Y → Type 0) (P : X → Type 0) → ((x : X) (y : Y) → R x y → P x)
    → (xs : List X) (ys : List Y) → AllZip R xs ys → All P xs
zip_all R P each [] [] zip = All-nil P
zip_all R P each [] (y ∷ ys) zip = absurd zip
zip_all R P each (x ∷ xs) [] zip = absurd zip
zip_all R P each (x ∷ xs) (y ∷ ys) zip = All-cons P x xs (each x y zip.0) (zip_all R P each xs ys zip.1)

module _ {K : Type 0} (tail_of : K → List ℕ) (lines : List (List ℕ)) (find : K → Option ℕ) (keys : List K) (sizes requests : List ℕ)
    (has : HasNoted tail_of lines find (map tail_of keys) sizes requests) where
  abbrev tail_at : ℕ → List ℕ
  tail_at n = get_or (map tail_of keys) n []

  abbrev There : ℕ → List ℕ → Type 0
  There n line = (n < length (map tail_of keys)) × (tail_at n ≡ tail_of_line line)

  -- the number of a request tells its line with the greatest size of its key
  line_is : (n : ℕ) (line : List ℕ) → There n line → decimal (slice_index sizes n) ++ tail_at n ≡ with_greatest lines line
  line_is n line at =
      let key = key_at tail_of keys n at.0 in
      let known : find key.0 ≡ Some n = has.own key.0 n at.0 key.1 in
      let size : slice_index sizes n ≡ greatest_of_key lines (tail_of_line line) =
      rw known at (has.greatest key.0) ∙ ap (greatest_of_key lines) (sym key.1 ∙ at.1) in
      rw (size, at.1) refl

  pub lines_are : map (λ n. decimal (slice_index sizes n) ++ tail_at n) requests ≡ map (with_greatest lines) lines
  lines_are = zip_map There (λ n. decimal (slice_index sizes n) ++ tail_at n) (with_greatest lines) line_is requests lines has.told

  pub numbers_low : All (λ n. n < length keys) requests
  numbers_low = zip_all There (λ n. n < length keys) (λ n line at. omega (arith, at.0, length-map keys tail_of)) requests lines has.told
