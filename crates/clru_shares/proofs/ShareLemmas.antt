-- Curves with the same numbers have the same best splits; the rows of shares are those of their classes.
use Rattle.std.proofs.Common.{◌≡◌, ℕ, zero, suc, ◌+◌, ◌-◌, ◌^◌, Bool, true, false, cond, List, [], ◌∷◌, ◌++◌, length, map, nat_lt, Option, Some, None, refl, sym, ap, ◌∙◌, subst, arith}
use Rattle.std.specs.Prelude.{◌*◌, ◌/◌, ◌==◌, codes, max, replicate, unwrap_or, IsSome}
use Rattle.std.specs.List.{AllZip, sum_by}
use Rattle.std.specs.Map.{keys_of}
use Rattle.std.proofs.lemmas.List.Sums.{sum_by-cons}
use Rattle.clru_curve.specs.SizedCurves.{misses_within, missed_size_within}
use Rattle.clru_curve.specs.Splits.{missed_at, AreParts, total_missed, IsBestSplit}
use Rattle.clru_shares.specs.Classes.{of_class}
use Rattle.clru_shares.specs.Forms.{Part}
use Rattle.clru_shares.specs.LinePasses.{IsCurveBy}
use Rattle.clru_shares.specs.Passes.{AreTimeless, HaveShares, IsShare, part_of_all, part_of_share, parts_of_shares, unsampled_by}
use Rattle.clru_shares.specs.Sampled.{kept_in, told_missed, told_of, told_pair}
use Rattle.clru_shares.specs.ShareCurves.{all_by, all_of_share, missed_by_curve, missed_of_share, missed_pair, sample_of}
use Rattle.clru_shares.specs.Shares.{all_of, greatest_weight, missed_by, missed_in, missed_told, one_for_all, part_of, part_with, parts_of, rows, sized_misses_under, split_rows, step_for, unsampled_of, with_missed}
use Rattle.clru_shares.specs.Sizes.{size_in}
use Rattle.clru_shares.specs.Times.{limit_of}
use Rattle.clru_shares.proofs.Timeless.{missed_under_limit, sized_under_limit, under_limit}
use Rattle.clru_shares.specs.declared.curve.LineCurve.{LineCurve}
use Rattle.clru_shares.specs.declared.curve.LineCurve.TheVariants.{ByKeys, BySize}
use Rattle.clru_shares.specs.declared.share.Share.{Share}

-- what each of one list has is what its partner in the other has
abbrev pub Same : {C D : Type 0} → (C → ℕ → Option ℕ) → (D → ℕ → Option ℕ) → List C → List D → Type 0
Same p q cs ds = AllZip (λ c d. (k : ℕ) → p c k ≡ q d k) cs ds

turned : {C D : Type 0} (p : C → ℕ → Option ℕ) (q : D → ℕ → Option ℕ) (cs : List C) (ds : List D) → Same p q cs ds → Same q p ds cs
turned p q [] [] s = tt
turned p q [] (d ∷ ds) s = s
turned p q (c ∷ cs) [] s = s
turned p q (c ∷ cs) (d ∷ ds) s = (λ k. sym (s.0 k), turned p q cs ds s.1)

module _ {C D : Type 0} (all : C → ℕ) (missed : C → ℕ → Option ℕ) (other : D → ℕ) (gone : D → ℕ → Option ℕ) (step : ℕ) where
  parts_same : (cs : List C) (ds : List D) (ks : List ℕ) → Same (missed_at all missed) (missed_at other gone) cs ds
      → AreParts all missed step cs ks → AreParts other gone step ds ks
  parts_same [] [] [] s parts = tt
  parts_same [] [] (k ∷ ks) s parts = parts
  parts_same [] (d ∷ ds) ks s parts = elim s [ ]
  parts_same (c ∷ cs) [] ks s parts = elim s [ ]
  parts_same (c ∷ cs) (d ∷ ds) [] s parts = parts
  parts_same (c ∷ cs) (d ∷ ds) (k ∷ ks) s parts = (
    record { units = parts.0.units; multiple = parts.0.multiple; has_number = subst (λ o. IsSome o) (s.0 k) parts.0.has_number },
    parts_same cs ds ks s.1 parts.1,
  )

  total_same : (cs : List C) (ds : List D) (ks : List ℕ) → Same (missed_at all missed) (missed_at other gone) cs ds
      → total_missed all missed cs ks ≡ total_missed other gone ds ks
  total_same [] [] ks s = refl
  total_same [] (d ∷ ds) ks s = elim s [ ]
  total_same (c ∷ cs) [] ks s = elim s [ ]
  total_same (c ∷ cs) (d ∷ ds) [] s = refl
  total_same (c ∷ cs) (d ∷ ds) (k ∷ ks) s =
      ap (λ o. unwrap_or o 0 + total_missed all missed cs ks) (s.0 k) ∙ ap (λ n. unwrap_or (missed_at other gone d k) 0 + n) (total_same cs ds ks s.1)

module _ {C D : Type 0} (all : C → ℕ) (missed : C → ℕ → Option ℕ) (other : D → ℕ) (gone : D → ℕ → Option ℕ) (step budget : ℕ) where
  pub best_same : (cs : List C) (ds : List D) (ks : List ℕ) → Same (missed_at all missed) (missed_at other gone) cs ds
      → IsBestSplit all missed step budget cs ks → IsBestSplit other gone step budget ds ks
  best_same cs ds ks same best =
      let back = turned (missed_at all missed) (missed_at other gone) cs ds same in record {
        split = record { parts = parts_same all missed other gone step cs ds ks same best.split.parts; within = best.split.within };
        least = λ js is.
            let low = best.least js (record { parts = parts_same other gone all missed step ds cs js back is.parts; within = is.within }) in
            omega (arith, low, total_same all missed other gone step cs ds ks same, total_same other gone all missed step ds cs js back);
      }

module _ {A : Type 0} where
  -- what a curve says is what its requests miss
  module _ (idle : Option ℕ) (requests : List (List ℕ × ℕ)) (timeless : AreTimeless idle requests) where
    price_same : (sizes : Bool) (curve : LineCurve A) → IsCurveBy sizes (limit_of idle) requests curve → (c : ℕ)
        → missed_by_curve curve (suc c) ≡ missed_by sizes idle requests (suc c)
    price_same false (ByKeys curve) is c = ap Some (is (suc c) (omega arith) ∙ under_limit idle requests timeless (suc c))
    price_same false (BySize curve) is c = absurd is
    price_same true (ByKeys curve) is c = absurd is
    price_same true (BySize curve) is c =
        ap (λ g. cond (nat_lt g (suc c)) (Some (missed_size_within curve (suc c))) None) is.greatest_weight
        ∙ ap (λ m. cond (nat_lt (greatest_weight requests) (suc c)) (Some m) None)
        (is.missed_size (suc c) ∙ missed_under_limit idle requests timeless (suc c))

    pair_same : (sizes : Bool) (curve : LineCurve A) → IsCurveBy sizes (limit_of idle) requests curve → (c : ℕ)
        → missed_pair curve c ≡ missed_in sizes idle requests c
    pair_same false (ByKeys curve) is zero = refl
    pair_same false (ByKeys curve) is (suc c) = ap (λ m. Some (m, 0)) (is (suc c) (omega arith) ∙ under_limit idle requests timeless (suc c))
    pair_same false (BySize curve) is c = absurd is
    pair_same true (ByKeys curve) is c = absurd is
    pair_same true (BySize curve) is zero = refl
    pair_same true (BySize curve) is (suc c) =
        ap (λ g. cond (nat_lt g (suc c)) (Some (misses_within curve (suc c), missed_size_within curve (suc c))) None) is.greatest_weight
        ∙ ap (λ m. cond (nat_lt (greatest_weight requests) (suc c)) (Some (m, missed_size_within curve (suc c))) None)
        (is.misses (suc c) ∙ sized_under_limit idle requests timeless (suc c))
        ∙ ap (λ m. cond (nat_lt (greatest_weight requests) (suc c)) (Some (sized_misses_under idle (suc c) requests, m)) None)
        (is.missed_size (suc c) ∙ missed_under_limit idle requests timeless (suc c))

  all_same : (sizes : Bool) (limit : ℕ) (requests kept : List (List ℕ × ℕ)) (n s : ℕ) (curve : LineCurve A) → IsCurveBy sizes limit kept curve
      → n ≡ length requests → s ≡ size_in sizes (keys_of requests) → all_by curve n s ≡ all_of sizes requests
  all_same false limit requests kept n s (ByKeys curve) is counted summed = counted
  all_same false limit requests kept n s (BySize curve) is counted summed = absurd is
  all_same true limit requests kept n s (ByKeys curve) is counted summed = absurd is
  all_same true limit requests kept n s (BySize curve) is counted summed = summed

  module _ (sizes : Bool) (idle sample : Option ℕ) (requests : List (List ℕ × ℕ)) (name : List ℕ) (share : Share A)
      (is : IsShare sizes idle sample requests name share) where
    abbrev kept : List (List ℕ × ℕ)
    kept = kept_in sample requests

    abbrev all : ℕ
    all = all_of sizes requests

    -- a share misses what is told of its requests
    share_same : (c : ℕ) → missed_at all_of_share missed_of_share share c ≡ missed_at (all_of sizes) (missed_told sizes idle sample) requests c
    share_same zero = ap Some (all_same sizes (limit_of idle) requests kept share.requests share.size share.curve is.curve is.counted is.summed)
    share_same (suc c) =
        ap (λ a. told_missed (sample_of share) a (missed_by_curve share.curve (suc c)))
        (all_same sizes (limit_of idle) requests kept share.requests share.size share.curve is.curve is.counted is.summed)
        ∙ ap (λ n. told_missed n all (missed_by_curve share.curve (suc c))) is.sampled
        ∙ ap (told_missed sample all) (price_same idle kept is.timeless sizes share.curve is.curve c)

    -- and so does its row
    pub row_same : (c : ℕ) → part_of_share share c ≡ part_of sizes idle sample requests name c
    row_same c =
        let top = 2 ^ 64 - 1 in let pair = missed_pair share.curve c in
        ap (λ s. part_with share.name.items (told_of s top c) share.requests share.size (told_pair s share.requests share.size pair)) is.sampled
        ∙ ap (λ n. part_with n (told_of sample top c) share.requests share.size (told_pair sample share.requests share.size pair)) is.is
        ∙ ap (λ n. part_with name (told_of sample top c) n share.size (told_pair sample n share.size pair)) is.counted
        ∙ ap (λ s. part_with name (told_of sample top c) (length requests) s (told_pair sample (length requests) s pair)) is.summed
        ∙ ap (λ p. part_with name (told_of sample top c) (length requests) (size_in sizes (keys_of requests))
        (told_pair sample (length requests) (size_in sizes (keys_of requests)) p)) (pair_same idle kept is.timeless sizes share.curve is.curve c)

no_size : (sizes : Bool) → size_in sizes [] ≡ 0
no_size false = refl
no_size true = refl

module _ {A : Type 0} (sizes : Bool) (idle sample : Option ℕ) (requests : List (List ℕ × ℕ)) where
  pub shares_same : (names : List (List ℕ)) (shares : List (Share A)) → HaveShares sizes idle sample requests names shares
      → Same (missed_at all_of_share missed_of_share) (missed_at (all_of sizes) (missed_told sizes idle sample)) shares
      (map (λ name. of_class name requests) names)
  shares_same [] [] have = tt
  shares_same [] (share ∷ shares) have = elim have [ ]
  shares_same (name ∷ names) [] have = elim have [ ]
  shares_same (name ∷ names) (share ∷ shares) have =
      (share_same sizes idle sample (of_class name requests) name share have.0, shares_same names shares have.1)

  pub rows_same : (names : List (List ℕ)) (shares : List (Share A)) (cs : List ℕ) → HaveShares sizes idle sample requests names shares
      → parts_of_shares shares cs ≡ parts_of sizes idle sample requests names cs
  rows_same [] [] cs have = refl
  rows_same [] (share ∷ shares) cs have = elim have [ ]
  rows_same (name ∷ names) [] cs have = elim have [ ]
  rows_same (name ∷ names) (share ∷ shares) [] have = refl
  rows_same (name ∷ names) (share ∷ shares) (c ∷ cs) have =
      ap (λ p. p ∷ parts_of_shares shares cs) (row_same sizes idle sample (of_class name requests) name share have.0 c)
      ∙ ap (λ ps. part_of sizes idle sample (of_class name requests) name c ∷ ps) (rows_same names shares cs have.1)

  pub shares_long : (names : List (List ℕ)) (shares : List (Share A)) → HaveShares sizes idle sample requests names shares → length shares ≡ length names
  shares_long [] [] have = refl
  shares_long [] (share ∷ shares) have = elim have [ ]
  shares_long (name ∷ names) [] have = elim have [ ]
  shares_long (name ∷ names) (share ∷ shares) have = ap suc (shares_long names shares have.1)

  -- one more share
  pub shares_more : (names : List (List ℕ)) (shares : List (Share A)) (name : List ℕ) (share : Share A) → HaveShares sizes idle sample requests names shares
      → IsShare sizes idle sample (of_class name requests) name share → HaveShares sizes idle sample requests (names ++ name ∷ []) (shares ++ share ∷ [])
  shares_more [] [] name share have is = (is, tt)
  shares_more [] (s ∷ shares) name share have is = elim have [ ]
  shares_more (n ∷ names) [] name share have is = elim have [ ]
  shares_more (n ∷ names) (s ∷ shares) name share have is = (have.0, shares_more names shares name share have.1 is)

  -- what a share adds to one cache for all is that of its class
  unsampled_one : (f : List (List ℕ × ℕ) → ℕ) (of : Share A → ℕ) (name : List ℕ) (share : Share A) → f [] ≡ 0
      → of share ≡ f (of_class name requests) → share.kept ≡ length (kept_in sample (of_class name requests))
      → unsampled_by of share ≡ f (unsampled_of sample requests name)
  unsampled_one f of name share none same numbered =
      ap (λ k. cond (k == 0) (of share) 0) numbered ∙ ap (λ n. cond (length (kept_in sample (of_class name requests)) == 0) n 0) same
      ∙ ends (length (kept_in sample (of_class name requests)) == 0)
    where
      ends : (b : Bool) → cond b (f (of_class name requests)) 0 ≡ f (cond b (of_class name requests) [])
      ends true = refl
      ends false = sym none

  unsampled_all : (f : List (List ℕ × ℕ) → ℕ) (of : Share A → ℕ) → f [] ≡ 0
      → ((name : List ℕ) (share : Share A) → IsShare sizes idle sample (of_class name requests) name share → of share ≡ f (of_class name requests))
      → (names : List (List ℕ)) (shares : List (Share A)) → HaveShares sizes idle sample requests names shares
      → sum_by (unsampled_by of) shares ≡ sum_by (λ name. f (unsampled_of sample requests name)) names
  unsampled_all f of none same [] [] have = refl
  unsampled_all f of none same [] (share ∷ shares) have = elim have [ ]
  unsampled_all f of none same (name ∷ names) [] have = elim have [ ]
  unsampled_all f of none same (name ∷ names) (share ∷ shares) have =
      omega (
        arith,
        sum_by-cons (unsampled_by of) share shares,
        sum_by-cons (λ name. f (unsampled_of sample requests name)) name names,
        unsampled_one f of name share none (same name share have.0) have.0.numbered,
        unsampled_all f of none same names shares have.1,
      )

  -- the row of one cache for all
  pub all_row_same : (names : List (List ℕ)) (shares : List (Share A)) (all : Share A) (c : ℕ) → HaveShares sizes idle sample requests names shares
      → IsShare sizes idle sample requests (codes "one for all") all → part_of_all shares all c ≡ one_for_all sizes idle sample requests names c
  all_row_same names shares all c have is =
      ap (λ n. with_missed n (sum_by (unsampled_by (λ share. share.size)) shares) (part_of_share all c))
      (unsampled_all length (λ share. share.requests) refl (λ name share of. of.counted) names shares have)
      ∙ ap (λ s. with_missed (sum_by (λ name. length (unsampled_of sample requests name)) names) s (part_of_share all c))
      (unsampled_all (λ rs. size_in sizes (keys_of rs)) (λ share. share.size) (no_size sizes) (λ name share of. of.summed) names shares have)
      ∙ ap (with_missed (sum_by (λ name. length (unsampled_of sample requests name)) names)
      (sum_by (λ name. size_in sizes (keys_of (unsampled_of sample requests name))) names)) (row_same sizes idle sample requests (codes "one for all") all is c)

  -- the rows of the shares are those of their classes
  pub table_same : (names : List (List ℕ)) (shares : List (Share A)) (cs : List ℕ) → HaveShares sizes idle sample requests names shares
      → (budget step n size : ℕ) (one : Part) → step ≡ step_for budget → n ≡ length requests → size ≡ size_in sizes (keys_of requests)
      → one ≡ one_for_all sizes idle sample requests names budget
      → rows n size (parts_of_shares shares cs)
      (parts_of_shares shares (replicate (length shares) (budget / max 1 (length shares) / step * step))) one
      ≡ split_rows sizes idle sample budget requests names cs
  table_same names shares cs have budget step n size one stepped counted summed is =
      let equal = λ (k s : ℕ). replicate k (budget / max 1 k / s * s) in
      let best = parts_of_shares shares cs in
      ap (λ s. rows n size best (parts_of_shares shares (equal (length shares) s)) one) stepped
      ∙ ap (λ k. rows n size best (parts_of_shares shares (equal k (step_for budget))) one) (shares_long names shares have)
      ∙ ap (λ ps. rows n size ps (parts_of_shares shares (equal (length names) (step_for budget))) one) (rows_same names shares cs have)
      ∙ ap (λ ps. rows n size (parts_of sizes idle sample requests names cs) ps one) (rows_same names shares (equal (length names) (step_for budget)) have)
      ∙ ap (λ p. rows n size (parts_of sizes idle sample requests names cs) (parts_of sizes idle sample requests names (equal (length names) (step_for budget))) p) is
      ∙ ap (λ k. rows k size (parts_of sizes idle sample requests names cs) (parts_of sizes idle sample requests names (equal (length names) (step_for budget)))
      (one_for_all sizes idle sample requests names budget)) counted
      ∙ ap (λ s. rows (length requests) s (parts_of sizes idle sample requests names cs) (parts_of sizes idle sample requests names (equal (length names) (step_for budget)))
      (one_for_all sizes idle sample requests names budget)) summed
