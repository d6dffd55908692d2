-- The rows of the first shares, and of one more; and texts of rows, one behind another.
use Rattle.std.proofs.Common.{◌≡◌, ℕ, Bool, cond, zero, suc, ◌+◌, ◌<◌, ◌≤◌, List, [], ◌∷◌, ◌++◌, length, map, min, take, get_or, append_assoc, append-nil, codes, refl, sym, ap, ◌∙◌, arith}
use Rattle.std.specs.List.{sum_by}
use Rattle.std.specs.Prelude.{◌==◌}
use Rattle.std.proofs.lemmas.Bool.{ne_eqb}
use Rattle.std.proofs.lemmas.List.{map-append, take_more}
use Rattle.std.proofs.lemmas.List.Sums.{sum_by-append, sum_by-cons, sum_by_more}
use Rattle.clru_shares.specs.Forms.{Part, row_text, rows_text}
use Rattle.clru_shares.specs.Passes.{part_of_row, part_of_share, parts_of_shares, unsampled_by}
use Rattle.clru_shares.specs.Shares.{rows, together}
use Rattle.clru_shares.specs.declared.share.Share.{Share}
use Rattle.clru_shares.specs.declared.table.Row.{Row}

-- as many as the shorter list has are all
pub parts_all : {A : Type 0} (shares : List (Share A)) (cs : List ℕ) (n : ℕ) → min (length shares) (length cs) ≤ n
    → parts_of_shares (take n shares) (take n cs) ≡ parts_of_shares shares cs
parts_all [] cs zero many = refl
parts_all [] cs (suc n) many = refl
parts_all (s ∷ shares) [] zero many = refl
parts_all (s ∷ shares) [] (suc n) many = refl
parts_all (s ∷ shares) (c ∷ cs) zero many = absurd (omega (arith, many))
parts_all (s ∷ shares) (c ∷ cs) (suc n) many = ap (λ ps. part_of_share s c ∷ ps) (parts_all shares cs n (omega (arith, many)))

-- one more row
parts_more : {A : Type 0} (shares : List (Share A)) (cs : List ℕ) (i : ℕ) (share : Share A) → i < length shares → i < length cs
    → share ≡ get_or shares i share
    → parts_of_shares (take (suc i) shares) (take (suc i) cs) ≡ parts_of_shares (take i shares) (take i cs) ++ part_of_share share (get_or cs i 0) ∷ []
parts_more [] cs i share few short is = absurd (omega (arith, few))
parts_more (s ∷ shares) [] i share few short is = absurd (omega (arith, short))
parts_more (s ∷ shares) (c ∷ cs) zero share few short is = ap (λ x. part_of_share x c ∷ []) (sym is)
parts_more (s ∷ shares) (c ∷ cs) (suc i) share few short is =
    ap (λ ps. part_of_share s c ∷ ps) (parts_more shares cs i share (omega (arith, few)) (omega (arith, short)) is)

-- the same where i + 1 is written
pub next_parts : {A : Type 0} (shares : List (Share A)) (cs : List ℕ) (i : ℕ) (share : Share A) → i < length shares → i < length cs
    → share ≡ get_or shares i share
    → parts_of_shares (take (i + 1) shares) (take (i + 1) cs) ≡ parts_of_shares (take i shares) (take i cs) ++ part_of_share share (get_or cs i 0) ∷ []
next_parts shares cs i share few short is = let e : i + 1 ≡ suc i = omega arith in
    ap (λ n. parts_of_shares (take n shares) (take n cs)) e ∙ parts_more shares cs i share few short is

-- the sum over one more row
pub sum_more : {A : Type 0} (f : Part → ℕ) (made : List (Row A)) (i : ℕ) (row : Row A) → i < length made → row ≡ get_or made i row
    → sum_by f (map part_of_row (take (i + 1) made)) ≡ sum_by f (map part_of_row (take i made)) + f (part_of_row row)
sum_more f made i row low is =
    let before = map part_of_row (take i made) in
    let all : map part_of_row (take (i + 1) made) ≡ before ++ part_of_row row ∷ [] =
    ap (map part_of_row) (take_more made i row low) ∙ map-append part_of_row (take i made) (get_or made i row ∷ [])
    ∙ ap (λ x. before ++ part_of_row x ∷ []) (sym is) in
    omega (arith, ap (sum_by f) all, sum_by-append f before (part_of_row row ∷ []), sum_by-cons f (part_of_row row) [])

-- the sum over one more share
pub unsampled_more : {A : Type 0} (of : Share A → ℕ) (shares : List (Share A)) (i : ℕ) (share : Share A) → i < length shares
    → share ≡ get_or shares i share
    → sum_by (unsampled_by of) (take (i + 1) shares) ≡ sum_by (unsampled_by of) (take i shares) + unsampled_by of share
unsampled_more of shares i share low is = sum_by_more (unsampled_by of) shares i share low
    ∙ ap (λ x. sum_by (unsampled_by of) (take i shares) + unsampled_by of x) (sym is)

-- what it adds if the sample has none of its requests, and if it has some
pub unsampled_none : {A : Type 0} (of : Share A → ℕ) (share : Share A) → share.kept ≡ 0 → unsampled_by of share ≡ of share
unsampled_none of share none = ap (λ k. cond (k == 0) (of share) 0) none

pub unsampled_some : {A : Type 0} (of : Share A → ℕ) (share : Share A) → 0 < share.kept → unsampled_by of share ≡ 0
unsampled_some of share some = ap (λ b. cond b (of share) 0) (ne_eqb share.kept 0 (λ none. omega (arith, some, none)))

-- the rows of classes and of the three ways
pub rows_laid : (b e o : Part) (ps qs : List Part) (requests size : ℕ) (best equal : List Part) (one : Part) → ps ≡ best → qs ≡ equal
    → b ≡ together (codes "best split") requests size ps → e ≡ together (codes "equal parts") requests size qs → o ≡ one
    → ps ++ (b ∷ e ∷ o ∷ []) ≡ rows requests size best equal one
rows_laid b e o ps qs requests size best equal one parts others first second third =
    let split = together (codes "best split") requests size in let evenly = together (codes "equal parts") requests size in
    ap (λ x. ps ++ (x ∷ e ∷ o ∷ [])) first ∙ ap (λ x. ps ++ (split ps ∷ x ∷ o ∷ [])) second ∙ ap (λ x. ps ++ (split ps ∷ evenly qs ∷ x ∷ [])) third
    ∙ ap (λ x. x ++ (split x ∷ evenly qs ∷ one ∷ [])) parts ∙ ap (λ x. best ++ (split best ∷ evenly x ∷ one ∷ [])) others

module _ (json by_size : Bool) where
  rows_append : (ps qs : List Part) → rows_text json by_size (ps ++ qs) ≡ rows_text json by_size ps ++ rows_text json by_size qs
  rows_append [] qs = refl
  rows_append (p ∷ ps) qs = ap (λ t. row_text json by_size p ++ t) (rows_append ps qs)
      ∙ sym (append_assoc (row_text json by_size p) (rows_text json by_size ps) (rows_text json by_size qs))

  -- the texts of rows and of three more, one behind another
  pub texts_laid : (text : List ℕ) {t1 t2 t3 t4 : List ℕ} (ps : List Part) (b e o : Part) → t1 ≡ text ++ rows_text json by_size ps
      → t2 ≡ t1 ++ row_text json by_size b → t3 ≡ t2 ++ row_text json by_size e → t4 ≡ t3 ++ row_text json by_size o
      → t4 ≡ text ++ rows_text json by_size (ps ++ (b ∷ e ∷ o ∷ []))
  texts_laid text ps b e o first second third fourth =
      let r = row_text json by_size in let all = rows_text json by_size ps in
      fourth ∙ ap (λ t. t ++ r o) (third ∙ ap (λ t. t ++ r e) (second ∙ ap (λ t. t ++ r b) first))
      ∙ append_assoc ((text ++ all) ++ r b) (r e) (r o) ∙ append_assoc (text ++ all) (r b) (r e ++ r o)
      ∙ append_assoc text all (r b ++ (r e ++ r o))
      ∙ ap (λ t. text ++ t) (ap (λ z. all ++ (r b ++ (r e ++ z))) (sym (append-nil (r o))) ∙ sym (rows_append ps (b ∷ e ∷ o ∷ [])))

-- a text that is made of six pieces, one behind another
pub six_laid : (text : List ℕ) {t1 t2 t3 t4 t5 t6 : List ℕ} (a b c d e f : List ℕ) → t1 ≡ text ++ a → t2 ≡ t1 ++ b → t3 ≡ t2 ++ c
    → t4 ≡ t3 ++ d → t5 ≡ t4 ++ e → t6 ≡ t5 ++ f → t6 ≡ text ++ (a ++ (b ++ (c ++ (d ++ (e ++ f)))))
six_laid text a b c d e f first second third fourth fifth sixth =
    sixth ∙ ap (λ t. t ++ f) (fifth ∙ ap (λ t. t ++ e) (fourth ∙ ap (λ t. t ++ d) (third ∙ ap (λ t. t ++ c) (second ∙ ap (λ t. t ++ b) first))))
    ∙ append_assoc ((((text ++ a) ++ b) ++ c) ++ d) e f ∙ append_assoc (((text ++ a) ++ b) ++ c) d (e ++ f)
    ∙ append_assoc ((text ++ a) ++ b) c (d ++ (e ++ f)) ∙ append_assoc (text ++ a) b (c ++ (d ++ (e ++ f)))
    ∙ append_assoc text a (b ++ (c ++ (d ++ (e ++ f))))
