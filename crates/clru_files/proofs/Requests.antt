-- Requests that are answered one after the other.
use Rattle.std.proofs.Common.{◌≡◌, ℕ, ◌+◌, Bool, true, false, not, List, [], ◌∷◌, ◌++◌, cond, count_by, flat_map, map, refl, sym, ap, ◌∙◌, arith, subst, Option, append_assoc, append-nil}
use Rattle.std.specs.List.{AllByRecursion}
use Rattle.std.specs.Str.{is_utf8}
use Rattle.std.proofs.lemmas.List.{map-append}
use Rattle.std.proofs.lemmas.List.Sums.{sum_by-cons, sum_by_push}
use Rattle.std.proofs.lemmas.Grind.{flat_map-append}
use Rattle.std.proofs.KnownBytes.{Appends-trans}
use Rattle.std.specs.Io.KnownBytes.{Appends}
use Rattle.clru_files.specs.Serving.{is_hit, is_fetch, is_no_text, is_no_memory, line_of, IsServed, AreCounted}
use Rattle.clru_files.specs.declared.counts.Counts.{Counts}
use Rattle.clru_files.specs.declared.served.Served.{Served}
use Rattle.clru_files.specs.declared.served.Served.TheVariants.{Hit, Fetched, NoText, NoMemory}

abbrev Request : Type 0
Request = List ℕ × Served

pub push_all : {X : Type 0} (P : X → Type 0) (xs : List X) (x : X) → AllByRecursion P xs → P x → AllByRecursion P (xs ++ x ∷ [])
push_all P [] x all it = (it, tt)
push_all P (y ∷ xs) x all it = (all.0, push_all P xs x all.1 it)

path_by : (utf8 none : Bool) → none ≡ not utf8 → utf8 ≡ not none
path_by true none is = ap not (sym is)
path_by false none is = ap not (sym is)

-- a request is a hit, fetches, or finds no memory, where its line is a path
one_path : (r : Request) → IsServed r
    → cond (is_hit r.1) 1 0 + cond (is_fetch r.1) 1 0 + cond (is_no_memory r.1) 1 0 ≡ cond (is_utf8 r.0) 1 0
one_path (line, Hit summary) is = ap (λ b. cond b 1 0) (sym (path_by (is_utf8 line) false is))
one_path (line, Fetched answer) is = ap (λ b. cond b 1 0) (sym (path_by (is_utf8 line) false is))
one_path (line, NoText) is = ap (λ b. cond b 1 0) (sym (path_by (is_utf8 line) true is))
one_path (line, NoMemory) is = ap (λ b. cond b 1 0) (sym (path_by (is_utf8 line) false is))

one_other : (r : Request) → IsServed r → ◌≡◌ {A = ℕ} (cond (is_no_text r.1) 1 0) (cond (not (is_utf8 r.0)) 1 0)
one_other (line, Hit summary) is = ap (λ b. cond (not b) 1 0) (sym (path_by (is_utf8 line) false is))
one_other (line, Fetched answer) is = ap (λ b. cond (not b) 1 0) (sym (path_by (is_utf8 line) false is))
one_other (line, NoText) is = ap (λ b. cond (not b) 1 0) (sym (path_by (is_utf8 line) true is))
one_other (line, NoMemory) is = ap (λ b. cond (not b) 1 0) (sym (path_by (is_utf8 line) false is))

pub paths_among : (rs : List Request) → AllByRecursion IsServed rs
    → count_by (λ r. is_hit r.1) rs + count_by (λ r. is_fetch r.1) rs + count_by (λ r. is_no_memory r.1) rs ≡ count_by is_utf8 (map (λ r. r.0) rs)
paths_among [] all = refl
paths_among (r ∷ rs) all = omega (
  arith,
  one_path r all.0,
  paths_among rs all.1,
  sum_by-cons (λ r. cond (is_hit r.1) 1 0) r rs,
  sum_by-cons (λ r. cond (is_fetch r.1) 1 0) r rs,
  sum_by-cons (λ r. cond (is_no_memory r.1) 1 0) r rs,
  sum_by-cons (λ line. cond (is_utf8 line) 1 0) r.0 (map (λ r. r.0) rs),
)

pub others_among : (rs : List Request) → AllByRecursion IsServed rs
    → count_by (λ r. is_no_text r.1) rs ≡ count_by (λ line. not (is_utf8 line)) (map (λ r. r.0) rs)
others_among [] all = refl
others_among (r ∷ rs) all = omega (
  arith,
  one_other r all.0,
  others_among rs all.1,
  sum_by-cons (λ r. cond (is_no_text r.1) 1 0) r rs,
  sum_by-cons (λ line. cond (not (is_utf8 line)) 1 0) r.0 (map (λ r. r.0) rs),
)

-- each request is counted once
pub one_more : (served : Served)
    → cond (is_hit served) 1 0 + cond (is_fetch served) 1 0 + cond (is_no_text served) 1 0 + cond (is_no_memory served) 1 0 ≡ 1
one_more (Hit summary) = refl
one_more (Fetched answer) = refl
one_more NoText = refl
one_more NoMemory = refl

-- one more line
pub push_lines : (lines more : List (List ℕ)) (rs : List Request) (r : Request) (left : List (List ℕ))
    → lines ≡ map (λ r. r.0) rs ++ left → left ≡ r.0 ∷ more → lines ≡ map (λ r. r.0) (rs ++ r ∷ []) ++ more
push_lines lines more rs r left all next = all ∙ ap (λ l. map (λ r. r.0) rs ++ l) next
    ∙ sym (ap (λ l. l ++ more) (map-append (λ r. r.0) rs (r ∷ [])) ∙ append_assoc (map (λ r. r.0) rs) (r.0 ∷ []) more)

pub push_counts : (rs : List Request) (r : Request) (old new : Counts) → AreCounted rs old
    → new.hits ≡ old.hits + cond (is_hit r.1) 1 0 → new.fetches ≡ old.fetches + cond (is_fetch r.1) 1 0
    → new.no_text ≡ old.no_text + cond (is_no_text r.1) 1 0 → new.no_memory ≡ old.no_memory + cond (is_no_memory r.1) 1 0
    → AreCounted (rs ++ r ∷ []) new
push_counts rs r old new are hits fetches no_text no_memory = record {
  hits = omega (arith, hits, are.hits, sum_by_push (λ r. cond (is_hit r.1) 1 0) rs r);
  fetches = omega (arith, fetches, are.fetches, sum_by_push (λ r. cond (is_fetch r.1) 1 0) rs r);
  no_memory = omega (arith, no_memory, are.no_memory, sum_by_push (λ r. cond (is_no_memory r.1) 1 0) rs r);
  no_text = omega (arith, no_text, are.no_text, sum_by_push (λ r. cond (is_no_text r.1) 1 0) rs r);
}

-- one more line is written
pub push_text : (rs : List Request) (r : Request) (first old new : Option (List ℕ)) → Appends first old (flat_map line_of rs)
    → Appends old new (line_of r) → Appends first new (flat_map line_of (rs ++ r ∷ []))
push_text rs r first old new written next = subst (Appends first new)
    (sym (flat_map-append line_of rs (r ∷ []) ∙ ap (λ l. flat_map line_of rs ++ l) (append-nil (line_of r))))
    (Appends-trans first old new _ _ written next)
