-- Which requests are kept after one more, and those of a class.
use Rattle.std.proofs.Common.{◌≡◌, ℕ, ◌+◌, ◌≤◌, Bool, true, false, cond, List, [], ◌∷◌, ◌++◌, length, append-nil, Option, None, Some, refl, sym, ap, ◌∙◌, arith}
use Rattle.std.specs.Prelude.{bytes_eq, filter}
use Rattle.std.specs.Map.{keys_of}
use Rattle.std.proofs.lemmas.List.{length-append}
use Rattle.std.proofs.lemmas.List.Elements.{filter-append}
use Rattle.clru_model.proofs.Cases.{split}
use Rattle.clru_text.specs.Samples.{is_kept}
use Rattle.clru_text.specs.Times.{kept_requests}
use Rattle.clru_shares.proofs.ClassLemmas.{none_asked, one_asked}
use Rattle.clru_shares.specs.Classes.{class_in, of_class, requests_of}
use Rattle.clru_shares.specs.Passes.{next_kept, next_number}
use Rattle.clru_shares.specs.Sampled.{is_in, kept_in}

-- one more request is in the sample, or is not
pub sample_next : (sample : Option ℕ) (requests : List (List ℕ × ℕ)) (r : List ℕ × ℕ)
    → kept_in sample (requests ++ r ∷ []) ≡ next_kept (is_in sample r.0) (kept_in sample requests) r
sample_next None requests r = refl
sample_next (Some n) requests r = filter-append (λ (q : List ℕ × ℕ). is_kept n q.0) requests (r ∷ []) ∙ ends (is_kept n r.0)
  where
    ends : (b : Bool) → kept_requests n requests ++ cond b (r ∷ []) [] ≡ next_kept b (kept_requests n requests) r
    ends true = refl
    ends false = append-nil (kept_requests n requests)

pub nothing_kept : (sample : Option ℕ) → kept_in sample [] ≡ []
nothing_kept None = refl
nothing_kept (Some n) = refl

pub next_counted : (b : Bool) (kept : List (List ℕ × ℕ)) (r : List ℕ × ℕ) → next_number b (length kept) ≡ length (next_kept b kept r)
next_counted false kept r = refl
next_counted true kept r = sym (length-append kept (r ∷ []))

pub next_few : (b : Bool) (n m : ℕ) → n ≤ m → next_number b n ≤ m + 1
next_few false n m few = omega (arith, few)
next_few true n m few = omega (arith, few)

-- a request of the class, or of another one
pub one_next : (b : Bool) (name : List ℕ) (kept : List (List ℕ × ℕ)) (r : List ℕ × ℕ) → bytes_eq name (class_in r.0) ≡ true
    → of_class name (next_kept b kept r) ≡ next_kept b (of_class name kept) r
one_next false name kept r is = refl
one_next true name kept r is = one_asked name kept r is

pub none_next : (b : Bool) (name : List ℕ) (kept : List (List ℕ × ℕ)) (r : List ℕ × ℕ) → bytes_eq name (class_in r.0) ≡ false
    → of_class name (next_kept b kept r) ≡ of_class name kept
none_next false name kept r is = refl
none_next true name kept r is = none_asked name kept r is

module _ {X : Type 0} (p : X → Bool) (x : X) (xs : List X) where
  with_one : p x ≡ true → filter p (x ∷ xs) ≡ x ∷ filter p xs
  with_one t = ap (λ b. cond b (x ∷ filter p xs) (filter p xs)) t

  without_one : p x ≡ false → filter p (x ∷ xs) ≡ filter p xs
  without_one f = ap (λ b. cond b (x ∷ filter p xs) (filter p xs)) f

filters_swap : {X : Type 0} (p q : X → Bool) (xs : List X) → filter p (filter q xs) ≡ filter q (filter p xs)
filters_swap p q [] = refl
filters_swap p q (x ∷ xs) =
    let rest = filters_swap p q xs in
    split (p x)
    (λ t. split (q x)
    (λ u. ap (filter p) (with_one q x xs u) ∙ with_one p x (filter q xs) t ∙ ap (λ ys. x ∷ ys) rest
    ∙ sym (ap (filter q) (with_one p x xs t) ∙ with_one q x (filter p xs) u))
    (λ g. ap (filter p) (without_one q x xs g) ∙ rest ∙ sym (ap (filter q) (with_one p x xs t) ∙ without_one q x (filter p xs) g)))
    (λ f. split (q x)
    (λ u. ap (filter p) (with_one q x xs u) ∙ without_one p x (filter q xs) f ∙ rest ∙ sym (ap (filter q) (without_one p x xs f)))
    (λ g. ap (filter p) (without_one q x xs g) ∙ rest ∙ sym (ap (filter q) (without_one p x xs f))))

-- those of a class in the sample are those of the sample in the class
pub class_kept : (sample : Option ℕ) (name : List ℕ) (requests : List (List ℕ × ℕ))
    → of_class name (kept_in sample requests) ≡ kept_in sample (of_class name requests)
class_kept None name requests = refl
class_kept (Some n) name requests =
    filters_swap (λ (r : List ℕ × ℕ). bytes_eq name (class_in r.0)) (λ (r : List ℕ × ℕ). is_kept n r.0) requests

-- the lines of a class are those of its requests
pub class_keys : (name : List ℕ) (requests : List (List ℕ × ℕ)) → requests_of name (keys_of requests) ≡ keys_of (of_class name requests)
class_keys name [] = refl
class_keys name (r ∷ rs) = split (bytes_eq name (class_in r.0))
    (λ t. rw t (ap (λ ls. r.0 ∷ ls) (class_keys name rs)))
    (λ f. rw f (class_keys name rs))
