-- Functions with another value at one number.
use Rattle.std.proofs.Common.{◌≡◌, ℕ, Bool, true, false, eqb, refl, sym, ap, ◌∙◌}
use Rattle.std.proofs.lemmas.Bool.{eqb-true, eqb-false, eq-eqb, ne_eqb}
use mathlib.Core.Path.{fun_ext}
use Rattle.std.specs.Prelude.{Option}
use Rattle.clru_list.specs.Places.{put}
use Rattle.clru_list.specs.Links.{LinkMap, set_item}

-- the two cases of a test
pub split : {G : Type 0} (b : Bool) → (b ≡ true → G) → (b ≡ false → G) → G
split true at_true at_false = at_true refl
split false at_true at_false = at_false refl

-- two numbers are equal or not, with the test
pub decide : {G : Type 0} (a b : ℕ) → (a ≡ b → eqb a b ≡ true → G) → ((a ≡ b → ⊥) → eqb a b ≡ false → G) → G
decide a b same apart = split (eqb a b) (λ t. same (eqb-true a b t) t) (λ f. apart (eqb-false a b f) f)

module _ {X : Type 0} where
  -- the value at the number that was written
  pub put-here : (f : ℕ → X) (a : ℕ) (v : X) (k : ℕ) → a ≡ k → put f a v k ≡ v
  put-here f a v k e = rw (eq-eqb a k e) refl

  -- the value at another one
  pub put-other : (f : ℕ → X) (a : ℕ) (v : X) (k : ℕ) → (a ≡ k → ⊥) → put f a v k ≡ f k
  put-other f a v k ne = rw (ne_eqb a k ne) refl

  -- the value that is there already
  pub put-same : (f : ℕ → X) (a : ℕ) (v : X) → f a ≡ v → put f a v ≡ f
  put-same f a v h =
      fun_ext (λ k. decide a k (λ e t. rw t (sym h ∙ ap f e)) (λ _ n. rw n refl))

  -- the later of two at one number stands
  pub put-twice : (f : ℕ → X) (a : ℕ) (v w : X) → put (put f a v) a w ≡ put f a w
  put-twice f a v w = fun_ext (λ k. decide a k (λ _ t. rw t refl) (λ _ n. rw n refl))

  pub put-swap : (f : ℕ → X) (a b : ℕ) (v w : X) → (a ≡ b → ⊥) → put (put f a v) b w ≡ put (put f b w) a v
  put-swap f a b v w ne =
      fun_ext (λ k. decide a k
      (λ e t. decide b k (λ d _. absurd (ne (e ∙ sym d))) (λ _ n. rw (t, n) refl))
      (λ _ n. rw n refl))

-- the item that is there already
pub set_item-same : {T : Type 0} (l : LinkMap T) (at : ℕ) (x : Option T) → l.item at ≡ x → set_item l at x ≡ l
set_item-same l at x h = λ i. record l { item = put-same l.item at x h i }
