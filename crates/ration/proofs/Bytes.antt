-- Units of memory are cut and glued, and are room for a type that they hold. Assumes `Logic`.
use Rattle.std.proofs.Common.{◌≡◌, ℕ, zero, suc, ◌+◌, ◌-◌, ◌*◌, ◌/◌, ◌%◌, ◌≤◌, max, [], ◌∷◌, refl, sym, ap, subst, ◌∙◌, arith}
use seplogic.Ra.Ura.{Ura}
use mir.Syntax.{Ty, Tys, Width, w8, w16, w32, w64, w128, tnil, tcons, ty_int, ty_array, ty_struct}
use native.Mathlib.Nat.{mod_self, sub-zero}
use base.Logic.{SProp, ent, sep, wand, via, apply∗, fst∗}
use prog.Memory.{size, align, pad, up, end_of}
use prog.Model.{rooms_at}
use mir.Val.{bytes}
use prog.Align.{Dv, dv→, dv_zero, dv_one, dv_mul, align_pos, align_w, align-bytes}
use types.Logic.{Logic}
use types.Kit.{raw, ◌⊛◌, ◌$◌, ◌∵◌, !, qed, by, use1, use2, split, join, frame, assume, rewrite, done}
use denote.RawPtr.Room.{room_cut, room_glue, past}
use Rattle.ration.specs.Blocks.{units_of}

abbrev unit : Ty
unit = ty_int w128

past_units : (k o : ℕ) → past unit k o ≡ o + k * 16
past_units zero o = omega arith
past_units (suc k) o = past_units k (o + 16) ∙ omega arith

divides_16 : (w : Width) → Dv (bytes w) 16
divides_16 w8 = tt
divides_16 w16 = tt
divides_16 w32 = tt
divides_16 w64 = tt
divides_16 w128 = tt

-- no type is aligned to more than 16
pub divides : (τ : Ty) → Dv (align τ) 16
divides τ = subst (λ (k : ℕ). Dv k 16) (sym (align-bytes τ)) (divides_16 (align_w τ))

flush : (a n : ℕ) → Dv a n → up a n ≡ n
flush a n d =
    let gone : pad a n ≡ 0 = ap (λ (r : ℕ). (a - r) % a) (dv→ a n d) ∙ ap (λ (r : ℕ). r % a) (sub-zero a) ∙ mod_self a in
    ap (λ (r : ℕ). n + r) gone ∙ omega arith

module _ {M : Type 1} {𝓤 : Ura M} (𝓛 : Logic 𝓤) (b : ℕ) where
  open 𝓛 use {H}

  abbrev Pr : Type 2
  Pr = SProp 𝓤

  abbrev ◌⊢◌ : Pr → Pr → Type 1
  P ⊢ Q = ent 𝓤 P Q

  abbrev ◌∗◌ : Pr → Pr → Pr
  P ∗ Q = sep 𝓤 P Q

  abbrev ◌-∗◌ : Pr → Pr → Pr
  P -∗ Q = wand 𝓤 P Q

  infix 26 ◌⊢◌
  infixr 35 ◌∗◌
  infixr 30 ◌-∗◌
  abbrev at : ℕ → ℕ → Pr
  at x n = H.room (units_of n) b x

  module _ (x m n : ℕ) (whole : m % 16 ≡ 0) where
    sum : (m + n) / 16 ≡ m / 16 + n / 16
    sum = omega arith

    far : past unit (m / 16) x ≡ x + m
    far = past_units (m / 16) x ∙ omega arith

    pub cuts : at x (m + n) ⊢ at x m ∗ at (x + m) n
    cuts = qed 𝓛 (raw (at x (m + n)) ∷ []) ∵ rewrite ! 0 (λ (k : ℕ). raw (H.room (ty_array unit k) b x)) sum refl $
        use1 𝓛 (raw (at x m) ⊛ raw (at (past unit (m / 16) x) n)) (room_cut 𝓛 unit (m / 16) (n / 16) b x) $ split ! $ rewrite ! 1 (λ (d : ℕ). raw (at d n)) far refl $ done !

    pub glues : at x m ∗ at (x + m) n ⊢ at x (m + n)
    glues = qed 𝓛 (raw (at x m) ∷ raw (at (x + m) n) ∷ []) ∵ rewrite ! 1 (λ (d : ℕ). raw (at d n)) (sym far) refl $
        use2 𝓛 (raw (H.room (ty_array unit (m / 16 + n / 16)) b x)) (room_glue 𝓛 unit (m / 16) (n / 16) b x) $ rewrite ! 0 (λ (k : ℕ). raw (H.room (ty_array unit k) b x)) (sym sum) refl $ done !

  pub resized : (x m n : ℕ) → m ≡ n → at x m ⊢ at x n
  resized x m n same = qed 𝓛 (raw (at x m) ∷ []) ∵ rewrite ! 0 (λ (k : ℕ). raw (at x k)) same refl $ done !

  pub fewer : (x m n : ℕ) → m % 16 ≡ 0 → m ≤ n → at x n ⊢ at x m
  fewer x m n whole less = via 𝓤 (at x (m + (n - m))) (resized x n (m + (n - m)) (omega arith)) (via 𝓤 (at x m ∗ at (x + m) (n - m)) (cuts x m (n - m) whole) (fst∗ 𝓤 (at x m) (at (x + m) (n - m))))

  -- n bytes are room for a type that they hold, as a struct of it and the bytes after it
  pub retypes : (τ : Ty) (x n : ℕ) → n % 16 ≡ 0 → size τ ≤ n → Dv (align τ) 16 → at x n ⊢ H.room τ b x ∗ (H.room τ b x -∗ at x n)
  retypes τ x n whole fits dv =
      let tail : Tys = tcons (ty_array (ty_int w8) (n - size τ)) tnil in
      let ω : Ty = ty_struct [] (tcons τ tail) in
      let one : max (align τ) 1 ≡ align τ = omega (arith, align_pos τ) in
      let start : up (align τ) 0 ≡ 0 = flush (align τ) 0 (dv_zero (align τ)) in
      let ends : end_of zero (tcons τ tail) ≡ n / 16 * 16 = ap (λ (k : ℕ). k + (n - size τ) * 1) (flush 1 (up (align τ) 0 + size τ) (dv_one (up (align τ) 0 + size τ)) ∙ ap (λ (k : ℕ). k + size τ) start) ∙ omega arith in
      let same : size ω ≡ n / 16 * 16 = (λ i. up (one i) (ends i)) ∙ flush (align τ) (n / 16 * 16) (dv_mul (align τ) 16 (n / 16) dv) in
      let first : x + up (align τ) 0 ≡ x = ap (λ (k : ℕ). x + k) start ∙ omega arith in
      let Rest : Pr = rooms_at 𝓤 H tail (up (align τ) 0 + size τ) b x in
      let Head : Pr = H.room τ b (x + up (align τ) 0) in
      subst (λ (d : ℕ). at x n ⊢ H.room τ b d ∗ (H.room τ b d -∗ at x n)) first
      (qed 𝓛 (raw (at x n) ∷ []) ∵
      use1 𝓛 (raw (H.room ω b x) ⊛ raw (H.room ω b x -∗ at x n)) (𝓛.laws.room_as (units_of n) ω b x same (subst (λ (k : ℕ). Dv k 16) (sym one) dv)) $ split ! $
      use1 𝓛 ((raw Head ⊛ raw Rest) ⊛ raw ((Head ∗ Rest) -∗ H.room ω b x)) (𝓛.laws.room_fields [] (tcons τ tail) b x) $ split ! $ split ! $ frame ! $ assume ! (raw Head) $ join ! $
      use2 𝓛 (raw (H.room ω b x)) (apply∗ 𝓤 (Head ∗ Rest) (H.room ω b x)) $ by ! (apply∗ 𝓤 (H.room ω b x) (at x n)))
