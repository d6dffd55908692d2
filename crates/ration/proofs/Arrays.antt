-- The room of a block for several values is cut and glued as the block shrinks and grows where it stands. Assumes `Logic`.
use Rattle.std.proofs.Common.{◌≡◌, ℕ, ◌+◌, ◌-◌, ◌*◌, ◌%◌, ◌≤◌, [], ◌∷◌, ap, ◌∙◌, refl, arith}
use seplogic.Ra.Ura.{Ura}
use mir.Syntax.{Ty, ty_array}
use mir.Raw.{raw as bare}
use prog.Memory.{size}
use prog.RawLaws.{size-raw}
use base.Logic.{SProp, ent, sep, wand, apply∗}
use base.Fml.{froom}
use types.Logic.{Logic}
use types.Kit.{‵, raw, ◌⊛◌, ◌$◌, ◌∵◌, !, qed, by, move, use1, use2, split, assume, frame, rewrite}
use denote.Param.{layout}
use Rattle.std.proofs.ptr.Rows.{El, room_split, glued, add_times}
use Rattle.ration.specs.Blocks.{units_of}
use Rattle.ration.proofs.Bytes.{divides, fewer, glues, retypes}

module _ (E : El) where
  abbrev τ : Ty
  τ = layout E.row

  abbrev s : ℕ
  s = size τ

  abbrev pub block_type : ℕ → Ty
  block_type n = bare (ty_array τ n)

  pub block_size : (n : ℕ) → size (block_type n) ≡ n * s
  block_size n = size-raw (ty_array τ n)

  module _ {M : Type 1} {𝓤 : Ura M} (𝓛 : Logic 𝓤) where
    open 𝓛 use {H}

    abbrev Pr : Type 2
    Pr = SProp 𝓤

    abbrev ◌⊢◌ : Pr → Pr → Type 1
    P ⊢ Q = ent 𝓤 P Q

    abbrev ◌∗◌ : Pr → Pr → Pr
    P ∗ Q = sep 𝓤 P Q

    abbrev ◌-∗◌ : Pr → Pr → Pr
    P -∗ Q = wand 𝓤 P Q

    infix 26 ◌⊢◌
    infixr 35 ◌∗◌
    infixr 30 ◌-∗◌
    abbrev room : ℕ → ℕ → ℕ → Pr
    room n b o = H.room (ty_array τ n) b o

    abbrev block : ℕ → ℕ → ℕ → Pr
    block n b o = H.room (block_type n) b o

    -- the places of the values and those after them are the block
    pub emptied : (len cap b o : ℕ) → len ≤ cap → room len b o ∗ block (cap - len) b (o + len * s) ⊢ room cap b o
    emptied len cap b o within =
        qed 𝓛 (raw (room len b o) ∷ ‵ (froom (block_type (cap - len)) b (o + len * s)) ∷ []) ∵ move ! (1 ∷ []) $
        use1 𝓛 (raw (room (cap - len) b (o + len * s))) (𝓛.laws.raw-room (ty_array τ (cap - len)) b (o + len * s)) $ move ! (1 ∷ 0 ∷ []) $ by ! (glued E 𝓛 len (cap - len) cap b o (omega arith))

    pub parted : (len cap b o : ℕ) → len ≤ cap → block cap b o ⊢ room len b o ∗ block (cap - len) b (o + len * s)
    parted len cap b o within =
        qed 𝓛 (‵ (froom (block_type cap) b o) ∷ []) ∵ use1 𝓛 (raw (room cap b o)) (𝓛.laws.raw-room (ty_array τ cap) b o) $
        use1 𝓛 (raw (room len b o) ⊛ raw (room (cap - len) b (o + len * s))) (room_split E 𝓛 len cap b o within) $ split ! $ frame ! $ by ! (𝓛.laws.room-raw (ty_array τ (cap - len)) b (o + len * s))

    -- what a block for `old` values is made into, one for `new` is made into with the room that is let go
    pub shortened : (len old new b o : ℕ) (B : Pr) → len ≤ new → new ≤ old
        → block (old - len) b (o + len * s) ∗ (block old b o -∗ B) ⊢ block (new - len) b (o + len * s) ∗ (block new b o -∗ B)
    shortened len old new b o B le le' =
        let spread : new * s ≡ len * s + (new - len) * s = ap (λ (k : ℕ). k * s) (omega arith) ∙ add_times len (new - len) s in
        let at : o + len * s + (new - len) * s ≡ o + new * s = omega arith in
        let left : old - len - (new - len) ≡ old - new = omega arith in
        qed 𝓛 (‵ (froom (block_type (old - len)) b (o + len * s)) ∷ raw (block old b o -∗ B) ∷ []) ∵
        use1 𝓛 (raw (room (new - len) b (o + len * s)) ⊛ ‵ (froom (block_type (old - len - (new - len))) b (o + len * s + (new - len) * s))) (parted (new - len) (old - len) b (o + len * s) (omega arith)) $ split ! $
        use1 𝓛 (‵ (froom (block_type (new - len)) b (o + len * s))) (𝓛.laws.room-raw (ty_array τ (new - len)) b (o + len * s)) $
        rewrite ! 1 (λ (u : ℕ × ℕ). ‵ (froom (block_type u.0) b u.1)) (λ i. (left i, at i)) refl $ frame ! $
        assume ! (‵ (froom (block_type new) b o)) $ use1 𝓛 (raw (room new b o)) (𝓛.laws.raw-room (ty_array τ new) b o) $
        use2 𝓛 (raw (room old b o)) (emptied new old b o le') $ use1 𝓛 (‵ (froom (block_type old) b o)) (𝓛.laws.room-raw (ty_array τ old) b o) $ by ! (apply∗ 𝓤 (block old b o) B)

    -- a block of `old` values, and the bytes above it, are a block of `new` values
    pub lengthened : (old new n more b o : ℕ) → old ≤ new → old * s % 16 ≡ 0 → old * s ≤ n → more % 16 ≡ 0 → (new - old) * s ≤ more
        → (block old b o -∗ H.room (units_of n) b o) ∗ H.room (units_of more) b (o + old * s) ⊢ room (new - old) b (o + old * s) ∗ (block new b o -∗ H.room (units_of (old * s + more)) b o)
    lengthened old new n more b o le whole less whole' fits =
        let q = o + old * s in
        let bytes = λ (k x : ℕ). H.room (units_of k) b x in
        qed 𝓛 (raw (block old b o -∗ bytes n o) ∷ raw (bytes more q) ∷ []) ∵ move ! (1 ∷ []) $
        use1 𝓛 (raw (room (new - old) b q) ⊛ raw (room (new - old) b q -∗ bytes more q))
        (retypes 𝓛 b (ty_array τ (new - old)) q more whole' fits (divides τ)) $ split ! $ frame ! $
        assume ! (‵ (froom (block_type new) b o)) $ use1 𝓛 (raw (room old b o) ⊛ ‵ (froom (block_type (new - old)) b q)) (parted old new b o le) $ split ! $
        use1 𝓛 (‵ (froom (block_type old) b o)) (𝓛.laws.room-raw (ty_array τ old) b o) $ move ! (0 ∷ 3 ∷ []) $
        use2 𝓛 (raw (bytes n o)) (apply∗ 𝓤 (block old b o) (bytes n o)) $ use1 𝓛 (raw (bytes (old * s) o)) (fewer 𝓛 b o (old * s) n whole less) $ move ! (1 ∷ []) $
        use1 𝓛 (raw (room (new - old) b q)) (𝓛.laws.raw-room (ty_array τ (new - old)) b q) $ move ! (0 ∷ 2 ∷ []) $
        use2 𝓛 (raw (bytes more q)) (apply∗ 𝓤 (room (new - old) b q) (bytes more q)) $ move ! (1 ∷ 0 ∷ []) $ by ! (glues 𝓛 b o (old * s) more whole)

    -- its places after the values
    pub filled : (len old new b o : ℕ) → len ≤ old → old ≤ new → block (old - len) b (o + len * s) ∗ room (new - old) b (o + old * s) ⊢ block (new - len) b (o + len * s)
    filled len old new b o le le' =
        let spread : old * s ≡ len * s + (old - len) * s = ap (λ (k : ℕ). k * s) (omega arith) ∙ add_times len (old - len) s in
        let at : o + old * s ≡ o + len * s + (old - len) * s = omega arith in
        qed 𝓛 (‵ (froom (block_type (old - len)) b (o + len * s)) ∷ raw (room (new - old) b (o + old * s)) ∷ []) ∵
        use1 𝓛 (raw (room (old - len) b (o + len * s))) (𝓛.laws.raw-room (ty_array τ (old - len)) b (o + len * s)) $
        rewrite ! 1 (λ (d : ℕ). raw (room (new - old) b d)) at refl $
        use2 𝓛 (raw (room (new - len) b (o + len * s))) (glued E 𝓛 (old - len) (new - old) (new - len) b (o + len * s) (omega arith)) $ by ! (𝓛.laws.room-raw (ty_array τ (new - len)) b (o + len * s))
