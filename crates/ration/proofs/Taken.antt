-- The two cases of what `take` gave, and a block as room for a type. Assumes `Logic`.
use Rattle.std.proofs.Common.{◌≡◌, ℕ, ◌^◌, ◌<◌, ◌≤◌, ◌%◌, List, [], ◌∷◌, ◌++◌, IfSome, None, Some, refl, sym, ap, subst, ◌∙◌, arith}
use seplogic.Ra.Ura.{Ura}
use mir.Syntax.{Ty}
use mir.Val.{Val, vcons, vnil, of_list}
use base.Logic.{ent, sep}
use base.Fml.{fex, fwand, froom}
use prog.Memory.{size, align, capped}
use prog.Capped.{capped_is, capped_small}
use types.Logic.{Logic, sem}
use types.Kit.{Item, Goal, Seq, ‵, ◌⊛◌, ◌$◌, ◌∵◌, !, qed, move, drop, use1, split, frame, rewrite, fsplit, fpick, fpack, feq_l, done}
use types.Match.{live}
use denote.RattleType.{RattleType}
use denote.RawPtr.{Ptr, block_ptr}
use denote.Shadow.{pure_l}
use denote.Steps.{only}
use Rattle.std.specs.contracts.option.Option as option
use Rattle.ration.specs.Blocks.{Region, IsPiece, IsBlockFor, taken_by, bytes_at, block_token}
use Rattle.ration.specs.contracts.piece.Piece as piece
use Rattle.ration.proofs.Values.{sized_val, sized_own, sized_told}
use Rattle.ration.proofs.Bytes.{divides, retypes}

abbrev pub Taken : RattleType
Taken = option.the_row piece.the_row

abbrev pub Told : Region → ℕ → ℕ → Taken.Denot → Type 0
Told r n a x = IfSome x (λ b. (b.region ≡ r) × (b.size ≡ taken_by n) × (n < 2 ^ 63) × (a ≤ 16))

pub holds : (n : ℕ) → n ≤ taken_by n
holds n = omega arith

pub even : (n : ℕ) → taken_by n % 16 ≡ 0
even n = omega arith

pub hands_out : {M : Type 1} {𝓤 : Ura M} (𝓛 : Logic 𝓤) (r : Region) (τ : Ty) (at n a : ℕ) → capped (size τ) ≡ n → capped (align τ) ≡ a → IsPiece r (block_ptr r.object at) at (taken_by n) → n < 2 ^ 63 → a ≤ 16
    → ent 𝓤 (sem 𝓛 (bytes_at (block_ptr r.object at) (taken_by n))) (sep 𝓤 (𝓛.H.room τ r.object at) (sem 𝓛 (block_token r τ (block_ptr r.object at))))
hands_out {𝓤 = 𝓤} 𝓛 r τ at n a sized aligned placed small slim =
    let p : Ptr = block_ptr r.object at in
    let short : size τ < 2 ^ 63 = capped_small (size τ) (omega arith) in
    let same : n ≡ size τ = sym sized ∙ capped_is (size τ) (omega arith) in
    let m = taken_by (size τ) in
    let here : IsPiece r p at m = subst (λ (k : ℕ). IsPiece r p at (taken_by k)) same placed in
    let is : IsBlockFor r τ p at m = (here, omega arith, short) in
    qed 𝓛 (‵ (bytes_at p (taken_by n)) ∷ []) ∵ rewrite ! 0 (λ (k : ℕ). ‵ (bytes_at p (taken_by k))) same refl $
    use1 𝓛 (‵ (froom τ r.object at) ⊛ ‵ (fwand (froom τ r.object at) (bytes_at p m)))
    (retypes 𝓛 r.object τ at m (even (size τ)) (holds (size τ)) (divides τ)) $ split ! $ frame ! $
    fpack ! (IsBlockFor r τ p at m) (λ _. fwand (froom τ r.object at) (bytes_at p m)) is $
    fpack ! (ℕ × ℕ) (λ s. fex (IsBlockFor r τ p s.0 s.1) (λ _. fwand (froom τ r.object at) (bytes_at p s.1))) (at, m) $ done !

module _ {M : Type 1} {𝓤 : Ura M} {𝓛 : Logic 𝓤} {K : Type 0} {Γ : List (Item 𝓤)} {G : Goal 𝓤 𝓛.H} where
  pub taken : K → (r : Region) (n a : ℕ) (x : Taken.Denot) (v : Val) → Told r n a x
      → ((at : ℕ) → IsPiece r (block_ptr r.object at) at (taken_by n) → taken_by n < 2 ^ 64 → n < 2 ^ 63 → a ≤ 16 → v ≡ live 1 (vcons (sized_val (block_ptr r.object at) (taken_by n)) vnil)
      → Seq K 𝓛 (‵ (bytes_at (block_ptr r.object at) (taken_by n)) ∷ Γ) G) → (v ≡ live 0 vnil → Seq K 𝓛 Γ G) → Seq K 𝓛 (‵ (Taken.own_val x (v ∷ [])) ∷ Γ) G
  taken t r n a None v told some none =
      fpick t (λ us. fsplit t $ feq_l t (λ is. fpick t (λ vss. fsplit t $ feq_l t (λ is'. drop t $ none (ap only is ∙ ap (λ (ws : List Val). live 0 (of_list ws)) is')))))
  taken t r n a (Some w) v told some none =
      fpick t (λ us. fsplit t $ feq_l t (λ is. fpick t (λ vss. fsplit t $ feq_l t (λ is'. fsplit t $ move t (1 ∷ []) $ drop t $ fsplit t $ pure_l t (sized_own w.ptr w.size vss.0) (λ s.
      let parts = sized_told w.ptr w.size vss.0 s in
      let lies : w.ptr ≡ block_ptr r.object w.at = w.placed.0 ∙ ap (λ (g : Region). block_ptr g.object w.at) told.0 in
      let placed : IsPiece r (block_ptr r.object w.at) w.at (taken_by n) = subst (λ (u : Region × Ptr × ℕ). IsPiece u.0 u.1 w.at u.2) (λ i. (told.0 i, lies i, told.1 i)) w.placed in
      rewrite t 0 (λ (u : Ptr × ℕ). ‵ (bytes_at u.0 u.1)) (λ i. (lies i, told.1 i)) refl $
      some w.at placed (subst (λ (k : ℕ). k < 2 ^ 64) told.1 parts.1) told.2 told.3
      (ap only is ∙ ap (λ (xs : List Val). live 1 (of_list xs)) (is' ∙ ap (λ (xs : List Val). xs ++ []) parts.0) ∙ (λ i. live 1 (vcons (sized_val (lies i) (told.1 i)) vnil))))))))
