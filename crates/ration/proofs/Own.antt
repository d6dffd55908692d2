-- `allocate` and `deallocate` of the allocator itself at a call, with a `&` to it and a token of its lifetime. Assumes `Logic`.
use Rattle.std.proofs.Common.{◌≡◌, ℕ, ◌^◌, ◌<◌, List, [], ◌∷◌, refl, ap, w64}
use seplogic.Ra.Ura.{Ura}
use mir.Syntax.{Ty}
use mir.Val.{Val, vint, vptr, vunit}
use base.Logic.{SProp, ent, sep, ex, guard, emp, id⊢, fst∗, never}
use base.Fml.{Lft, Share, Fml, ftrue, fsep, froom, flft}
use prog.Memory.{Memory, size, align, capped}
use prog.Routine.{Routine}
use types.Logic.{Logic, sem}
use types.Kit.{‵, raw, ◌⊛◌, some, later, ◌$◌, ◌∵◌, !, qed, move, keep, drop, use0, use1, use2, split, join, pick, fjoin, feq_l, feq_i, flt_i, check, await, updating, now as at_once, done}
use contract.Monad.{Fun, fact, fact_i}
use denote.Builtin.{unit}
use denote.Memory.{hidden_shr}
use denote.RawPtr.{block_ptr, null_ptr}
use denote.Steps.{only, nothing}
use denote.Triple.Spec.{triple_of}
use denote.Triple.Statement.{Contract}
use Rattle.std.proofs.alloc.Calls.{Answer}
use Rattle.std.proofs.alloc.Resizes.{Flagged, by_flag}
use Rattle.std.specs.Allocator.{block_if_ok}
use Rattle.ration.specs.Blocks.{block_token}
use Rattle.ration.specs.declared.lent_block.LentBlock.{LentBlock}
use Rattle.ration.specs.contracts.lent_block.LentBlock as heap
use Rattle.ration.specs.contracts.lent_block.LentBlockAllocator.allocate as AL
use Rattle.ration.specs.contracts.lent_block.LentBlockAllocator.deallocate as DE

abbrev pub seen : Lft → ℕ × ℕ → LentBlock → Fml
seen κ p h = hidden_shr heap.the_row κ h p.0 p.1

module _ {M : Type 1} {𝓤 : Ura M} (𝓛 : Logic 𝓤) (at_mem : Memory → SProp 𝓤) (run : Routine → Fun 𝓤) where
  open 𝓛 use {H, A}

  abbrev pub Takes : Contract 𝓤
  Takes = triple_of 𝓛 AL.signature (AL.spec 𝓛 at_mem run)

  abbrev pub Gives : Contract 𝓤
  Gives = triple_of 𝓛 DE.signature (DE.spec 𝓛 at_mem run)

  module _ (κ : Lft) (q : Share) (p : ℕ × ℕ) (h : LentBlock) (τ : Ty) (n a : ℕ) where
    abbrev pub at_takes : Takes.Ghost
    at_takes = (((κ, tt), (q, tt), tt, (record { ref_ptr = p; now = h }, (n, (a, tt))), (vptr p.0 p.1 ∷ [], (vint w64 n ∷ [], (vint w64 a ∷ [], tt)))), τ)

    abbrev pub block_of : Answer.Denot → Fml
    block_of = block_if_ok (block_token h.slot) τ

    pub Takes-goes : capped (size τ) ≡ n → capped (align τ) ≡ a → n < 2 ^ 64 → a < 2 ^ 64 → ent 𝓤 (sep 𝓤 (sem 𝓛 (seen κ p h)) (A.lft κ q)) (Takes.pre at_takes)
    Takes-goes en ea fn fa =
        qed 𝓛 (‵ (seen κ p h) ∷ ‵ (flft κ q) ∷ []) ∵
        use0 𝓛 (raw (fact 𝓤 ((capped (size τ) ≡ n) × (capped (align τ) ≡ a)))) (fact_i 𝓤 ((capped (size τ) ≡ n) × (capped (align τ) ≡ a)) (emp 𝓤) (en, ea)) $
        nothing ! $ flt_i ! a (2 ^ 64) fa $ feq_i ! (List Val) (vint w64 a ∷ []) (vint w64 a ∷ []) refl $ fjoin ! $ fjoin ! $
        flt_i ! n (2 ^ 64) fn $ feq_i ! (List Val) (vint w64 n ∷ []) (vint w64 n ∷ []) refl $ fjoin ! $ fjoin ! $ move ! (2 ∷ []) $ feq_i ! (List Val) (vptr p.0 p.1 ∷ []) (vptr p.0 p.1 ∷ []) refl $ fjoin ! $ move ! (0 ∷ 1 ∷ []) $ fjoin ! $
        nothing ! $ move ! (3 ∷ 0 ∷ []) $ join ! $ join ! $ done !

    pub Takes-gives : (v : Val) → ent 𝓤 (Takes.post at_takes v) (H.⇛ (sep 𝓤 (ex 𝓤 (Flagged 𝓛 block_of v)) (A.lft κ q)))
    Takes-gives v =
        qed 𝓛 (raw (Takes.post at_takes v) ∷ []) ∵ updating ! $
        use1 𝓛 (later (some (λ (r : Answer.Denot). ((‵ (flft κ q) ⊛ ‵ ftrue) ⊛ ‵ (Answer.own_val r (v ∷ [])))
        ⊛ some (λ (ws : Unit {0} × (Unit {0} × (Unit {0} × Unit {0}))). ‵ (fsep ftrue (fsep ftrue (fsep ftrue ftrue))) ⊛ ‵ (block_of r))))) (id⊢ 𝓤 _) $ await ! tt $ pick ! (λ r.
        split ! $ move ! (1 ∷ []) $ pick ! (λ ws. split ! $ drop ! $ move ! (1 ∷ []) $ split ! $ split ! $ keep ! (2 ∷ 3 ∷ 0 ∷ []) $
        use2 𝓛 (raw (ex 𝓤 (Flagged 𝓛 block_of v))) (by_flag 𝓛 block_of (fst∗ 𝓤 (never 𝓤) (sem 𝓛 (block_token h.slot τ null_ptr))) v r) $ at_once ! $ done !))

    module _ (b o : ℕ) where
      abbrev pub at_gives : Gives.Ghost
      at_gives = (((κ, tt), (q, tt), tt, (record { ref_ptr = p; now = h }, (block_ptr b o, (n, (a, tt)))), (vptr p.0 p.1 ∷ [], (vptr b o ∷ [], (vint w64 n ∷ [], (vint w64 a ∷ [], tt))))), τ)

      pub Gives-goes : capped (size τ) ≡ n → capped (align τ) ≡ a → n < 2 ^ 64 → a < 2 ^ 64
          → ent 𝓤 (sep 𝓤 (sem 𝓛 (seen κ p h)) (sep 𝓤 (A.lft κ q) (sem 𝓛 (fsep (froom τ b o) (block_token h.slot τ (block_ptr b o)))))) (Gives.pre at_gives)
      Gives-goes en ea fn fa =
          qed 𝓛 (‵ (seen κ p h) ∷ ‵ (flft κ q) ∷ ‵ (fsep (froom τ b o) (block_token h.slot τ (block_ptr b o))) ∷ []) ∵ move ! (2 ∷ []) $
          use0 𝓛 (raw (fact 𝓤 ((capped (size τ) ≡ n) × (capped (align τ) ≡ a)))) (fact_i 𝓤 ((capped (size τ) ≡ n) × (capped (align τ) ≡ a)) (emp 𝓤) (en, ea)) $ join ! $
          nothing ! $ flt_i ! a (2 ^ 64) fa $ feq_i ! (List Val) (vint w64 a ∷ []) (vint w64 a ∷ []) refl $ fjoin ! $ fjoin ! $
          flt_i ! n (2 ^ 64) fn $ feq_i ! (List Val) (vint w64 n ∷ []) (vint w64 n ∷ []) refl $ fjoin ! $ fjoin ! $ feq_i ! (List Val) (vptr b o ∷ []) (vptr b o ∷ []) refl $ fjoin ! $
          move ! (2 ∷ []) $ feq_i ! (List Val) (vptr p.0 p.1 ∷ []) (vptr p.0 p.1 ∷ []) refl $ fjoin ! $ move ! (0 ∷ 1 ∷ []) $ fjoin ! $
          nothing ! $ move ! (3 ∷ 0 ∷ []) $ join ! $ join ! $ done !

      pub Gives-gives : (v : Val) → ent 𝓤 (Gives.post at_gives v) (H.⇛ (guard 𝓤 (v ≡ vunit) (A.lft κ q)))
      Gives-gives v =
          qed 𝓛 (raw (Gives.post at_gives v) ∷ []) ∵ updating ! $
          use1 𝓛 (later (some (λ (r : Unit {0}). ((‵ (flft κ q) ⊛ ‵ ftrue) ⊛ ‵ (unit.own_val r (v ∷ [])))
          ⊛ some (λ (ws : Unit {0} × (Unit {0} × (Unit {0} × (Unit {0} × Unit {0})))). ‵ (fsep ftrue (fsep ftrue (fsep ftrue (fsep ftrue ftrue)))) ⊛ ‵ ftrue)))) (id⊢ 𝓤 _) $ await ! tt $ pick ! (λ r.
          split ! $ split ! $ split ! $ move ! (2 ∷ []) $ feq_l ! (λ e. at_once ! $ check ! (ap only e) $ keep ! (0 ∷ []) $ done !))
