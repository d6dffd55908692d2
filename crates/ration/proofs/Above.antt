-- `above` at a call, and the two cases of what it gave. Assumes `Logic`.
use Rattle.std.proofs.Common.{◌≡◌, ℕ, ◌+◌, ◌%◌, ◌^◌, ◌<◌, ◌≤◌, List, [], ◌∷◌, ◌++◌, IfSome, None, Some, refl, ap, subst, ◌∙◌, w64}
use seplogic.Ra.Ura.{Ura}
use mir.Val.{Val, vint, vptr, vcons, vnil, of_list}
use base.Logic.{SProp, ent, sep, ex, emp, id⊢}
use base.Fml.{Lft, Share, ftrue, fsep, flft}
use prog.Memory.{Memory}
use prog.Routine.{Routine}
use types.Logic.{Logic, sem}
use types.Kit.{Item, Goal, Seq, ‵, raw, ◌⊛◌, some, later, ◌$◌, ◌∵◌, !, qed, move, keep, drop, use0, use1, split, join, pick, rewrite, show, fsplit, fjoin, fpick, feq_l, feq_i, flt_i, await, updating, now as at_once, done}
use types.Match.{live}
use contract.Monad.{Fun, fact, fact_i}
use denote.RawPtr.{Ptr, block_ptr}
use denote.Shadow.{pure_l}
use denote.Steps.{only, nothing}
use denote.Triple.Spec.{triple_of}
use denote.Triple.Statement.{Contract}
use Rattle.ration.specs.Blocks.{Region, IsPiece, taken_by, bytes_at}
use Rattle.ration.specs.declared.lent_block.LentBlock.{LentBlock}
use Rattle.ration.specs.contracts.lent_block.LentBlock.above as AB
use Rattle.ration.proofs.Own.{seen}
use Rattle.ration.proofs.Taken.{Taken}
use Rattle.ration.proofs.Values.{sized_val, sized_own, sized_told}

abbrev pub Told : Region → ℕ → ℕ → ℕ → Taken.Denot → Type 0
Told r at old new x = IfSome x (λ w. (w.region ≡ r) × (w.at ≡ at + old) × (w.size + old ≡ taken_by new) × (old % 16 ≡ 0))

module _ {M : Type 1} {𝓤 : Ura M} (𝓛 : Logic 𝓤) (at_mem : Memory → SProp 𝓤) (run : Routine → Fun 𝓤) where
  open 𝓛 use {H, A}

  abbrev pub Above : Contract 𝓤
  Above = triple_of 𝓛 AB.signature (AB.spec 𝓛 at_mem run)

  module _ (κ : Lft) (q : Share) (p : ℕ × ℕ) (h : LentBlock) (b o old new : ℕ) where
    abbrev pub at_above : Above.Ghost
    at_above = (((κ, tt), (q, tt), tt, (record { ref_ptr = p; now = h }, (block_ptr b o, (old, (new, tt)))), (vptr p.0 p.1 ∷ [], (vptr b o ∷ [], (vint w64 old ∷ [], (vint w64 new ∷ [], tt))))), tt)

    abbrev Placed : Type 0
    Placed = IsPiece h.slot (block_ptr b o) o old

    abbrev Sizes : Type 0
    Sizes = (old ≤ new) × (new < 2 ^ 63)

    pub Above-goes : Placed → Sizes → old < 2 ^ 64 → new < 2 ^ 64 → ent 𝓤 (sep 𝓤 (sem 𝓛 (seen κ p h)) (A.lft κ q)) (Above.pre at_above)
    Above-goes placed sizes fo fn =
        qed 𝓛 (‵ (seen κ p h) ∷ ‵ (flft κ q) ∷ []) ∵
        use0 𝓛 (raw (fact 𝓤 Sizes)) (fact_i 𝓤 Sizes (emp 𝓤) sizes) $ use0 𝓛 (raw (fact 𝓤 Placed)) (fact_i 𝓤 Placed (emp 𝓤) placed) $ join ! $
        nothing ! $ flt_i ! new (2 ^ 64) fn $ feq_i ! (List Val) (vint w64 new ∷ []) (vint w64 new ∷ []) refl $ fjoin ! $ fjoin ! $
        flt_i ! old (2 ^ 64) fo $ feq_i ! (List Val) (vint w64 old ∷ []) (vint w64 old ∷ []) refl $ fjoin ! $ fjoin ! $ feq_i ! (List Val) (vptr b o ∷ []) (vptr b o ∷ []) refl $ fjoin ! $
        move ! (2 ∷ []) $ feq_i ! (List Val) (vptr p.0 p.1 ∷ []) (vptr p.0 p.1 ∷ []) refl $ fjoin ! $ move ! (0 ∷ 1 ∷ []) $ fjoin ! $
        nothing ! $ move ! (3 ∷ 0 ∷ []) $ join ! $ join ! $ done !

    -- what a caller has of it
    abbrev pub Gave : Val → Taken.Denot → SProp 𝓤
    Gave v x = sep 𝓤 (sem 𝓛 (Taken.own_val x (v ∷ []))) (sep 𝓤 (fact 𝓤 (Told h.slot o old new x)) (A.lft κ q))

    pub Above-gives : (v : Val) → ent 𝓤 (Above.post at_above v) (H.⇛ (ex 𝓤 (Gave v)))
    Above-gives v =
        qed 𝓛 (raw (Above.post at_above v) ∷ []) ∵ updating ! $
        use1 𝓛 (later (some (λ (x : Taken.Denot). ((‵ (flft κ q) ⊛ ‵ ftrue) ⊛ ‵ (Taken.own_val x (v ∷ [])))
        ⊛ some (λ (ws : Unit {0} × (Unit {0} × (Unit {0} × (Unit {0} × Unit {0})))). ‵ (fsep ftrue (fsep ftrue (fsep ftrue (fsep ftrue ftrue)))) ⊛ raw (fact 𝓤 (Told h.slot o old new x)))))) (id⊢ 𝓤 _) $ await ! tt $ pick ! (λ x.
        split ! $ move ! (1 ∷ []) $ pick ! (λ ws. split ! $ drop ! $ move ! (1 ∷ []) $ split ! $ split ! $ at_once ! $ show ! (Gave v) x $ keep ! (2 ∷ 3 ∷ 0 ∷ []) $ done !))

module _ {M : Type 1} {𝓤 : Ura M} {𝓛 : Logic 𝓤} {K : Type 0} {Γ : List (Item 𝓤)} {G : Goal 𝓤 𝓛.H} where
  pub above : K → (r : Region) (at old new : ℕ) (x : Taken.Denot) (v : Val) → Told r at old new x
      → ((more : ℕ) → IsPiece r (block_ptr r.object (at + old)) (at + old) more → more + old ≡ taken_by new → old % 16 ≡ 0 → more < 2 ^ 64
      → v ≡ live 1 (vcons (sized_val (block_ptr r.object (at + old)) more) vnil) → Seq K 𝓛 (‵ (bytes_at (block_ptr r.object (at + old)) more) ∷ Γ) G)
      → (v ≡ live 0 vnil → Seq K 𝓛 Γ G) → Seq K 𝓛 (‵ (Taken.own_val x (v ∷ [])) ∷ Γ) G
  above t r at old new None v told more none =
      fpick t (λ us. fsplit t $ feq_l t (λ is. fpick t (λ vss. fsplit t $ feq_l t (λ is'. drop t $ none (ap only is ∙ ap (λ (ws : List Val). live 0 (of_list ws)) is')))))
  above t r at old new (Some w) v told more none =
      fpick t (λ us. fsplit t $ feq_l t (λ is. fpick t (λ vss. fsplit t $ feq_l t (λ is'. fsplit t $ move t (1 ∷ []) $ drop t $ fsplit t $ pure_l t (sized_own w.ptr w.size vss.0) (λ s.
      let parts = sized_told w.ptr w.size vss.0 s in
      let lies : w.ptr ≡ block_ptr r.object (at + old) = w.placed.0 ∙ (λ i. block_ptr (told.0 i).object (told.1 i)) in
      let placed : IsPiece r (block_ptr r.object (at + old)) (at + old) w.size = subst (λ (u : Region × Ptr × ℕ). IsPiece u.0 u.1 u.2 w.size) (λ i. (told.0 i, lies i, told.1 i)) w.placed in
      rewrite t 0 (λ (u : Ptr). ‵ (bytes_at u w.size)) lies refl $
      more w.size placed told.2 told.3 parts.1
      (ap only is ∙ ap (λ (xs : List Val). live 1 (of_list xs)) (is' ∙ ap (λ (xs : List Val). xs ++ []) parts.0) ∙ (λ i. live 1 (vcons (sized_val (lies i) w.size) vnil))))))))
