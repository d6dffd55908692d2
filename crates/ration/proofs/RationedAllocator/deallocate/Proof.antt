-- It counts the block as returned, and gives it back to the inner allocator. Assumes `Logic`.
use Rattle.std.proofs.Common.{◌≡◌, ℕ, ◌^◌, ◌<◌, List, [], ◌∷◌, refl, ap, w64, Bor}
use seplogic.Ra.Ura.{Ura}
use mir.Syntax.{Ty, Fn}
use mir.Val.{Val, vunit, vint, vptr}
use mir.MapTy.{inst_fn}
use base.Logic.{SProp, ent, never_e}
use base.Fml.{Lft, Share, ffalse, ftrue, fsep, flft, froom}
use prog.Memory.{size, align, capped}
use prog.Model.{Model}
use prog.Wp.{WpFn}
use types.Logic.{Logic}
use contract.BorrowLft.{◌⊑◌, ⊑_trans}
use contract.Monad.{fact}
use contract.Running.{Running, MachineTables, tables}
use denote.Exit.{yes}
use denote.RattleType.{owns}
use denote.Ref.{shr_vals}
use denote.Plain.{uint_vals, uint_Tells}
use denote.RawPtr.{Ptr, block_ptr, null_ptr, ptr_val, rawptr_vals, rawptr_Tells}
use denote.Signature.{Slot, plain, types_at}
use denote.Steps.{heard, nothing, only}
use denote.Builtin.{usize, unit, RawPtr}
use denote.Triple.Call.{calls_at}
use denote.Triple.Clauses.{Ended, Clauses}
use denote.Triple.Statement.{Contract, Triple}
use denote.Triple.Table.{framed}
use denote.Triple.Walked.{Stays, stay_dropped, walk_of, ends_at, Goes-dropped}
use types.Kit.{Item, ‵, raw, ◌⊛◌, given, later, ◌$◌, ◌∵◌, !, qed, by, move, keep, use1, split, split3, join, learn, fsplit, fjoin, feq_i, feq_l, suffices, await, done}
use types.Run.{stop, fld, addr, unit_lit, no_more, and_then, of_opd, returns, enter}
use types.ByLocal.{alloc_all, pass_all, free_all, look_at, get, through, sets, lands_as}
use Rattle.std.proofs.raw_atomic.Walks.{proved}
use Rattle.std.proofs.alloc.Calls.{Al, token, seen, gives_key, Gives, at_gives, Gives-goes, Gives-Gives}
use Rattle.ration.proofs.BookCalls.{self, args, inner_at, book_at, lent_book, parts, Notes, lends_book}
use Rattle.ration.proofs.takes_back.Symbol as takes_back
use Rattle.ration.proofs.takes_back.Met as takes_back_met
use Rattle.ration.specs.declared.Book.{Book}
use Rattle.ration.specs.contracts.Rationed as rationed
use Rattle.ration.specs.contracts.RationedAllocator.deallocate as F
use Rattle.ration.proofs.RationedAllocator.deallocate.Statement.{statement}
use Rattle.ration.proofs.RationedAllocator.deallocate.Code as code

module _ (Z : Al) where
  abbrev ended : Ended
  ended = F.ended Z.row Z.g Z.d Z.drops

  abbrev stayed : Stays ended.signature.params ended.kept
  stayed = (
    stay_dropped (self Z) yes,
    (
      stay_dropped (plain (λ _. RawPtr)) yes,
      (stay_dropped (plain (λ _. usize)) yes, (stay_dropped (plain (λ _. usize)) yes, tt)),
    ),
  )

  -- the function at the inner allocator
  abbrev here : Fn
  here = inst_fn (args Z) code.function

module _ (Z : Al) {M : Type 1} {𝓤 : Ura M} (𝓛 : Logic 𝓤) (𝓜 : Model 𝓤 𝓛.H) (𝓡 : Running 𝓤 𝓛.H 𝓜) where
  open 𝓛 use {H}

  abbrev 𝓣 : MachineTables 𝓤 H 𝓜
  𝓣 = tables 𝓤 H 𝓜 𝓡 𝓡.env

  abbrev gives : Contract 𝓤
  gives = Gives Z 𝓛 𝓜.mem 𝓡.returns

  abbrev held : Clauses 𝓤 (ended Z)
  held = F.clauses Z.row Z.g Z.d Z.drops 𝓛 𝓜.mem 𝓡.returns

  module _ (inner : Triple 𝓤 (𝓣.C (gives_key Z)) gives) (taking : Triple 𝓤 (𝓣.C takes_back.name) (Notes 𝓛 unit))
      (κ₁ κ₂ : Lft) (q₁ q₂ : Share) (inn : κ₁ ⊑ κ₂) (r : Bor (rationed.the_row Z.row).Denot) (n a : ℕ) (τ : Ty) where
    abbrev bound : Ptr → (walk_of 𝓛 (ended Z) (stayed Z) held).Ghost
    bound x = (
      (
        (κ₁, (κ₂, tt)),
        (q₁, (q₂, tt)),
        (inn, tt),
        (r, (x, (n, (a, tt)))),
        (shr_vals r, (rawptr_vals x, (vint w64 n ∷ [], (vint w64 a ∷ [], tt)))),
      ),
      τ,
    )

    abbrev vs : Ptr → List Val
    vs x = vptr r.ref_ptr.0 r.ref_ptr.1 ∷ ptr_val x ∷ vint w64 n ∷ vint w64 a ∷ []

    abbrev Post : Ptr → Val → SProp 𝓤
    Post x = (walk_of 𝓛 (ended Z) (stayed Z) held).post (bound x)

    -- the tokens and what the arguments own
    abbrev entry : Ptr → Item 𝓤
    entry x = (‵ (flft κ₁ q₁) ⊛ ‵ (flft κ₂ q₂) ⊛ ‵ ftrue) ⊛ ‵ (owns (types_at (ended Z).signature.params (bound x).0.0) (bound x).0.3 (bound x).0.4)

    -- the size and the alignment are those of the block's type
    abbrev Said : Type 0
    Said = (capped (size τ) ≡ n) × (capped (align τ) ≡ a)

    walk : n < 2 ^ 64 → a < 2 ^ 64 → (x : Ptr) → ent 𝓤 ((walk_of 𝓛 (ended Z) (stayed Z) held).pre (bound x))
        (WpFn 𝓤 H 𝓣.C 𝓣.Λ (here Z) (vs x) (Post x))
    walk fn fa null_ptr =
        qed 𝓛 (entry null_ptr ∷ (raw (fact 𝓤 (κ₂ ⊑ Z.row.lives)) ⊛ raw (fact 𝓤 Said) ⊛ ‵ (fsep ffalse (token Z r.now.inner τ null_ptr))) ∷ []) ∵
        move ! (1 ∷ []) $ split3 ! $ move ! (2 ∷ []) $ fsplit ! $ keep ! (0 ∷ []) $ by ! (never_e 𝓤 _)
    walk fn fa (block_ptr b o) =
        let h : Z.row.Denot = r.now.inner in
        let d : Book = r.now.book in
        let p : ℕ × ℕ = inner_at Z r.ref_ptr in
        let c : ℕ × ℕ = book_at Z r.ref_ptr in
        let x : Ptr = block_ptr b o in
        let fm = framed 𝓤 H 𝓜 𝓣 in
        let y : gives.Ghost = at_gives Z 𝓛 𝓜.mem 𝓡.returns κ₁ q₁ p h b o n a τ in
        qed 𝓛 (entry x ∷ (raw (fact 𝓤 (κ₂ ⊑ Z.row.lives)) ⊛ raw (fact 𝓤 Said) ⊛ ‵ (fsep (froom τ b o) (token Z h τ x))) ∷ []) ∵
        move ! (1 ∷ []) $ split3 ! $ heard ! (κ₂ ⊑ Z.row.lives) (λ le. heard ! Said (λ said. move ! (1 ∷ []) $
        split ! $ split ! $ move ! (2 ∷ []) $ fsplit ! $ fsplit ! $ move ! (1 ∷ []) $
        use1 𝓛 (‵ (lent_book κ₁ c d) ⊛ ‵ (seen Z κ₁ p h)) (parts Z 𝓛 κ₁ r.ref_ptr r.now) $ split ! $ keep ! (0 ∷ 4 ∷ 1 ∷ 5 ∷ 6 ∷ []) $
        -- [the book; the first token; the inner allocator; the second token; the block]
        enter ! 𝓣.C 𝓣.Λ (here Z) (vs x) _ $
        alloc_all ! (λ l. pass_all ! refl ((tt, tt), ((tt, tt), ((tt, record { fits = fn }), ((tt, record { fits = fa }), tt)))) $
        sets ! (addr ! (through ! refl (fld ! refl (stop !)))) refl (tt, tt) $
        lends_book unit ! fm taking κ₁ q₁ c d n fn (and_then ! (get ! refl) (and_then ! (get ! refl) (no_more !))) (λ u z. feq_l ! (λ eu.
        lands_as ! (ap only eu) refl (tt, tt) $ sets ! (addr ! (through ! refl (fld ! refl (stop !)))) refl (tt, tt) $
        -- [the first token; the inner allocator; the second token; the block]
        move ! (3 ∷ []) $ fsplit ! $ move ! (3 ∷ 2 ∷ []) $ join ! $ move ! (2 ∷ 0 ∷ []) $ join ! $ move ! (1 ∷ 0 ∷ []) $ join ! $
        use1 𝓛 (raw (gives.pre y)) (Gives-goes Z 𝓛 𝓜.mem 𝓡.returns κ₁ q₁ p h (⊑_trans κ₁ κ₂ Z.row.lives inn le) b o n a τ said.0 said.1 fn fa) $
        calls_at ! fm gives inner y
        (and_then ! (get ! refl) (and_then ! (get ! refl) (and_then ! (get ! refl) (and_then ! (get ! refl) (no_more !))))) (λ v.
        use1 𝓛 (later (given (v ≡ vunit) (‵ (flft κ₁ q₁)))) (Gives-Gives Z 𝓛 𝓜.mem 𝓡.returns κ₁ q₁ p h b o n a τ v) $ await ! tt $ learn ! (λ e.
        lands_as ! e refl (tt, tt) $ sets ! (of_opd ! (unit_lit !)) refl (tt, tt) $ returns ! (look_at ! 0 refl) $ free_all ! refl $
        suffices ! _ (ends_at 𝓛 (ended Z) (stayed Z) held (bound x) vunit tt (tt, (tt, (tt, (tt, tt)))) (tt, (tt, (tt, (tt, tt))))) $
        nothing ! $ feq_i ! (List Val) (vunit ∷ []) (vunit ∷ []) refl $ nothing ! $ nothing ! $ fjoin ! $ nothing ! $ fjoin ! $ nothing ! $ fjoin ! $
        nothing ! $ fjoin ! $ join ! $
        move ! (2 ∷ 3 ∷ []) $ join ! $ join ! $ done !)))))))

pub deallocate_spec : {M : Type 1} → statement M
deallocate_spec 𝓤 𝓛 𝓜 𝓡 wired Y L g d d' met _ =
    let Z : Al = record { row = Y; laws = L; g = g; d = d; drops = d' } in
    let goes = λ (s : Slot 2). Goes-dropped 𝓛 2 s yes in
    proved 𝓛 (ended Z) (stayed Z) (F.clauses Y g d d' 𝓛 𝓜.mem 𝓡.returns) 𝓜 𝓡 (
      goes (self Z) (λ κs x f. refl),
      (
        goes (plain (λ _. RawPtr)) (λ κs x f. refl),
        (goes (plain (λ _. usize)) (λ κs x f. refl), (goes (plain (λ _. usize)) (λ κs x f. refl), tt)),
      ),
    )
    (F.Key.name (args Z)) (here Z) (code.unfolded 𝓤 𝓛.H 𝓜 𝓡 wired (Y, tt) d d')
    (λ κs. (shr_vals, (rawptr_vals, (uint_vals w64, (uint_vals w64, tt)))))
    (λ κs. ((λ r vs s. s.0), (rawptr_Tells, (uint_Tells w64, (uint_Tells w64, tt)))))
    (λ κs qs bounds a τ are. walk Z 𝓛 𝓜 𝓡 (met.deallocate d') (takes_back_met.met 𝓤 𝓛 𝓜 𝓡 (code.calls-ration::takes_back 𝓡.env wired))
    κs.0 κs.1.0 qs.0 qs.1.0 bounds.0 a.0 a.1.1.0 a.1.1.1.0 τ are.1.1.0.1 are.1.1.1.0.1 a.1.0)
