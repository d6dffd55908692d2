-- It refuses, or counts the block that the inner allocator answers. Assumes `Logic`.
use Rattle.std.proofs.Common.{◌≡◌, ℕ, ◌^◌, ◌<◌, Bool, true, false, List, [], ◌∷◌, refl, ap, w64, Bor}
use seplogic.Ra.Ura.{Ura}
use mir.Syntax.{Ty, Fn, Body}
use mir.Val.{Val, vint, vptr}
use mir.MapTy.{inst_fn}
use base.Logic.{SProp, ent}
use base.Fml.{Lft, Share, ftrue, flft}
use prog.Memory.{size, align, capped}
use prog.Model.{Model}
use prog.Wp.{Env, Wp, WpFn, after_seq, at_return}
use types.Logic.{Logic}
use contract.BorrowLft.{◌⊑◌, ⊑_trans}
use contract.Monad.{fact}
use contract.Running.{Running, MachineTables, tables}
use denote.Exit.{yes}
use denote.RattleType.{owns}
use denote.Ref.{shr_vals}
use denote.Opens.{shr_dup}
use denote.Plain.{uint_vals, uint_Tells}
use denote.Signature.{Slot, plain, types_at}
use denote.Steps.{heard, nothing, only}
use denote.Builtin.{usize, unit, bool}
use denote.Triple.Call.{calls_at}
use denote.Triple.Clauses.{Ended, Clauses}
use denote.Triple.Statement.{Contract, Triple}
use denote.Triple.Table.{framed}
use denote.Triple.Walked.{Stays, stay_dropped, walk_of, ends_at, Goes-dropped}
use types.Kit.{Item, ‵, raw, ◌⊛◌, ⋆, later, at_ret, any_q, Post as After, ◌$◌, ◌∵◌, !, qed, by, move, keep, use0, use1, use2, split, join, fsplit, fjoin, feq_l, suffices, await, done}
use types.Run.{stop, fld, addr, lit, no_more, and_then, of_opd, first, branches, skips, exec, switches_on, returns, returns_within, enter}
use types.Part.{whole, agg}
use types.Match.{vrt, in_variant}
use types.ByLocal.{alloc_all, pass_all, free_all, look_at, get, get_in, get_tag, through, sets, sets_last, lands_as, env}
use Rattle.std.specs.Allocator.{block_if_ok}
use Rattle.std.proofs.raw_atomic.Walks.{proved}
use Rattle.std.proofs.alloc.Shapes.{after, front, arm_body}
use Rattle.std.proofs.alloc.Resizes.{result_of, result_own}
use Rattle.std.proofs.alloc.Calls.{Al, token, seen, Answer, answer_val, Answer-typed, takes_key, Takes, at_takes, Answered, Takes-goes, Takes-gives, answers}
use Rattle.ration.proofs.BookCalls.{self, args, inner_at, book_at, lent_book, parts, Notes, lends_book}
use Rattle.ration.proofs.Book.TheLaws as book_laws
use Rattle.ration.proofs.refuses.Symbol as refuses
use Rattle.ration.proofs.refuses.Met as refuses_met
use Rattle.ration.proofs.hands_out.Symbol as hands_out
use Rattle.ration.proofs.hands_out.Met as hands_out_met
use Rattle.ration.specs.declared.Book.{Book}
use Rattle.ration.specs.contracts.Book as book
use Rattle.ration.specs.contracts.Rationed as rationed
use Rattle.ration.specs.contracts.RationedAllocator.allocate as F
use Rattle.ration.proofs.RationedAllocator.allocate.Statement.{statement}
use Rattle.ration.proofs.RationedAllocator.allocate.Code as code

module _ (Z : Al) where
  -- the function at the inner allocator
  abbrev here : Fn
  here = inst_fn (args Z) code.function

  abbrev ended : Ended
  ended = F.ended Z.row Z.g Z.d Z.drops

  abbrev stayed : Stays ended.signature.params ended.kept
  stayed = (stay_dropped (self Z) yes, (stay_dropped (plain (λ _. usize)) yes, (stay_dropped (plain (λ _. usize)) yes, tt)))

module _ (Z : Al) {M : Type 1} {𝓤 : Ura M} (𝓛 : Logic 𝓤) (𝓜 : Model 𝓤 𝓛.H) (𝓡 : Running 𝓤 𝓛.H 𝓜) where
  open 𝓛 use {H}

  abbrev 𝓣 : MachineTables 𝓤 H 𝓜
  𝓣 = tables 𝓤 H 𝓜 𝓡 𝓡.env

  abbrev takes : Contract 𝓤
  takes = Takes Z 𝓛 𝓜.mem 𝓡.returns

  abbrev held : Clauses 𝓤 (ended Z)
  held = F.clauses Z.row Z.g Z.d Z.drops 𝓛 𝓜.mem 𝓡.returns

  module _ (inner : Triple 𝓤 (𝓣.C (takes_key Z)) takes) (refusing : Triple 𝓤 (𝓣.C refuses.name) (Notes 𝓛 bool))
      (handing : Triple 𝓤 (𝓣.C hands_out.name) (Notes 𝓛 unit))
      (κ₁ κ₂ : Lft) (q₁ q₂ : Share) (inn : κ₁ ⊑ κ₂) (r : Bor (rationed.the_row Z.row).Denot) (n a : ℕ) (τ : Ty) where
    abbrev bound : (walk_of 𝓛 (ended Z) (stayed Z) held).Ghost
    bound = (((κ₁, (κ₂, tt)), (q₁, (q₂, tt)), (inn, tt), (r, (n, (a, tt))), (shr_vals r, (vint w64 n ∷ [], (vint w64 a ∷ [], tt)))), τ)

    abbrev vs : List Val
    vs = vptr r.ref_ptr.0 r.ref_ptr.1 ∷ vint w64 n ∷ vint w64 a ∷ []

    abbrev Post : Val → SProp 𝓤
    Post = (walk_of 𝓛 (ended Z) (stayed Z) held).post bound

    -- what is owned beside an answer: its block and the tokens
    abbrev left : Bool → ℕ → ℕ → List (Item 𝓤)
    left y b o = ‵ (block_if_ok (token Z r.now.inner) τ (result_of y b o)) ∷ ‵ (flft κ₁ q₁) ∷ (‵ (flft κ₂ q₂) ⊛ ‵ ftrue) ∷ []

    -- that and the answer meet the contract
    exits : (y : Bool) (b o : ℕ) → ent 𝓤 (⋆ 𝓛 (left y b o)) (Post (answer_val y b o))
    exits y b o =
        qed 𝓛 (left y b o) ∵
        suffices ! _ (ends_at 𝓛 (ended Z) (stayed Z) held bound (answer_val y b o) (result_of y b o) (tt, (tt, (tt, tt))) (tt, (tt, (tt, tt)))) $
        use0 𝓛 (‵ (Answer.own_val (result_of y b o) (answer_val y b o ∷ []))) (result_own 𝓛 y b o) $ nothing ! $ nothing ! $ fjoin ! $ nothing ! $
        fjoin ! $ nothing ! $ fjoin ! $ join ! $
        move ! (2 ∷ 3 ∷ []) $ join ! $ join ! $ done !

    walk : n < 2 ^ 64 → a < 2 ^ 64 → ent 𝓤 ((walk_of 𝓛 (ended Z) (stayed Z) held).pre bound) (WpFn 𝓤 H 𝓣.C 𝓣.Λ (here Z) vs Post)
    walk fn fa =
        let h : Z.row.Denot = r.now.inner in
        let d : Book = r.now.book in
        let p : ℕ × ℕ = inner_at Z r.ref_ptr in
        let c : ℕ × ℕ = book_at Z r.ref_ptr in
        let fm = framed 𝓤 H 𝓜 𝓣 in
        let y : takes.Ghost = at_takes Z 𝓛 𝓜.mem 𝓡.returns κ₁ q₁ p h n a τ in
        let Said : Type 0 = (capped (size τ) ≡ n) × (capped (align τ) ≡ a) in
        qed 𝓛 (((‵ (flft κ₁ q₁) ⊛ ‵ (flft κ₂ q₂) ⊛ ‵ ftrue) ⊛ ‵ (owns (types_at (ended Z).signature.params bound.0.0) bound.0.3 bound.0.4)) ∷
        (raw (fact 𝓤 (κ₂ ⊑ Z.row.lives)) ⊛ raw (fact 𝓤 Said)) ∷ []) ∵
        move ! (1 ∷ []) $ split ! $ heard ! (κ₂ ⊑ Z.row.lives) (λ le. heard ! Said (λ said.
        split ! $ split ! $ move ! (2 ∷ []) $ fsplit ! $ fsplit ! $ move ! (1 ∷ []) $
        use1 𝓛 (‵ (lent_book κ₁ c d) ⊛ ‵ (seen Z κ₁ p h)) (parts Z 𝓛 κ₁ r.ref_ptr r.now) $ split ! $ keep ! (0 ∷ 4 ∷ 1 ∷ 5 ∷ []) $
        -- [the book; the first token; the inner allocator; the second token]
        enter ! 𝓣.C 𝓣.Λ (here Z) vs _ $ alloc_all ! (λ l. pass_all ! refl ((tt, tt), ((tt, record { fits = fn }), ((tt, record { fits = fa }), tt))) $
        let En : Env 𝓤 H = env (here Z).locals l in
        sets ! (addr ! (through ! refl (fld ! refl (stop !)))) refl (tt, tt) $
        shr_dup ! book.the_row book_laws.the_row_laws.shr_laws d c.0 c.1 κ₁ $ move ! (1 ∷ 2 ∷ []) $
        lends_book bool ! fm refusing κ₁ q₁ c d n fn (and_then ! (get ! refl) (and_then ! (get ! refl) (no_more !))) (λ u b. feq_l ! (λ eb.
        lands_as ! (ap only eb) refl (tt, tt) $
        first ! $ branches ! (get ! refl)
        (λ refused. sets ! (agg ! (no_more !)) refl (tt, tt) $
        sets ! (agg ! (and_then ! (lit ! tt) (and_then ! (get ! refl) (no_more !)))) refl (Answer-typed false 0 0) $
        returns_within ! Post refl (look_at ! 0 refl) $ free_all ! refl $ nothing ! $ keep ! (0 ∷ 1 ∷ 4 ∷ []) $ by ! (exits false 0 0))
        (λ passed. skips ! $ exec ! 𝓣.C 𝓣.Λ En (after 3 (here Z).body) (at_ret En Post) $
        sets ! (addr ! (through ! refl (fld ! refl (stop !)))) refl (tt, tt) $ move ! (2 ∷ 0 ∷ []) $
        use2 𝓛 (raw (takes.pre y)) (Takes-goes Z 𝓛 𝓜.mem 𝓡.returns κ₁ q₁ p h (⊑_trans κ₁ κ₂ Z.row.lives inn le) n a τ said.0 said.1 fn fa) $
        calls_at ! fm takes inner y (and_then ! (get ! refl) (and_then ! (get ! refl) (and_then ! (get ! refl) (no_more !)))) (λ v.
        use1 𝓛 (later (raw (Answered Z 𝓛 𝓜.mem 𝓡.returns h τ v) ⊛ ‵ (flft κ₁ q₁))) (Takes-gives Z 𝓛 𝓜.mem 𝓡.returns κ₁ q₁ p h n a τ v) $ await ! tt $
        split ! $
        let Then : After 𝓤 H = any_q (after_seq 𝓤 H (Wp 𝓤 H 𝓣.C 𝓣.Λ En (after 6 (here Z).body) (at_return 𝓤 H En Post)) (at_return 𝓤 H En Post)) in
        let both : Body = front (after 5 (here Z).body) in
        answers Z ! 𝓜.mem 𝓡.returns h τ v
        (λ m o e. lands_as ! e refl (Answer-typed true m o) $ first ! $ switches_on ! (get_tag ! (vrt ! refl (fld ! refl (stop !))) (whole !)) $
        exec ! 𝓣.C 𝓣.Λ En (arm_body 0 both) Then $
        sets ! (of_opd ! (get_in ! (vrt ! refl (fld ! refl (stop !))) (in_variant ! 0 0 refl refl (whole !)))) refl (tt, tt) $
        sets ! (addr ! (through ! refl (fld ! refl (stop !)))) refl (tt, tt) $
        fjoin ! $ move ! (2 ∷ 1 ∷ []) $ lends_book unit ! fm handing κ₁ q₁ c d n fn (and_then ! (get ! refl) (and_then ! (get ! refl) (no_more !))) (λ w x. feq_l ! (λ ew.
        lands_as ! (ap only ew) refl (tt, tt) $
        sets_last ! (agg ! (and_then ! (lit ! tt) (and_then ! (get ! refl) (no_more !)))) refl (Answer-typed true m o) $
        exec ! 𝓣.C 𝓣.Λ En (after 6 (here Z).body) (at_ret En Post) $ sets ! (of_opd ! (get ! refl)) refl (Answer-typed true m o) $
        returns ! (look_at ! 0 refl) $ free_all ! refl $
        keep ! (1 ∷ 0 ∷ 2 ∷ []) $ by ! (exits true m o))))
        (λ e. lands_as ! e refl (Answer-typed false 0 0) $ first ! $ switches_on ! (get_tag ! (vrt ! refl (fld ! refl (stop !))) (whole !)) $
        exec ! 𝓣.C 𝓣.Λ En (arm_body 1 both) Then $
        sets ! (of_opd ! (get_in ! (vrt ! refl (fld ! refl (stop !))) (in_variant ! 1 0 refl refl (whole !)))) refl (tt, tt) $
        sets_last ! (agg ! (and_then ! (lit ! tt) (and_then ! (get ! refl) (no_more !)))) refl (Answer-typed false 0 0) $
        exec ! 𝓣.C 𝓣.Λ En (after 6 (here Z).body) (at_ret En Post) $ sets ! (of_opd ! (get ! refl)) refl (Answer-typed false 0 0) $
        returns ! (look_at ! 0 refl) $ free_all ! refl $
        nothing ! $ keep ! (0 ∷ 1 ∷ 3 ∷ []) $ by ! (exits false 0 0)))))))))

pub allocate_spec : {M : Type 1} → statement M
allocate_spec 𝓤 𝓛 𝓜 𝓡 wired Y L g d d' met _ =
    let Z : Al = record { row = Y; laws = L; g = g; d = d; drops = d' } in
    let goes = λ (s : Slot 2). Goes-dropped 𝓛 2 s yes in
    proved 𝓛 (ended Z) (stayed Z) (F.clauses Y g d d' 𝓛 𝓜.mem 𝓡.returns) 𝓜 𝓡
    (goes (self Z) (λ κs x f. refl), (goes (plain (λ _. usize)) (λ κs x f. refl), (goes (plain (λ _. usize)) (λ κs x f. refl), tt)))
    (F.Key.name (args Z)) (here Z) (code.unfolded 𝓤 𝓛.H 𝓜 𝓡 wired (Y, tt) d d')
    (λ κs. (shr_vals, (uint_vals w64, (uint_vals w64, tt)))) (λ κs. ((λ r vs s. s.0), (uint_Tells w64, (uint_Tells w64, tt))))
    (λ κs qs bounds a τ are. walk Z 𝓛 𝓜 𝓡 (met.allocate d') (refuses_met.met 𝓤 𝓛 𝓜 𝓡 (code.calls-ration::refuses 𝓡.env wired))
    (hands_out_met.met 𝓤 𝓛 𝓜 𝓡 (code.calls-ration::hands_out 𝓡.env wired))
    κs.0 κs.1.0 qs.0 qs.1.0 bounds.0 a.0 a.1.0 a.1.1.0 τ are.1.0.1 are.1.1.0.1)
