-- `moved` takes a new block, copies the values, and gives the old one back. Assumes `Logic`.
use Rattle.std.proofs.Common.{◌≡◌, ℕ, ◌+◌, ◌-◌, ◌*◌, ◌≤◌, ◌<◌, ◌^◌, Bool, true, false, List, [], ◌∷◌, ◌++◌, refl, sym, ap, subst, ◌∙◌, arith, w64}
use lib.Dec.{T as Holds}
use mir.Syntax.{Ty, Fn, Body, Args, a_type, ty_array, ty_unit}
use mir.Val.{Val, vint, vptr, vunit, has_ty, WT}
use mir.MapTy.{inst_fn}
use mir.Raw.{raw as bare}
use base.Fraction.{full_share}
use base.Logic.{SProp, ent, ex, never, fst∗}
use base.Fml.{Lft, Share, ftrue, ffalse, fsep, froom, flft}
use prog.Capped.{capped_is, capped_fits}
use prog.RawLaws.{size-raw, align-raw}
use prog.Memory.{size, align, capped}
use prog.Wp.{Env, Wp, WpFn, after_seq, at_return}
use contract.BorrowLft.{◌⊑◌}
use contract.Monad.{fact}
use contract.Running.{tables}
use types.Logic.{sem}
use types.Kit.{‵, raw, ◌⊛◌, ⋆, later, given, prop, at_ret, any_q, Post as After, ◌$◌, ◌∵◌, !, qed, by, move, keep, use0, use1, use2, use3, split, split3, join, learn, rewrite, regoal, fsplit, fsplit3, fjoin, fjoin3, suffices, await, done}
use types.Part.{whole, agg}
use types.Match.{vrt, in_variant}
use types.Run.{stop, fld, lit, bin, size_word, align_word, of_opd, no_more, and_then, first, blocks, switches_on, exec, returns, enter}
use types.ByLocal.{alloc_all, pass_all, free_all, look_at, get, get_in, get_tag, sets, sets_last, lands_as, lands_last, is, env}
use denote.RattleType.{RattleType, owns}
use denote.RawPtr.{Ptr, null_ptr, ptr_val, in_a_block}
use denote.Array.{Array}
use denote.Memory.{part_at}
use denote.Opens.{shr_dup}
use denote.Param.{param, layout, layouts}
use denote.Signature.{types_at}
use denote.Steps.{nothing, heard}
use denote.Triple.Call.{calls_at, calls_at_last}
use denote.Triple.Table.{framed}
use denote.Triple.Walked.{Stays, stay_dropped, walk_of, ends_at, Goes-dropped}
use Rattle.std.proofs.alloc.Calls.{Answer, answer_val, Answer-typed}
use Rattle.std.proofs.alloc.Moves.{Copies, at_copies, Copies-goes, Copies-gives}
use Rattle.std.proofs.alloc.Resizes.{Flagged, flagged, result_of, result_own, times_capped, wider}
use Rattle.std.proofs.alloc.Shapes.{after, front, arm_body}
use Rattle.std.proofs.ptr.Rows.{El, room_split, glued, times_below}
use Rattle.std.proofs.ptr.copy_nonoverlapping.Met as copy_met
use Rattle.std.proofs.raw_atomic.Walks.{proved_at}
use Rattle.std.specs.Allocator.{array_of, block_with_items, resized_if_ok, FitsBlock}
use Rattle.ration.specs.Blocks.{Region, block_token}
use Rattle.ration.proofs.Own.{Takes, at_takes, block_of, Takes-goes, Takes-gives, Gives, at_gives, Gives-goes, Gives-gives}
use Rattle.ration.proofs.Walks.{slot_at}
use Rattle.ration.specs.contracts.lent_block.LentBlock as heap
use Rattle.ration.proofs.lent_block.LentBlock.TheLaws as heap_laws
use Rattle.ration.proofs.lent_block.LentBlockAllocator.allocate.Met.{met as takes}
use Rattle.ration.proofs.lent_block.LentBlockAllocator.deallocate.Met.{met as gives}
use Rattle.ration.specs.contracts.lent_block.LentBlock.moved.{ended, clauses}
use Rattle.ration.specs.contracts.lent_block.LentBlock.moved.Key.{name as #self}
use Rattle.ration.proofs.lent_block.LentBlock.moved.Statement.{statement}
use Rattle.ration.proofs.lent_block.LentBlock.moved.Code as compiled

pub moved_spec : {M : Type 1} → statement M
moved_spec 𝓤 𝓛 𝓜 𝓡 wired T LT =
    let H = 𝓛.H in
    let En₀ = ended T in
    let c = clauses T 𝓛 𝓜.mem 𝓡.returns in
    let args : Args = layouts (a_type ∷ []) (T, tt) in
    let fn : Fn = inst_fn args compiled.function in
    let stays : Stays En₀.signature.params En₀.kept = (stay_dropped (slot_at 0 En₀.signature.params) En₀.kept.0, (stay_dropped (slot_at 1 En₀.signature.params) En₀.kept.1.0, (stay_dropped (slot_at 2 En₀.signature.params) En₀.kept.1.1.0, (stay_dropped (slot_at 3 En₀.signature.params) En₀.kept.1.1.1.0, (stay_dropped (slot_at 4 En₀.signature.params) En₀.kept.1.1.1.1.0, tt))))) in
    let C = (tables 𝓤 H 𝓜 𝓡 𝓡.env).C in
    let Λ = (tables 𝓤 H 𝓜 𝓡 𝓡.env).Λ in
    proved_at 𝓛 En₀ stays c 𝓜 𝓡 (Goes-dropped 𝓛 2 (slot_at 0 En₀.signature.params) En₀.kept.0 (λ κs x f. refl), (Goes-dropped 𝓛 2 (slot_at 1 En₀.signature.params) En₀.kept.1.0 (λ κs x f. refl), (Goes-dropped 𝓛 2 (slot_at 2 En₀.signature.params) En₀.kept.1.1.0 (λ κs x f. refl), (Goes-dropped 𝓛 2 (slot_at 3 En₀.signature.params) En₀.kept.1.1.1.0 (λ κs x f. refl), (Goes-dropped 𝓛 2 (slot_at 4 En₀.signature.params) En₀.kept.1.1.1.1.0 (λ κs x f. refl), tt))))) (#self args) fn (compiled.unfolded 𝓤 H 𝓜 𝓡 wired (T, tt)) (λ z are.
    let Post : Val → SProp 𝓤 = (walk_of 𝓛 En₀ stays c).post z in
    let a = z.0.3 in
    let vss = z.0.4 in
    let κ : Lft = z.0.0.0 in
    let q : Share = z.0.1.0 in
    let κT : Lft = z.0.0.1.0 in
    let qT : Share = z.0.1.1.0 in
    let R : RattleType = param 0 T in
    let E : El = record { row = T; laws = LT } in
    let τ : Ty = layout T in
    let s = size τ in
    let al = capped (align τ) in
    let h = a.0.now in
    let at = a.0.ref_ptr in
    let r : Region = h.slot in
    let from = a.1.0 in
    let len = a.1.1.0 in
    let old = a.1.1.1.0 in
    let new = a.1.1.1.1.0 in
    let xs = z.1 in
    let me : Val = vptr at.0 at.1 in
    let InT : Type 0 = κT ⊑ T.lives in
    let Asked : Type 0 = (len ≤ old) × (old ≤ new) × FitsBlock R new in
    let exits : (y : Bool) (b o : ℕ) → ent 𝓤 (⋆ 𝓛 (‵ (resized_if_ok (block_token r) R from len old new xs (result_of y b o)) ∷ ‵ (flft κ q) ∷ ‵ (flft κT qT) ∷ [])) (Post (answer_val y b o)) =
    λ y b o. qed 𝓛 (‵ (resized_if_ok (block_token r) R from len old new xs (result_of y b o)) ∷ ‵ (flft κ q) ∷ ‵ (flft κT qT) ∷ []) ∵
    suffices ! _ (ends_at 𝓛 En₀ stays c z (answer_val y b o) (result_of y b o) (tt, (tt, (tt, (tt, (tt, tt))))) (tt, (tt, (tt, (tt, (tt, tt)))))) $
    use0 𝓛 (‵ (Answer.own_val (result_of y b o) (answer_val y b o ∷ []))) (result_own 𝓛 y b o) $
    nothing ! $ nothing ! $ fjoin ! $ nothing ! $ fjoin ! $ nothing ! $ fjoin ! $ nothing ! $ fjoin ! $ nothing ! $ fjoin ! $ join ! $
    nothing ! $ move ! (4 ∷ 0 ∷ []) $ join ! $ move ! (3 ∷ 0 ∷ []) $ join ! $ join ! $ done ! in
    qed 𝓛 (((‵ (flft κ q) ⊛ ‵ (flft κT qT) ⊛ ‵ ftrue) ⊛ ‵ (owns (types_at En₀.signature.params z.0.0) a vss)) ∷ (raw (fact 𝓤 InT) ⊛ raw (fact 𝓤 Asked) ⊛ ‵ (block_with_items (block_token r) R from len old xs)) ∷ []) ∵
    move ! (1 ∷ []) $ split3 ! $ heard ! InT (λ inT. heard ! Asked (λ asked.
    in_a_block ! from (λ (u : Ptr). block_with_items (block_token r) R u len old xs) (fst∗ 𝓤 (never 𝓤) (sem 𝓛 (fsep ffalse (block_token r (array_of R old) null_ptr)))) (λ b o lies.
    move ! (1 ∷ []) $ split ! $ split3 ! $ move ! (3 ∷ []) $ fsplit ! $ fsplit ! $ keep ! (1 ∷ 3 ∷ 6 ∷ 4 ∷ []) $
    -- [the `&`; its token; the block; T's token]
    let fl = are.1.1.0.1 in let fo = are.1.1.1.0.1 in let fn' = are.1.1.1.1.0.1 in
    let within = asked.0 in let more = asked.1 in let room = asked.2 in
    let short : len ≤ new = omega arith in
    let fits' : old * s < 2 ^ 63 = times_below old new s (2 ^ 63) more room in
    let laid : (k : ℕ) → k * s < 2 ^ 63 → capped (size (bare (ty_array τ k))) ≡ k * s = λ k f. ap capped (size-raw (ty_array τ k)) ∙ capped_is (k * s) (wider (k * s) f) in
    let word : ℕ → Val = vint w64 in
    let times : (k : ℕ) → k * s < 2 ^ 63 → word (k * capped s) ≡ word (k * s) = λ k f. ap word (times_capped k s f) in
    let fits : (k : ℕ) → k * s < 2 ^ 63 → k * capped s < 2 ^ 64 = λ k f. subst (λ (j : ℕ). j < 2 ^ 64) (sym (times_capped k s f)) (wider (k * s) f) in
    let τ' = bare (ty_array τ new) in
    let y = at_takes 𝓛 𝓜.mem 𝓡.returns κ q at h τ' (new * s) al in
    let y' = at_gives 𝓛 𝓜.mem 𝓡.returns κ q at h (bare (ty_array τ old)) (old * s) al b o in
    regoal ! (λ (us : List Val). prop (WpFn 𝓤 H C Λ fn us Post)) (λ i. are.0.0 i ++ ((are.1.0 ∙ ap (λ (u : Ptr). ptr_val u ∷ []) lies) i ++ (are.1.1.0.0 i ++ (are.1.1.1.0.0 i ++ (are.1.1.1.1.0.0 i ++ []))))) refl $
    enter ! C Λ fn (me ∷ vptr b o ∷ vint w64 len ∷ vint w64 old ∷ vint w64 new ∷ []) Post $
    alloc_all ! (λ l. pass_all ! refl ((tt, tt), ((tt, tt), ((tt, record { fits = fl }), ((tt, record { fits = fo }), ((tt, record { fits = fn' }), tt))))) $ let En : Env 𝓤 𝓛.H = env fn.locals l in
    let Then : After 𝓤 H = any_q (after_seq 𝓤 H (Wp 𝓤 H C Λ En (after 3 fn.body) (at_return 𝓤 H En Post)) (at_return 𝓤 H En Post)) in
    let both : Body = front (after 2 fn.body) in
    sets ! (is ! (bin ! (get ! refl) (size_word !) (record { fits = fits new room })) (times new room)) refl (tt, record { fits = wider (new * s) room }) $
    shr_dup ! heap.the_row heap_laws.the_row_laws.shr_laws h at.0 at.1 κ $ move ! (1 ∷ 2 ∷ []) $
    use2 𝓛 (raw ((Takes 𝓛 𝓜.mem 𝓡.returns).pre y)) (Takes-goes 𝓛 𝓜.mem 𝓡.returns κ q at h τ' (new * s) al (laid new room) (ap capped (align-raw τ)) (wider (new * s) room) (capped_fits (align τ))) $
    calls_at ! (framed 𝓤 𝓛.H 𝓜 (tables 𝓤 𝓛.H 𝓜 𝓡 𝓡.env)) (Takes 𝓛 𝓜.mem 𝓡.returns) (takes 𝓤 𝓛 𝓜 𝓡 (compiled.calls-ration::lent_block::LentBlockAllocator::allocate 𝓡.env wired)) y (and_then ! (get ! refl) (and_then ! (get ! refl) (and_then ! (align_word !) (no_more !)))) (λ v.
    use1 𝓛 (later (raw (ex 𝓤 (Flagged 𝓛 (block_of 𝓛 𝓜.mem 𝓡.returns κ q at h τ' (new * s) al) v)) ⊛ ‵ (flft κ q))) (Takes-gives 𝓛 𝓜.mem 𝓡.returns κ q at h τ' (new * s) al v) $ await ! tt $ split ! $
    flagged ! v (block_of 𝓛 𝓜.mem 𝓡.returns κ q at h τ' (new * s) al)
    (λ b' o' e. fsplit ! $ lands_as ! e refl (Answer-typed true b' o') $
    first ! $ switches_on ! (get_tag ! (vrt ! refl (fld ! refl (stop !))) (whole !)) $ exec ! C Λ En (arm_body 0 both) Then $
    sets ! (of_opd ! (get_in ! (vrt ! refl (fld ! refl (stop !))) (in_variant ! 0 0 refl refl (whole !)))) refl (tt, tt) $ sets ! (of_opd ! (get ! refl)) refl (tt, tt) $
    first ! $ blocks ! $
    use1 𝓛 (‵ (froom (ty_array τ new) b' o')) (𝓛.laws.raw-room (ty_array τ new) b' o') $
    use1 𝓛 (‵ (froom (ty_array τ len) b' o') ⊛ ‵ (froom (ty_array τ (new - len)) b' (o' + len * s))) (room_split E 𝓛 len new b' o' short) $ split ! $
    -- [room for the values; the rest; the new token; the `&`'s token; the `&`; the block; T's token]
    move ! (5 ∷ []) $ fsplit3 ! $ move ! (0 ∷ 3 ∷ 8 ∷ []) $
    use3 𝓛 (raw ((Copies T 𝓛 𝓜.mem 𝓡.returns).pre (at_copies T 𝓛 𝓜.mem 𝓡.returns κT qT b o b' o' len xs))) (Copies-goes T 𝓛 𝓜.mem 𝓡.returns κT qT b o b' o' len xs inT fl (times_below len new s (2 ^ 63) short room)) $
    calls_at ! (framed 𝓤 𝓛.H 𝓜 (tables 𝓤 𝓛.H 𝓜 𝓡 𝓡.env)) (Copies T 𝓛 𝓜.mem 𝓡.returns) (copy_met.met 𝓤 𝓛 𝓜 𝓡 (compiled.calls-std::ptr::copy_nonoverlapping 𝓡.env wired) T LT) (at_copies T 𝓛 𝓜.mem 𝓡.returns κT qT b o b' o' len xs) (and_then ! (get ! refl) (and_then ! (get ! refl) (and_then ! (get ! refl) (no_more !)))) (λ u.
    use1 𝓛 (later (given (u ≡ vunit) (‵ (part_at (Array R len) full_share xs b' o') ⊛ ‵ (froom (ty_array τ len) b o) ⊛ ‵ (flft κT qT)))) (Copies-gives T 𝓛 𝓜.mem 𝓡.returns κT qT b o b' o' len xs u) $ await ! tt $ learn ! (λ eu. split3 ! $
    lands_as ! eu refl (tt, tt) $ sets ! (of_opd ! (get ! refl)) refl (tt, tt) $
    sets ! (is ! (bin ! (get ! refl) (size_word !) (record { fits = fits old fits' })) (times old fits')) refl (tt, record { fits = wider (old * s) fits' }) $
    -- [the values; old room; T's token; the old rest; the old token; the rest; the new token; the `&`'s token; the `&`]
    move ! (3 ∷ []) $ use1 𝓛 (‵ (froom (ty_array τ (old - len)) b (o + len * s))) (𝓛.laws.raw-room (ty_array τ (old - len)) b (o + len * s)) $ move ! (2 ∷ 0 ∷ []) $
    use2 𝓛 (‵ (froom (ty_array τ old) b o)) (glued E 𝓛 len (old - len) old b o (omega arith)) $
    use1 𝓛 (‵ (froom (bare (ty_array τ old)) b o)) (𝓛.laws.room-raw (ty_array τ old) b o) $ move ! (0 ∷ 3 ∷ []) $ fjoin ! $ move ! (6 ∷ 5 ∷ 0 ∷ []) $
    use3 𝓛 (raw ((Gives 𝓛 𝓜.mem 𝓡.returns).pre y')) (Gives-goes 𝓛 𝓜.mem 𝓡.returns κ q at h (bare (ty_array τ old)) (old * s) al b o (laid old fits') (ap capped (align-raw τ)) (wider (old * s) fits') (capped_fits (align τ))) $
    calls_at_last ! (framed 𝓤 𝓛.H 𝓜 (tables 𝓤 𝓛.H 𝓜 𝓡 𝓡.env)) (Gives 𝓛 𝓜.mem 𝓡.returns) (gives 𝓤 𝓛 𝓜 𝓡 (compiled.calls-ration::lent_block::LentBlockAllocator::deallocate 𝓡.env wired)) y' (and_then ! (get ! refl) (and_then ! (get ! refl) (and_then ! (get ! refl) (and_then ! (align_word !) (no_more !))))) (λ w.
    use1 𝓛 (later (given (w ≡ vunit) (‵ (flft κ q)))) (Gives-gives 𝓛 𝓜.mem 𝓡.returns κ q at h (bare (ty_array τ old)) (old * s) al b o w) $ await ! tt $ learn ! (λ ew.
    lands_last ! refl (subst (λ (t : Val). Holds (has_ty ty_unit t) × WT t) (sym ew) (tt, tt)) $
    exec ! C Λ En (after 3 (arm_body 0 both)) Then $
    sets_last ! (agg ! (and_then ! (lit ! tt) (and_then ! (get ! refl) (no_more !)))) refl (Answer-typed true b' o') $
    exec ! C Λ En (after 3 fn.body) (at_ret En Post) $ sets ! (of_opd ! (get ! refl)) refl (Answer-typed true b' o') $ returns ! (look_at ! 0 refl) $ free_all ! refl $
    -- [the `&`'s token; the values; T's token; the rest; the new token]
    move ! (3 ∷ []) $ use1 𝓛 (‵ (froom (bare (ty_array τ (new - len))) b' (o' + len * s))) (𝓛.laws.room-raw (ty_array τ (new - len)) b' (o' + len * s)) $ move ! (2 ∷ 0 ∷ 4 ∷ []) $ fjoin3 ! $
    by ! (exits true b' o'))))))
    (λ e. lands_as ! e refl (Answer-typed false 0 0) $
    first ! $ switches_on ! (get_tag ! (vrt ! refl (fld ! refl (stop !))) (whole !)) $ exec ! C Λ En (arm_body 1 both) Then $
    sets ! (of_opd ! (get_in ! (vrt ! refl (fld ! refl (stop !))) (in_variant ! 1 0 refl refl (whole !)))) refl (tt, tt) $
    sets_last ! (agg ! (and_then ! (lit ! tt) (and_then ! (get ! refl) (no_more !)))) refl (Answer-typed false 0 0) $
    exec ! C Λ En (after 3 fn.body) (at_ret En Post) $ sets ! (of_opd ! (get ! refl)) refl (Answer-typed false 0 0) $ returns ! (look_at ! 0 refl) $ free_all ! refl $
    keep ! (3 ∷ 1 ∷ 4 ∷ []) $ rewrite ! 0 (λ (u : Ptr). ‵ (block_with_items (block_token r) R u len old xs)) (sym lies) refl $ by ! (exits false 0 0))))))))
