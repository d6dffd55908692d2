-- `grow` takes the bytes above the block, where these are free, and else moves the values. Assumes `Logic`.
use Rattle.std.proofs.Common.{◌≡◌, ℕ, ◌+◌, ◌-◌, ◌*◌, ◌≤◌, ◌<◌, ◌^◌, true, false, List, [], ◌∷◌, ◌++◌, refl, sym, ap, subst, ◌∙◌, arith, lit<, w64, Ok}
use mir.Syntax.{Fn, Body, Args, a_type, ty_array, place as at_place}
use mir.Val.{Val, vint, vptr}
use mir.MapTy.{inst_fn}
use base.Fraction.{full_share}
use base.Logic.{SProp, ex, emp, id⊢, never, fst∗}
use base.Fml.{Lft, Share, ftrue, ffalse, fsep, fex, fwand, froom, flft}
use prog.Memory.{size, capped}
use prog.Wp.{Env, Wp, WpFn, after_seq, at_return}
use contract.BorrowLft.{◌⊑◌}
use contract.Monad.{fact, fact_i}
use contract.Running.{tables}
use types.Logic.{sem}
use types.Kit.{‵, raw, ◌⊛◌, some, later, prop, at_ret, any_q, Post as After, ◌$◌, ◌∵◌, !, qed, by, move, keep, drop, use0, use1, use2, split, split3, join, pick, rewrite, regoal, settles, group, fsplit, fsplit3, fjoin, fjoin3, fpick, fpack, feq_i, flt_i, await}
use types.Part.{whole, agg}
use types.Match.{vrt}
use types.Run.{stop, fld, lit, bin, size_word, of_opd, no_more, and_then, first, switches_on, exec, returns, enter}
use types.ByLocal.{alloc_all, pass_all, free_all, look_at, get, get_tag, sets, sets_last, lands_as, lands_last, is, env}
use denote.RattleType.{RattleType, owns}
use denote.RawPtr.{Ptr, block_ptr, null_ptr, ptr_val, lies_at, room_for, ◌+ₚ◌}
use denote.Array.{Array}
use denote.Opens.{shr_dup}
use denote.Param.{param, layout, layouts}
use denote.Signature.{types_at}
use denote.Steps.{nothing, heard}
use denote.Triple.Spec.{triple_of}
use denote.Triple.Call.{calls_at, calls_at_last}
use denote.Triple.Clauses.{Lasts, lasts}
use denote.Triple.Table.{framed}
use denote.Triple.Walked.{Stays, stay_dropped, walk_of, Goes-dropped}
use Rattle.std.proofs.alloc.Calls.{Answer, answer_val, Answer-typed, Answer-Ok}
use Rattle.std.proofs.alloc.Resizes.{Flagged, by_flag, flagged, result_of, result_own, times_capped, wider}
use Rattle.std.proofs.alloc.Shapes.{after, front, arm_body}
use Rattle.std.proofs.ptr.Rows.{El, add_times, times_below}
use Rattle.std.proofs.raw_atomic.Walks.{proved_at, leaves}
use Rattle.std.specs.Allocator.{array_of, block_with_items, resized_if_ok, FitsBlock}
use Rattle.ration.specs.Blocks.{Region, IsPiece, IsBlockFor, block_token, bytes_at}
use Rattle.ration.proofs.Above.{Told, Above, at_above, Above-goes, Above-gives, above}
use Rattle.ration.proofs.Arrays.{block_type, block_size, lengthened, filled}
use Rattle.ration.proofs.Taken.{Taken, even}
use Rattle.ration.proofs.Walks.{slot_at}
use Rattle.ration.specs.contracts.lent_block.LentBlock as heap
use Rattle.ration.proofs.lent_block.LentBlock.TheLaws as heap_laws
use Rattle.ration.proofs.lent_block.LentBlock.above.Met.{met as looks}
use Rattle.ration.specs.contracts.lent_block.LentBlock.moved as mover
use Rattle.ration.proofs.lent_block.LentBlock.moved.Met.{met as moves}
use Rattle.ration.specs.contracts.lent_block.LentBlockAllocator.grow.{ended, clauses}
use Rattle.ration.specs.contracts.lent_block.LentBlockAllocator.grow.Key.{name as #self}
use Rattle.ration.proofs.lent_block.LentBlockAllocator.grow.Statement.{statement}
use Rattle.ration.proofs.lent_block.LentBlockAllocator.grow.Code as compiled

pub grow_spec : {M : Type 1} → statement M
grow_spec 𝓤 𝓛 𝓜 𝓡 wired T LT =
    let H = 𝓛.H in
    let En₀ = ended T in
    let c = clauses T 𝓛 𝓜.mem 𝓡.returns in
    let args : Args = layouts (a_type ∷ []) (T, tt) in
    let fn : Fn = inst_fn args compiled.function in
    let stays : Stays En₀.signature.params En₀.kept = (stay_dropped (slot_at 0 En₀.signature.params) En₀.kept.0, (stay_dropped (slot_at 1 En₀.signature.params) En₀.kept.1.0, (stay_dropped (slot_at 2 En₀.signature.params) En₀.kept.1.1.0, (stay_dropped (slot_at 3 En₀.signature.params) En₀.kept.1.1.1.0, (stay_dropped (slot_at 4 En₀.signature.params) En₀.kept.1.1.1.1.0, tt))))) in
    let C = (tables 𝓤 H 𝓜 𝓡 𝓡.env).C in
    let Λ = (tables 𝓤 H 𝓜 𝓡 𝓡.env).Λ in
    proved_at 𝓛 En₀ stays c 𝓜 𝓡 (Goes-dropped 𝓛 2 (slot_at 0 En₀.signature.params) En₀.kept.0 (λ κs x f. refl), (Goes-dropped 𝓛 2 (slot_at 1 En₀.signature.params) En₀.kept.1.0 (λ κs x f. refl), (Goes-dropped 𝓛 2 (slot_at 2 En₀.signature.params) En₀.kept.1.1.0 (λ κs x f. refl), (Goes-dropped 𝓛 2 (slot_at 3 En₀.signature.params) En₀.kept.1.1.1.0 (λ κs x f. refl), (Goes-dropped 𝓛 2 (slot_at 4 En₀.signature.params) En₀.kept.1.1.1.1.0 (λ κs x f. refl), tt))))) (#self args) fn (compiled.unfolded 𝓤 H 𝓜 𝓡 wired (T, tt)) (λ z are.
    let Post : Val → SProp 𝓤 = (walk_of 𝓛 En₀ stays c).post z in
    let a = z.0.3 in
    let vss = z.0.4 in
    let κ : Lft = z.0.0.0 in
    let q : Share = z.0.1.0 in
    let κT : Lft = z.0.0.1.0 in
    let qT : Share = z.0.1.1.0 in
    let R : RattleType = param 0 T in
    let E : El = record { row = T; laws = LT } in
    let s = size (layout T) in
    let h = a.0.now in
    let at = a.0.ref_ptr in
    let r : Region = h.slot in
    let from = a.1.0 in
    let len = a.1.1.0 in
    let old = a.1.1.1.0 in
    let new = a.1.1.1.1.0 in
    let xs = z.1 in
    let me : Val = vptr at.0 at.1 in
    let InT : Type 0 = κT ⊑ T.lives in
    let Asked : Type 0 = (len ≤ old) × (old ≤ new) × FitsBlock R new in
    qed 𝓛 (((‵ (flft κ q) ⊛ ‵ (flft κT qT) ⊛ ‵ ftrue) ⊛ ‵ (owns (types_at En₀.signature.params z.0.0) a vss)) ∷ (raw (fact 𝓤 InT) ⊛ raw (fact 𝓤 Asked) ⊛ ‵ (block_with_items (block_token r) R from len old xs)) ∷ []) ∵
    move ! (1 ∷ []) $ split3 ! $ heard ! InT (λ inT. heard ! Asked (λ asked. fsplit3 ! $ move ! (2 ∷ []) $ fpick ! (λ place. fpick ! (λ is₀.
    -- [the way back; the values; the room after them; the tokens and parameters]
    let b = r.object in let o = place.0 in let n = place.1 in let p : Ptr = block_ptr b o in
    rewrite ! 0 (λ (u : Ptr). ‵ (fwand (room_for (array_of R old) u) (bytes_at u n))) is₀.0.0 refl $ rewrite ! 1 (λ (u : Ptr). ‵ (lies_at (Array R len) full_share u xs)) is₀.0.0 refl $
    rewrite ! 2 (λ (u : Ptr). ‵ (room_for (array_of R (old - len)) (u +ₚ len * s))) is₀.0.0 refl $
    move ! (3 ∷ []) $ split ! $ split3 ! $ move ! (3 ∷ []) $ fsplit ! $ fsplit ! $ keep ! (1 ∷ 3 ∷ 4 ∷ 6 ∷ 7 ∷ 8 ∷ []) $
    -- [the `&`; its token; T's token; the way back; the values; the room after them]
    let fl = are.1.1.0.1 in let fo = are.1.1.1.0.1 in let fn' = are.1.1.1.1.0.1 in
    let within = asked.0 in let more = asked.1 in let room = asked.2 in
    let fits' : old * s < 2 ^ 63 = times_below old new s (2 ^ 63) more room in
    let word : ℕ → Val = vint w64 in
    let times : (k : ℕ) → k * s < 2 ^ 63 → word (k * capped s) ≡ word (k * s) = λ k f. ap word (times_capped k s f) in
    let fits : (k : ℕ) → k * s < 2 ^ 63 → k * capped s < 2 ^ 64 = λ k f. subst (λ (j : ℕ). j < 2 ^ 64) (sym (times_capped k s f)) (wider (k * s) f) in
    let low = is₀.0.1 in let high = is₀.0.2 in let top = is₀.0.3 in let enough = is₀.1 in
    let sum : new * s ≡ old * s + (new - old) * s = ap (λ (k : ℕ). k * s) (omega arith) ∙ add_times old (new - old) s in
    let placed : IsPiece r p o (old * s) = (refl, low, omega (arith, block_size E old), top) in
    let rises : old * s ≤ new * s = omega (arith, sum) in
    regoal ! (λ (us : List Val). prop (WpFn 𝓤 H C Λ fn us Post)) (λ i. are.0.0 i ++ ((are.1.0 ∙ ap (λ (u : Ptr). ptr_val u ∷ []) is₀.0.0) i ++ (are.1.1.0.0 i ++ (are.1.1.1.0.0 i ++ (are.1.1.1.1.0.0 i ++ []))))) refl $
    enter ! C Λ fn (me ∷ vptr b o ∷ vint w64 len ∷ vint w64 old ∷ vint w64 new ∷ []) Post $
    alloc_all ! (λ l. pass_all ! refl ((tt, tt), ((tt, tt), ((tt, record { fits = fl }), ((tt, record { fits = fo }), ((tt, record { fits = fn' }), tt))))) $ let En : Env 𝓤 𝓛.H = env fn.locals l in
    let Then : After 𝓤 H = any_q (after_seq 𝓤 H (Wp 𝓤 H C Λ En (after 5 fn.body) (at_return 𝓤 H En Post)) (at_return 𝓤 H En Post)) in
    let both : Body = front (after 4 fn.body) in
    sets ! (is ! (bin ! (get ! refl) (size_word !) (record { fits = fits old fits' })) (times old fits')) refl (tt, record { fits = wider (old * s) fits' }) $
    sets ! (is ! (bin ! (get ! refl) (size_word !) (record { fits = fits new room })) (times new room)) refl (tt, record { fits = wider (new * s) room }) $
    sets ! (of_opd ! (get ! refl)) refl (tt, tt) $
    shr_dup ! heap.the_row heap_laws.the_row_laws.shr_laws h at.0 at.1 κ $ move ! (1 ∷ 2 ∷ []) $
    let y = at_above 𝓛 𝓜.mem 𝓡.returns κ q at h b o (old * s) (new * s) in
    use2 𝓛 (raw ((Above 𝓛 𝓜.mem 𝓡.returns).pre y)) (Above-goes 𝓛 𝓜.mem 𝓡.returns κ q at h b o (old * s) (new * s) placed (rises, room) (wider (old * s) fits') (wider (new * s) room)) $
    calls_at ! (framed 𝓤 𝓛.H 𝓜 (tables 𝓤 𝓛.H 𝓜 𝓡 𝓡.env)) (Above 𝓛 𝓜.mem 𝓡.returns) (looks 𝓤 𝓛 𝓜 𝓡 (compiled.calls-ration::lent_block::LentBlock::above 𝓡.env wired)) y (and_then ! (get ! refl) (and_then ! (get ! refl) (and_then ! (get ! refl) (and_then ! (get ! refl) (no_more !))))) (λ v.
    use1 𝓛 (later (some (λ (x : Taken.Denot). ‵ (Taken.own_val x (v ∷ [])) ⊛ raw (fact 𝓤 (Told r o (old * s) (new * s) x)) ⊛ ‵ (flft κ q)))) (Above-gives 𝓛 𝓜.mem 𝓡.returns κ q at h b o (old * s) (new * s) v) $ await ! tt $ pick ! (λ x. split3 ! $
    move ! (1 ∷ []) $ heard ! (Told r o (old * s) (new * s) x) (λ told.
    above ! r o (old * s) (new * s) x v told
    (λ extra here tight even' small e.
    -- [the bytes above; the `&`'s token; the `&`; T's token; the way back; the values; the room after them]
    let n' = old * s + extra in let high' = here.2 in
    let all : IsBlockFor r (array_of R new) p o n' = ((refl, low, omega arith, top), omega (arith, block_size E new), omega (arith, block_size E new)) in
    move ! (4 ∷ 0 ∷ []) $
    use2 𝓛 (‵ (froom (ty_array (layout T) (new - old)) b (o + old * s)) ⊛ ‵ (fwand (froom (block_type E new) b o) (bytes_at p n'))) (lengthened E 𝓛 old new n extra b o more even' (omega (arith, block_size E old)) (omega (arith, even (new * s))) (omega (arith, sum))) $ split ! $
    lands_as ! e refl (tt, (record { fits = lit< tt }, ((tt, (record { fits = small }, tt)), tt))) $
    first ! $ switches_on ! (get_tag ! (vrt ! refl (fld ! refl (stop !))) (whole !)) $ exec ! C Λ En (arm_body 0 both) Then $
    sets_last ! (agg ! (and_then ! (lit ! tt) (and_then ! (get ! refl) (no_more !)))) refl (Answer-typed true b o) $
    exec ! C Λ En (after 5 fn.body) (at_ret En Post) $ sets ! (of_opd ! (get ! refl)) refl (Answer-typed true b o) $ returns ! (look_at ! 0 refl) $ free_all ! refl $
    -- [room for more; the way back; the `&`'s token; the `&`; T's token; the values; the room after them]
    move ! (6 ∷ 0 ∷ []) $ use2 𝓛 (‵ (froom (block_type E (new - len)) b (o + len * s))) (filled E 𝓛 len old new b o within more) $ move ! (1 ∷ []) $
    fpack ! (IsBlockFor r (array_of R new) p o n') (λ _. fwand (room_for (array_of R new) p) (bytes_at p n')) all $
    fpack ! (ℕ × ℕ) (λ u. fex (IsBlockFor r (array_of R new) p u.0 u.1) (λ _. fwand (room_for (array_of R new) p) (bytes_at p u.1))) (o, n') $
    -- [the token; the room after the values; the `&`'s token; the `&`; T's token; the values]
    move ! (5 ∷ 1 ∷ 0 ∷ []) $ fjoin3 ! $ keep ! (0 ∷ 1 ∷ 3 ∷ []) $ nothing ! $ move ! (3 ∷ 0 ∷ []) $ join ! $ move ! (2 ∷ 0 ∷ []) $ join ! $ move ! (1 ∷ []) $
    use0 𝓛 (‵ (Answer.own_val (Ok p) (answer_val true b o ∷ []))) (Answer-Ok 𝓛 b o) $ nothing ! $ nothing ! $ fjoin ! $ nothing ! $ fjoin ! $ nothing ! $ fjoin ! $ nothing ! $ fjoin ! $ nothing ! $ fjoin ! $ move ! (3 ∷ 0 ∷ 1 ∷ 2 ∷ []) $
    by ! (leaves 𝓛 En₀ stays c z (answer_val true b o) (Ok p) (tt, (tt, (tt, (tt, (tt, tt))))) (tt, (tt, (tt, (tt, (tt, tt)))))))
    (λ e.
    -- [the `&`'s token; the `&`; T's token; the way back; the values; the room after them]
    lands_as ! e refl (tt, (record { fits = lit< tt }, tt)) $
    first ! $ switches_on ! (get_tag ! (vrt ! refl (fld ! refl (stop !))) (whole !)) $ exec ! C Λ En (arm_body 1 both) Then $
    let k = triple_of 𝓛 (mover.signature T) (mover.spec T 𝓛 𝓜.mem 𝓡.returns) in
    let w : k.Ghost = ((z.0.0, z.0.1, z.0.2, (record { ref_ptr = at; now = h }, (p, (len, (old, (new, tt))))), (me ∷ [], (vptr b o ∷ [], (vint w64 len ∷ [], (vint w64 old ∷ [], (vint w64 new ∷ [], tt)))))), xs) in
    let F = resized_if_ok (block_token r) R p len old new xs in
    move ! (3 ∷ []) $ fpack ! (IsBlockFor r (array_of R old) p o n) (λ _. fwand (room_for (array_of R old) p) (bytes_at p n)) ((refl, low, high, top), enough, is₀.2) $
    fpack ! (ℕ × ℕ) (λ u. fex (IsBlockFor r (array_of R old) p u.0 u.1) (λ _. fwand (room_for (array_of R old) p) (bytes_at p u.1))) (o, n) $
    move ! (4 ∷ 5 ∷ 0 ∷ []) $ fjoin3 ! $ use0 𝓛 (raw (fact 𝓤 Asked)) (fact_i 𝓤 Asked (emp 𝓤) asked) $ join ! $ use0 𝓛 (raw (fact 𝓤 InT)) (fact_i 𝓤 InT (emp 𝓤) inT) $ join ! $
    nothing ! $ flt_i ! new (2 ^ 64) fn' $ feq_i ! (List Val) (vint w64 new ∷ []) (vint w64 new ∷ []) refl $ fjoin ! $ fjoin ! $ flt_i ! old (2 ^ 64) fo $ feq_i ! (List Val) (vint w64 old ∷ []) (vint w64 old ∷ []) refl $ fjoin ! $ fjoin ! $
    flt_i ! len (2 ^ 64) fl $ feq_i ! (List Val) (vint w64 len ∷ []) (vint w64 len ∷ []) refl $ fjoin ! $ fjoin ! $ feq_i ! (List Val) (vptr b o ∷ []) (vptr b o ∷ []) refl $ fjoin ! $
    move ! (3 ∷ []) $ feq_i ! (List Val) (me ∷ []) (me ∷ []) refl $ fjoin ! $ move ! (0 ∷ 1 ∷ []) $ fjoin ! $
    nothing ! $ move ! (4 ∷ 0 ∷ []) $ join ! $ move ! (3 ∷ 0 ∷ []) $ join ! $ join ! $ join ! $ use1 𝓛 (raw (k.pre w)) (id⊢ 𝓤 _) $
    calls_at_last ! (framed 𝓤 𝓛.H 𝓜 (tables 𝓤 𝓛.H 𝓜 𝓡 𝓡.env)) k (moves 𝓤 𝓛 𝓜 𝓡 (compiled.calls-ration::lent_block::LentBlock::moved 𝓡.env wired) T LT) w (and_then ! (get ! refl) (and_then ! (get ! refl) (and_then ! (get ! refl) (and_then ! (get ! refl) (and_then ! (get ! refl) (no_more !)))))) (λ u.
    use1 𝓛 (later (some (λ (y : Answer.Denot). ((‵ (flft κ q) ⊛ ‵ (flft κT qT) ⊛ ‵ ftrue) ⊛ ‵ (Answer.own_val y (u ∷ []))) ⊛ some (λ (ls : Lasts (mover.ended T) z.0.0 w.0.3). ‵ (lasts (mover.ended T) z.0.0 w.0.3 ls) ⊛ ‵ (F y))))) (id⊢ 𝓤 (k.post w u)) $
    await ! tt $ pick ! (λ y. split ! $ move ! (1 ∷ []) $ pick ! (λ _. split ! $ drop ! $ move ! (1 ∷ []) $ split ! $ move ! (1 ∷ 2 ∷ []) $
    use2 𝓛 (raw (ex 𝓤 (Flagged 𝓛 F u))) (by_flag 𝓛 F (fst∗ 𝓤 (never 𝓤) (sem 𝓛 (fsep ffalse (block_token r (array_of R new) null_ptr)))) u y) $
    flagged ! u F
    (λ b' o' e'. regoal ! (λ (v' : Val). settles En (at_place 10 []) v' Then) e' refl $ lands_last ! refl (Answer-typed true b' o') $
    exec ! C Λ En (after 5 fn.body) (at_ret En Post) $ sets ! (of_opd ! (get ! refl)) refl (Answer-typed true b' o') $ returns ! (look_at ! 0 refl) $ free_all ! refl $
    move ! (1 ∷ []) $ split3 ! $ use0 𝓛 (‵ (Answer.own_val (result_of true b' o') (answer_val true b' o' ∷ []))) (result_own 𝓛 true b' o') $ move ! (4 ∷ 0 ∷ []) $ move ! (2 ∷ 3 ∷ 4 ∷ []) $ group ! 3 $
    nothing ! $ nothing ! $ fjoin ! $ nothing ! $ fjoin ! $ nothing ! $ fjoin ! $ nothing ! $ fjoin ! $ nothing ! $ fjoin ! $ move ! (1 ∷ 0 ∷ 3 ∷ 2 ∷ []) $
    by ! (leaves 𝓛 En₀ stays c z (answer_val true b' o') (result_of true b' o') (tt, (tt, (tt, (tt, (tt, tt))))) (tt, (tt, (tt, (tt, (tt, tt)))))))
    (λ e'. regoal ! (λ (v' : Val). settles En (at_place 10 []) v' Then) e' refl $ lands_last ! refl (Answer-typed false 0 0) $
    exec ! C Λ En (after 5 fn.body) (at_ret En Post) $ sets ! (of_opd ! (get ! refl)) refl (Answer-typed false 0 0) $ returns ! (look_at ! 0 refl) $ free_all ! refl $
    rewrite ! 0 (λ (v' : Ptr). ‵ (block_with_items (block_token r) R v' len old xs)) (sym is₀.0.0) refl $
    move ! (1 ∷ []) $ split3 ! $ use0 𝓛 (‵ (Answer.own_val (result_of false 0 0) (answer_val false 0 0 ∷ []))) (result_own 𝓛 false 0 0) $ move ! (4 ∷ 0 ∷ []) $ move ! (2 ∷ 3 ∷ 4 ∷ []) $ group ! 3 $
    nothing ! $ nothing ! $ fjoin ! $ nothing ! $ fjoin ! $ nothing ! $ fjoin ! $ nothing ! $ fjoin ! $ nothing ! $ fjoin ! $ move ! (1 ∷ 0 ∷ 3 ∷ 2 ∷ []) $
    by ! (leaves 𝓛 En₀ stays c z (answer_val false 0 0) (result_of false 0 0) (tt, (tt, (tt, (tt, (tt, tt))))) (tt, (tt, (tt, (tt, (tt, tt))))))))))))))))))))
