-- `shrink` answers the pointer that it was given: the room that is let go joins the way back to the bytes. Assumes `Logic`.
use Rattle.std.proofs.Common.{◌≡◌, ℕ, ◌+◌, ◌-◌, ◌*◌, ◌≤◌, true, List, [], ◌∷◌, ◌++◌, refl, ap, ◌∙◌, arith, lit<, w64, Ok}
use mir.Syntax.{Fn, Args, a_type}
use mir.Val.{Val, vint, vptr}
use mir.MapTy.{inst_fn}
use base.Fraction.{full_share}
use base.Logic.{SProp}
use base.Fml.{fex, fwand, froom}
use prog.Memory.{size}
use prog.Wp.{Env, WpFn}
use contract.BorrowLft.{◌⊑◌}
use contract.Monad.{fact}
use contract.Running.{tables}
use types.Logic.{sem}
use types.Kit.{‵, raw, ◌⊛◌, prop, ◌$◌, ◌∵◌, !, qed, by, move, keep, use0, use2, split, split3, rewrite, regoal, fsplit3, fjoin, fjoin3, fpick, fpack}
use types.Part.{agg}
use types.Run.{lit, no_more, and_then, returns, enter}
use types.ByLocal.{alloc_all, pass_all, free_all, look_at, get, sets, env}
use denote.RattleType.{RattleType, owns}
use denote.RawPtr.{Ptr, block_ptr, ptr_val, lies_at, room_for, ◌+ₚ◌}
use denote.Array.{Array}
use denote.Memory.{lone}
use denote.Param.{param, layouts}
use denote.Signature.{types_at}
use denote.Steps.{nothing, heard}
use denote.Triple.Entry.{alive}
use denote.Triple.Walked.{Stays, stay_dropped, walk_of, Goes-dropped}
use Rattle.std.proofs.alloc.Calls.{Answer, answer_val, Answer-Ok}
use Rattle.std.proofs.ptr.Rows.{El, add_times}
use Rattle.std.proofs.raw_atomic.Walks.{proved_at, leaves}
use Rattle.std.specs.Allocator.{array_of, block_with_items, FitsBlock}
use Rattle.ration.specs.Blocks.{Region, IsBlockFor, block_token, bytes_at}
use Rattle.ration.proofs.Arrays.{block_type, block_size, shortened}
use Rattle.ration.proofs.Walks.{slot_at}
use Rattle.ration.specs.contracts.lent_block.LentBlockAllocator.shrink.{ended, clauses}
use Rattle.ration.specs.contracts.lent_block.LentBlockAllocator.shrink.Key.{name as #self}
use Rattle.ration.proofs.lent_block.LentBlockAllocator.shrink.Statement.{statement}
use Rattle.ration.proofs.lent_block.LentBlockAllocator.shrink.Code as compiled

pub shrink_spec : {M : Type 1} → statement M
shrink_spec 𝓤 𝓛 𝓜 𝓡 wired T LT =
    let H = 𝓛.H in
    let En₀ = ended T in
    let c = clauses T 𝓛 𝓜.mem 𝓡.returns in
    let args : Args = layouts (a_type ∷ []) (T, tt) in
    let fn : Fn = inst_fn args compiled.function in
    let stays : Stays En₀.signature.params En₀.kept = (stay_dropped (slot_at 0 En₀.signature.params) En₀.kept.0, (stay_dropped (slot_at 1 En₀.signature.params) En₀.kept.1.0, (stay_dropped (slot_at 2 En₀.signature.params) En₀.kept.1.1.0, (stay_dropped (slot_at 3 En₀.signature.params) En₀.kept.1.1.1.0, (stay_dropped (slot_at 4 En₀.signature.params) En₀.kept.1.1.1.1.0, tt))))) in
    let C = (tables 𝓤 H 𝓜 𝓡 𝓡.env).C in
    let Λ = (tables 𝓤 H 𝓜 𝓡 𝓡.env).Λ in
    proved_at 𝓛 En₀ stays c 𝓜 𝓡 (Goes-dropped 𝓛 2 (slot_at 0 En₀.signature.params) En₀.kept.0 (λ κs x f. refl), (Goes-dropped 𝓛 2 (slot_at 1 En₀.signature.params) En₀.kept.1.0 (λ κs x f. refl), (Goes-dropped 𝓛 2 (slot_at 2 En₀.signature.params) En₀.kept.1.1.0 (λ κs x f. refl), (Goes-dropped 𝓛 2 (slot_at 3 En₀.signature.params) En₀.kept.1.1.1.0 (λ κs x f. refl), (Goes-dropped 𝓛 2 (slot_at 4 En₀.signature.params) En₀.kept.1.1.1.1.0 (λ κs x f. refl), tt))))) (#self args) fn (compiled.unfolded 𝓤 H 𝓜 𝓡 wired (T, tt)) (λ z are.
    let Post : Val → SProp 𝓤 = (walk_of 𝓛 En₀ stays c).post z in
    let a = z.0.3 in
    let vss = z.0.4 in
    let R : RattleType = param 0 T in
    let E : El = record { row = T; laws = LT } in
    let s = size (lone R.mir) in
    let r : Region = a.0.now.slot in
    let from = a.1.0 in
    let len = a.1.1.0 in
    let old = a.1.1.1.0 in
    let new = a.1.1.1.1.0 in
    let xs = z.1 in
    let me : Val = vptr a.0.ref_ptr.0 a.0.ref_ptr.1 in
    let InT : Type 0 = z.0.0.1.0 ⊑ T.lives in
    let Asked : Type 0 = (len ≤ new) × (new ≤ old) × FitsBlock R old in
    qed 𝓛 ((raw (alive 𝓛 En₀.signature z.0.0 z.0.1) ⊛ ‵ (owns (types_at En₀.signature.params z.0.0) a vss)) ∷ (raw (fact 𝓤 InT) ⊛ raw (fact 𝓤 Asked) ⊛ ‵ (block_with_items (block_token r) R from len old xs)) ∷ []) ∵
    move ! (1 ∷ []) $ split3 ! $ heard ! InT (λ inT. heard ! Asked (λ asked. fsplit3 ! $ move ! (2 ∷ []) $ fpick ! (λ place. fpick ! (λ is.
    -- [the way back; the values; the room after them; the tokens and parameters]
    let b = r.object in let o = place.0 in let n = place.1 in let p : Ptr = block_ptr b o in
    rewrite ! 0 (λ (u : Ptr). ‵ (fwand (room_for (array_of R old) u) (bytes_at u n))) is.0.0 refl $ rewrite ! 1 (λ (u : Ptr). ‵ (lies_at (Array R len) full_share u xs)) is.0.0 refl $
    rewrite ! 2 (λ (u : Ptr). ‵ (room_for (array_of R (old - len)) (u +ₚ len * s))) is.0.0 refl $ move ! (2 ∷ 0 ∷ []) $
    use2 𝓛 (‵ (froom (block_type E (new - len)) b (o + len * s)) ⊛ ‵ (fwand (froom (block_type E new) b o) (bytes_at p n))) (shortened E 𝓛 len old new b o (sem 𝓛 (bytes_at p n)) asked.0 asked.1) $ split ! $ move ! (1 ∷ []) $
    let more : old * s ≡ new * s + (old - new) * s = ap (λ (k : ℕ). k * s) (let less : new ≤ old = asked.1 in omega arith) ∙ add_times new (old - new) s in
    let enough = is.1 in let short = is.2 in
    let is' : IsBlockFor r (array_of R new) p o n = ((refl, is.0.1, is.0.2, is.0.3), omega (arith, block_size E new, block_size E old), omega (arith, block_size E new, block_size E old)) in
    fpack ! (IsBlockFor r (array_of R new) p o n) (λ _. fwand (room_for (array_of R new) p) (bytes_at p n)) is' $
    fpack ! (ℕ × ℕ) (λ u. fex (IsBlockFor r (array_of R new) p u.0 u.1) (λ _. fwand (room_for (array_of R new) p) (bytes_at p u.1))) (o, n) $
    move ! (2 ∷ 1 ∷ 0 ∷ []) $ fjoin3 ! $ move ! (1 ∷ []) $ split ! $ keep ! (2 ∷ 0 ∷ []) $
    regoal ! (λ (us : List Val). prop (WpFn 𝓤 H C Λ fn us Post)) (λ i. are.0.0 i ++ ((are.1.0 ∙ ap (λ (u : Ptr). ptr_val u ∷ []) is.0.0) i ++ (are.1.1.0.0 i ++ (are.1.1.1.0.0 i ++ (are.1.1.1.1.0.0 i ++ []))))) refl $
    enter ! C Λ fn (me ∷ vptr b o ∷ vint w64 len ∷ vint w64 old ∷ vint w64 new ∷ []) Post $
    alloc_all ! (λ l. pass_all ! refl ((tt, tt), ((tt, tt), ((tt, record { fits = are.1.1.0.1 }), ((tt, record { fits = are.1.1.1.0.1 }), ((tt, record { fits = are.1.1.1.1.0.1 }), tt))))) $ let En : Env 𝓤 𝓛.H = env fn.locals l in
    sets ! (agg ! (and_then ! (lit ! tt) (and_then ! (get ! refl) (no_more !)))) refl (tt, (record { fits = lit< tt }, (tt, tt))) $
    returns ! (look_at ! 0 refl) $ free_all ! refl $
    use0 𝓛 (‵ (Answer.own_val (Ok p) (answer_val true b o ∷ []))) (Answer-Ok 𝓛 b o) $ nothing ! $ nothing ! $ fjoin ! $ nothing ! $ fjoin ! $ nothing ! $ fjoin ! $ nothing ! $ fjoin ! $ nothing ! $ fjoin ! $ move ! (3 ∷ 0 ∷ 1 ∷ 2 ∷ []) $
    by ! (leaves 𝓛 En₀ stays c z (answer_val true b o) (Ok p) (tt, (tt, (tt, (tt, (tt, tt))))) (tt, (tt, (tt, (tt, (tt, tt))))))))))))
