-- `joined` glues the bytes where the first end at the second. Assumes `Logic`.
use Rattle.std.proofs.Common.{◌≡◌, ◌+◌, ◌%◌, ◌^◌, ◌<◌, ◌≤◌, ℕ, List, [], ◌∷◌, ◌++◌, refl, sym, ap, subst, ◌∙◌, arith, w64, eqb→eq}
use mir.Syntax.{Fn}
use mir.Val.{Val, vint}
use base.Logic.{SProp, emp}
use prog.Wp.{Env, WpFn}
use contract.Monad.{fact, fact_i}
use contract.Running.{tables}
use types.Kit.{‵, raw, ◌⊛◌, prop, at_ret, ◌$◌, ◌∵◌, !, qed, by, move, drop, use0, use2, split, join, rewrite, regoal, fsplit, fjoin, feq_i, flt_i}
use types.Part.{whole, sub, agg}
use types.Run.{stop, fld, bin, of_opd, no_more, and_then, first, blocks, skips, branches, exec, returns, returns_within, enter}
use types.ByLocal.{alloc_all, pass_all, free_all, look_at, get, get_in, sets, sets_last, env}
use denote.RattleType.{owns}
use denote.RawPtr.{Ptr, block_ptr, tests_same}
use denote.Builtin.{usize}
use denote.Signature.{types_at}
use denote.Steps.{nothing, heard}
use denote.Struct.Tuple.{Tuple}
use denote.Triple.Entry.{alive}
use denote.Triple.Walked.{Stays, stay_dropped, walk_of}
use Rattle.std.proofs.alloc.Calls.{Goes-blank}
use Rattle.std.proofs.alloc.Shapes.{after, head, inside}
use Rattle.std.proofs.raw_atomic.Walks.{proved_at, leaves}
use Rattle.ration.proofs.Bytes.{glues}
use Rattle.ration.proofs.Values.{pair_of, pair_val, sized_val, sized_own, sized_told, sized_made}
use Rattle.ration.proofs.Walks.{slot_at, then_runs, out_of_block}
use Rattle.ration.specs.Blocks.{Region, IsPiece, bytes_at}
use Rattle.ration.specs.contracts.piece.Piece as piece
use Rattle.ration.specs.contracts.piece.Piece.joined.{ended, clauses}
use Rattle.ration.specs.contracts.piece.Piece.joined.Key.{name as #self}
use Rattle.ration.proofs.piece.Piece.joined.Statement.{statement}
use Rattle.ration.proofs.piece.Piece.joined.Code as compiled

pub joined_spec : {M : Type 1} → statement M
joined_spec 𝓤 𝓛 𝓜 𝓡 wired =
    let H = 𝓛.H in
    let En₀ = ended in
    let c = clauses 𝓛 𝓜.mem 𝓡.returns in
    let fn : Fn = compiled.function in
    let stays : Stays En₀.signature.params En₀.kept = (stay_dropped (slot_at 0 En₀.signature.params) En₀.kept.0, (stay_dropped (slot_at 1 En₀.signature.params) En₀.kept.1.0, tt)) in
    let C = (tables 𝓤 H 𝓜 𝓡 𝓡.env).C in
    let Λ = (tables 𝓤 H 𝓜 𝓡 𝓡.env).Λ in
    proved_at 𝓛 En₀ stays c 𝓜 𝓡 (Goes-blank 𝓛 0 (slot_at 0 En₀.signature.params) En₀.kept.0 (λ κs x f. tt), (Goes-blank 𝓛 0 (slot_at 1 En₀.signature.params) En₀.kept.1.0 (λ κs x f. tt), tt)) #self fn (compiled.unfolded 𝓤 H 𝓜 𝓡 wired) (λ z are.
    let Post : Val → SProp 𝓤 = (walk_of 𝓛 En₀ stays c).post z in
    let a = z.0.3 in
    let vss = z.0.4 in
    let x = a.0 in
    let n = x.size in
    let next = a.1.0 in
    let m = next.size in
    let r : Region = x.region in
    let b = r.object in
    let at = x.at in
    let at' = next.at in
    let p : Ptr = block_ptr b at in
    let q : Ptr = block_ptr b at' in
    let told = sized_told x.ptr n vss.0 are.0.0 in
    let told' = sized_told next.ptr m vss.1.0 are.1.0.0 in
    let fits = told.1 in
    let fits' = told'.1 in
    let low = x.placed.1 in
    let high = x.placed.2 in
    let top = x.placed.3 in
    let Asked : Type 0 = (next.region ≡ r) × (n % 16 ≡ 0) in
    qed 𝓛 ((raw (alive 𝓛 En₀.signature z.0.0 z.0.1) ⊛ ‵ (owns (types_at En₀.signature.params z.0.0) a vss)) ∷ raw (fact 𝓤 Asked) ∷ []) ∵ move ! (1 ∷ []) $ heard ! Asked (λ asked. split ! $ move ! (1 ∷ []) $
    let placed' : IsPiece r next.ptr at' m = subst (λ (u : Region). IsPiece u next.ptr at' m) asked.0 next.placed in
    let low' = placed'.1 in
    let high' = placed'.2 in
    fsplit ! $ fsplit ! $ drop ! $ move ! (1 ∷ []) $ fsplit ! $ fsplit ! $ drop ! $ move ! (1 ∷ []) $ drop ! $
    rewrite ! 0 (λ (u : Ptr). ‵ (bytes_at u m)) placed'.0 refl $ rewrite ! 1 (λ (u : Ptr). ‵ (bytes_at u n)) x.placed.0 refl $ move ! (1 ∷ 0 ∷ []) $
    -- [the first bytes; the second; the tokens]
    let Of : Type 0 = r ≡ next.region in
    regoal ! (λ (us : List Val). prop (WpFn 𝓤 H C Λ fn us Post))
    (λ i. (told.0 ∙ ap (λ (u : Ptr). sized_val u n ∷ []) x.placed.0) i ++ ((told'.0 ∙ ap (λ (u : Ptr). sized_val u m ∷ []) placed'.0) i ++ [])) refl $
    enter ! C Λ fn (sized_val p n ∷ sized_val q m ∷ []) Post $
    alloc_all ! (λ l. pass_all ! refl ((tt, (tt, (record { fits = fits }, tt))), ((tt, (tt, (record { fits = fits' }, tt))), tt)) $ let En : Env 𝓤 𝓛.H = env fn.locals l in
    sets ! (of_opd ! (get_in ! (fld ! refl (stop !)) (sub ! 0 refl (whole !)))) refl (tt, tt) $
    sets ! (of_opd ! (get_in ! (fld ! refl (stop !)) (sub ! 1 refl (whole !)))) refl (tt, record { fits = fits }) $
    sets ! (of_opd ! (get_in ! (fld ! refl (stop !)) (sub ! 0 refl (whole !)))) refl (tt, tt) $
    sets ! (of_opd ! (get_in ! (fld ! refl (stop !)) (sub ! 1 refl (whole !)))) refl (tt, record { fits = fits' }) $
    first ! $ blocks ! $
    sets ! (bin ! (get ! refl) (get ! refl) tt) refl (tt, tt) $
    sets ! (bin ! (get ! refl) (get ! refl) (tests_same b (n + at) at' (omega arith) (omega arith))) refl (tt, tt) $
    first ! $ branches ! (get ! refl)
    (λ yes. let touch : at + n ≡ at' = omega (arith, eqb→eq (n + at) at' yes) in
    let all = n + m in
    let small : all < 2 ^ 64 = omega arith in
    let y : (piece.the_row).Denot = record { ptr = p; size = all; region = r; at = at; placed = (refl, low, omega arith, top) } in
    let Ends : Type 0 = at + all ≡ at' + m in
    let Kept : Type 0 = at ≤ at' in
    let Sized : Type 0 = all ≡ all in
    sets ! (bin ! (get ! refl) (get ! refl) (record { fits = small })) refl (tt, record { fits = small }) $
    sets ! (agg ! (and_then ! (get ! refl) (and_then ! (get ! refl) (no_more !)))) refl (tt, (tt, (record { fits = small }, tt))) $
    sets ! (agg ! (and_then ! (get ! refl) (and_then ! (get ! refl) (no_more !)))) refl (tt, ((tt, (record { fits = small }, tt)), (record { fits = small }, tt))) $
    returns_within ! Post refl (look_at ! 0 refl) $ free_all ! refl $
    rewrite ! 1 (λ (d : ℕ). ‵ (bytes_at (block_ptr b d) m)) (sym touch) refl $ use2 𝓛 (‵ (bytes_at p all)) (glues 𝓛 b at n m asked.1) $
    use0 𝓛 (‵ (sized_own p all (sized_val p all ∷ []))) (sized_made 𝓛 p all small) $ fjoin ! $ flt_i ! all (2 ^ 64) small $ feq_i ! (List Val) (vint w64 all ∷ []) (vint w64 all ∷ []) refl $ fjoin ! $ move ! (1 ∷ 0 ∷ []) $
    use2 𝓛 (‵ ((Tuple (piece.the_row ∷ usize ∷ [])).own_val (y, all) (pair_val (sized_val p all) (vint w64 all) ∷ []))) (pair_of 𝓛 piece.the_row usize y all (sized_val p all) (vint w64 all)) $
    use0 𝓛 (raw (fact 𝓤 Sized)) (fact_i 𝓤 Sized (emp 𝓤) refl) $ use0 𝓛 (raw (fact 𝓤 Kept)) (fact_i 𝓤 Kept (emp 𝓤) (omega arith)) $ join ! $ use0 𝓛 (raw (fact 𝓤 Ends)) (fact_i 𝓤 Ends (emp 𝓤) (omega arith)) $ join ! $
    use0 𝓛 (raw (fact 𝓤 Of)) (fact_i 𝓤 Of (emp 𝓤) (sym asked.0)) $ join ! $ nothing ! $ nothing ! $ fjoin ! $ nothing ! $ fjoin ! $ move ! (3 ∷ 0 ∷ 2 ∷ 1 ∷ []) $
    by ! (leaves 𝓛 En₀ stays c z (pair_val (sized_val p all) (vint w64 all)) (y, all) (tt, (tt, tt)) (tt, (tt, tt))))
    (λ no. skips ! $ exec ! C Λ En (after 3 (inside (head (after 4 fn.body)))) (out_of_block 𝓛 (then_runs 𝓛 C Λ En (after 5 fn.body) (at_ret En Post))) $
    let y : (piece.the_row).Denot = record { ptr = q; size = m; region = r; at = at'; placed = (refl, low', high', top) } in
    let Ends : Type 0 = at' + m ≡ at' + m in
    let Kept : Type 0 = at' ≤ at' in
    let Sized : Type 0 = m ≡ m in
    sets ! (agg ! (and_then ! (get ! refl) (and_then ! (get ! refl) (no_more !)))) refl (tt, (tt, (record { fits = fits' }, tt))) $
    sets_last ! (agg ! (and_then ! (get ! refl) (and_then ! (get ! refl) (no_more !)))) refl (tt, ((tt, (record { fits = fits' }, tt)), (record { fits = fits' }, tt))) $
    exec ! C Λ En (after 5 fn.body) (at_ret En Post) $
    sets ! (of_opd ! (get ! refl)) refl (tt, ((tt, (record { fits = fits' }, tt)), (record { fits = fits' }, tt))) $
    returns ! (look_at ! 0 refl) $ free_all ! refl $ drop ! $
    use0 𝓛 (‵ (sized_own q m (sized_val q m ∷ []))) (sized_made 𝓛 q m fits') $ fjoin ! $ flt_i ! m (2 ^ 64) fits' $ feq_i ! (List Val) (vint w64 m ∷ []) (vint w64 m ∷ []) refl $ fjoin ! $ move ! (1 ∷ 0 ∷ []) $
    use2 𝓛 (‵ ((Tuple (piece.the_row ∷ usize ∷ [])).own_val (y, m) (pair_val (sized_val q m) (vint w64 m) ∷ []))) (pair_of 𝓛 piece.the_row usize y m (sized_val q m) (vint w64 m)) $
    use0 𝓛 (raw (fact 𝓤 Sized)) (fact_i 𝓤 Sized (emp 𝓤) refl) $ use0 𝓛 (raw (fact 𝓤 Kept)) (fact_i 𝓤 Kept (emp 𝓤) (omega arith)) $ join ! $ use0 𝓛 (raw (fact 𝓤 Ends)) (fact_i 𝓤 Ends (emp 𝓤) refl) $ join ! $
    use0 𝓛 (raw (fact 𝓤 Of)) (fact_i 𝓤 Of (emp 𝓤) (sym asked.0)) $ join ! $ nothing ! $ nothing ! $ fjoin ! $ nothing ! $ fjoin ! $ move ! (3 ∷ 0 ∷ 2 ∷ 1 ∷ []) $
    by ! (leaves 𝓛 En₀ stays c z (pair_val (sized_val q m) (vint w64 m)) (y, m) (tt, (tt, tt)) (tt, (tt, tt)))))))
