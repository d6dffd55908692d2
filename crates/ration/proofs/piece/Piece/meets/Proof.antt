-- `meets` compares the end of the bytes with its own start. Assumes `Logic`.
use Rattle.std.proofs.Common.{◌≡◌, ◌+◌, List, [], ◌∷◌, ◌++◌, refl, ap, ◌∙◌, arith, lit<, w64, eqb→eq, Ok, Err}
use mir.Syntax.{Fn}
use mir.Val.{Val, vint, vptr, vcons, vnil}
use base.Logic.{SProp, emp}
use prog.Wp.{Env, WpFn}
use contract.Monad.{fact, fact_i}
use contract.Running.{tables}
use types.Kit.{‵, raw, ◌⊛◌, prop, at_ret, ◌$◌, ◌∵◌, !, qed, by, move, drop, use0, use1, split, rewrite, regoal, fsplit, fjoin}
use types.Part.{whole, sub, agg}
use types.Match.{live}
use types.Run.{stop, fld, lit, bin, of_opd, no_more, and_then, first, blocks, skips, branches, exec, returns, returns_within, enter}
use types.ByLocal.{alloc_all, pass_all, free_all, look_at, get, get_in, sets, sets_last, env}
use denote.RattleType.{RattleType, owns}
use denote.RawPtr.{Ptr, block_ptr, count_of, ptr_val, tests_same}
use denote.Signature.{types_at, type_at}
use denote.Steps.{nothing, heard}
use denote.Triple.Entry.{alive}
use denote.Triple.Walked.{Stays, stay_dropped, walk_of, Goes-dropped}
use Rattle.std.proofs.alloc.Calls.{Goes-blank}
use Rattle.std.proofs.alloc.Shapes.{after, head, inside}
use Rattle.std.proofs.ResultValues.{ok_of, err_of}
use Rattle.std.proofs.raw_atomic.Walks.{proved_at, leaves}
use Rattle.ration.proofs.Values.{sized_val, sized_own, sized_told, sized_made}
use Rattle.ration.proofs.Walks.{slot_at, then_runs, out_of_block}
use Rattle.ration.specs.Blocks.{Region, IsPiece}
use Rattle.ration.specs.contracts.piece.Piece as piece
use Rattle.ration.specs.contracts.piece.Piece.meets.{ended, clauses}
use Rattle.ration.specs.contracts.piece.Piece.meets.Key.{name as #self}
use Rattle.ration.proofs.piece.Piece.meets.Statement.{statement}
use Rattle.ration.proofs.piece.Piece.meets.Code as compiled

pub meets_spec : {M : Type 1} → statement M
meets_spec 𝓤 𝓛 𝓜 𝓡 wired =
    let H = 𝓛.H in
    let En₀ = ended in
    let c = clauses 𝓛 𝓜.mem 𝓡.returns in
    let fn : Fn = compiled.function in
    let stays : Stays En₀.signature.params En₀.kept = (stay_dropped (slot_at 0 En₀.signature.params) En₀.kept.0, (stay_dropped (slot_at 1 En₀.signature.params) En₀.kept.1.0, (stay_dropped (slot_at 2 En₀.signature.params) En₀.kept.1.1.0, tt))) in
    let C = (tables 𝓤 H 𝓜 𝓡 𝓡.env).C in
    let Λ = (tables 𝓤 H 𝓜 𝓡 𝓡.env).Λ in
    proved_at 𝓛 En₀ stays c 𝓜 𝓡 (Goes-blank 𝓛 0 (slot_at 0 En₀.signature.params) En₀.kept.0 (λ κs x f. tt), (Goes-dropped 𝓛 0 (slot_at 1 En₀.signature.params) En₀.kept.1.0 (λ κs x f. refl), (Goes-dropped 𝓛 0 (slot_at 2 En₀.signature.params) En₀.kept.1.1.0 (λ κs x f. refl), tt))) #self fn (compiled.unfolded 𝓤 H 𝓜 𝓡 wired) (λ z are.
    let Post : Val → SProp 𝓤 = (walk_of 𝓛 En₀ stays c).post z in
    let a = z.0.3 in
    let vss = z.0.4 in
    let x = a.0 in
    let m = x.size in
    let from = a.1.0 in
    let n = a.1.1.0 in
    let at = count_of from in
    let r : Region = x.region in
    let b = r.object in
    let p : Ptr = block_ptr b at in
    let q : Ptr = block_ptr b x.at in
    let told = sized_told x.ptr m vss.0 are.0.0 in
    let fits = told.1 in
    let low = x.placed.1 in
    let high = x.placed.2 in
    let top = x.placed.3 in
    let Out : RattleType = type_at En₀.signature.result z.0.0 in
    let Asked : Type 0 = IsPiece r from at n in
    qed 𝓛 ((raw (alive 𝓛 En₀.signature z.0.0 z.0.1) ⊛ ‵ (owns (types_at En₀.signature.params z.0.0) a vss)) ∷ raw (fact 𝓤 Asked) ∷ []) ∵ move ! (1 ∷ []) $ heard ! Asked (λ asked. split ! $ move ! (1 ∷ []) $
    fsplit ! $ fsplit ! $ drop ! $ move ! (1 ∷ []) $ drop ! $
    -- [its bytes; the tokens]
    let low' = asked.1 in
    let high' = asked.2 in
    regoal ! (λ (us : List Val). prop (WpFn 𝓤 H C Λ fn us Post))
    (λ i. (told.0 ∙ ap (λ (u : Ptr). sized_val u m ∷ []) x.placed.0) i ++ ((are.1.0 ∙ ap (λ (u : Ptr). ptr_val u ∷ []) asked.0) i ++ (are.1.1.0.0 i ++ []))) refl $
    enter ! C Λ fn (sized_val q m ∷ vptr b at ∷ vint w64 n ∷ []) Post $
    alloc_all ! (λ l. pass_all ! refl ((tt, (tt, (record { fits = fits }, tt))), ((tt, tt), ((tt, record { fits = are.1.1.0.1 }), tt))) $ let En : Env 𝓤 𝓛.H = env fn.locals l in
    sets ! (of_opd ! (get_in ! (fld ! refl (stop !)) (sub ! 0 refl (whole !)))) refl (tt, tt) $
    sets ! (of_opd ! (get_in ! (fld ! refl (stop !)) (sub ! 1 refl (whole !)))) refl (tt, record { fits = fits }) $
    first ! $ blocks ! $
    sets ! (bin ! (get ! refl) (get ! refl) tt) refl (tt, tt) $
    sets ! (bin ! (get ! refl) (get ! refl) (tests_same b (n + at) x.at (omega arith) (omega arith))) refl (tt, tt) $
    first ! $ branches ! (get ! refl)
    (λ yes. let touch : at + n ≡ x.at = omega (arith, eqb→eq (n + at) x.at yes) in
    let Said : Type 0 = (x ≡ x) × (at + n ≡ x.at) in
    sets ! (agg ! (and_then ! (get ! refl) (and_then ! (get ! refl) (no_more !)))) refl (tt, (tt, (record { fits = fits }, tt))) $
    sets ! (agg ! (and_then ! (lit ! tt) (and_then ! (get ! refl) (no_more !)))) refl (tt, (record { fits = lit< tt }, ((tt, (record { fits = fits }, tt)), tt))) $
    returns_within ! Post refl (look_at ! 0 refl) $ free_all ! refl $
    use0 𝓛 (‵ (sized_own x.ptr m (sized_val x.ptr m ∷ []))) (sized_made 𝓛 x.ptr m fits) $ rewrite ! 0 (λ (u : Ptr). ‵ (sized_own x.ptr m (sized_val u m ∷ []))) x.placed.0 refl $ fjoin ! $
    use1 𝓛 (‵ (Out.own_val (Ok x) (live 0 (vcons (sized_val q m) vnil) ∷ []))) (ok_of 𝓛 piece.the_row piece.the_row x (sized_val q m)) $
    use0 𝓛 (raw (fact 𝓤 Said)) (fact_i 𝓤 Said (emp 𝓤) (refl, touch)) $ nothing ! $ nothing ! $ fjoin ! $ nothing ! $ fjoin ! $ nothing ! $ fjoin ! $ move ! (3 ∷ 0 ∷ 2 ∷ 1 ∷ []) $
    by ! (leaves 𝓛 En₀ stays c z (live 0 (vcons (sized_val q m) vnil)) (Ok x) (tt, (tt, (tt, tt))) (tt, (tt, (tt, tt)))))
    (λ no. skips ! $ exec ! C Λ En (after 3 (inside (head (after 2 fn.body)))) (out_of_block 𝓛 (then_runs 𝓛 C Λ En (after 3 fn.body) (at_ret En Post))) $
    let Said : Type 0 = x ≡ x in
    sets ! (agg ! (and_then ! (get ! refl) (and_then ! (get ! refl) (no_more !)))) refl (tt, (tt, (record { fits = fits }, tt))) $
    sets_last ! (agg ! (and_then ! (lit ! tt) (and_then ! (get ! refl) (no_more !)))) refl (tt, (record { fits = lit< tt }, ((tt, (record { fits = fits }, tt)), tt))) $
    exec ! C Λ En (after 3 fn.body) (at_ret En Post) $
    sets ! (of_opd ! (get ! refl)) refl (tt, (record { fits = lit< tt }, ((tt, (record { fits = fits }, tt)), tt))) $
    returns ! (look_at ! 0 refl) $ free_all ! refl $
    use0 𝓛 (‵ (sized_own x.ptr m (sized_val x.ptr m ∷ []))) (sized_made 𝓛 x.ptr m fits) $ rewrite ! 0 (λ (u : Ptr). ‵ (sized_own x.ptr m (sized_val u m ∷ []))) x.placed.0 refl $ fjoin ! $
    use1 𝓛 (‵ (Out.own_val (Err x) (live 1 (vcons (sized_val q m) vnil) ∷ []))) (err_of 𝓛 piece.the_row piece.the_row x (sized_val q m)) $
    use0 𝓛 (raw (fact 𝓤 Said)) (fact_i 𝓤 Said (emp 𝓤) refl) $ nothing ! $ nothing ! $ fjoin ! $ nothing ! $ fjoin ! $ nothing ! $ fjoin ! $ move ! (3 ∷ 0 ∷ 2 ∷ 1 ∷ []) $
    by ! (leaves 𝓛 En₀ stays c z (live 1 (vcons (sized_val q m) vnil)) (Err x) (tt, (tt, (tt, tt))) (tt, (tt, (tt, tt))))))))
