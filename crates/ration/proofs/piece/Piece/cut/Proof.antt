-- `cut` moves the pointer up, and cuts the bytes there. Assumes `Logic`.
use Rattle.std.proofs.Common.{◌≡◌, ◌+◌, ◌-◌, ◌%◌, ◌≤◌, List, [], ◌∷◌, ◌++◌, refl, ap, ◌∙◌, arith, w64}
use mir.Syntax.{Fn}
use mir.Val.{Val, vint, vptr}
use base.Logic.{SProp, emp}
use prog.Wp.{Env, WpFn}
use contract.Monad.{fact, fact_i}
use contract.Running.{tables}
use types.Kit.{‵, raw, ◌⊛◌, prop, at_ret, ◌$◌, ◌∵◌, !, qed, by, move, drop, use0, use1, use2, split, join, rewrite, regoal, fsplit, fjoin}
use types.Part.{whole, sub, agg}
use types.Run.{stop, fld, bin, of_opd, no_more, and_then, first, blocks, exec, returns, enter}
use types.ByLocal.{alloc_all, pass_all, free_all, look_at, get, get_in, sets, sets_last, is, env}
use denote.RattleType.{owns}
use denote.RawPtr.{Ptr, block_ptr}
use denote.Signature.{types_at}
use denote.Steps.{nothing, heard}
use denote.Struct.Tuple.{Tuple}
use denote.Triple.Entry.{alive}
use denote.Triple.Walked.{Stays, stay_dropped, walk_of, Goes-dropped}
use Rattle.std.proofs.alloc.Calls.{Goes-blank}
use Rattle.std.proofs.alloc.Shapes.{after}
use Rattle.std.proofs.raw_atomic.Walks.{proved_at, leaves}
use Rattle.ration.proofs.Bytes.{cuts, resized}
use Rattle.ration.proofs.Values.{pair_of, pair_val, sized_val, sized_own, sized_told, sized_made}
use Rattle.ration.proofs.Walks.{slot_at}
use Rattle.ration.specs.Blocks.{Region, bytes_at}
use Rattle.ration.specs.contracts.piece.Piece as piece
use Rattle.ration.specs.contracts.piece.Piece.cut.{ended, clauses}
use Rattle.ration.specs.contracts.piece.Piece.cut.Key.{name as #self}
use Rattle.ration.proofs.piece.Piece.cut.Statement.{statement}
use Rattle.ration.proofs.piece.Piece.cut.Code as compiled

pub cut_spec : {M : Type 1} → statement M
cut_spec 𝓤 𝓛 𝓜 𝓡 wired =
    let H = 𝓛.H in
    let En₀ = ended in
    let c = clauses 𝓛 𝓜.mem 𝓡.returns in
    let fn : Fn = compiled.function in
    let stays : Stays En₀.signature.params En₀.kept = (stay_dropped (slot_at 0 En₀.signature.params) En₀.kept.0, (stay_dropped (slot_at 1 En₀.signature.params) En₀.kept.1.0, tt)) in
    let C = (tables 𝓤 H 𝓜 𝓡 𝓡.env).C in
    let Λ = (tables 𝓤 H 𝓜 𝓡 𝓡.env).Λ in
    proved_at 𝓛 En₀ stays c 𝓜 𝓡 (Goes-blank 𝓛 0 (slot_at 0 En₀.signature.params) En₀.kept.0 (λ κs x f. tt), (Goes-dropped 𝓛 0 (slot_at 1 En₀.signature.params) En₀.kept.1.0 (λ κs x f. refl), tt)) #self fn (compiled.unfolded 𝓤 H 𝓜 𝓡 wired) (λ z are.
    let Post : Val → SProp 𝓤 = (walk_of 𝓛 En₀ stays c).post z in
    let a = z.0.3 in
    let vss = z.0.4 in
    let x = a.0 in
    let n = x.size in
    let m = a.1.0 in
    let r : Region = x.region in
    let b = r.object in
    let at = x.at in
    let p : Ptr = block_ptr b at in
    let q : Ptr = block_ptr b (at + m) in
    let told = sized_told x.ptr n vss.0 are.0.0 in
    let fits = told.1 in
    let low = x.placed.1 in
    let high = x.placed.2 in
    let top = x.placed.3 in
    let Asked : Type 0 = (m ≤ n) × (m % 16 ≡ 0) in
    let First : Type 0 = (r ≡ r) × (at ≡ at) × (m ≡ m) in
    let Rest : Type 0 = (r ≡ r) × (at + m ≡ at + m) × (n - m ≡ n - m) in
    qed 𝓛 ((raw (alive 𝓛 En₀.signature z.0.0 z.0.1) ⊛ ‵ (owns (types_at En₀.signature.params z.0.0) a vss)) ∷ raw (fact 𝓤 Asked) ∷ []) ∵ move ! (1 ∷ []) $ heard ! Asked (λ asked. split ! $ move ! (1 ∷ []) $
    fsplit ! $ fsplit ! $ drop ! $ move ! (1 ∷ []) $ drop ! $ rewrite ! 0 (λ (u : Ptr). ‵ (bytes_at u n)) x.placed.0 refl $
    -- [the bytes; the tokens]
    let less = asked.0 in
    let y : (piece.the_row).Denot = record { ptr = p; size = m; region = r; at = at; placed = (refl, low, omega arith, top) } in
    let w : (piece.the_row).Denot = record { ptr = q; size = n - m; region = r; at = at + m; placed = (refl, omega arith, omega arith, top) } in
    let fits' = are.1.0.1 in
    let left = n - m in
    regoal ! (λ (us : List Val). prop (WpFn 𝓤 H C Λ fn us Post)) (λ i. (told.0 ∙ ap (λ (u : Ptr). sized_val u n ∷ []) x.placed.0) i ++ (are.1.0.0 i ++ [])) refl $
    enter ! C Λ fn (sized_val p n ∷ vint w64 m ∷ []) Post $
    alloc_all ! (λ l. pass_all ! refl ((tt, (tt, (record { fits = fits }, tt))), ((tt, record { fits = fits' }), tt)) $ let En : Env 𝓤 𝓛.H = env fn.locals l in
    sets ! (of_opd ! (get_in ! (fld ! refl (stop !)) (sub ! 0 refl (whole !)))) refl (tt, tt) $
    sets ! (of_opd ! (get_in ! (fld ! refl (stop !)) (sub ! 1 refl (whole !)))) refl (tt, record { fits = fits }) $
    first ! $ blocks ! $
    sets ! (is ! (bin ! (get ! refl) (get ! refl) tt) (ap (vptr b) (omega arith))) refl (tt, tt) $
    sets ! (bin ! (get ! refl) (get ! refl) (omega arith)) refl (tt, record { fits = omega arith }) $
    sets ! (agg ! (and_then ! (get ! refl) (and_then ! (get ! refl) (no_more !)))) refl (tt, (tt, (record { fits = fits' }, tt))) $
    sets ! (agg ! (and_then ! (get ! refl) (and_then ! (get ! refl) (no_more !)))) refl (tt, (tt, (record { fits = omega arith }, tt))) $
    sets_last ! (agg ! (and_then ! (get ! refl) (and_then ! (get ! refl) (no_more !)))) refl (tt, ((tt, (record { fits = fits' }, tt)), ((tt, (record { fits = omega arith }, tt)), tt))) $
    exec ! C Λ En (after 3 fn.body) (at_ret En Post) $
    sets ! (of_opd ! (get ! refl)) refl (tt, ((tt, (record { fits = fits' }, tt)), ((tt, (record { fits = omega arith }, tt)), tt))) $
    returns ! (look_at ! 0 refl) $ free_all ! refl $
    use1 𝓛 (‵ (bytes_at p (m + left))) (resized 𝓛 b at n (m + left) (omega arith)) $ use1 𝓛 (‵ (bytes_at p m) ⊛ ‵ (bytes_at q left)) (cuts 𝓛 b at m left asked.1) $ split ! $
    use0 𝓛 (‵ (sized_own p m (sized_val p m ∷ []))) (sized_made 𝓛 p m fits') $ fjoin ! $ move ! (1 ∷ []) $ use0 𝓛 (‵ (sized_own q left (sized_val q left ∷ []))) (sized_made 𝓛 q left (omega arith)) $ fjoin ! $ move ! (1 ∷ 0 ∷ []) $
    use2 𝓛 (‵ ((Tuple (piece.the_row ∷ piece.the_row ∷ [])).own_val (y, w) (pair_val (sized_val p m) (sized_val q left) ∷ []))) (pair_of 𝓛 piece.the_row piece.the_row y w (sized_val p m) (sized_val q left)) $
    use0 𝓛 (raw (fact 𝓤 Rest)) (fact_i 𝓤 Rest (emp 𝓤) (refl, refl, refl)) $ use0 𝓛 (raw (fact 𝓤 First)) (fact_i 𝓤 First (emp 𝓤) (refl, refl, refl)) $ join ! $
    nothing ! $ nothing ! $ fjoin ! $ nothing ! $ fjoin ! $ move ! (3 ∷ 0 ∷ 2 ∷ 1 ∷ []) $
    by ! (leaves 𝓛 En₀ stays c z (pair_val (sized_val p m) (sized_val q left)) (y, w) (tt, (tt, tt)) (tt, (tt, tt))))))
