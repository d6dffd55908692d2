-- `lent` takes over what the loan owns. Assumes `Logic`.
use Rattle.std.proofs.Common.{◌≡◌, ◌^◌, List, [], ◌∷◌, ◌++◌, refl, ap, ◌∙◌, arith, w64}
use mir.Syntax.{Fn}
use mir.Val.{Val, vint}
use base.Logic.{SProp, emp, never, id⊢}
use base.Fml.{ftrue}
use prog.Wp.{Env, WpFn}
use contract.Monad.{fact, fact_i}
use contract.Running.{tables}
use types.Kit.{‵, raw, ◌⊛◌, prop, ◌$◌, ◌∵◌, !, qed, by, move, drop, use0, use2, split, regoal, fsplit, fjoin, feq_i, flt_i}
use types.Part.{whole, sub, agg}
use types.Run.{stop, fld, of_opd, no_more, and_then, returns, enter}
use types.ByLocal.{alloc_all, pass_all, free_all, look_at, get, get_in, sets, env}
use denote.RattleType.{owns}
use denote.RawPtr.{Ptr, block_ptr, in_a_block}
use denote.Builtin.{usize}
use denote.Signature.{types_at}
use denote.Steps.{nothing}
use denote.Struct.Tuple.{Tuple}
use denote.Triple.Entry.{alive}
use denote.Triple.Walked.{Stays, stay_dropped, walk_of}
use Rattle.std.proofs.alloc.Calls.{Goes-blank}
use Rattle.std.proofs.raw_atomic.Walks.{proved_at, leaves}
use Rattle.ration.proofs.Values.{pair_of, pair_val, sized_val, sized_own, sized_told, sized_made}
use Rattle.ration.proofs.Walks.{slot_at}
use Rattle.ration.specs.Blocks.{IsRegionOf, Region, bytes_at}
use Rattle.ration.specs.contracts.piece.Piece as piece
use Rattle.ration.specs.contracts.piece.Piece.lent.{ended, clauses}
use Rattle.ration.specs.contracts.piece.Piece.lent.Key.{name as #self}
use Rattle.ration.proofs.piece.Piece.lent.Statement.{statement}
use Rattle.ration.proofs.piece.Piece.lent.Code as compiled

pub lent_spec : {M : Type 1} → statement M
lent_spec 𝓤 𝓛 𝓜 𝓡 wired =
    let H = 𝓛.H in
    let En₀ = ended in
    let c = clauses 𝓛 𝓜.mem 𝓡.returns in
    let fn : Fn = compiled.function in
    let stays : Stays En₀.signature.params En₀.kept = (stay_dropped (slot_at 0 En₀.signature.params) En₀.kept.0, tt) in
    let C = (tables 𝓤 H 𝓜 𝓡 𝓡.env).C in
    let Λ = (tables 𝓤 H 𝓜 𝓡 𝓡.env).Λ in
    proved_at 𝓛 En₀ stays c 𝓜 𝓡 (Goes-blank 𝓛 0 (slot_at 0 En₀.signature.params) En₀.kept.0 (λ κs x f. tt), tt) #self fn (compiled.unfolded 𝓤 H 𝓜 𝓡 wired) (λ z are.
    let Post : Val → SProp 𝓤 = (walk_of 𝓛 En₀ stays c).post z in
    let a = z.0.3 in
    let vss = z.0.4 in
    let x = a.0 in
    let n = x.size in
    let told = sized_told x.ptr n vss.0 are.0.0 in
    let fits = told.1 in
    qed 𝓛 ((raw (alive 𝓛 En₀.signature z.0.0 z.0.1) ⊛ ‵ (owns (types_at En₀.signature.params z.0.0) a vss)) ∷ ‵ ftrue ∷ []) ∵ move ! (1 ∷ []) $ drop ! $ split ! $ move ! (1 ∷ []) $
    fsplit ! $ fsplit ! $ drop ! $ move ! (1 ∷ []) $ drop ! $ in_a_block ! x.ptr (λ u. bytes_at u n) (id⊢ 𝓤 (never 𝓤)) (λ b o is.
    -- [the bytes; the tokens]
    let p : Ptr = block_ptr b o in
    let r : Region = record { object = b; start = o; size = n } in
    let Said : Type 0 = (n ≡ n) × (n ≡ n) × IsRegionOf r x.ptr n in
    let y : (piece.the_row).Denot = record { ptr = p; size = n; region = r; at = o; placed = (refl, omega arith, omega arith, fits) } in
    regoal ! (λ (us : List Val). prop (WpFn 𝓤 H C Λ fn us Post)) (λ i. (told.0 ∙ ap (λ (u : Ptr). sized_val u n ∷ []) is) i ++ []) refl $
    enter ! C Λ fn (sized_val p n ∷ []) Post $
    alloc_all ! (λ l. pass_all ! refl ((tt, (tt, (record { fits = fits }, tt))), tt) $ let En : Env 𝓤 𝓛.H = env fn.locals l in
    sets ! (of_opd ! (get_in ! (fld ! refl (stop !)) (sub ! 0 refl (whole !)))) refl (tt, tt) $
    sets ! (of_opd ! (get_in ! (fld ! refl (stop !)) (sub ! 1 refl (whole !)))) refl (tt, record { fits = fits }) $
    sets ! (agg ! (and_then ! (get ! refl) (and_then ! (get ! refl) (no_more !)))) refl (tt, (tt, (record { fits = fits }, tt))) $
    sets ! (agg ! (and_then ! (get ! refl) (and_then ! (get ! refl) (no_more !)))) refl (tt, ((tt, (record { fits = fits }, tt)), (record { fits = fits }, tt))) $
    returns ! (look_at ! 0 refl) $ free_all ! refl $
    use0 𝓛 (‵ (sized_own p n (sized_val p n ∷ []))) (sized_made 𝓛 p n fits) $ fjoin ! $ flt_i ! n (2 ^ 64) fits $ feq_i ! (List Val) (vint w64 n ∷ []) (vint w64 n ∷ []) refl $ fjoin ! $ move ! (1 ∷ 0 ∷ []) $
    use2 𝓛 (‵ ((Tuple (piece.the_row ∷ usize ∷ [])).own_val (y, n) (pair_val (sized_val p n) (vint w64 n) ∷ []))) (pair_of 𝓛 piece.the_row usize y n (sized_val p n) (vint w64 n)) $
    use0 𝓛 (raw (fact 𝓤 Said)) (fact_i 𝓤 Said (emp 𝓤) (refl, refl, (is, refl))) $ nothing ! $ nothing ! $ fjoin ! $ move ! (3 ∷ 0 ∷ 2 ∷ 1 ∷ []) $
    by ! (leaves 𝓛 En₀ stays c z (pair_val (sized_val p n) (vint w64 n)) (y, n) (tt, tt) (tt, tt)))))
