use Rattle.std.proofs.Common.{drop, length, reverse, refl, sym, ap, ◌∙◌, subst, arith}
use Rattle.std.proofs.Math.Seq.{drop-length}
use Rattle.clru_model.proofs.Fitting.{length-fit, too_long_fits, whole_is_too_long}
use Rattle.clru.specs.Drops.{HandsOutTo}
use Rattle.clru.proofs.cache.room.make_room.Goals as goal

pub returns-then-len-total-clause-ready : goal.returns-then-len-total-clause-ready
returns-then-len-total-clause-ready g c =
    let m = c.args.map.now in let s = c.shrink.ensures.entries in
    let fewer = length-fit (g.W.WeightScale.weight c.args.scale.now) c.args.room m.entries (omega (arith, c.requires.weighs, c.len.ensures.len, c.if-len-total.true)) in
    omega (arith, ap (λ n. length n.entries) s, fewer, c.len.ensures.held, ap (λ n. n.places) s)

pub returns-clause-entries : goal.returns-clause-entries
returns-clause-entries g c =
    let es = c.args.map.now.entries in let w = g.W.WeightScale.weight c.args.scale.now in
    ap (λ n. n.entries) c.in_ok-make_ready.ensures.same
    ∙ too_long_fits w c.args.room es es (whole_is_too_long w c.args.room es) (omega (arith, c.requires.weighs, c.len.ensures.len, c.if-len-total.false))

pub returns-clause-handed_out : goal.returns-clause-handed_out
returns-clause-handed_out g c =
    let es = c.args.map.now.entries in
    let kept = sym (ap (λ n. n.entries) c.in_ok-make_ready.ensures.same) ∙ returns-clause-entries g c in
    subst (λ l. HandsOutTo g.F.FnMut c.args.on_drop.now (reverse (drop (length l) es)) c.args.on_drop.now) kept (rw (drop-length es) refl)
