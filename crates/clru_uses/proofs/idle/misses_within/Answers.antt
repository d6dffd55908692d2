use Rattle.std.proofs.Common.{◌∷◌, [], nat_eq, get_or, take, reverse, sym, ap, ◌∙◌, subst, arith, take_all}
use Rattle.std.proofs.lemmas.List.{reverse-append, reverse-reverse, take_more}
use Rattle.std.specs.Int.NonZero.{non_zero_usize_get}
use Rattle.clru_curve.specs.IdlePasses.{IsIdlePass, HasIdleMissesOf}
use Rattle.clru_uses.proofs.idle.misses_within.Goals as goal

pub loop-request-preserved : goal.loop-request-preserved
loop-request-preserved c =
    let i = c.loop-request.request-index in let rs = c.args.requests.now in
    let turned = ap (λ l. reverse l) (take_more rs i (0, 0) (omega (arith, c.loop-request-test.true))) ∙ reverse-append (take i rs) (get_or rs i (0, 0) ∷ []) in
    record {
      taken = subst (λ l. IsIdlePass nat_eq c.args.limit l c.request.new.self) (sym turned)
          (c.in-Ok.ensures.taken c.args.limit (reverse (take i rs)) c.loop-request.invariant.taken);
    }

pub returns : goal.returns
returns c =
    let i = c.loop-request.request-index in let rs = c.args.requests.now in
    let whole = reverse-reverse (take i rs) ∙ take_all i rs (omega (arith, c.loop-request-test.false)) in
    c.misses-2.ensures ∙ subst (λ l. HasIdleMissesOf nat_eq c.args.limit l c.into_curve.result) whole
    (c.into_curve.ensures.misses c.args.limit (reverse (take i rs)) c.loop-request.invariant.taken) (non_zero_usize_get c.args.capacity) c.args.capacity.ok
