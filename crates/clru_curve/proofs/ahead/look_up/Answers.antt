use Rattle.std.proofs.Common.{◌≡◌, ◌-◌, ◌<◌, Some, length, reverse, slice_get, take, refl, sym, ap, ◌∙◌, subst, arith, length-set}
use Rattle.std.proofs.lemmas.List.{length-reverse, length-take-le}
use Rattle.std.proofs.lemmas.Option.{slice_get-get_or}
use Rattle.clru_model.specs.Requests.{IsLatestOf}
use Rattle.clru_curve.specs.Ahead.{ArePlaced}
use Rattle.clru_curve.proofs.Looking.{latest_with, placed_more, refused_here, size_more, turned_more, weights_with}
use Rattle.clru_curve.proofs.ahead.look_up.Goals as goal

pub returns-then-weight-sum-clause-refused : goal.returns-then-weight-sum-clause-refused
returns-then-weight-sum-clause-refused g c =
    let at = c.loop-at.at in let keys = c.args.keys.now in let key = c.index-keys-at.result in
    let w = λ (x : g.row.K.Denot). g.W.WeightScale.weight c.args.scale.now x tt in
    let here : slice_get keys at ≡ Some key = slice_get-get_or keys at key (omega (arith, c.loop-at-test.true, c.requires.within))
    ∙ ap (λ k. Some k) (sym c.index-keys-at.is) in
    refused_here keys at key here w _ refl (omega (arith, c.loop-at.invariant.size, c.loop-at.auto.sum-fits))
    (λ _. omega (arith, c.if-weight-sum.true, c.loop-at.invariant.size, c.weight-weight.ensures), λ _. tt)

pub returns-in-Err-clause-refused : goal.returns-in-Err-clause-refused
returns-in-Err-clause-refused g c =
    let at = c.loop-at.at in let keys = c.args.keys.now in let key = c.index-keys-at.result in
    let w = λ (x : g.row.K.Denot). g.W.WeightScale.weight c.args.scale.now x tt in
    let here : slice_get keys at ≡ Some key = slice_get-get_or keys at key (omega (arith, c.loop-at-test.true, c.requires.within))
    ∙ ap (λ k. Some k) (sym c.index-keys-at.is) in
    refused_here keys at key here w _ c.in-Err.ensures.given_back (omega (arith, c.loop-at.invariant.size, c.loop-at.auto.sum-fits))
    (λ no. absurd no, λ large. omega (arith, large, c.if-weight-sum.false, c.loop-at.invariant.size, c.weight-weight.ensures))

pub loop-at-preserved : goal.loop-at-preserved
loop-at-preserved g c =
    let at = c.loop-at.at in let keys = c.args.keys.now in let key = c.index-keys-at.result in let inv = c.loop-at.invariant in
    let eq = g.K.PartialEq.eq in let past = reverse (take at keys) in
    let w = λ (x : g.row.K.Denot). g.W.WeightScale.weight c.args.scale.now x tt in
    let inside : at < length keys = omega (arith, c.loop-at-test.true, c.requires.within) in
    let here : slice_get keys at ≡ Some key = slice_get-get_or keys at key inside ∙ ap (λ k. Some k) (sym c.index-keys-at.is) in
    let many : at ≡ length past = omega (arith, length-reverse (take at keys), length-take-le at keys (omega (arith, inside))) in
    let room : at - c.args.first < length c.loop-at.ahead = omega (arith, inv.first, inv.length, c.requires.room, c.loop-at-test.true) in
    record {
      first = omega (arith, inv.first);
      end = omega (arith, c.loop-at-test.true);
      length = length-set c.loop-at.ahead (at - c.args.first) _ ∙ inv.length;
      placed = subst (λ l. ArePlaced eq l c.put.new.self.entries) (sym (turned_more keys at key here))
          (rw c.in-Ok.ensures.taken (placed_more eq g.met.K.Eq.laws past key c.loop-at.positions.entries at many inv.placed));
      builder = ap (λ t. t.builder) c.in-Ok.ensures.taken ∙ inv.builder;
      size = omega (arith, inv.size, size_more keys at key here w, c.weight-weight.ensures);
      latest = latest_with keys at key here c.args.first c.loop-at.ahead inv.first room _ eq (subst (IsLatestOf eq past key) (sym c.in-Ok.ensures.before) (inv.placed.latest key)) inv.latest;
      weights = weights_with keys at key here c.args.first c.loop-at.ahead inv.first room _ w (sym c.weight-weight.ensures) inv.weights;
    }
