use Rattle.std.proofs.Common.{◌≡◌, ◌+◌, slice_get, sym, ap, ◌∙◌, arith}
use Rattle.std.specs.Map.{keys_of}
use Rattle.clru_list.proofs.Indices.{place_after-at, none-past}
use Rattle.clru_list.proofs.Windows.{first_place-get}
use Rattle.clru_list.proofs.list.FixedSizeList.walk_up.Goals as goal

pub loop-at-init : goal.loop-at-init
loop-at-init g c = record {
  here = sym (c.in_ok-place.ensures.place ∙ first_place-get c.args.self.now.entries);
  before = omega arith;
}

pub returns-in_err-place-2 : goal.returns-in_err-place-2
returns-in_err-place-2 g c =
    let es = c.args.self.now.entries in let l = c.loop-at in let e = c.in_err-place-2.ensures in
    let none = sym (place_after-at es l.at l.place e.valid.apart l.invariant.here) ∙ sym e.place in
    c.from_residual-in_err-place-2.ensures ∙ sym (none-past (keys_of es) (l.at + 1) c.args.index none (omega (arith, c.loop-at-test.true)))

pub loop-at-preserved : goal.loop-at-preserved
loop-at-preserved g c =
    let es = c.args.self.now.entries in let l = c.loop-at in let e = c.in_ok-place-2.ensures in record {
      here = sym (e.place ∙ place_after-at es l.at l.place e.valid.apart l.invariant.here);
      before = omega (arith, c.loop-at-test.true);
    }

pub returns : goal.returns
returns g c = let l = c.loop-at in let same : l.at ≡ c.args.index = omega (arith, c.loop-at-test.false, l.invariant.before) in
    sym l.invariant.here ∙ ap (λ k. slice_get (keys_of c.args.self.now.entries) k) same
