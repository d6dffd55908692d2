use Rattle.std.proofs.Common.{◌≡◌, ◌+◌, ◌-◌, ◌<◌, length, slice_get, sym, ap, ◌∙◌, arith}
use Rattle.std.proofs.lemmas.List.{length-map}
use Rattle.std.proofs.lemmas.Option.{slice_get_within}
use Rattle.std.specs.Map.{keys_of}
use Rattle.clru_list.proofs.Indices.{place_before-at, none-within}
use Rattle.clru_list.proofs.Windows.{last_place-get}
use Rattle.clru_list.proofs.list.FixedSizeList.walk_down.Goals as goal

pub returns-in_err-place : goal.returns-in_err-place
returns-in_err-place g c =
    let es = c.args.self.now.entries in
    let some : 0 < length es = omega (arith, c.if-index-len.false, c.len.ensures.len) in
    let none = sym (last_place-get es some) ∙ sym c.in_err-place.ensures.place in
    absurd (none-within (keys_of es) (0 + length es - 1) (omega (arith, some, length-map es (λ e. e.0))) none)

pub loop-at-init : goal.loop-at-init
loop-at-init g c =
    let es = c.args.self.now.entries in
    let some : 0 < length es = omega (arith, c.if-index-len.false, c.len.ensures.len) in
    let last : c.len-at.result - 1 ≡ 0 + length es - 1 = omega (arith, c.len-at.ensures.len) in
    record {
      here = ap (slice_get (keys_of es)) last ∙ sym (c.in_ok-place.ensures.place ∙ last_place-get es some);
      behind = omega (arith, c.if-index-len.false, c.len.ensures.len, c.len-at.ensures.len);
    }

pub returns-in_err-place-2 : goal.returns-in_err-place-2
returns-in_err-place-2 g c =
    let es = c.args.self.now.entries in let l = c.loop-at in let e = c.in_err-place-2.ensures in
    let more : 0 < l.at = omega (arith, c.loop-at-test.true) in
    let none = sym (place_before-at es l.at l.place e.valid.apart more l.invariant.here) ∙ sym e.place in
    absurd (none-within (keys_of es) (l.at - 1) (omega (arith, slice_get_within (keys_of es) l.at l.place l.invariant.here)) none)

pub loop-at-preserved : goal.loop-at-preserved
loop-at-preserved g c =
    let es = c.args.self.now.entries in let l = c.loop-at in let e = c.in_ok-place-2.ensures in
    let more : 0 < l.at = omega (arith, c.loop-at-test.true) in record {
      here = sym (e.place ∙ place_before-at es l.at l.place e.valid.apart more l.invariant.here);
      behind = omega (arith, c.loop-at-test.true);
    }

pub returns : goal.returns
returns g c =
    let l = c.loop-at in let same : l.at ≡ c.args.index = omega (arith, c.loop-at-test.false, l.invariant.behind) in
    sym l.invariant.here ∙ ap (slice_get (keys_of c.args.self.now.entries)) same
