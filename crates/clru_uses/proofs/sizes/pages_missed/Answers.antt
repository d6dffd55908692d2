use Rattle.std.proofs.Common.{◌≡◌, true, false, not, nat_eq, is_some, refl, sym, ap, ◌∙◌, arith, rules}
use Rattle.std.proofs.lemmas.Bool.{eqb-true}
use Rattle.std.proofs.lemmas.List.{map-id}
use Rattle.std.proofs.lemmas.Iterator.Adapters.{YieldsList-from_vec}
use Rattle.std.proofs.lemmas.Iterator.Consumers.{YieldsList-end}
use Rattle.std.proofs.lemmas.List.{length_push}
use Rattle.std.specs.List.{count_by}
use Rattle.clru_model.specs.Sizes.{misses_by_size}
use Rattle.clru.proofs.CallerLemmas.{CountedRuns-push}
use Rattle.clru_uses.proofs.sizes.pages_missed.Goals as goal

pub loop-page-preserved-in-Ok-Some : goal.loop-page-preserved-in-Ok-Some
loop-page-preserved-in-Ok-Some g c =
    let before = c.loop-page.invariant in
    let put = c.in-Ok-Some.ensures in
    let light = rw (before.capacity, before.scale) at put.too_heavy.1 in
    let entries = rw (before.capacity, before.scale) at put.entries in
    let held = ap is_some (sym c.in-Ok-Some.field-0-is ∙ put.answer) in
    record {
      next = tt;
      ends = tt;
      runs = CountedRuns-push _ _ c.in-Some.page true before.runs held
          (record { key = c.in-Some.page; value = tt; same = search rules; light = omega (arith, light); entries = entries }) (omega arith);
      fewer = omega (arith, before.fewer, length_push c.loop-page.yielded c.in-Some.page);
      capacity = put.places.capacity ∙ before.capacity;
      scale = put.places.scale ∙ before.scale;
      places = omega (arith, before.places, put.places.never_falls);
    }

pub loop-page-preserved : goal.loop-page-preserved
loop-page-preserved g c =
    let before = c.loop-page.invariant in
    let put = c.in-Ok-None.ensures in
    let light = rw (before.capacity, before.scale) at put.too_heavy.1 in
    let entries = rw (before.capacity, before.scale) at put.entries in
    let held = ap is_some (sym c.in-Ok-None.field-0-is ∙ put.answer) in
    record {
      next = tt;
      ends = tt;
      runs = CountedRuns-push _ _ c.in-Some.page false before.runs held
          (record { key = c.in-Some.page; value = tt; same = search rules; light = omega (arith, light); entries = entries }) refl;
      fewer = omega (arith, before.fewer, length_push c.loop-page.yielded c.in-Some.page);
      capacity = put.places.capacity ∙ before.capacity;
      scale = put.places.scale ∙ before.scale;
      places = omega (arith, before.places, put.places.never_falls);
    }

pub returns : goal.returns
returns g c = record {
  misses = λ weight by_key.
      let r = c.loop-page.invariant.runs in
      let gives = YieldsList-from_vec {s = c.into_iter-page-iterator.result} c.args.pages.items (search rules) (search rules) in
      let whole = YieldsList-end gives c.loop-page.yielded c.loop-page.page-iterator c.loop-page.yielded_by c.next.result c.next.new.self
      c.in-None.is c.next.ensures.steps in
      let all : c.loop-page.yielded ≡ c.args.pages.items = sym (map-id c.loop-page.yielded) ∙ whole.0 in
      let hits = c.law_sizes.ensures.puts weight (g.W.WeightScale.weight c.args.cache.now.scale) c.args.cache.now.capacity
      c.loop-page.yielded r.later (λ x y e. ap weight (eqb-true x y e)) (λ i key value rest at. by_key key) r.run in
      r.missed ∙ ap (count_by not) hits ∙ ap (misses_by_size nat_eq weight c.args.cache.now.capacity) all;
  never_refused = λ _ _. refl;
}
