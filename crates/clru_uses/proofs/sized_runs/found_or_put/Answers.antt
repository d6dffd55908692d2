use Rattle.std.proofs.Common.{rules, ◌≡◌, true, false, nat_eq, is_some, ◌∙◌, arith}
use Rattle.std.specs.Map.{lookup}
use Rattle.clru_model.specs.Entries.{touch}
use Rattle.clru_model.specs.SizedRuns.{IsSizedPut}
use Rattle.clru.proofs.CallerLemmas.{IsGetOr-held, IsGetOr-missed, touch-none}
use Rattle.clru_uses.proofs.sized_runs.found_or_put.Goals as goal

pub returns-then-is_some-clause-step : goal.returns-then-is_some-clause-step
returns-then-is_some-clause-step g c =
    let cache = c.args.cache.now in
    let found : is_some (lookup (nat_eq c.args.page) cache.entries) ≡ true = search rules in
    let after : c.get.follows.lender-at-none.entries ≡ touch nat_eq c.args.page cache.entries = search rules in
    IsGetOr-held nat_eq (IsSizedPut nat_eq (g.W.WeightScale.weight cache.scale) cache.capacity) c.args.page cache.entries _ found after

pub returns-clause-step : goal.returns-clause-step
returns-clause-step g c =
    let cache = c.args.cache.now in
    let page = c.args.page in
    let looked = c.get.follows.lender-at-none in
    let none : is_some (lookup (nat_eq page) cache.entries) ≡ false = search rules in
    let after : looked.entries ≡ touch nat_eq page cache.entries = search rules in
    let same : looked.entries ≡ cache.entries = after ∙ touch-none nat_eq page cache.entries none in
    let capacity : looked.capacity ≡ cache.capacity = search rules in
    let scale : looked.scale ≡ cache.scale = search rules in
    let put = c.in_ok-put_with_weight.ensures in
    let light = rw (capacity, scale) at put.too_heavy.1 in
    IsGetOr-missed nat_eq (IsSizedPut nat_eq (g.W.WeightScale.weight cache.scale) cache.capacity) page cache.entries _ none
    (record {
      key = page;
      value = c.args.text;
      same = search rules;
      light = omega (arith, light);
      entries = rw (capacity, scale, same) at put.entries;
    })
