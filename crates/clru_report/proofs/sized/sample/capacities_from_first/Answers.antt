use Rattle.std.proofs.Common.{◌+◌, ◌/◌, nat_le, map, ap, ◌∙◌, rules}
use Rattle.std.proofs.lemmas.Fn.{filter_same}
use Rattle.std.specs.Int.NonZero.{non_zero_usize_get}
use Rattle.std.specs.List.{filter}
use Rattle.clru_report.specs.Passes.{capacities_on}
use Rattle.clru_report.proofs.CapacityLemmas.{map-filter}
use Rattle.clru_report.proofs.sized.sample.capacities_from_first.Goals as goal

pub returns : goal.returns
returns g c =
    let first = c.first_capacity-first.result in let curve = c.args.curve.now in
    let totals = c.args.totals in let table = map non_zero_usize_get c.args.table.now in
    ap (map non_zero_usize_get) (filter_same _ (λ n. nat_le first (non_zero_usize_get n)) _ (λ x b f' k. search rules) _ _ c.retain.ensures.filtered)
    ∙ map-filter (λ n. nat_le first n) non_zero_usize_get _
    ∙ ap (filter (λ n. nat_le first n)) c.in_ok-chosen.ensures
    ∙ ap (λ k. filter (λ n. nat_le k n) (capacities_on curve c.args.capacities.now (totals.requests / c.get-one_in.result)
    (totals.size / c.get-one_in.result) table)) c.first_capacity-first.ensures
    ∙ ap (λ k. filter (λ n. nat_le (1 + curve.greatest_weight) n) (capacities_on curve c.args.capacities.now (totals.requests / k)
    (totals.size / k) table)) c.get-one_in.ensures.value
