use Rattle.std.proofs.Common.{reverse, slice_get, sym, ap, ◌∙◌}
use Rattle.std.specs.Map.Iter.{deref_pair}
use Rattle.std.specs.Option.{option_map}
use Rattle.clru_runs.proofs.Walking.{nth-last}
use Rattle.clru_runs.proofs.walks.nth_back.Goals as goal

pub returns-in-Some : goal.returns-in-Some
returns-in-Some g c =
    let there = nth-last deref_pair c.iter.result c.args.index c.nth_back.result c.nth_back.new.self c.nth_back.ensures.ran in
    ap (option_map (λ e. e.1)) (ap (option_map deref_pair) (sym c.in-Some.is) ∙ there ∙ ap (λ l. slice_get (reverse l) c.args.index) c.iter.ensures)

pub returns-in-None : goal.returns-in-None
returns-in-None g c =
    let there = nth-last deref_pair c.iter.result c.args.index c.nth_back.result c.nth_back.new.self c.nth_back.ensures.ran in
    ap (option_map (λ e. e.1)) (ap (option_map deref_pair) (sym c.in-None.is) ∙ there ∙ ap (λ l. slice_get (reverse l) c.args.index) c.iter.ensures)
