use Rattle.std.proofs.Common.{ap, ◌∙◌}
use Rattle.std.proofs.lemmas.Option.{slice_get-map}
use Rattle.std.specs.List.{slice_get}
use Rattle.std.specs.Option.{option_map}
use Rattle.clru_model.specs.Sizes.{spans}
use Rattle.clru_model.specs.Spans.{is_within}
use Rattle.clru_uses.proofs.sizes.hits_by_span.Goals as goal

pub returns-clause-by_position : goal.returns-clause-by_position
returns-clause-by_position g c weight requests i r =
    let eq = g.K.PartialEq.eq in
    let there = (c.law_spans_by_position.ensures.spans weight i c.args.least requests).1 r in
    ap (λ ms. slice_get ms i) (c.law_sizes.ensures.marks weight c.args.capacity requests)
    ∙ slice_get-map (is_within c.args.capacity) (spans eq weight requests) i
    ∙ ap (λ s. option_map (is_within c.args.capacity) s) there
