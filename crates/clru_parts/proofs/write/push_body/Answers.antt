use Rattle.std.proofs.Common.{◌≡◌, ◌∙◌, ◌++◌, ap}
use Rattle.std.specs.List.{flat_map}
use Rattle.clru_parts.specs.Files.{block_text, number_line}
use Rattle.clru_parts.proofs.TextLemmas.{pushed_four}
use Rattle.clru_parts.proofs.write.push_body.Goals as goal

pub returns : goal.returns
returns g c =
    let misses : c.as_slice-4.result.now ≡ flat_map number_line c.args.part.now.curve.items =
    c.as_slice-4.ensures.value ∙ c.in_ok-misses.ensures ∙ ap (flat_map number_line) c.as_slice.ensures.value in
    pushed_four c.args.text.now.items _ _ _ _ _ _ _ _ c.in_ok-push_counts.ensures
    (c.in_ok-push_block.ensures ∙ ap (λ l. c.push_counts.new.text.items ++ block_text l) c.as_slice-2.ensures.value)
    (c.in_ok-push_block-2.ensures ∙ ap (λ l. c.push_block.new.text.items ++ block_text l) c.as_slice-3.ensures.value)
    (c.in_ok-push_block-3.ensures ∙ ap (λ l. c.push_block-2.new.text.items ++ block_text l) misses)
