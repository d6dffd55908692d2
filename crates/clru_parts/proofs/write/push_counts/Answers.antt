use Rattle.clru_parts.specs.Files.{head_text}
use Rattle.clru_parts.proofs.TextLemmas.{pushed_four}
use Rattle.clru_parts.proofs.write.push_counts.Goals as goal

pub returns : goal.returns
unfolding head_text
returns g c =
    pushed_four c.args.text.now.items _ _ _ _ _ _ _ _ c.in_ok-extend_from_slice.ensures.items c.in_ok-push_number.ensures
    c.in_ok-push_number-2.ensures c.in_ok-push_number-3.ensures
