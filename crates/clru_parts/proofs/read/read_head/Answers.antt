use Rattle.std.proofs.Common.{Some}
use Rattle.std.proofs.lemmas.Bool.Decides.{Decides-eqb}
use Rattle.std.proofs.lemmas.Slice.Eq.{strip_prefix_is}
use Rattle.clru_parts.specs.Files.{head_text}
use Rattle.clru_parts.proofs.read.read_head.Goals as goal

pub returns-in-Some-clause-read : goal.returns-in-Some-clause-read
unfolding head_text
returns-in-Some-clause-read c =
    strip_prefix_is Decides-eqb c.args.bytes.now head_text (Some c.in-Some.rest) c.in-Some.ensures.cases
