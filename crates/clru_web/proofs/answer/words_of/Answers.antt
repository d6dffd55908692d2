use Rattle.std.proofs.Common.{not, rules, tests}
use Rattle.std.specs.Prelude.{bytes_eq, codes}
use Rattle.std.proofs.lemmas.Iterator.Consumers.{YieldsList-from_filter, map_from_collect}
use Rattle.std.proofs.lemmas.Iterator.Splits.{YieldsList-from_lines}
use Rattle.clru_web.proofs.answer.words_of.Goals as goal

pub returns : goal.returns
returns g c = map_from_collect _ c.collect.ensures.ran
    (YieldsList-from_filter _ (λ w. not (bytes_eq w (codes "--progress"))) (YieldsList-from_lines c.args.text.now cc) c.filter.ensures.closure
    (λ x r q k. search (rules, tests)))
