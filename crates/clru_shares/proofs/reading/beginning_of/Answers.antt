use Rattle.std.proofs.Common.{sym, arith}
use Rattle.std.proofs.lemmas.List.{length-take-le, take_all}
use Rattle.clru_shares.proofs.reading.beginning_of.Goals as goal

pub slice_bounds-result-end : goal.slice_bounds-result-end
slice_bounds-result-end c = sym (length-take-le 60 c.args.line.now (omega (arith, c.if-line-gt-MOST_SHOWN.true)))

pub returns-else-line-gt-MOST_SHOWN : goal.returns-else-line-gt-MOST_SHOWN
returns-else-line-gt-MOST_SHOWN c = sym (take_all 60 c.args.line.now (omega (arith, c.if-line-gt-MOST_SHOWN.false)))
