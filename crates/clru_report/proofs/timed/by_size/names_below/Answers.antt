use Rattle.std.proofs.Common.{nat_lt, sym, ap, ◌∙◌}
use Rattle.std.specs.Int.NonZero.{non_zero_usize_get}
use Rattle.std.specs.List.{list_any}
use Rattle.clru_report.specs.Refusals.{names_below}
use Rattle.clru_report.proofs.FaultLemmas.{any_shown}
use Rattle.clru_report.proofs.timed.by_size.names_below.Goals as goal

pub returns-in-Named : goal.returns-in-Named
returns-in-Named g c =
    let first = c.args.first in
    c.is_any_below.ensures ∙ ap (list_any (λ n. nat_lt (non_zero_usize_get n) first)) c.deref.ensures.value
    ∙ any_shown (λ n. nat_lt n first) non_zero_usize_get c.in-Named.named.items
    ∙ ap (λ capacities. names_below capacities first) (sym c.in-Named.is)
