use Rattle.std.proofs.Common.{sym, ap}
use Rattle.clru.specs.Cache.{with_entries}
use Rattle.clru_runs.specs.declared.call.Answer.TheVariants.{Value}
use Rattle.clru_runs.proofs.Lending.{set_value-absent}
use Rattle.clru_runs.proofs.lends.peek_mut.Goals as goal

pub returns : goal.returns
returns g c =
    let old = c.args.cache.now in let none = c.in-None.ensures.value in
    (ap (λ o. Value o) none, ap (λ es. with_entries old es) (sym (set_value-absent (g.K.PartialEq.eq c.args.key) c.args.value old.entries (sym none))))
