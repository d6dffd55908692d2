use Rattle.std.proofs.Common.{sym, ap, ◌∙◌, subst, arith}
use Rattle.std.specs.Option.{option_to_list}
use Rattle.clru_model.proofs.Dropping.{weightless_drops}
use Rattle.clru.specs.Drops.{HandsOutTo}
use Rattle.clru.proofs.laws.law_dropped.Goals as goal

pub returns-clause-replaced : goal.returns-clause-replaced
returns-clause-replaced g c weight cache x v put f old f' both = both.replaced ∙ sym both.answer

pub returns-clause-dropped : goal.returns-clause-dropped
returns-clause-dropped g c weight cache x v put f old f' both =
    subst (λ l. HandsOutTo g.F.FnMut f l f')
    (weightless_drops g.K.PartialEq.eq weight both.weightless cache.capacity x v cache.entries both.valid.some (omega (arith, both.valid.fits))
    ∙ ap (λ o. option_to_list o) (sym both.dropped)) both.handed_out
