use Rattle.clru_through.proofs.Freshness.{said_fresh, said_stale}
use Rattle.clru_through.proofs.store.refresh.is_fresh.Goals as goal

pub returns-in-Some-clause-fresh : goal.returns-in-Some-clause-fresh
returns-in-Some-clause-fresh g c =
    said_fresh g.F.FnMut c.args.is_stale c.is_stale.new.self c.args.key c.peek.result c.in-Some.value c.is_stale.result _ c.in-Some.is c.peek.ensures c.is_stale.ensures

pub returns-in-Some-clause-stale : goal.returns-in-Some-clause-stale
returns-in-Some-clause-stale g c =
    said_stale g.F.FnMut c.args.is_stale c.is_stale.new.self c.args.key c.peek.result c.in-Some.value c.is_stale.result _ c.in-Some.is c.peek.ensures c.is_stale.ensures
