use Rattle.clru_through.proofs.Looking.{IfSome-lookup}
use Rattle.clru_through.proofs.store.Through.peek.Goals as goal

pub returns-clause-value : goal.returns-clause-value
returns-clause-value g c =
    rw (← c.self.view_is) (IfSome-lookup (g.met.Q.Equivalent.respects_eq c.args.key) g.R.Fetch.keeps (g.met.R.Fetch.same c.self.inside.source)
    c.self.inside.cache.entries c.self.invariant c.peek.result c.peek.ensures)
