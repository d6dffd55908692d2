use Rattle.clru_through.proofs.Looking.{IfSome-first}
use Rattle.clru_through.proofs.store.Through.front.Goals as goal

pub returns-clause-value : goal.returns-clause-value
returns-clause-value g c =
    let source = c.self.inside.source in
    rw (← c.self.view_is) (IfSome-first g.R.Fetch.keeps (g.R.Fetch.promised source) c.self.inside.cache.entries c.self.invariant c.front.result c.front.ensures)
