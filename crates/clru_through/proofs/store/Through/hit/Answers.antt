use Rattle.std.proofs.Common.{refl}
use Rattle.clru_through.proofs.Looking.{IfSome-lookup, first_if_some, unchanged_if_none}
use Rattle.clru_through.proofs.Sourced.{AllKeep-touch}
use Rattle.clru_through.proofs.store.Through.hit.Goals as goal

pub invariant_of-self : goal.invariant_of-self
invariant_of-self g c =
    rw c.get.follows.holds-at-none
    (AllKeep-touch g.Q.Equivalent.equivalent c.args.key g.R.Fetch.keeps (g.R.Fetch.promised c.self.inside.source) c.self.inside.cache.entries
    c.self.invariant)

pub returns : goal.returns
returns g c =
    let eq = g.Q.Equivalent.equivalent in let key = c.args.key in let cache = c.self.inside.cache in let source = c.self.inside.source in
    let ends = c.get.follows.holds-at-none in let value = c.get.ensures.value in (
      (
        refl,
        λ _. tt,
        (
          rw (ends, ← c.self.view_is) refl,
          rw (ends, ← c.self.view_is) (unchanged_if_none eq key cache source c.get.result value),
          rw ends (first_if_some eq key cache.entries c.get.result value),
        ),
      ),
      record {
        leaves = tt;
        held = rw (← c.self.view_is) value;
        value = rw (← c.self.view_is) (IfSome-lookup (g.met.Q.Equivalent.respects_eq key) g.R.Fetch.keeps (g.met.R.Fetch.same source) cache.entries
            c.self.invariant c.get.result value);
      },
    )
