use Rattle.std.proofs.Common.{false, IsSomeAnd, subst}
use Rattle.std.specs.Map.{lookup}
use Rattle.clru_through.specs.Unless.{Says}
use Rattle.clru_through.proofs.Freshness.{first_fresh, fresh_loaded}
use Rattle.clru_through.proofs.store.Through.load_unless.Goals as goal

pub returns-then-is_fresh-clause-fresh : goal.returns-then-is_fresh-clause-fresh
returns-then-is_fresh-clause-fresh g c =
    let eq = g.K.PartialEq.eq in let key = c.args.key in let says = Says g.F.FnMut c.args.is_stale key in let old = c.args.self.now in
    let said = subst (λ s. IsSomeAnd (lookup (eq key) s.cache.entries) (λ v. says v false)) c.self.view_is (c.is_fresh.ensures.fresh c.if-is_fresh.true) in
    fresh_loaded eq (g.W.WeightScale.weight old.cache.scale) g.R.Fetch.fetches says old key c.load.new.self c.load.result said c.load.ensures.step

pub returns-then-is_fresh-clause-front : goal.returns-then-is_fresh-clause-front
returns-then-is_fresh-clause-front g c =
    let eq = g.K.PartialEq.eq in let key = c.args.key in let says = Says g.F.FnMut c.args.is_stale key in let old = c.args.self.now in
    let said = subst (λ s. IsSomeAnd (lookup (eq key) s.cache.entries) (λ v. says v false)) c.self.view_is (c.is_fresh.ensures.fresh c.if-is_fresh.true) in
    first_fresh eq (g.W.WeightScale.weight old.cache.scale) g.R.Fetch.fetches says old key c.load.new.self c.load.result said c.load.ensures.step
