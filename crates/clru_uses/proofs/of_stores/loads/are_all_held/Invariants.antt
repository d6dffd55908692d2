use Rattle.std.proofs.Common.{Bool, List, nat_eq, take}
use Rattle.clru_through.specs.LoadRuns.{IsSizedLoadRun}
use Rattle.clru_uses.proofs.of_stores.loads.are_all_held.Given as goal

abbrev pub invariant-loop-page : goal.invariant-loop-page
invariant-loop-page g l = (fetched : List Bool)
    × IsSizedLoadRun nat_eq g.W.WeightScale.weight g.R.Fetch.fetches (λ page. page) l.initial.store (take l.page-index l.pages) fetched l.store
