use Rattle.std.proofs.Common.{◌≡◌, ◌≤◌, Bool, List, nat_eq, take}
use Rattle.std.specs.List.{count_by}
use Rattle.clru_through.specs.LoadRuns.{IsLoadRun}
use Rattle.clru_uses.proofs.of_stores.loads.fetches_of_all.Given as goal

abbrev pub invariant-loop-page : goal.invariant-loop-page
invariant-loop-page g l = (l.fetches ≤ l.page-index) × (fetched : List Bool) × (count_by (λ f. f) fetched ≡ l.fetches)
    × IsLoadRun nat_eq g.W.WeightScale.weight g.R.Fetch.fetches l.initial.store (take l.page-index l.pages) fetched l.store
