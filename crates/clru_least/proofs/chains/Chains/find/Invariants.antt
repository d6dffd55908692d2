use Rattle.std.proofs.Common.{◌≡◌, ℕ, ◌-◌, ◌<◌, ◌≤◌, List, Some}
use Rattle.std.specs.List.{slice_get}
use Rattle.clru_least.specs.Chains.{IsChain, IsWalked, number_in}
use Rattle.clru_least.proofs.chains.Chains.find.Given as goal

abbrev pub invariant-chain : goal.invariant-chain
invariant-chain g l = record {
  sought : (chain : List ℕ) (x : g.row.K.Denot) → IsChain (number_in l.self.numbers.numbers) l.first l.position chain
      → slice_get l.keys l.position ≡ Some x
      → IsWalked g.K.PartialEq.eq l.keys (number_in l.self.numbers.numbers) x chain l.behind l.number;
  behind : l.behind ≤ l.position;
  found : l.number ≤ l.position;
  link : 0 < l.number → number_in l.self.numbers.numbers (l.number - 1) < l.number;
  ahead : (rest : List ℕ) × IsChain (number_in l.self.numbers.numbers) l.number l.position rest;
}

abbrev pub decreases-chain : goal.decreases-chain
decreases-chain g l = l.number
