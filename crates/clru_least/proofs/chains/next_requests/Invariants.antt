use Rattle.std.proofs.Common.{◌≡◌, ◌^◌, ◌<◌, length, true, fold}
use Rattle.clru_list.specs.Packed.{greatest_by}
use Rattle.clru_least.specs.Chains.{AreTaken, HasRoom, masked_bucket}
use Rattle.clru_least.proofs.chains.next_requests.Given as goal

abbrev pub invariant-loop-position : goal.invariant-loop-position
invariant-loop-position g l = record {
  chained : AreTaken g.K.PartialEq.eq l.keys
      (λ k. masked_bucket l.chains.mask (g.S.Hasher.Hasher.finish (fold g.S.Hasher.Hasher.write (g.S.BuildHasher.build_hasher l.hash_builder) (g.K.Hash.hash_input k))))
      l.position l.chains.numbers.numbers l.chains.firsts.numbers;
  room : HasRoom (length l.keys) l.chains;
  narrow : length l.keys < 2 ^ 32 → l.chains.numbers.greatest ≡ greatest_by true;
}
