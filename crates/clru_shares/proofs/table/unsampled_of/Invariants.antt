use Rattle.std.proofs.Common.{◌≡◌, ◌-◌, ◌^◌, min, take}
use Rattle.std.specs.List.{sum_by}
use Rattle.clru_shares.specs.Passes.{unsampled_by}
use Rattle.clru_shares.proofs.table.unsampled_of.Given as goal

abbrev pub invariant-loop-share : goal.invariant-loop-share
invariant-loop-share g l = record {
  requests : l.requests ≡ min (2 ^ 64 - 1) (sum_by (unsampled_by (λ share. share.requests)) (take l.share-index l.shares));
  size : l.size ≡ min (2 ^ 64 - 1) (sum_by (unsampled_by (λ share. share.size)) (take l.share-index l.shares));
}
