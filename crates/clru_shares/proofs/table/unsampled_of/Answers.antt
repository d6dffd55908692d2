use Rattle.std.proofs.Common.{ℕ, ◌<◌, arith}
use Rattle.clru_shares.specs.declared.share.Share.{Share}
use Rattle.clru_shares.proofs.PartLemmas.{unsampled_more, unsampled_none, unsampled_some}
use Rattle.clru_shares.proofs.table.unsampled_of.Goals as goal
use Rattle.clru_shares.proofs.table.unsampled_of.Goals.{then-share-eq0, else-share-eq0}

pub loop-share-preserved : goal.loop-share-preserved
loop-share-preserved g c =
    let shares = c.args.shares.now in let share = c.share-item.result in let before = c.loop-share.invariant in
    let more = λ (of : Share g.row.A.Denot → ℕ). unsampled_more of shares c.loop-share.share-index share c.loop-share-test.true c.share-item.is in
    let requests = more (λ s. s.requests) in let size = more (λ s. s.size) in
    elim c.if-share-eq0.branch [
      | then-share-eq0 w ↦ record {
        requests = omega (arith, w.requests-is, w.saturating_add-requests.ensures, before.requests, requests, unsampled_none (λ s. s.requests) share w.if-share-eq0.true);
        size = omega (arith, w.size-is, w.saturating_add-size.ensures, before.size, size, unsampled_none (λ s. s.size) share w.if-share-eq0.true);
      }
      | else-share-eq0 w ↦ let some : 0 < share.kept = omega (arith, w.if-share-eq0.false) in record {
        requests = omega (arith, w.requests-is, before.requests, requests, unsampled_some (λ s. s.requests) share some);
        size = omega (arith, w.size-is, before.size, size, unsampled_some (λ s. s.size) share some);
      }
    ]
