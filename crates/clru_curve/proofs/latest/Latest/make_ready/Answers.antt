use Rattle.std.proofs.Common.{◌/◌, ◌%◌, sym, ap, ◌∙◌, subst}
use Rattle.clru_curve.specs.Latest.{ones_from}
use Rattle.clru_curve.specs.Rising.{EndsAt, IsRising}
use Rattle.clru_curve.proofs.Blocks.{ones_from_push}
use Rattle.clru_curve.proofs.Latests.{is_whole, all_below, IsLatest-block}
use Rattle.clru_curve.proofs.latest.Latest.make_ready.Goals as goal

pub returns-in_default-push-clause-ones : goal.returns-in_default-push-clause-ones
returns-in_default-push-clause-ones g c p =
    ap (λ l. ones_from l p) c.in_default-push.ensures.items ∙ c.drop_empty.ensures.ones p

pub returns-clause-kept : goal.returns-clause-kept
returns-clause-kept g c =
    let self = c.args.self.now in let bs = self.blocks.items in let n = self.requests in
    let thin = c.drop_empty.new.self in let e = c.drop_empty.ensures in
    let not_last = subst (λ l. EndsAt l (n / 64) → ⊥) c.deref.ensures.value (c.ends_at.ensures.no c.if-ends_at.false) in
    let at = ap (λ k. k / 64) (sym e.requests) in
    let below = e.rising (n / 64) (all_below bs self.nodes.items n c.requires.kept not_last) in
    rw (c.in-Ok-push.ensures.items, c.push_reserved.ensures.items, c.reserve.ensures.items)
    (IsLatest-block thin.blocks.items thin.nodes.items thin.requests e.kept (n / 64) at
    (ap (λ k. k % 64) e.requests ∙ is_whole bs self.nodes.items n c.requires.kept not_last) (subst (IsRising 0 thin.blocks.items) at below))

pub returns-clause-ones : goal.returns-clause-ones
returns-clause-ones g c p =
    ap (λ l. ones_from l p) c.in-Ok-push.ensures.items ∙ ones_from_push c.drop_empty.new.self.blocks.items _ p ∙ c.drop_empty.ensures.ones p
