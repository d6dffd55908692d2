use Rattle.std.proofs.Common.{ℕ, ap, ◌-◌, ◌∙◌, length, slice_get}
use Rattle.clru.proofs.CallerWalks.{last-given}
use Rattle.clru_uses.proofs.walks.oldest.Goals as goal

pub returns : goal.returns
returns c =
    last-given {X = ℕ × ℕ} c.into_iter.result c.next_back.new.self c.next_back.result c.next_back.ensures.steps
    ∙ ap (λ es. slice_get es (length es - 1)) c.into_iter.ensures.into_iter_gives
