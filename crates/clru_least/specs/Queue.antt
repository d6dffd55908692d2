-- The positions of next requests, as the walk keeps them. No public clause cites it.
use Rattle.std.specs.Prelude.{ℕ, ◌+◌, ◌/◌, ◌<◌, length, nat_eq, if◌then◌else◌}
use Rattle.clru_least.specs.Positions.{IsTree, times_in}
use Rattle.clru_least.specs.declared.next_uses.NextUses.{NextUses}

-- 1 at the position q, and 0 elsewhere
abbrev pub one_at : ℕ → ℕ → ℕ
one_at q p = if nat_eq q p then 1 else 0

module _ {A : Type 0} where
  -- how many keys are requested next at the position p
  abbrev pub queued : NextUses A → ℕ → ℕ
  queued uses p = times_in uses.positions.leaves uses.positions.words.items p + (if nat_eq uses.end p then uses.never_again else 0)

  -- what holds of every queue
  pub record IsQueue (uses : NextUses A) : Type 0 where
    pub tree : IsTree uses.positions.levels uses.positions.leaves uses.positions.words.items
    pub room : uses.positions.leaves + uses.end / 64 < length uses.positions.words.items
