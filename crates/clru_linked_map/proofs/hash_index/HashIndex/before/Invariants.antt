use Rattle.std.proofs.Common.{◌≡◌, ℕ, length}
use Rattle.clru_list.specs.Places.{nowhere}
use Rattle.clru_linked_map.specs.Chained.{IsCut, IsCutBehind, IsPlace, IsWalk, steps_left}
use Rattle.clru_linked_map.specs.Buckets.{steps_in, HasLink}
use Rattle.clru_linked_map.proofs.hash_index.HashIndex.before.Given as goal

abbrev pub invariant-loop-next : goal.invariant-loop-next
invariant-loop-next g l = record {
  leads : steps_in l.self l.bucket l.at ≡ l.next;
  there : (l.at ≡ nowhere → ⊥) → steps_in l.self l.bucket l.behind ≡ l.at;
  walk : IsWalk (steps_in l.self l.bucket) (HasLink l.self) (IsPlace l.place) l.next (length l.self.links);
  cut : (met : ℕ → ℕ) → IsCut (steps_in l.self l.bucket) met nowhere → IsCutBehind (steps_in l.self l.bucket) met l.behind l.at;
}

abbrev pub decreases-loop-next : goal.decreases-loop-next
decreases-loop-next g l = steps_left (steps_in l.self l.bucket) l.next (length l.self.links)
