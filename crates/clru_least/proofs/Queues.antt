-- What the queue of next positions says of a position before the end.
use Rattle.std.proofs.Common.{◌≡◌, ℕ, zero, suc, ◌+◌, ◌<◌, false, ltb, eqb, refl, arith}
use Rattle.std.proofs.lemmas.Bool.{ne_eqb}
use Rattle.clru_least.specs.Positions.{times_in}
use Rattle.clru_least.specs.Queue.{queued}
use Rattle.clru_least.specs.declared.next_uses.NextUses.{NextUses}
use Rattle.clru_least.proofs.BitTrees.{bit_below}

one_or_none : (times : ℕ) → times < 2 → ltb 0 (times + 0) ≡ eqb times 1
one_or_none zero few = refl
one_or_none (suc zero) few = refl
one_or_none (suc (suc times)) few = absurd (omega (arith, few))

-- some key is requested next there if the position is in the set
pub queued_before : {A : Type 0} (uses : NextUses A) (p : ℕ) → p < uses.end
    → ltb 0 (queued uses p) ≡ eqb (times_in uses.positions.leaves uses.positions.words.items p) 1
queued_before uses p before =
    let not_end : eqb uses.end p ≡ false = ne_eqb uses.end p (λ same. omega (arith, same, before)) in
    rw not_end (one_or_none (times_in uses.positions.leaves uses.positions.words.items p) (bit_below _ _))
