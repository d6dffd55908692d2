use Rattle.std.proofs.Common.{◌+◌, ◌*◌, arith}
use Rattle.clru_list.specs.Places.{place_by}
use Rattle.clru_list.proofs.Puts.{decide}
use Rattle.clru_list.proofs.halves.place_numbered.Goals as goal

pub returns : goal.returns
unfolding place_by
returns c =
    decide (c.args.number + 0 * 4294967296) 0 (λ e t. rw t (omega arith)) (λ ne f. rw f (omega arith))
