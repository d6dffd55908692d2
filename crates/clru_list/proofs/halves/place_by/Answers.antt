use Rattle.std.proofs.Common.{◌+◌, ◌*◌, arith}
use Rattle.clru_list.specs.Places.{place_by}
use Rattle.clru_list.proofs.Puts.{decide}
use Rattle.clru_list.proofs.halves.place_by.Goals as goal

pub returns : goal.returns
unfolding place_by
returns c =
    let number = c.args.lower + c.args.upper * 4294967296 in
    decide number 0 (λ e t. rw t (omega arith)) (λ ne f. rw f (omega arith))
