use Rattle.clru_least.proofs.positions.+flip_bit.Given as goal

abbrev pub decreases-flip_bit : goal.decreases-flip_bit
decreases-flip_bit g l = l.node
