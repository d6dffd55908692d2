use Rattle.clru_text.proofs.picture.numbers.+write_number.Given as goal

-- a number has ever fewer digits
abbrev pub decreases-write_number : goal.decreases-write_number
decreases-write_number g l = l.number
