-- Worked inputs and their reports, each by computing.
use Rattle.std.proofs.Common.{◌≡◌, [], ◌∷◌, None, Some, refl}
use Rattle.std.specs.Prelude.{codes}
use Rattle.std.specs.Fmt.{digits}
use Rattle.clru_replay.specs.Report.{report}

-- three keys and room for two, the last line without its newline
three_keys_in_two_places : report (codes "2\na\nb\nc\na") ≡ Some (codes "M\nM\nM\nM\nmisses 4\n")
unfolding digits
three_keys_in_two_places = refl

-- the capacity may have leading zeros
leading_zeros : report (codes "007\nx\nx\n") ≡ Some (codes "M\nH\nmisses 1\n")
unfolding digits
leading_zeros = refl

-- an empty line is the empty key
empty_keys : report (codes "2\n\n\n") ≡ Some (codes "M\nH\nmisses 1\n")
unfolding digits
empty_keys = refl

-- keys are bytes, and a carriage return is one
bytes_as_keys : report (49 ∷ 10 ∷ 0 ∷ 10 ∷ 0 ∷ 10 ∷ 0 ∷ 13 ∷ 10 ∷ []) ≡ Some (codes "M\nH\nM\nmisses 2\n")
unfolding digits
bytes_as_keys = refl

-- no request
capacity_alone : report (codes "2") ≡ Some (codes "misses 0\n")
unfolding digits
capacity_alone = refl

-- the greatest capacity
greatest_capacity : report (codes "18446744073709551615\na\n") ≡ Some (codes "M\nmisses 1\n")
unfolding digits
greatest_capacity = refl

capacity_above_greatest : report (codes "18446744073709551616\na\n") ≡ None
capacity_above_greatest = refl

capacity_zero : report (codes "0\n") ≡ None
capacity_zero = refl

nothing : report [] ≡ None
nothing = refl

empty_first_line : report (codes "\n2\na\n") ≡ None
empty_first_line = refl

capacity_with_sign : report (codes "+2\na\n") ≡ None
capacity_with_sign = refl

capacity_with_carriage_return : report (codes "2\r\na\n") ≡ None
capacity_with_carriage_return = refl

capacity_of_21_digits : report (codes "000000000000000000001\n") ≡ None
capacity_of_21_digits = refl
