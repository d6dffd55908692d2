use Rattle.std.proofs.Common.{◌≡◌, true, ◌^◌, ◌<◌, take, drop}
use Rattle.std.specs.Char.{is_ascii_digit}
use Rattle.std.specs.List.{list_all}
use Rattle.std.specs.Str.Parse.{digits_value, digits_value_after}
use Rattle.clru_text.proofs.capacity.digits_of.Given as goal

abbrev pub invariant-loop-digit : goal.invariant-loop-digit
invariant-loop-digit l = (l.value < 10 ^ l.digit-index)
    × (list_all is_ascii_digit (take l.digit-index l.word) ≡ true)
    × (digits_value_after 10 l.value (drop l.digit-index l.word) ≡ digits_value 10 l.word)
