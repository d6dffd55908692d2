use Rattle.std.proofs.Common.{◌≡◌, true, ◌^◌, ◌<◌, ◌≤◌, take}
use Rattle.std.specs.Char.{is_ascii_digit}
use Rattle.std.specs.List.{list_all}
use Rattle.std.specs.Str.Parse.{digits_value}
use Rattle.clru_text.proofs.capacity.leading_number.Given as goal

abbrev pub invariant-loop-at : goal.invariant-loop-at
invariant-loop-at l = record {
  few : l.at ≤ 18;
  below : l.value < 10 ^ l.at;
  digits : list_all is_ascii_digit (take l.at l.bytes) ≡ true;
  is : l.value ≡ digits_value 10 (take l.at l.bytes);
}
