use Rattle.std.proofs.Common.{length, ◌-◌, ◌≡◌, ◌≤◌, min, take, true}
use Rattle.std.specs.Char.{is_ascii_digit}
use Rattle.std.specs.List.{list_all}
use Rattle.std.specs.Str.Parse.{digits_value_after}
use Rattle.fixedpoint.proofs.reading.leading_digits.Given as goal

-- the digits so far are digits, and are read
abbrev pub invariant-loop-count : goal.invariant-loop-count
invariant-loop-count l = record {
  within : l.count ≤ length l.text;
  digits : list_all is_ascii_digit (take l.count l.text) ≡ true;
  value : l.value ≡ min 1000000000000001 (digits_value_after 10 l.start (take l.count l.text));
}

abbrev pub decreases-loop-count : goal.decreases-loop-count
decreases-loop-count l = length l.text - l.count
