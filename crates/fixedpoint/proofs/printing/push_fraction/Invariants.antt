use Rattle.std.proofs.Common.{◌≡◌, ◌<◌, ◌+◌, ◌-◌, ◌≤◌, ◌++◌}
use Rattle.arrayvec.specs.ArrayVec.{array_vec_len}
use Rattle.fixedpoint.specs.NumberText.{fraction_digits}
use Rattle.fixedpoint.proofs.printing.push_fraction.Given as goal

-- the digits so far and those to come are all
abbrev pub invariant-digits : goal.invariant-digits
invariant-digits l = record {
  all : l.text.items ++ fraction_digits (l.places - l.place) l.power l.rest ≡ l.initial.text.items ++ fraction_digits l.places l.power l.initial.rest;
  below : l.rest < l.power;
  room : array_vec_len l.text + (l.places - l.place) ≤ 64;
}
