use Rattle.std.proofs.Common.{ℕ, List, ◌≡◌, ◌∙◌, ◌+◌, ◌<◌, ap, sym, refl, arith, length, drop, take, ◌-◌}
use Rattle.std.specs.List.{list_all, before_first, after_first}
use Rattle.std.specs.Char.{is_ascii_digit}
use Rattle.fixedpoint.specs.Number.{is_point, are_parts}
use Rattle.fixedpoint.proofs.MagnitudeLemmas.{rest_is, refused_whole, refused_fraction, cut_is}
use Rattle.fixedpoint.proofs.reading.cut_behind.Goals as goal

-- whether what is behind the digits kept is digits
rest_test : (fs : List ℕ) (n : ℕ) → list_all is_ascii_digit (take (length fs - n) (drop n fs)) ≡ list_all is_ascii_digit (drop n fs)
rest_test fs n = ap (list_all is_ascii_digit) (rest_is n fs)

pub returns-in-None-clause-refused : goal.returns-in-None-clause-refused
returns-in-None-clause-refused c = record {
  shape = refl;
  parts = refused_whole (before_first is_point c.args.text.now) (after_first is_point c.args.text.now) c.in-None.ensures.refused;
}

pub returns-then-not-are_digits-clause-refused : goal.returns-then-not-are_digits-clause-refused
returns-then-not-are_digits-clause-refused c =
    let fs = c.in-Some.parts.fraction.now in
    let n = c.leading_digits-kept.result.count in
    let no = sym (rest_test fs n) ∙ sym c.are_digits.ensures ∙ c.if-not-are_digits.true in
    record {
      shape = refl;
      parts = ap (are_parts (before_first is_point c.args.text.now)) (sym c.in-Some.ensures.found.behind) ∙ refused_fraction (before_first is_point c.args.text.now) fs n no;
    }

pub returns-clause-cut : goal.returns-clause-cut
returns-clause-cut c =
    let fs = c.in-Some.parts.fraction.now in
    let n = c.leading_digits-kept.result.count in
    let k = c.leading_digits-kept.ensures in
    let yes = sym (rest_test fs n) ∙ sym c.are_digits.ensures ∙ c.if-not-are_digits.false in
    let some : 0 < c.in-Some.parts.whole_digits + length fs = omega arith in
    rw (rest_is n fs) (cut_is c.args.places c.args.text.now fs c.min-wanted.result c.in-Some.parts.whole n c.leading_digits-kept.result.value c.in-Some.parts.whole_digits c.pow.result c.saturating_mul.result
    c.min-wanted.ensures c.in-Some.ensures.found (record { count = k.count; digits = k.digits; stops = k.stops; value = k.value }) yes some c.pow.ensures c.saturating_mul.ensures)
