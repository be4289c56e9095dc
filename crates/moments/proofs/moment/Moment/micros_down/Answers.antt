use Rattle.std.proofs.Common.{arith, subst, sym, ◌∙◌, ℤ, pos, ◌*ℤ◌, ◌≡◌, to_z, of_z, w64}
use Rattle.std.specs.Int.{int_div_euclid, w128}
use Rattle.std.proofs.lemmas.Int.{ints}
use Rattle.visiting.specs.Fractions.{IsFloor}
use Rattle.visiting.proofs.Quotients.{floor_is}
use Rattle.moments.proofs.Quotients.{micros_in, milli_in}
use Rattle.moments.proofs.moment.Moment.micros_down.Goals as goal

floor_of : (c : goal.After-div_euclid) → to_z w64 (of_z w64 (to_z w128 (of_z w128 c.div_euclid.result))) ≡ int_div_euclid (c.args.self.num *ℤ pos 1000) (pos c.args.self.den)
floor_of c =
    let m = c.args.self in
    let after = m.in_time.0 in
    let before = m.in_time.1 in
    let num : to_z w128 (of_z w128 (to_z w128 (of_z w128 m.num) *ℤ pos 1000)) ≡ m.num *ℤ pos 1000 = omega (arith, ints, after, before) in
    let den : to_z w128 m.den ≡ pos m.den = omega (arith, ints) in
    let is : c.div_euclid.result ≡ int_div_euclid (m.num *ℤ pos 1000) (pos m.den) = c.div_euclid.ensures ∙ (λ i. int_div_euclid (num i) (den i)) in
    let within = micros_in m.num m.den m.positive m.in_time in
    let least = within.0 in
    let most = within.1 in
    omega (arith, ints, is, least, most)

pub returns-clause-value : goal.returns-clause-value
returns-clause-value c = floor_of c

pub returns-clause-floor : goal.returns-clause-floor
returns-clause-floor c =
    let m = c.args.self in
    subst (λ (q : ℤ). IsFloor (pos 1000) m.num m.den q) (sym (floor_of c)) (floor_is (m.num *ℤ pos 1000) m.den m.positive)

pub returns-clause-small : goal.returns-clause-small
returns-clause-small c =
    let m = c.args.self in
    let within = micros_in m.num m.den m.positive m.in_time in
    let least = within.0 in
    let most = within.1 in
    let e = floor_of c in
    omega (arith, ints, e, least, most)

pub returns-clause-milli : goal.returns-clause-milli
returns-clause-milli c =
    let m = c.args.self in
    let within = micros_in m.num m.den m.positive m.in_time in
    let least = within.0 in
    let most = within.1 in
    let e = floor_of c in
    milli_in _ (omega (arith, ints, e, least)) (omega (arith, ints, e, most))
