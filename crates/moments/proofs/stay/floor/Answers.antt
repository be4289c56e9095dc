use Rattle.std.proofs.Common.{arith, ◌∙◌, ◌≡◌, ℤ, pos, ◌+ℤ◌, ◌*ℤ◌, ◌≤ℤ◌, ◌<ℤ◌, sym, subst, rules, FitsSigned, to_z, of_z, w64}
use Rattle.std.specs.Int.{int_div_euclid, w128}
use Rattle.std.proofs.lemmas.Int.{ints, to_z-of_z}
use Rattle.visiting.proofs.Quotients.{floor_at}
use Rattle.moments.proofs.stay.floor.Goals as goal

quotient : (c : goal.After-div_euclid) → to_z w128 (of_z w128 c.div_euclid.result) ≡ int_div_euclid c.args.n c.args.d
quotient c =
    let n = to_z-of_z w128 c.args.n c.ranges.n in
    let d : to_z w128 (of_z w128 (to_z w64 (of_z w64 c.args.d))) ≡ c.args.d = let h = c.ranges.d in omega (arith, ints, h) in
    let fits : FitsSigned w128 c.div_euclid.result = search rules in
    to_z-of_z w128 c.div_euclid.result fits ∙ c.div_euclid.ensures ∙ (λ i. int_div_euclid (n i) (d i))

pub returns-clause-most : goal.returns-clause-most
returns-clause-most c = subst (λ (q : ℤ). (q *ℤ c.args.d) ≤ℤ c.args.n) (sym (quotient c)) (floor_at c.args.n c.args.d c.requires).0

pub returns-clause-next : goal.returns-clause-next
returns-clause-next c = subst (λ (q : ℤ). c.args.n <ℤ ((q +ℤ pos 1) *ℤ c.args.d)) (sym (quotient c)) (floor_at c.args.n c.args.d c.requires).1
