use Rattle.std.proofs.Common.{◌≤◌, ◌^◌, arith}
use Rattle.std.proofs.Math.Nat.{one-le-pow, pow-le-pow_right}
use Rattle.fixedpoint.proofs.PrintedLemmas.{writes_exactly, printed_shortest, reads_back}
use Rattle.fixedpoint.proofs.printing.push_number.Goals as goal

pub push_magnitude-requires-clause-power : goal.push_magnitude-requires-clause-power
push_magnitude-requires-clause-power c =
    let low = one-le-pow c.args.places 10 (omega arith) in
    let high : 10 ^ c.args.places ≤ 10 ^ 7 = pow-le-pow_right {n = 10} (omega arith) {i = c.args.places} {j = 7} (omega arith) in
    (omega arith, omega arith)

pub returns-clause-exact : goal.returns-clause-exact
returns-clause-exact c = writes_exactly c.args.places c.args.units c.requires.places.0 c.requires.places.1 c.requires.range

pub returns-clause-shortest : goal.returns-clause-shortest
returns-clause-shortest c = printed_shortest c.args.places c.args.units c.requires.range

pub returns-clause-reads_back : goal.returns-clause-reads_back
returns-clause-reads_back c = reads_back c.args.places c.args.units c.requires.places.1 c.requires.range
