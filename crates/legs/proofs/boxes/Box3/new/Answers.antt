use Rattle.std.proofs.Common.{arith}
use Rattle.std.proofs.lemmas.Int.{ints}
use Rattle.legs.proofs.boxes.Box3.new.Goals as goal

pub invariant_of-result : goal.invariant_of-result
invariant_of-result c = record {
  x = omega (arith, ints, c.rect.invariant.x);
  y = omega (arith, ints, c.rect.invariant.y);
  t = omega (arith, ints, c.start.ensures.ordered);
}
