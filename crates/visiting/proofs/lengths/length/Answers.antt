use Rattle.std.proofs.Common.{◌≡◌, ◌∙◌, ap, arith, ℤ, ◌-ℤ◌, ◌<◌, ◌^◌, to_z, of_z, w64, unsigned_abs}
use Rattle.std.proofs.lemmas.Int.{ints}
use Rattle.visiting.specs.Lengths.{not_below_0}
use Rattle.visiting.proofs.lengths.length.Goals as goal

difference_is : (x y : ℤ) → unsigned_abs x < 2 ^ 58 → unsigned_abs y < 2 ^ 58 → to_z w64 (of_z w64 (to_z w64 (of_z w64 x) -ℤ to_z w64 (of_z w64 y))) ≡ x -ℤ y
difference_is x y h k = omega (arith, ints, h, k)

pub overflow_sub-least : goal.overflow_sub-least
overflow_sub-least c = let a = c.args.to.down_small in let b = c.args.from.up_small in omega (arith, ints, a, b)

pub overflow_sub-most : goal.overflow_sub-most
overflow_sub-most c = let a = c.args.to.up_small in let b = c.args.from.down_small in omega (arith, ints, a, b)

pub returns-clause-least : goal.returns-clause-least
returns-clause-least c = c.not_below_0.ensures ∙ ap not_below_0 (difference_is c.args.to.down c.args.from.up c.args.to.down_small c.args.from.up_small)

pub returns-clause-most : goal.returns-clause-most
returns-clause-most c = c.not_below_0-2.ensures ∙ ap not_below_0 (difference_is c.args.to.up c.args.from.down c.args.to.up_small c.args.from.down_small)
