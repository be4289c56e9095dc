use Rattle.std.proofs.Common.{Bool, true, false, ◌≡◌, ◌<◌, refl, arith, length, get_or, cond, leb}
use mir.Val.{bool_byte}
use Rattle.std.proofs.lemmas.Bool.Decides.{nat_tests}
use Rattle.fixedpoint.proofs.Decimal.{first_decides, behind_cut, Behind}
use Rattle.fixedpoint.proofs.reading.round.Goals as goal

byte_is : (b : Bool) → bool_byte b ≡ cond b 1 0
byte_is true = refl
byte_is false = refl

-- the first digit decides
pub returns-then-factor-eq1 : goal.returns-then-factor-eq1
returns-then-factor-eq1 c =
    let ds = c.args.dropped.now in
    let some : 0 < length ds = grind (arith, nat_tests, c.is_empty.ensures, c.if-is_empty.false) in
    first_decides ds c.args.factor _ c.if-factor-eq1.true some c.requires.digits (byte_is (leb 53 (get_or ds 0 0)))

pub pow-power-requires : goal.pow-power-requires
pow-power-requires c = omega (arith, (behind_cut c.args.dropped.now _ _ c.args.factor c.requires.digits c.requires.few c.requires.factor.1 refl refl).power)

-- what is known of the digits
behind : (c : goal.After-value_of) → Behind c.value_of.result c.pow-power.result c.args.factor
behind c = behind_cut c.args.dropped.now c.value_of.result c.pow-power.result c.args.factor c.requires.digits c.requires.few c.requires.factor.1 c.value_of.ensures c.pow-power.ensures

pub overflow_mul-units : goal.overflow_mul-units
overflow_mul-units c = omega (arith, (behind c).units)

pub nearest-requires-clause-units : goal.nearest-requires-clause-units
nearest-requires-clause-units c = (behind c).units

pub nearest-requires-clause-power : goal.nearest-requires-clause-power
nearest-requires-clause-power c = ((behind c).some, (behind c).power)

pub overflow_cast-result-2 : goal.overflow_cast-result-2
overflow_cast-result-2 c =
    let few = (behind_cut c.args.dropped.now c.value_of.result c.pow-power.result c.args.factor c.requires.digits c.requires.few c.requires.factor.1 c.value_of.ensures c.pow-power.ensures).few in
    omega (arith, few, c.nearest.ensures, c.requires.factor.1)
