use Rattle.std.proofs.Common.{arith, ◌-ℤ◌, sym, ◌∙◌, refl, SFits, to_z-of_z, IsTrue, ◌↔◌}
use mir.Syntax.{w64}
use Rattle.std.proofs.lemmas.Int.{ints}
use Rattle.std.proofs.lemmas.Bool.{false≢true}
use Rattle.clipping.specs.Line.{OnSide}
use Rattle.clipping.proofs.Cuts.{across_sides}
use Rattle.clipping.proofs.inside.is_across.Goals as goal

pub returns-then-is_on_side : goal.returns-then-is_on_side
returns-then-is_on_side c =
    let x = c.args in
    let fs : SFits w64 x.s = c.ranges.s in
    let fd : SFits w64 x.d = c.ranges.d in
    let fa : SFits w64 x.a = c.ranges.a in
    let fb : SFits w64 x.b = c.ranges.b in
    let fl : SFits w64 x.least = c.ranges.least in
    let fm : SFits w64 x.most = c.ranges.most in
    let f1 : SFits w64 (x.b -ℤ x.a) = omega (arith, ints) in
    let f2 : SFits w64 (x.a -ℤ x.least) = omega (arith, ints) in
    let f3 : SFits w64 (x.a -ℤ x.b) = omega (arith, ints) in
    let f4 : SFits w64 (x.most -ℤ x.a) = omega (arith, ints) in
    let sides = across_sides x.a x.b x.least x.most (x.b -ℤ x.a) (x.a -ℤ x.least) (x.a -ℤ x.b) (x.most -ℤ x.a) refl refl refl refl x.s x.d c.requires.d_positive in
    let first : IsTrue c.is_on_side.result ↔ OnSide (x.b -ℤ x.a) (x.a -ℤ x.least) x.s x.d = simp to_z-of_z at c.is_on_side.ensures in
    let second : IsTrue c.is_on_side-then-is_on_side.result ↔ OnSide (x.a -ℤ x.b) (x.most -ℤ x.a) x.s x.d = simp to_z-of_z at c.is_on_side-then-is_on_side.ensures in
    let one = first.0 c.if-is_on_side.true in
    (λ t. sides.0 (one, second.0 t), λ across. second.1 (sides.1 across).1)

pub returns-else-is_on_side : goal.returns-else-is_on_side
returns-else-is_on_side c =
    let x = c.args in
    let fs : SFits w64 x.s = c.ranges.s in
    let fd : SFits w64 x.d = c.ranges.d in
    let fa : SFits w64 x.a = c.ranges.a in
    let fb : SFits w64 x.b = c.ranges.b in
    let fl : SFits w64 x.least = c.ranges.least in
    let fm : SFits w64 x.most = c.ranges.most in
    let f1 : SFits w64 (x.b -ℤ x.a) = omega (arith, ints) in
    let f2 : SFits w64 (x.a -ℤ x.least) = omega (arith, ints) in
    let sides = across_sides x.a x.b x.least x.most (x.b -ℤ x.a) (x.a -ℤ x.least) (x.a -ℤ x.b) (x.most -ℤ x.a) refl refl refl refl x.s x.d c.requires.d_positive in
    let first : IsTrue c.is_on_side.result ↔ OnSide (x.b -ℤ x.a) (x.a -ℤ x.least) x.s x.d = simp to_z-of_z at c.is_on_side.ensures in
    let no = c.if-is_on_side.false in
    (λ t. absurd (false≢true (sym no ∙ t)), λ across. first.1 (sides.1 across).0)
