use Rattle.std.proofs.Common.{◌≡◌, ◌∙◌, arith, ◌-ℤ◌, ◌*ℤ◌, ap, SFits, to_z-of_z}
use mir.Syntax.{w64, w128}
use Rattle.std.proofs.lemmas.Int.{ints}
use Rattle.zones.specs.Places.{Corner, CourseView}
use Rattle.zones.proofs.edges.start_of.Goals as goal

pub returns-clause-value : goal.returns-clause-value
returns-clause-value c =
    let l = c.args.course.now in
    let from = c.args.from.now in
    let to = c.args.to.now in
    let v = c.course.view_is in
    let fx : c.from.inside.x ≡ from.x = ap (λ (p : Corner). p.x) c.from.view_is in
    let fy : c.from.inside.y ≡ from.y = ap (λ (p : Corner). p.y) c.from.view_is in
    let tx : c.to.inside.x ≡ to.x = ap (λ (p : Corner). p.x) c.to.view_is in
    let ty : c.to.inside.y ≡ to.y = ap (λ (p : Corner). p.y) c.to.view_is in
    let x0 : c.course.inside.x0 ≡ l.x0 = ap (λ (p : CourseView). p.x0) v in
    let x1 : c.course.inside.x1 ≡ l.x1 = ap (λ (p : CourseView). p.x1) v in
    let y0 : c.course.inside.y0 ≡ l.y0 = ap (λ (p : CourseView). p.y0) v in
    let y1 : c.course.inside.y1 ≡ l.y1 = ap (λ (p : CourseView). p.y1) v in
    let kfx : SFits w64 c.from.inside.x = omega (arith, ints, c.from.invariant.x) in
    let kfy : SFits w64 c.from.inside.y = omega (arith, ints, c.from.invariant.y) in
    let ktx : SFits w64 c.to.inside.x = omega (arith, ints, c.to.invariant.x) in
    let kty : SFits w64 c.to.inside.y = omega (arith, ints, c.to.invariant.y) in
    let kx0 : SFits w64 c.course.inside.x0 = omega (arith, ints, c.course.invariant.x0) in
    let kx1 : SFits w64 c.course.inside.x1 = omega (arith, ints, c.course.invariant.x1) in
    let ky0 : SFits w64 c.course.inside.y0 = omega (arith, ints, c.course.invariant.y0) in
    let ky1 : SFits w64 c.course.inside.y1 = omega (arith, ints, c.course.invariant.y1) in
    let ka : SFits w64 (c.course.inside.x0 -ℤ c.from.inside.x) = omega (arith, ints, c.course.invariant.x0, c.from.invariant.x) in
    let kb : SFits w64 (c.to.inside.y -ℤ c.from.inside.y) = omega (arith, ints, c.to.invariant.y, c.from.invariant.y) in
    let kc : SFits w64 (c.course.inside.y0 -ℤ c.from.inside.y) = omega (arith, ints, c.course.invariant.y0, c.from.invariant.y) in
    let kd : SFits w64 (c.to.inside.x -ℤ c.from.inside.x) = omega (arith, ints, c.to.invariant.x, c.from.invariant.x) in
    let ke : SFits w64 (c.course.inside.x1 -ℤ c.course.inside.x0) = omega (arith, ints, c.course.invariant.x0, c.course.invariant.x1) in
    let kf : SFits w64 (c.course.inside.y1 -ℤ c.course.inside.y0) = omega (arith, ints, c.course.invariant.y0, c.course.invariant.y1) in
    let r1 : c.cross.result ≡ (c.course.inside.x0 -ℤ c.from.inside.x) *ℤ (c.to.inside.y -ℤ c.from.inside.y) -ℤ (c.course.inside.y0 -ℤ c.from.inside.y) *ℤ (c.to.inside.x -ℤ c.from.inside.x) = simp to_z-of_z at c.cross.ensures.value in
    let k : SFits w128 c.cross.result = omega (arith, ints, c.cross.ensures.small) in
    to_z-of_z k ∙ r1 ∙ (λ i. (x0 i -ℤ fx i) *ℤ (ty i -ℤ fy i) -ℤ (y0 i -ℤ fy i) *ℤ (tx i -ℤ fx i))
