use Rattle.std.proofs.Common.{arith, rules, ◌∙◌, w64}
use Rattle.std.specs.Prelude.{FitsSigned}
use Rattle.std.proofs.lemmas.Int.{ints, clamps, to_z-of_z}
use Rattle.legs.proofs.BoxLemmas.{same_bounds, min_is, max_is}
use Rattle.legs.proofs.boxes.Box3.of.Goals as goal

pub invariant_of-result : goal.invariant_of-result
invariant_of-result c = record {
  x = omega (arith, ints, clamps);
  y = omega (arith, ints, clamps);
  t = omega (arith, ints, c.leg.invariant.rises);
}

pub returns : goal.returns
returns c =
    let f : FitsSigned w64 c.min.result = search rules in
    let g : FitsSigned w64 c.min-2.result = search rules in
    let h : FitsSigned w64 c.max.result = search rules in
    let k : FitsSigned w64 c.max-2.result = search rules in
    let a : FitsSigned w64 c.units-x0.result = search rules in
    let b : FitsSigned w64 c.units-x1.result = search rules in
    let p : FitsSigned w64 c.units-y0.result = search rules in
    let q : FitsSigned w64 c.units-y1.result = search rules in
    let s : FitsSigned w64 c.millis.result = search rules in
    let t : FitsSigned w64 c.millis-2.result = search rules in
    rw (← c.leg.view_is) (same_bounds _ _ _ _ _ _ _ _ _ _ _ _
    (min_is _ _ _ _ _ f a b c.min.ensures.value c.units-x0.ensures.value c.units-x1.ensures.value)
    (min_is _ _ _ _ _ g p q c.min-2.ensures.value c.units-y0.ensures.value c.units-y1.ensures.value)
    (to_z-of_z w64 _ s ∙ c.millis.ensures.value)
    (max_is _ _ _ _ _ h a b c.max.ensures.value c.units-x0.ensures.value c.units-x1.ensures.value)
    (max_is _ _ _ _ _ k p q c.max-2.ensures.value c.units-y0.ensures.value c.units-y1.ensures.value)
    (to_z-of_z w64 _ t ∙ c.millis-2.ensures.value))
