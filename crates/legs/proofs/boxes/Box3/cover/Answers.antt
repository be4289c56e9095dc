use Rattle.std.proofs.Common.{arith, rules, refl, w64}
use Rattle.std.specs.Prelude.{FitsSigned}
use Rattle.std.proofs.lemmas.Int.{ints, clamps}
use Rattle.legs.proofs.BoxLemmas.{same_bounds, cover_is, min_is, max_is}
use Rattle.legs.proofs.boxes.Box3.cover.Goals as goal

pub invariant_of-result : goal.invariant_of-result
invariant_of-result c = record {
  x = omega (arith, ints, clamps, c.self.invariant.x);
  y = omega (arith, ints, clamps, c.self.invariant.y);
  t = omega (arith, ints, clamps, c.self.invariant.t);
}

same : goal.returns-clause-value
same c =
    let a : FitsSigned w64 c.self.inside.x_min = search rules in
    let b : FitsSigned w64 c.self.inside.y_min = search rules in
    let d : FitsSigned w64 c.self.inside.t_min = search rules in
    let e : FitsSigned w64 c.self.inside.x_max = search rules in
    let f : FitsSigned w64 c.self.inside.y_max = search rules in
    let g : FitsSigned w64 c.self.inside.t_max = search rules in
    let h : FitsSigned w64 c.other.inside.x_min = search rules in
    let i : FitsSigned w64 c.other.inside.y_min = search rules in
    let j : FitsSigned w64 c.other.inside.t_min = search rules in
    let k : FitsSigned w64 c.other.inside.x_max = search rules in
    let l : FitsSigned w64 c.other.inside.y_max = search rules in
    let m : FitsSigned w64 c.other.inside.t_max = search rules in
    let n : FitsSigned w64 c.min.result = search rules in
    let o : FitsSigned w64 c.min-2.result = search rules in
    let p : FitsSigned w64 c.min-3.result = search rules in
    let q : FitsSigned w64 c.max.result = search rules in
    let r : FitsSigned w64 c.max-2.result = search rules in
    let s : FitsSigned w64 c.max-3.result = search rules in
    rw (← c.self.view_is, ← c.other.view_is) (same_bounds _ _ _ _ _ _ _ _ _ _ _ _
    (min_is _ _ _ _ _ n a h c.min.ensures.value refl refl)
    (min_is _ _ _ _ _ o b i c.min-2.ensures.value refl refl)
    (min_is _ _ _ _ _ p d j c.min-3.ensures.value refl refl)
    (max_is _ _ _ _ _ q e k c.max.ensures.value refl refl)
    (max_is _ _ _ _ _ r f l c.max-2.ensures.value refl refl)
    (max_is _ _ _ _ _ s g m c.max-3.ensures.value refl refl))

pub returns-clause-value : goal.returns-clause-value
returns-clause-value c = same c

pub returns-clause-least : goal.returns-clause-least
returns-clause-least c = cover_is _ _ _ (same c)
