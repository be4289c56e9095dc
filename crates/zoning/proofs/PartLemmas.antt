-- The places of cuts are parts.
use Rattle.std.proofs.Common.{List, [], ◌∷◌, ℤ, pos, ◌*ℤ◌, ◌≤ℤ◌, ◌<ℤ◌, ◌≡◌, arith}
use Rattle.std.proofs.lemmas.Int.{ints}
use Rattle.clipping.proofs.Fractions.{cancel, scale}
use Rattle.zones.specs.Cuts.{AllBetween}
use Rattle.zones.specs.declared.cuts.Cut.{Cut}
use Rattle.zones.specs.declared.cuts.CoursePlace.{CoursePlace}
use Rattle.zoning.specs.Stays.{AllInside, IsInside}

-- f / a ≤ n / b, and 0 ≤ f
above_zero : (f a n b : ℤ) → pos 0 <ℤ a → pos 0 <ℤ b → pos 0 ≤ℤ f → (f *ℤ b) ≤ℤ (n *ℤ a) → pos 0 ≤ℤ n
above_zero f a n b a0 b0 z h =
    let b1 : pos 0 ≤ℤ b = omega (arith, ints, b0) in
    let s = scale (pos 0) f b b1 z in
    cancel (pos 0) n a a0 (omega (arith, ints, s, h))

-- n / b ≤ l / a, and l ≤ a
below_one : (l a n b : ℤ) → pos 0 <ℤ a → pos 0 <ℤ b → l ≤ℤ a → (n *ℤ a) ≤ℤ (l *ℤ b) → n ≤ℤ b
below_one l a n b a0 b0 z h =
    let b1 : pos 0 ≤ℤ b = omega (arith, ints, b0) in
    let s = scale l a b b1 z in
    let t : a *ℤ b ≡ b *ℤ a = omega (arith, ints) in
    cancel n b a a0 (omega (arith, ints, s, t, h))

is_inside : (first last : CoursePlace) (cut : Cut) → pos 0 ≤ℤ first.num → last.num ≤ℤ last.den → (first.num *ℤ cut.lo.den) ≤ℤ (cut.lo.num *ℤ first.den) → (cut.hi.num *ℤ last.den) ≤ℤ (last.num *ℤ cut.hi.den) → IsInside cut
is_inside first last cut zero one from to =
    let lo = above_zero first.num first.den cut.lo.num cut.lo.den first.positive cut.lo.positive zero from in
    let hi = below_one last.num last.den cut.hi.num cut.hi.den last.positive cut.hi.positive one to in
    record {
      lo = record { from_zero = lo; to_one = below_one cut.hi.num cut.hi.den cut.lo.num cut.lo.den cut.hi.positive cut.lo.positive hi cut.ordered; small = cut.lo.small.1 };
      hi = record { from_zero = above_zero cut.lo.num cut.lo.den cut.hi.num cut.hi.den cut.lo.positive cut.hi.positive lo cut.ordered; to_one = hi; small = cut.hi.small.1 };
    }

pub all_inside : (first last : CoursePlace) (cuts : List Cut) → pos 0 ≤ℤ first.num → last.num ≤ℤ last.den → AllBetween first last cuts → AllInside cuts
all_inside first last [] zero one h = tt
all_inside first last (cut ∷ cuts) zero one h = (is_inside first last cut zero one h.0 h.1, all_inside first last cuts zero one h.2)
