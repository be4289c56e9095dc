-- One leg: its moments in a period, its way between two of them, and its box.
use Rattle.std.proofs.Common.{ℕ, ◌≤◌, ℤ, pos, ◌+ℤ◌, ◌-ℤ◌, ◌*ℤ◌, ◌≤ℤ◌, ◌<ℤ◌, ◌≡◌, ap, Bool, true, false, arith}
use Rattle.std.specs.Prelude.{◌&&◌, int_le}
use Rattle.std.specs.Int.{int_max, int_min}
use Rattle.std.proofs.lemmas.Int.{ints, clamps}
use Rattle.timebase.specs.Period.{PeriodView}
use Rattle.legs.specs.Legs.{LegView, IsMomentOf, HasMoment, is_live}
use Rattle.legs.specs.Boxes.{RectView, box_of, box_over, boxes_meet}
use Rattle.clipping.specs.Inside.{IsInside, HasMomentInside}
use Rattle.predicates.proofs.Products.{scale, cancel, wide, times_difference}
use Rattle.predicates.proofs.Lines.{above_between, below_between, to_greater, from_lesser}

le_from : (x y : ℤ) → int_le x y ≡ true → x ≤ℤ y
le_from x y e = grind (arith, ints)

pub le_to : (x y : ℤ) → x ≤ℤ y → int_le x y ≡ true
le_to x y h = grind (arith, ints)

pub and_true : (a b : Bool) → a ≡ true → b ≡ true → (a && b) ≡ true
and_true true b p q = q
and_true false b p q = cc

-- a leg with a moment is live
pub live_of_moment : (leg : LegView) (period : PeriodView) → HasMoment leg period → is_live period leg ≡ true
live_of_moment leg period moment =
    let positive : 1 ≤ moment.1 = moment.2.divisor in
    let d : pos 0 <ℤ pos moment.1 = omega (arith, ints) in
    let from = moment.2.from in
    let to = moment.2.to in
    let l : (int_max leg.t0 period.start *ℤ pos moment.1) ≤ℤ (int_min leg.t1 period.end *ℤ pos moment.1) = omega (arith, ints, from, to) in
    le_to (int_max leg.t0 period.start) (int_min leg.t1 period.end) (cancel (int_max leg.t0 period.start) (int_min leg.t1 period.end) (pos moment.1) d l)

-- and its first and last moment are moments
pub ordered : (leg : LegView) (period : PeriodView) → is_live period leg ≡ true → int_max leg.t0 period.start ≤ℤ int_min leg.t1 period.end
ordered leg period live = le_from (int_max leg.t0 period.start) (int_min leg.t1 period.end) live

pub first_is : (leg : LegView) (period : PeriodView) → is_live period leg ≡ true → IsMomentOf leg period (int_max leg.t0 period.start) 1
first_is leg period live =
    let o = ordered leg period live in record {
      divisor = omega arith;
      from = omega (arith, ints);
      to = omega (arith, ints, o);
    }

pub last_is : (leg : LegView) (period : PeriodView) → is_live period leg ≡ true → IsMomentOf leg period (int_min leg.t1 period.end) 1
last_is leg period live =
    let o = ordered leg period live in record {
      divisor = omega arith;
      from = omega (arith, ints, o);
      to = omega (arith, ints);
    }

-- the same of a leg, whose two moments are whole milliseconds
least_between : (least a b t0 t1 first last n : ℤ) (d : ℕ) → (first *ℤ pos d) ≤ℤ n → n ≤ℤ (last *ℤ pos d)
    → (least *ℤ (pos 1 *ℤ (t1 -ℤ t0))) ≤ℤ (a *ℤ (pos 1 *ℤ (t1 -ℤ t0)) +ℤ (b -ℤ a) *ℤ (first -ℤ t0 *ℤ pos 1))
    → (least *ℤ (pos 1 *ℤ (t1 -ℤ t0))) ≤ℤ (a *ℤ (pos 1 *ℤ (t1 -ℤ t0)) +ℤ (b -ℤ a) *ℤ (last -ℤ t0 *ℤ pos 1))
    → (least *ℤ (pos d *ℤ (t1 -ℤ t0))) ≤ℤ (a *ℤ (pos d *ℤ (t1 -ℤ t0)) +ℤ (b -ℤ a) *ℤ (n -ℤ t0 *ℤ pos d))
least_between least a b t0 t1 first last n d low high p q =
    let z : pos 0 ≤ℤ pos d = omega (arith, ints) in
    let e : pos 1 *ℤ (t1 -ℤ t0) ≡ t1 -ℤ t0 = omega (arith, ints) in
    let g : t0 *ℤ pos 1 ≡ t0 = omega (arith, ints) in
    let l : least *ℤ (pos 1 *ℤ (t1 -ℤ t0)) ≡ least *ℤ (t1 -ℤ t0) = ap (λ v. least *ℤ v) e in
    let f : a *ℤ (pos 1 *ℤ (t1 -ℤ t0)) ≡ a *ℤ (t1 -ℤ t0) = ap (λ v. a *ℤ v) e in
    let i : (b -ℤ a) *ℤ (first -ℤ t0 *ℤ pos 1) ≡ (b -ℤ a) *ℤ (first -ℤ t0) = ap (λ v. (b -ℤ a) *ℤ (first -ℤ v)) g in
    let j : (b -ℤ a) *ℤ (last -ℤ t0 *ℤ pos 1) ≡ (b -ℤ a) *ℤ (last -ℤ t0) = ap (λ v. (b -ℤ a) *ℤ (last -ℤ v)) g in
    above_between least a (b -ℤ a) t0 (t1 -ℤ t0) first last n (pos d) z low high (omega (arith, ints, l, f, i, p)) (omega (arith, ints, l, f, j, q))

most_between : (most a b t0 t1 first last n : ℤ) (d : ℕ) → (first *ℤ pos d) ≤ℤ n → n ≤ℤ (last *ℤ pos d)
    → (a *ℤ (pos 1 *ℤ (t1 -ℤ t0)) +ℤ (b -ℤ a) *ℤ (first -ℤ t0 *ℤ pos 1)) ≤ℤ (most *ℤ (pos 1 *ℤ (t1 -ℤ t0)))
    → (a *ℤ (pos 1 *ℤ (t1 -ℤ t0)) +ℤ (b -ℤ a) *ℤ (last -ℤ t0 *ℤ pos 1)) ≤ℤ (most *ℤ (pos 1 *ℤ (t1 -ℤ t0)))
    → (a *ℤ (pos d *ℤ (t1 -ℤ t0)) +ℤ (b -ℤ a) *ℤ (n -ℤ t0 *ℤ pos d)) ≤ℤ (most *ℤ (pos d *ℤ (t1 -ℤ t0)))
most_between most a b t0 t1 first last n d low high p q =
    let z : pos 0 ≤ℤ pos d = omega (arith, ints) in
    let e : pos 1 *ℤ (t1 -ℤ t0) ≡ t1 -ℤ t0 = omega (arith, ints) in
    let g : t0 *ℤ pos 1 ≡ t0 = omega (arith, ints) in
    let l : most *ℤ (pos 1 *ℤ (t1 -ℤ t0)) ≡ most *ℤ (t1 -ℤ t0) = ap (λ v. most *ℤ v) e in
    let f : a *ℤ (pos 1 *ℤ (t1 -ℤ t0)) ≡ a *ℤ (t1 -ℤ t0) = ap (λ v. a *ℤ v) e in
    let i : (b -ℤ a) *ℤ (first -ℤ t0 *ℤ pos 1) ≡ (b -ℤ a) *ℤ (first -ℤ t0) = ap (λ v. (b -ℤ a) *ℤ (first -ℤ v)) g in
    let j : (b -ℤ a) *ℤ (last -ℤ t0 *ℤ pos 1) ≡ (b -ℤ a) *ℤ (last -ℤ t0) = ap (λ v. (b -ℤ a) *ℤ (last -ℤ v)) g in
    below_between most a (b -ℤ a) t0 (t1 -ℤ t0) first last n (pos d) z low high (omega (arith, ints, l, f, i, p)) (omega (arith, ints, l, f, j, q))

-- inside at two whole milliseconds, and so at all moments between them
pub inside_between : (leg : LegView) (rect : RectView) (first last n : ℤ) (d : ℕ) → (first *ℤ pos d) ≤ℤ n → n ≤ℤ (last *ℤ pos d)
    → IsInside leg rect first 1 → IsInside leg rect last 1 → IsInside leg rect n d
inside_between leg rect first last n d low high p q = record {
  left = least_between rect.x_min leg.x0 leg.x1 leg.t0 leg.t1 first last n d low high p.left q.left;
  right = most_between rect.x_max leg.x0 leg.x1 leg.t0 leg.t1 first last n d low high p.right q.right;
  below = least_between rect.y_min leg.y0 leg.y1 leg.t0 leg.t1 first last n d low high p.below q.below;
  above = most_between rect.y_max leg.y0 leg.y1 leg.t0 leg.t1 first last n d low high p.above q.above;
}

-- a moment inside lies in the box
pub box_meets : (leg : LegView) (rect : RectView) (period : PeriodView) → leg.t0 <ℤ leg.t1 → HasMomentInside leg rect period → boxes_meet (box_of leg) (box_over rect period) ≡ true
box_meets leg rect period rises some =
    let positive : 1 ≤ some.1 = some.2.moment.divisor in
    let i = some.2.inside in
    let live = live_of_moment leg period (some.0, some.1, some.2.moment) in
    let o = ordered leg period live in
    let d : pos 0 <ℤ pos some.1 = omega (arith, ints) in
    let w : pos 0 <ℤ (leg.t1 -ℤ leg.t0) = omega (arith, ints) in
    let long : pos 0 <ℤ (pos some.1 *ℤ (leg.t1 -ℤ leg.t0)) = wide (pos some.1) (leg.t1 -ℤ leg.t0) d w in
    let d0 : pos 0 ≤ℤ pos some.1 = omega (arith, ints) in
    let after : (leg.t0 *ℤ pos some.1) ≤ℤ (int_max leg.t0 period.start *ℤ pos some.1) = scale leg.t0 (int_max leg.t0 period.start) (pos some.1) d0 (omega (arith, ints, clamps)) in
    let before : (int_min leg.t1 period.end *ℤ pos some.1) ≤ℤ (leg.t1 *ℤ pos some.1) = scale (int_min leg.t1 period.end) leg.t1 (pos some.1) d0 (omega (arith, ints, clamps)) in
    let least = some.2.moment.from in
    let greatest = some.2.moment.to in
    let whole = times_difference (pos some.1) leg.t1 leg.t0 in
    let from : pos 0 ≤ℤ (some.0 -ℤ leg.t0 *ℤ pos some.1) = omega (arith, ints, after, least) in
    let to : (some.0 -ℤ leg.t0 *ℤ pos some.1) ≤ℤ (pos some.1 *ℤ (leg.t1 -ℤ leg.t0)) = omega (arith, ints, before, greatest, whole) in
    and_true _ _
    (and_true _ _
    (and_true _ _ (le_to _ _ (from_lesser rect.x_max leg.x0 leg.x1 (some.0 -ℤ leg.t0 *ℤ pos some.1) (pos some.1 *ℤ (leg.t1 -ℤ leg.t0)) long from to i.right)) (le_to _ _ (to_greater rect.x_min leg.x0 leg.x1 (some.0 -ℤ leg.t0 *ℤ pos some.1) (pos some.1 *ℤ (leg.t1 -ℤ leg.t0)) long from to i.left)))
    (and_true _ _ (le_to _ _ (from_lesser rect.y_max leg.y0 leg.y1 (some.0 -ℤ leg.t0 *ℤ pos some.1) (pos some.1 *ℤ (leg.t1 -ℤ leg.t0)) long from to i.above)) (le_to _ _ (to_greater rect.y_min leg.y0 leg.y1 (some.0 -ℤ leg.t0 *ℤ pos some.1) (pos some.1 *ℤ (leg.t1 -ℤ leg.t0)) long from to i.below))))
    (and_true _ _ (le_to leg.t0 period.end (omega (arith, ints, clamps, o))) (le_to period.start leg.t1 (omega (arith, ints, clamps, o))))
