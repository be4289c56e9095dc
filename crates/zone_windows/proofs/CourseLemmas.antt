-- A course is in its window, and on its line.
use Rattle.std.proofs.Common.{List, ℤ, pos, ◌+ℤ◌, ◌-ℤ◌, ◌*ℤ◌, ◌<ℤ◌, ◌≤ℤ◌, ◌≡◌, ◌∙◌, arith, ap, sym}
use Rattle.std.proofs.lemmas.Int.{clamps, ints}
use Rattle.zones.specs.Places.{Corner, CourseView, point_at}
use Rattle.zones.proofs.Orders.{scale}
use Rattle.zones.proofs.Pieces.{times_difference}
use Rattle.zones.proofs.Products.{difference_times, swap, times_comm}
use Rattle.zone_windows.specs.Near.{AgreeAlong, AgreeIn, AgreeOn, IsInWindow, IsOnLine, window_of}

-- what goes evenly from a to b, at the part m / k, is at least what both are at least
least_at : (lo a b k m : ℤ) → lo ≤ℤ a → lo ≤ℤ b → pos 0 ≤ℤ m → m ≤ℤ k → (lo *ℤ k) ≤ℤ (a *ℤ k +ℤ (b -ℤ a) *ℤ m)
least_at lo a b k m h g z t =
    let r = scale lo a (k -ℤ m) (omega (arith, ints, t)) h in
    let s = scale lo b m z g in
    omega (arith, ints, r, s, times_difference lo k m, times_difference a k m, difference_times b a m)

most_at : (hi a b k m : ℤ) → a ≤ℤ hi → b ≤ℤ hi → pos 0 ≤ℤ m → m ≤ℤ k → (a *ℤ k +ℤ (b -ℤ a) *ℤ m) ≤ℤ (hi *ℤ k)
most_at hi a b k m h g z t =
    let r = scale a hi (k -ℤ m) (omega (arith, ints, t)) h in
    let s = scale b hi m z g in
    omega (arith, ints, r, s, times_difference hi k m, times_difference a k m, difference_times b a m)

module _ (course : CourseView) (num den : ℤ) (positive : pos 0 <ℤ den) (from : pos 0 ≤ℤ num) (to : num ≤ℤ den) where
  in_window : IsInWindow (window_of course) (point_at course num den)
  in_window =
      let w = window_of course in
      record {
        positive = positive;
        from_left = least_at w.left course.x0 course.x1 den num (omega (arith, ints, clamps)) (omega (arith, ints, clamps)) from to;
        to_right = most_at w.right course.x0 course.x1 den num (omega (arith, ints, clamps)) (omega (arith, ints, clamps)) from to;
        from_low = least_at w.low course.y0 course.y1 den num (omega (arith, ints, clamps)) (omega (arith, ints, clamps)) from to;
        to_high = most_at w.high course.y0 course.y1 den num (omega (arith, ints, clamps)) (omega (arith, ints, clamps)) from to;
      }

  on_line : IsOnLine course (point_at course num den)
  on_line =
      let run : ℤ = course.x1 -ℤ course.x0 in
      let rise : ℤ = course.y1 -ℤ course.y0 in
      let x : (course.x0 *ℤ den +ℤ run *ℤ num) -ℤ course.x0 *ℤ den ≡ run *ℤ num = omega (arith, ints) in
      let y : (course.y0 *ℤ den +ℤ rise *ℤ num) -ℤ course.y0 *ℤ den ≡ rise *ℤ num = omega (arith, ints) in
      record { on = ap (λ k. k *ℤ rise) x ∙ same run num rise ∙ sym (ap (λ k. k *ℤ run) y) }
    where
      same : (u n v : ℤ) → (u *ℤ n) *ℤ v ≡ (v *ℤ n) *ℤ u
      same u n v = swap u n v ∙ ap (λ k. k *ℤ n) (times_comm u v) ∙ swap v u n

-- what agrees on the course's line in its window with what agrees with the zone in the window
pub agree_on : (course : CourseView) (near kept whole : List (List Corner)) → AgreeAlong (window_of course) course near kept → AgreeIn (window_of course) kept whole → AgreeOn course near whole
agree_on course near kept whole a b num den positive from to =
    let within = in_window course num den positive from to in
    a (point_at course num den) within (on_line course num den positive from to) ∙ b (point_at course num den) within
