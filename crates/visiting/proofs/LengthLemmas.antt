-- How long it is between two moments, by their whole microseconds.
use Rattle.std.proofs.Common.{ℕ, ◌+◌, ◌<◌, ◌≤◌, ◌≡◌, ◌∙◌, ℤ, pos, negsuc, ◌+ℤ◌, ◌-ℤ◌, ◌*ℤ◌, ◌≤ℤ◌, ◌<ℤ◌, unsigned_abs, arith, ap, sym, subst, refl, ◌^◌, to_z, of_z, w64}
use Rattle.std.proofs.lemmas.Int.{ints}
use Rattle.clipping.proofs.Products.{products, difference_times_is}
use Rattle.clipping.proofs.Fractions.{scale}
use Rattle.visiting.specs.Lengths.{IsBetween, IsNoLater, least_between, micros_down, micros_up, most_between, not_below_0, scaled_length}
use Rattle.visiting.proofs.Quotients.{below_strictly_from, ceiling_is, floor_is, sum_times}

positive_z : (d : ℕ) → pos 0 ≤ℤ pos d
positive_z d = omega (arith, ints)

module _ (n m : ℤ) (d e : ℕ) (a b : ℤ) where
  spread : (a -ℤ b) *ℤ (pos d *ℤ pos e) ≡ (a *ℤ pos e) *ℤ pos d -ℤ (b *ℤ pos d) *ℤ pos e
  spread =
      let p = difference_times_is a b (pos d *ℤ pos e) in
      omega (arith, ints, products, p)

  scaled_is : scaled_length n d m e ≡ (m *ℤ pos 1000) *ℤ pos d -ℤ (n *ℤ pos 1000) *ℤ pos e
  scaled_is =
      let p = difference_times_is (m *ℤ pos d) (n *ℤ pos e) (pos 1000) in
      omega (arith, ints, products, p)

  -- from a number that is at least the first to one that is at most the second
  pub at_least : (a *ℤ pos e) ≤ℤ (m *ℤ pos 1000) → (n *ℤ pos 1000) ≤ℤ (b *ℤ pos d) → ((a -ℤ b) *ℤ (pos d *ℤ pos e)) ≤ℤ scaled_length n d m e
  at_least f c =
      let x = scale (a *ℤ pos e) (m *ℤ pos 1000) (pos d) (positive_z d) f in
      let y = scale (n *ℤ pos 1000) (b *ℤ pos d) (pos e) (positive_z e) c in
      let s = spread in
      let t = scaled_is in
      omega (arith, ints, x, y, s, t)

  pub at_most : (m *ℤ pos 1000) ≤ℤ (a *ℤ pos e) → (b *ℤ pos d) ≤ℤ (n *ℤ pos 1000) → scaled_length n d m e ≤ℤ ((a -ℤ b) *ℤ (pos d *ℤ pos e))
  at_most c f =
      let x = scale (m *ℤ pos 1000) (a *ℤ pos e) (pos d) (positive_z d) c in
      let y = scale (b *ℤ pos d) (n *ℤ pos 1000) (pos e) (positive_z e) f in
      let s = spread in
      let t = scaled_is in
      omega (arith, ints, x, y, s, t)

-- the same with 0 in the place of a number below 0
pub least_holds : (z q s : ℤ) → pos 0 ≤ℤ s → (z *ℤ q) ≤ℤ s → (pos (not_below_0 z) *ℤ q) ≤ℤ s
least_holds (pos k) q s h l = l
least_holds (negsuc k) q s h l = omega (arith, ints)

pub most_holds : (z q s : ℤ) → pos 0 ≤ℤ q → s ≤ℤ (z *ℤ q) → s ≤ℤ (pos (not_below_0 z) *ℤ q)
most_holds (pos k) q s h l = l
most_holds (negsuc k) q s h l = let x = scale (negsuc k) (pos 0) q h (omega (arith, ints)) in omega (arith, ints, x)

-- the whole number above a fraction is at most one more than that below it
pub next_to : (z : ℤ) (d : ℕ) (floor ceiling : ℤ) → 0 < d → (z <ℤ ((floor +ℤ pos 1) *ℤ pos d)) → ((ceiling *ℤ pos d) <ℤ (z +ℤ pos d)) → ceiling ≤ℤ (floor +ℤ pos 1)
next_to z d floor ceiling positive below above =
    let s = sum_times (floor +ℤ pos 1) (pos 1) (pos d) in
    let less = below_strictly_from ceiling (floor +ℤ pos 1 +ℤ pos 1) d positive (omega (arith, ints, below, above, s)) in
    omega (arith, ints, less)

pub near_by : (a b p q : ℤ) → p ≤ℤ (a +ℤ pos 1) → b ≤ℤ (q +ℤ pos 1) → not_below_0 (p -ℤ q) ≤ (not_below_0 (a -ℤ b) + 2)
near_by a b p q x y = by (p -ℤ q) (a -ℤ b) (omega (arith, ints, x, y))
  where
    by : (most least : ℤ) → most ≤ℤ (least +ℤ pos 2) → not_below_0 most ≤ (not_below_0 least + 2)
    by (pos j) (pos k) h = omega (arith, ints, h)
    by (pos j) (negsuc k) h = omega (arith, ints, h)
    by (negsuc j) (pos k) h = omega (arith, ints)
    by (negsuc j) (negsuc k) h = omega (arith, ints)

-- the least and the most from one moment to another
module _ (n m : ℤ) (d e : ℕ) (d0 : 0 < d) (e0 : 0 < e) where
  pub always_near : most_between n d m e ≤ (least_between n d m e + 2)
  always_near =
      let floor = floor_is (m *ℤ pos 1000) e e0 in
      let floor' = floor_is (n *ℤ pos 1000) d d0 in
      let ceiling = ceiling_is n (pos 1000) d d0 in
      let ceiling' = ceiling_is m (pos 1000) e e0 in
      near_by (micros_down m e) (micros_up n d) (micros_up m e) (micros_down n d) (next_to (m *ℤ pos 1000) e (micros_down m e) (micros_up m e) e0 floor.1 ceiling'.1)
      (next_to (n *ℤ pos 1000) d (micros_down n d) (micros_up n d) d0 floor'.1 ceiling.1)

  -- what is no later lasts as long as is said
  pub between_of : IsNoLater n d m e → IsBetween n d m e (least_between n d m e) (most_between n d m e)
  between_of order =
      let a : ℤ = micros_down m e in
      let b : ℤ = micros_up n d in
      let p : ℤ = micros_up m e in
      let q : ℤ = micros_down n d in
      let floor = floor_is (m *ℤ pos 1000) e e0 in
      let floor' = floor_is (n *ℤ pos 1000) d d0 in
      let ceiling = ceiling_is n (pos 1000) d d0 in
      let ceiling' = ceiling_is m (pos 1000) e e0 in
      let s : ℤ = scaled_length n d m e in
      let s0 : pos 0 ≤ℤ s = let o = order in omega (arith, ints, o) in
      let scale0 : pos 0 ≤ℤ (pos d *ℤ pos e) = omega (arith, ints) in
      record {
        least_is = least_holds (a -ℤ b) (pos d *ℤ pos e) s s0 (at_least n m d e a b floor.0 ceiling.0);
        most_is = most_holds (p -ℤ q) (pos d *ℤ pos e) s scale0 (at_most n m d e p q ceiling'.0 floor'.0);
        near = always_near;
      }

-- the difference of two moments in whole microseconds, as `length` takes it
pub difference_of : (a b x y : ℤ) → x ≡ a → y ≡ b → unsigned_abs x < 2 ^ 58 → unsigned_abs y < 2 ^ 58 → to_z w64 (of_z w64 x) -ℤ to_z w64 (of_z w64 y) ≡ a -ℤ b
difference_of a b x y e f h k = omega (arith, ints, e, f, h, k)
