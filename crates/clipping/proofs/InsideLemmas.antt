-- From moments n / d to places of a leg's duration.
use Rattle.std.proofs.Common.{ℕ, ◌≤◌, ℤ, pos, negsuc, ◌+ℤ◌, ◌-ℤ◌, ◌*ℤ◌, ◌≤ℤ◌, ◌<ℤ◌, ◌≡◌, ◌↔◌, Option, Some, None, arith, sym, subst, refl}
use Rattle.std.proofs.lemmas.Int.{ints, by_lt_z, int_max_is, int_min_is}
use Rattle.std.specs.Int.{int_max, int_min}
use Rattle.timebase.specs.Period.{PeriodView}
use Rattle.legs.specs.Legs.{LegView, IsMomentOf, HasMoment}
use Rattle.legs.specs.Boxes.{RectView}
use Rattle.clipping.proofs.Products.{products, difference_times_is}
use Rattle.clipping.proofs.Fractions.{scale, scale_strictly, cancel}
use Rattle.clipping.specs.Line.{Keeps, IsWithin, IsAcross}
use Rattle.clipping.specs.Inside.{IsInside, IsMomentInside}
use Rattle.clipping.specs.Clip.{Clips, IsClip}
use Rattle.clipping.specs.declared.line.Cut.{Cut}

-- the greater of two bounds from below
max_bound : (a b k n : ℤ) → pos 0 ≤ℤ k → ((int_max a b *ℤ k) ≤ℤ n) ↔ (((a *ℤ k) ≤ℤ n) × ((b *ℤ k) ≤ℤ n))
max_bound a b k n z =
    let a_le : a ≤ℤ int_max a b = omega (arith, ints, int_max_is a b) in
    let b_le : b ≤ℤ int_max a b = omega (arith, ints, int_max_is a b) in
    let sa = scale a (int_max a b) k z a_le in
    let sb = scale b (int_max a b) k z b_le in (
      λ h. (omega (arith, ints, sa, h), omega (arith, ints, sb, h)),
      λ h. by_lt_z {P = (int_max a b *ℤ k) ≤ℤ n} a b
          (λ lt. let e : int_max a b ≡ b = omega (arith, ints, int_max_is a b) in subst (λ (v : ℤ). (v *ℤ k) ≤ℤ n) (sym e) h.1)
          (λ ge. let e : int_max a b ≡ a = omega (arith, ints, int_max_is a b) in subst (λ (v : ℤ). (v *ℤ k) ≤ℤ n) (sym e) h.0),
    )

-- the lesser of two bounds from above
min_bound : (a b k n : ℤ) → pos 0 ≤ℤ k → (n ≤ℤ (int_min a b *ℤ k)) ↔ ((n ≤ℤ (a *ℤ k)) × (n ≤ℤ (b *ℤ k)))
min_bound a b k n z =
    let a_le : int_min a b ≤ℤ a = omega (arith, ints, int_min_is a b) in
    let b_le : int_min a b ≤ℤ b = omega (arith, ints, int_min_is a b) in
    let sa = scale (int_min a b) a k z a_le in
    let sb = scale (int_min a b) b k z b_le in (
      λ h. (omega (arith, ints, sa, h), omega (arith, ints, sb, h)),
      λ h. by_lt_z {P = n ≤ℤ (int_min a b *ℤ k)} a b
          (λ lt. let e : int_min a b ≡ a = omega (arith, ints, int_min_is a b) in subst (λ (v : ℤ). n ≤ℤ (v *ℤ k)) (sym e) h.0)
          (λ ge. let e : int_min a b ≡ b = omega (arith, ints, int_min_is a b) in subst (λ (v : ℤ). n ≤ℤ (v *ℤ k)) (sym e) h.1),
    )

-- t0 * (d * w) + w * (n - t0 * d) is n * w
time_at : (t0 n d w : ℤ) → t0 *ℤ (d *ℤ w) +ℤ w *ℤ (n -ℤ t0 *ℤ d) ≡ n *ℤ w
time_at t0 n d w =
    let a : w *ℤ (n -ℤ t0 *ℤ d) ≡ (n -ℤ t0 *ℤ d) *ℤ w = omega (arith, ints) in
    let b : (n -ℤ t0 *ℤ d) *ℤ w ≡ n *ℤ w -ℤ (t0 *ℤ d) *ℤ w = omega (arith, ints, products) in
    let e : (t0 *ℤ d) *ℤ w ≡ t0 *ℤ (d *ℤ w) = omega (arith, ints, products) in
    omega (arith, ints, a, b, e)

-- the leg in the period, and inside, at the place s / d of its duration
abbrev pub InAll : LegView → RectView → PeriodView → ℤ → ℤ → Type 0
InAll l r p s d = (IsAcross l.t0 l.t1 p.start p.end s d × IsAcross l.x0 l.x1 r.x_min r.x_max s d) × IsAcross l.y0 l.y1 r.y_min r.y_max s d

across_moment : (l : LegView) (p : PeriodView) (n : ℤ) (k : ℕ) → l.t0 <ℤ l.t1 → 1 ≤ k
    → IsMomentOf l p n k ↔ ((pos 0 ≤ℤ (n -ℤ l.t0 *ℤ pos k)) × ((n -ℤ l.t0 *ℤ pos k) ≤ℤ (pos k *ℤ (l.t1 -ℤ l.t0))) × IsAcross l.t0 l.t1 p.start p.end (n -ℤ l.t0 *ℤ pos k) (pos k *ℤ (l.t1 -ℤ l.t0)))
across_moment l p n k rises positive =
    let d : ℤ = pos k in
    let z : pos 0 ≤ℤ pos k = omega (arith, ints) in
    let w : ℤ = l.t1 -ℤ l.t0 in
    let w1 : pos 0 <ℤ (l.t1 -ℤ l.t0) = omega (arith, ints) in
    let w0 : pos 0 ≤ℤ (l.t1 -ℤ l.t0) = omega (arith, ints) in
    let at = time_at l.t0 n (pos k) (l.t1 -ℤ l.t0) in
    let ends : pos k *ℤ (l.t1 -ℤ l.t0) ≡ l.t1 *ℤ pos k -ℤ l.t0 *ℤ pos k = omega (arith, ints, products, difference_times_is l.t1 l.t0 (pos k)) in
    let a : p.start *ℤ (pos k *ℤ (l.t1 -ℤ l.t0)) ≡ (p.start *ℤ pos k) *ℤ (l.t1 -ℤ l.t0) = omega (arith, ints, products) in
    let b : p.end *ℤ (pos k *ℤ (l.t1 -ℤ l.t0)) ≡ (p.end *ℤ pos k) *ℤ (l.t1 -ℤ l.t0) = omega (arith, ints, products) in
    let low = max_bound l.t0 p.start (pos k) n z in
    let high = min_bound l.t1 p.end (pos k) n z in (
      λ m. let from = low.0 m.from in let to = high.0 m.to in (
        omega (arith, ints, from.0),
        omega (arith, ints, ends, to.0),
        record {
          from_least = omega (arith, ints, a, at, scale (p.start *ℤ pos k) n (l.t1 -ℤ l.t0) w0 from.1);
          to_most = omega (arith, ints, b, at, scale n (p.end *ℤ pos k) (l.t1 -ℤ l.t0) w0 to.1);
        },
      ),
      λ h. record {
        divisor = positive;
        from = low.1 (omega (arith, ints, h.0), cancel (p.start *ℤ pos k) n (l.t1 -ℤ l.t0) w1 (omega (arith, ints, a, at, h.2.from_least)));
        to = high.1 (omega (arith, ints, ends, h.1), cancel n (p.end *ℤ pos k) (l.t1 -ℤ l.t0) w1 (omega (arith, ints, b, at, h.2.to_most)));
      },
    )

wide : (l : LegView) (k : ℕ) → l.t0 <ℤ l.t1 → 1 ≤ k → pos 0 <ℤ (pos k *ℤ (l.t1 -ℤ l.t0))
wide l k rises positive =
    let w1 : pos 0 <ℤ (l.t1 -ℤ l.t0) = omega (arith, ints) in
    let d1 : pos 0 <ℤ pos k = omega (arith, ints) in
    let h : (pos 0 *ℤ (l.t1 -ℤ l.t0)) <ℤ (pos k *ℤ (l.t1 -ℤ l.t0)) = scale_strictly (pos 0) (pos k) (l.t1 -ℤ l.t0) w1 d1 in
    omega (arith, ints, h)

-- inside, in x and in y
pub inside_across : (l : LegView) (r : RectView) (n : ℤ) (k : ℕ)
    → IsInside l r n k ↔ (IsAcross l.x0 l.x1 r.x_min r.x_max (n -ℤ l.t0 *ℤ pos k) (pos k *ℤ (l.t1 -ℤ l.t0)) × IsAcross l.y0 l.y1 r.y_min r.y_max (n -ℤ l.t0 *ℤ pos k) (pos k *ℤ (l.t1 -ℤ l.t0)))
inside_across l r n k = (
  λ h. (record { from_least = h.left; to_most = h.right }, record { from_least = h.below; to_most = h.above }),
  λ h. record { left = h.0.from_least; right = h.0.to_most; below = h.1.from_least; above = h.1.to_most },
)

-- the place that a moment is
inside_place : (l : LegView) (r : RectView) (p : PeriodView) (n : ℤ) (k : ℕ) → l.t0 <ℤ l.t1 → 1 ≤ k
    → IsMomentInside l r p n k ↔ ((pos 0 ≤ℤ (n -ℤ l.t0 *ℤ pos k)) × ((n -ℤ l.t0 *ℤ pos k) ≤ℤ (pos k *ℤ (l.t1 -ℤ l.t0))) × InAll l r p (n -ℤ l.t0 *ℤ pos k) (pos k *ℤ (l.t1 -ℤ l.t0)))
inside_place l r p n k rises positive = (
  λ m. let t = (across_moment l p n k rises positive).0 m.moment in
      let i = (inside_across l r n k).0 m.inside in
      (t.0, t.1, ((t.2, i.0), i.1)),
  λ h. record {
    moment = (across_moment l p n k rises positive).1 (h.0, h.1, h.2.0.0);
    inside = (inside_across l r n k).1 (h.2.0.1, h.2.1);
  },
)

-- a number above 0, as a natural number
positive_is : (z : ℤ) → pos 0 <ℤ z → (k : ℕ) × (1 ≤ k) × (z ≡ pos k)
positive_is (pos k) h = (k, omega (arith, ints), refl)
positive_is (negsuc k) h = absurd (omega (arith, ints))

-- the cut's lower end is a moment of the leg
lowest : (l : LegView) (c : Cut) → l.t0 <ℤ l.t1 → (n : ℤ) × (k : ℕ) × (1 ≤ k) × IsWithin c (n -ℤ l.t0 *ℤ pos k) (pos k *ℤ (l.t1 -ℤ l.t0))
lowest l c rises =
    let w0 : pos 0 ≤ℤ (l.t1 -ℤ l.t0) = omega (arith, ints) in
    let den = positive_is c.lo.den c.lo.positive in
    let k : ℕ = den.0 in
    let n : ℤ = c.lo.num *ℤ (l.t1 -ℤ l.t0) +ℤ l.t0 *ℤ c.lo.den in
    let s : n -ℤ l.t0 *ℤ c.lo.den ≡ c.lo.num *ℤ (l.t1 -ℤ l.t0) = omega (arith, ints) in
    let a : c.lo.num *ℤ (c.lo.den *ℤ (l.t1 -ℤ l.t0)) ≡ (c.lo.num *ℤ (l.t1 -ℤ l.t0)) *ℤ c.lo.den = omega (arith, ints, products) in
    let b : (c.lo.num *ℤ (l.t1 -ℤ l.t0)) *ℤ c.hi.den ≡ (c.lo.num *ℤ c.hi.den) *ℤ (l.t1 -ℤ l.t0) = omega (arith, ints, products) in
    let e : c.hi.num *ℤ (c.lo.den *ℤ (l.t1 -ℤ l.t0)) ≡ (c.hi.num *ℤ c.lo.den) *ℤ (l.t1 -ℤ l.t0) = omega (arith, ints, products) in
    let o : ((c.lo.num *ℤ c.hi.den) *ℤ (l.t1 -ℤ l.t0)) ≤ℤ ((c.hi.num *ℤ c.lo.den) *ℤ (l.t1 -ℤ l.t0)) = scale (c.lo.num *ℤ c.hi.den) (c.hi.num *ℤ c.lo.den) (l.t1 -ℤ l.t0) w0 c.ordered in
    let at : IsWithin c (c.lo.num *ℤ (l.t1 -ℤ l.t0)) (c.lo.den *ℤ (l.t1 -ℤ l.t0)) = record { after = omega (arith, ints, a); before = omega (arith, ints, b, e, o) } in
    let there : IsWithin c (n -ℤ l.t0 *ℤ c.lo.den) (c.lo.den *ℤ (l.t1 -ℤ l.t0)) = subst (λ (v : ℤ). IsWithin c v (c.lo.den *ℤ (l.t1 -ℤ l.t0))) (sym s) at in
    (n, den.0, den.1, subst (λ (v : ℤ). IsWithin c (n -ℤ l.t0 *ℤ v) (v *ℤ (l.t1 -ℤ l.t0))) den.2 there)

pub Clips-from : (l : LegView) (r : RectView) (p : PeriodView) (whole : Cut) (answer : Option Cut) → l.t0 <ℤ l.t1
    → ((s d : ℤ) → IsWithin whole s d ↔ ((pos 0 ≤ℤ s) × (s ≤ℤ d))) → Keeps whole (InAll l r p) answer → Clips l r p answer
unfolding Keeps Clips
Clips-from l r p whole None rises is k = λ some.
    let positive = some.2.moment.divisor in
    let h = (inside_place l r p some.0 some.1 rises positive).0 some.2 in
    k _ _ (wide l some.1 rises positive) ((is _ _).1 (h.0, h.1)) h.2
Clips-from l r p whole (Some c) rises is k =
    let same : IsClip l r p c =
    λ n d positive. (
      λ m. let h = (inside_place l r p n d rises positive).0 m in (k _ _ (wide l d rises positive)).1 ((is _ _).1 (h.0, h.1), h.2),
      λ w. let h = (k _ _ (wide l d rises positive)).0 w in let u = (is _ _).0 h.0 in (inside_place l r p n d rises positive).1 (u.0, u.1, h.1),
    ) in
    let at = lowest l c rises in
    (same, (at.0, at.1, (same at.0 at.1 at.2).1 at.3))

-- a leg that has a moment in a period has its ends in order, and then its first is one
pub live_moment : (l : LegView) (p : PeriodView) → int_max l.t0 p.start ≤ℤ int_min l.t1 p.end → HasMoment l p
live_moment l p h = (
  int_max l.t0 p.start,
  1,
  record {
    divisor = omega arith;
    from = omega (arith, ints);
    to = omega (arith, ints);
  },
)

pub no_moment : (l : LegView) (p : PeriodView) → int_min l.t1 p.end <ℤ int_max l.t0 p.start → HasMoment l p → ⊥
no_moment l p h some =
    let d1 : pos 0 <ℤ pos some.1 = let positive = some.2.divisor in omega (arith, ints) in
    let less = scale_strictly (int_min l.t1 p.end) (int_max l.t0 p.start) (pos some.1) d1 h in
    let from = some.2.from in
    let to = some.2.to in
    omega (arith, ints, less, from, to)
