-- From the ends of a cut to the first and the last moment.
use Rattle.std.proofs.Common.{ℕ, ◌<◌, ◌≤◌, ◌≡◌, ◌∙◌, ℤ, pos, ◌+ℤ◌, ◌-ℤ◌, ◌*ℤ◌, ◌≤ℤ◌, ◌<ℤ◌, arith, ap, sym, subst}
use Rattle.std.proofs.lemmas.Int.{ints, by_lt_z}
use Rattle.fixedpoint.specs.Number.{IsInRange}
use Rattle.timebase.specs.Instant.{IsMoment, least_moment, greatest_moment}
use Rattle.timebase.specs.Period.{PeriodView}
use Rattle.legs.specs.Legs.{LegView}
use Rattle.legs.specs.Boxes.{RectView}
use Rattle.clipping.proofs.Products.{products}
use Rattle.clipping.proofs.Fractions.{cancel, scale, scale_strictly, through}
use Rattle.clipping.specs.Clip.{IsClip}
use Rattle.clipping.specs.Inside.{duration}
use Rattle.clipping.specs.declared.line.Cut.{Cut}
use Rattle.clipping.specs.declared.line.Frac.{Frac}
use Rattle.moments.specs.Fractions.{IsInTime, IsSame}
use Rattle.moments.specs.Parts.{IsAt, IsPart, IsWhole}
use Rattle.moments.specs.Stays.{IsCoordAt, IsFirst, IsInsideFrom, IsLast}
use Rattle.visiting.proofs.Quotients.{negative_times, sum_times}

grouped : (a b z : ℤ) → (a *ℤ b) *ℤ z ≡ a *ℤ (b *ℤ z)
grouped a b z = omega (arith, ints, products)

turned : (p q w : ℤ) → p *ℤ (q *ℤ w) ≡ q *ℤ (p *ℤ w)
turned p q w = omega (arith, ints, products)

-- (t * p) * (q * w) is (t * q) * (p * w)
crossed : (t p q w : ℤ) → (t *ℤ p) *ℤ (q *ℤ w) ≡ (t *ℤ q) *ℤ (p *ℤ w)
crossed t p q w = grouped t p (q *ℤ w) ∙ ap (λ x. t *ℤ x) (turned p q w) ∙ sym (grouped t q (p *ℤ w))

difference_times : (a b c : ℤ) → (a -ℤ b) *ℤ c ≡ a *ℤ c -ℤ b *ℤ c
difference_times a b c = omega (arith, ints, products)

cancel_strictly : (a b k : ℤ) → pos 0 <ℤ k → (a *ℤ k) <ℤ (b *ℤ k) → a <ℤ b
cancel_strictly a b k z h =
    by_lt_z a b (λ g. g) (λ g.
    let k0 : pos 0 ≤ℤ k = omega (arith, ints, z) in
    let m = scale b a k k0 g in
    absurd (omega (arith, ints, m, h)))

-- places of a duration w, from t on, in the order of their moments n / d and m / e
order_from : (t w n m d e : ℤ) → pos 0 <ℤ w → ((n -ℤ t *ℤ d) *ℤ (e *ℤ w)) ≤ℤ ((m -ℤ t *ℤ e) *ℤ (d *ℤ w)) → (n *ℤ e) ≤ℤ (m *ℤ d)
order_from t w n m d e rises h =
    let a = difference_times n (t *ℤ d) (e *ℤ w) in
    let b = difference_times m (t *ℤ e) (d *ℤ w) in
    let x = crossed t d e w in
    let y = grouped n e w in
    let z = grouped m d w in
    cancel (n *ℤ e) (m *ℤ d) w rises (omega (arith, ints, a, b, x, y, z, h))

order_to : (t w n m d e : ℤ) → pos 0 ≤ℤ w → (n *ℤ e) ≤ℤ (m *ℤ d) → ((n -ℤ t *ℤ d) *ℤ (e *ℤ w)) ≤ℤ ((m -ℤ t *ℤ e) *ℤ (d *ℤ w))
order_to t w n m d e rises h =
    let a = difference_times n (t *ℤ d) (e *ℤ w) in
    let b = difference_times m (t *ℤ e) (d *ℤ w) in
    let x = crossed t d e w in
    let y = grouped n e w in
    let z = grouped m d w in
    let s = scale (n *ℤ e) (m *ℤ d) w rises h in
    omega (arith, ints, a, b, x, y, z, s)

module _ (leg : LegView) (rect : RectView) (period : PeriodView) (cut : Cut) (rises : leg.t0 <ℤ leg.t1) (clip : IsClip leg rect period cut) (n : ℤ) (d : ℕ) (positive : 0 < d) where
  w0 : pos 0 <ℤ duration leg
  w0 = omega (arith, ints, rises)

  one : 1 ≤ d
  one = omega (arith, positive)

  wide : (e : ℕ) → 1 ≤ e → pos 0 <ℤ (pos e *ℤ duration leg)
  wide e h =
      let e0 : pos 0 <ℤ pos e = omega (arith, ints, h) in
      let s = scale_strictly (pos 0) (pos e) (duration leg) w0 e0 in
      omega (arith, ints, s)

  -- the place of n / d, as a part of the duration
  place_of : (part : Frac) → IsAt leg part n d → (n -ℤ leg.t0 *ℤ pos d) *ℤ part.den ≡ part.num *ℤ (pos d *ℤ duration leg)
  place_of part at =
      let same : (duration leg *ℤ part.num) *ℤ pos d ≡ part.num *ℤ (pos d *ℤ duration leg) = shuffled (duration leg) part.num (pos d) in at.at ∙ same
    where
      shuffled : (w p k : ℤ) → (w *ℤ p) *ℤ k ≡ p *ℤ (k *ℤ w)
      shuffled w p k = omega (arith, ints, products)

  pub first_is : IsAt leg cut.lo n d → IsFirst leg rect period n d
  first_is at =
      let e = place_of cut.lo at in
      let s : ℤ = n -ℤ leg.t0 *ℤ pos d in
      let k : ℤ = pos d *ℤ duration leg in
      let d0 = wide d one in
      let below : (s *ℤ cut.lo.den) ≤ℤ (cut.lo.num *ℤ k) = omega (arith, ints, e) in
      record {
        inside = (clip n d one).1 (record {
          after = omega (arith, ints, e);
          before = through s k cut.lo.num cut.lo.den cut.hi.num cut.hi.den d0 cut.lo.positive cut.hi.positive below cut.ordered;
        });
        least = λ m q inside.
            let q1 = inside.moment.divisor in
            let within = (clip m q q1).0 inside in
            order_from leg.t0 (duration leg) n m (pos d) (pos q) w0
            (through s k cut.lo.num cut.lo.den (m -ℤ leg.t0 *ℤ pos q) (pos q *ℤ duration leg) d0 cut.lo.positive (wide q q1) below within.after);
      }

  pub last_is : IsAt leg cut.hi n d → IsLast leg rect period n d
  last_is at =
      let e = place_of cut.hi at in
      let s : ℤ = n -ℤ leg.t0 *ℤ pos d in
      let k : ℤ = pos d *ℤ duration leg in
      let d0 = wide d one in
      let above : (cut.hi.num *ℤ k) ≤ℤ (s *ℤ cut.hi.den) = omega (arith, ints, e) in
      record {
        inside = (clip n d one).1 (record {
          after = through cut.lo.num cut.lo.den cut.hi.num cut.hi.den s k cut.lo.positive cut.hi.positive d0 cut.ordered above;
          before = omega (arith, ints, e);
        });
        greatest = λ m q inside.
            let q1 = inside.moment.divisor in
            let within = (clip m q q1).0 inside in
            order_from leg.t0 (duration leg) m n (pos q) (pos d) w0
            (through (m -ℤ leg.t0 *ℤ pos q) (pos q *ℤ duration leg) cut.hi.num cut.hi.den s k (wide q q1) cut.hi.positive d0 within.before above);
      }

module _ (leg : LegView) (rect : RectView) (period : PeriodView) (cut : Cut) (rises : leg.t0 <ℤ leg.t1) (clip : IsClip leg rect period cut) (n m : ℤ) (d e : ℕ) (low : 0 < d) (high : 0 < e) where
  pub between_is : IsAt leg cut.lo n d → IsAt leg cut.hi m e → IsInsideFrom leg rect period n m d e
  between_is from to j q one after before =
      let w : ℤ = duration leg in
      let w0 : pos 0 ≤ℤ w = omega (arith, ints, rises) in
      let first = place_of leg rect period cut rises clip n d low cut.lo from in
      let last = place_of leg rect period cut rises clip m e high cut.hi to in
      let s : ℤ = n -ℤ leg.t0 *ℤ pos d in
      let k : ℤ = pos d *ℤ w in
      let r : ℤ = m -ℤ leg.t0 *ℤ pos e in
      let l : ℤ = pos e *ℤ w in
      let i : ℤ = j -ℤ leg.t0 *ℤ pos q in
      let h : ℤ = pos q *ℤ w in
      let k0 : pos 0 <ℤ k = wide leg rect period cut rises clip n d low d (omega (arith, low)) in
      let l0 : pos 0 <ℤ l = wide leg rect period cut rises clip n d low e (omega (arith, high)) in
      let h0 : pos 0 <ℤ h = wide leg rect period cut rises clip n d low q one in
      let begins : (cut.lo.num *ℤ k) ≤ℤ (s *ℤ cut.lo.den) = omega (arith, ints, first) in
      let ends : (r *ℤ cut.hi.den) ≤ℤ (cut.hi.num *ℤ l) = omega (arith, ints, last) in
      (clip j q one).1 (record {
        after = through cut.lo.num cut.lo.den s k i h cut.lo.positive k0 h0 begins (order_to leg.t0 w n j (pos d) (pos q) w0 after);
        before = through i h r l cut.hi.num cut.hi.den h0 l0 cut.hi.positive (order_to leg.t0 w j m (pos q) (pos e) w0 before) ends;
      })

-- a whole number at a part is one at the moment
pub coord_is : (leg : LegView) (part : Frac) (a b n u : ℤ) (d : ℕ) → leg.t0 <ℤ leg.t1 → 0 < d → IsAt leg part n d → IsWhole part a b u → IsCoordAt leg a b n d u
coord_is leg part a b n u d rises positive at whole =
    let w : ℤ = duration leg in
    let k : ℤ = pos d *ℤ w in
    let s : ℤ = n -ℤ leg.t0 *ℤ pos d in
    let q : ℤ = part.den in
    let p : ℤ = part.num in
    let w0 : pos 0 <ℤ w = omega (arith, ints, rises) in
    let k0 : pos 0 <ℤ k = positive_product (pos d) w (omega (arith, ints, positive)) w0 in
    let k1 : pos 0 ≤ℤ k = omega (arith, ints, k0) in
    let e : s *ℤ q ≡ p *ℤ k = at.at ∙ shuffled w p (pos d) in
    let scaled : (a *ℤ k +ℤ (b -ℤ a) *ℤ s) *ℤ q ≡ (a *ℤ q +ℤ (b -ℤ a) *ℤ p) *ℤ k = same_sum a (b -ℤ a) k s q p e in
    let most = scale (u *ℤ q) (a *ℤ q +ℤ (b -ℤ a) *ℤ p) k k1 whole.most in
    let next = scale_strictly (a *ℤ q +ℤ (b -ℤ a) *ℤ p) ((u +ℤ pos 1) *ℤ q) k k0 whole.next in
    record {
      most = cancel (u *ℤ k) (a *ℤ k +ℤ (b -ℤ a) *ℤ s) q part.positive (let t = swapped u q k in omega (arith, ints, most, scaled, t));
      next = cancel_strictly (a *ℤ k +ℤ (b -ℤ a) *ℤ s) ((u +ℤ pos 1) *ℤ k) q part.positive (let t = swapped (u +ℤ pos 1) q k in omega (arith, ints, next, scaled, t));
    }
  where
    shuffled : (w p k : ℤ) → (w *ℤ p) *ℤ k ≡ p *ℤ (k *ℤ w)
    shuffled w p k = omega (arith, ints, products)

    swapped : (a b c : ℤ) → (a *ℤ b) *ℤ c ≡ (a *ℤ c) *ℤ b
    swapped a b c = omega (arith, ints, products)

    positive_product : (a b : ℤ) → pos 0 <ℤ a → pos 0 <ℤ b → pos 0 <ℤ (a *ℤ b)
    positive_product a b h g = let s = scale_strictly (pos 0) a b g h in omega (arith, ints, s)

    same_sum : (a c k s q p : ℤ) → s *ℤ q ≡ p *ℤ k → (a *ℤ k +ℤ c *ℤ s) *ℤ q ≡ (a *ℤ q +ℤ c *ℤ p) *ℤ k
    same_sum a c k s q p e =
        let x = sum_times (a *ℤ k) (c *ℤ s) q in
        let y = sum_times (a *ℤ q) (c *ℤ p) k in
        let z = swapped a k q in
        let v : (c *ℤ s) *ℤ q ≡ (c *ℤ p) *ℤ k = grouped c s q ∙ ap (λ t. c *ℤ t) e ∙ sym (grouped c p k) in
        omega (arith, ints, x, y, z, v)

-- the fraction of the code is at the part
pub at_from : (leg : LegView) (part : Frac) (n : ℤ) (d k : ℕ) → part.den ≡ pos k → IsSame n d (leg.t0 *ℤ part.den +ℤ duration leg *ℤ part.num) k → IsAt leg part n d
at_from leg part n d k den same =
    let raw : ℤ = leg.t0 *ℤ part.den +ℤ duration leg *ℤ part.num in
    let a : n *ℤ part.den ≡ raw *ℤ pos d = ap (λ x. n *ℤ x) den ∙ same in
    let b = difference_times n (leg.t0 *ℤ pos d) part.den in
    let x = sum_times (leg.t0 *ℤ part.den) (duration leg *ℤ part.num) (pos d) in
    let t = swapped leg.t0 (pos d) part.den in
    record { at = omega (arith, ints, a, b, x, t) }
  where
    swapped : (a b c : ℤ) → (a *ℤ b) *ℤ c ≡ (a *ℤ c) *ℤ b
    swapped a b c = omega (arith, ints, products)

-- a whole number at a part of the way between two coordinates is one
pub within_from : (part : Frac) (a b u : ℤ) → IsPart part → IsInRange a → IsInRange b → IsWhole part a b u → IsInRange u
within_from part a b u at ra rb whole =
    let q : ℤ = part.den in
    let p : ℤ = part.num in
    let m : ℤ = pos 1000000000000000 in
    let p0 = at.0 in
    let left : pos 0 ≤ℤ (q -ℤ p) = let h = at.1 in omega (arith, ints, h) in
    let up = spread m a b q p p0 left (omega (arith, ints, ra)) (omega (arith, ints, rb)) in
    let down = spread m (pos 0 -ℤ a) (pos 0 -ℤ b) q p p0 left (omega (arith, ints, ra)) (omega (arith, ints, rb)) in
    let most : (u *ℤ q) ≤ℤ (m *ℤ q) = let h = whole.most in omega (arith, ints, h, up) in
    let turned : (pos 0 -ℤ a) *ℤ q +ℤ ((pos 0 -ℤ b) -ℤ (pos 0 -ℤ a)) *ℤ p ≡ pos 0 -ℤ (a *ℤ q +ℤ (b -ℤ a) *ℤ p) = negated a b q p in
    let least : ((pos 0 -ℤ m) *ℤ q) <ℤ ((u +ℤ pos 1) *ℤ q) = let h = whole.next in let n = negative_times m q in omega (arith, ints, h, down, turned, n) in
    let x = cancel u m q part.positive most in
    let y = cancel_strictly (pos 0 -ℤ m) (u +ℤ pos 1) q part.positive least in
    omega (arith, ints, x, y)
  where
    times_difference : (a q p : ℤ) → a *ℤ (q -ℤ p) ≡ a *ℤ q -ℤ a *ℤ p
    times_difference a q p =
        let x : a *ℤ (q -ℤ p) ≡ (q -ℤ p) *ℤ a = omega (arith, ints) in
        let y = difference_times q p a in
        omega (arith, ints, x, y)

    spread : (m a b q p : ℤ) → pos 0 ≤ℤ p → pos 0 ≤ℤ (q -ℤ p) → a ≤ℤ m → b ≤ℤ m → (a *ℤ q +ℤ (b -ℤ a) *ℤ p) ≤ℤ (m *ℤ q)
    spread m a b q p p0 left ha hb =
        let x = scale a m (q -ℤ p) left ha in
        let y = scale b m p p0 hb in
        let e = times_difference a q p in
        let f = times_difference m q p in
        let g = difference_times b a p in
        omega (arith, ints, x, y, e, f, g)

    negated : (a b q p : ℤ) → (pos 0 -ℤ a) *ℤ q +ℤ ((pos 0 -ℤ b) -ℤ (pos 0 -ℤ a)) *ℤ p ≡ pos 0 -ℤ (a *ℤ q +ℤ (b -ℤ a) *ℤ p)
    negated a b q p =
        let x = negative_times a q in
        let y = difference_times (pos 0 -ℤ b) (pos 0 -ℤ a) p in
        let z = negative_times a p in
        let v = negative_times b p in
        let w = difference_times b a p in
        omega (arith, ints, x, y, z, v, w)

-- the moment at a part of a leg's duration is between its ends
pub in_time_from : (t0 t1 : ℤ) (part : Frac) (k : ℕ) → t0 <ℤ t1 → IsMoment t0 → IsMoment t1 → IsPart part → part.den ≡ pos k → IsInTime (t0 *ℤ part.den +ℤ (t1 -ℤ t0) *ℤ part.num) k
in_time_from t0 t1 part k rises m0 m1 at den =
    let q : ℤ = part.den in
    let p : ℤ = part.num in
    let w : ℤ = t1 -ℤ t0 in
    let w0 : pos 0 ≤ℤ w = omega (arith, ints, rises) in
    let q0 : pos 0 ≤ℤ q = let h = part.positive in omega (arith, ints, h) in
    let less = scale p q w w0 at.1 in
    let some = scale (pos 0) p w w0 at.0 in
    let a = scale least_moment t0 q q0 m0.0 in
    let b = scale t1 greatest_moment q q0 m1.1 in
    let c : w *ℤ p ≡ p *ℤ w = omega (arith, ints) in
    let d : q *ℤ w ≡ w *ℤ q = omega (arith, ints) in
    let e = difference_times t1 t0 q in
    subst (λ z. ((least_moment *ℤ z) ≤ℤ (t0 *ℤ q +ℤ w *ℤ p)) × ((t0 *ℤ q +ℤ w *ℤ p) ≤ℤ (greatest_moment *ℤ z))) den
    (omega (arith, ints, a, some, c), omega (arith, ints, b, less, c, d, e))

-- the ends of a cut are parts
pub low_part : (cut : Cut) → IsPart cut.lo
low_part cut =
    let d0 : pos 0 ≤ℤ cut.lo.den = let h = cut.lo.positive in omega (arith, ints, h) in
    let x = scale cut.hi.num cut.hi.den cut.lo.den d0 cut.to_one in
    let turned : cut.hi.den *ℤ cut.lo.den ≡ cut.lo.den *ℤ cut.hi.den = omega (arith, ints) in
    let o = cut.ordered in
    (cut.from_zero, cancel cut.lo.num cut.lo.den cut.hi.den cut.hi.positive (omega (arith, ints, o, x, turned)))

pub high_part : (cut : Cut) → IsPart cut.hi
high_part cut =
    let d0 : pos 0 ≤ℤ cut.hi.den = let h = cut.hi.positive in omega (arith, ints, h) in
    let x = scale (pos 0) cut.lo.num cut.hi.den d0 cut.from_zero in
    let o = cut.ordered in
    (cancel (pos 0) cut.hi.num cut.lo.den cut.lo.positive (omega (arith, ints, o, x)), cut.to_one)
