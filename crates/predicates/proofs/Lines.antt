-- What goes evenly: between two moments, and between its two ends.
use Rattle.std.proofs.Common.{ℤ, pos, ◌+ℤ◌, ◌-ℤ◌, ◌*ℤ◌, neg_ℤ, ◌≤ℤ◌, ◌<ℤ◌, ◌≡◌, arith, ap, ◌∙◌}
use Rattle.std.specs.Int.{int_max, int_min}
use Rattle.std.proofs.lemmas.Int.{ints, clamps, by_lt_z}
use Rattle.predicates.proofs.Products.{scale, cancel, negative_times, regroup, scaled_line, times_difference}

-- m * (f * d), turned
turned : (m f d : ℤ) → (f *ℤ d) *ℤ m ≡ (m *ℤ f) *ℤ d
turned m f d =
    let a : (f *ℤ d) *ℤ m ≡ m *ℤ (f *ℤ d) = omega (arith, ints) in
    let b : m *ℤ (f *ℤ d) ≡ m *ℤ (d *ℤ f) = ap (λ v. m *ℤ v) (omega (arith, ints)) in
    a ∙ b ∙ regroup m d f

-- at least `least` at two moments, and so between them
pub above_between : (least a m t0 w first last n d : ℤ) → pos 0 ≤ℤ d → (first *ℤ d) ≤ℤ n → n ≤ℤ (last *ℤ d)
    → (least *ℤ w) ≤ℤ (a *ℤ w +ℤ m *ℤ (first -ℤ t0)) → (least *ℤ w) ≤ℤ (a *ℤ w +ℤ m *ℤ (last -ℤ t0))
    → (least *ℤ (d *ℤ w)) ≤ℤ (a *ℤ (d *ℤ w) +ℤ m *ℤ (n -ℤ t0 *ℤ d))
above_between least a m t0 w first last n d z low high p q =
    let goal_is = times_difference m n (t0 *ℤ d) in
    let least_is = regroup least d w in
    by_lt_z m (pos 0)
    (λ falls.
    let back : pos 0 ≤ℤ neg_ℤ m = omega (arith, ints) in
    let s : (n *ℤ neg_ℤ m) ≤ℤ ((last *ℤ d) *ℤ neg_ℤ m) = scale n (last *ℤ d) (neg_ℤ m) back high in
    let s1 : n *ℤ neg_ℤ m ≡ neg_ℤ (m *ℤ n) = omega (arith, ints, negative_times m n) in
    let s2 : (last *ℤ d) *ℤ neg_ℤ m ≡ neg_ℤ ((last *ℤ d) *ℤ m) = omega (arith, ints, negative_times m (last *ℤ d)) in
    let t : ((least *ℤ w) *ℤ d) ≤ℤ ((a *ℤ w +ℤ m *ℤ (last -ℤ t0)) *ℤ d) = scale (least *ℤ w) (a *ℤ w +ℤ m *ℤ (last -ℤ t0)) d z q in
    let e = scaled_line a m t0 w last d in
    let u = turned m last d in
    omega (arith, ints, s, s1, s2, t, e, u))
    (λ rises.
    let s : ((first *ℤ d) *ℤ m) ≤ℤ (n *ℤ m) = scale (first *ℤ d) n m rises low in
    let s1 : n *ℤ m ≡ m *ℤ n = omega (arith, ints) in
    let t : ((least *ℤ w) *ℤ d) ≤ℤ ((a *ℤ w +ℤ m *ℤ (first -ℤ t0)) *ℤ d) = scale (least *ℤ w) (a *ℤ w +ℤ m *ℤ (first -ℤ t0)) d z p in
    let e = scaled_line a m t0 w first d in
    let u = turned m first d in
    omega (arith, ints, s, s1, t, e, u))

-- at most `most` at two moments, and so between them
pub below_between : (most a m t0 w first last n d : ℤ) → pos 0 ≤ℤ d → (first *ℤ d) ≤ℤ n → n ≤ℤ (last *ℤ d)
    → (a *ℤ w +ℤ m *ℤ (first -ℤ t0)) ≤ℤ (most *ℤ w) → (a *ℤ w +ℤ m *ℤ (last -ℤ t0)) ≤ℤ (most *ℤ w)
    → (a *ℤ (d *ℤ w) +ℤ m *ℤ (n -ℤ t0 *ℤ d)) ≤ℤ (most *ℤ (d *ℤ w))
below_between most a m t0 w first last n d z low high p q =
    let goal_is = times_difference m n (t0 *ℤ d) in
    let most_is = regroup most d w in
    by_lt_z m (pos 0)
    (λ falls.
    let back : pos 0 ≤ℤ neg_ℤ m = omega (arith, ints) in
    let s : ((first *ℤ d) *ℤ neg_ℤ m) ≤ℤ (n *ℤ neg_ℤ m) = scale (first *ℤ d) n (neg_ℤ m) back low in
    let s1 : n *ℤ neg_ℤ m ≡ neg_ℤ (m *ℤ n) = omega (arith, ints, negative_times m n) in
    let s2 : (first *ℤ d) *ℤ neg_ℤ m ≡ neg_ℤ ((first *ℤ d) *ℤ m) = omega (arith, ints, negative_times m (first *ℤ d)) in
    let t : ((a *ℤ w +ℤ m *ℤ (first -ℤ t0)) *ℤ d) ≤ℤ ((most *ℤ w) *ℤ d) = scale (a *ℤ w +ℤ m *ℤ (first -ℤ t0)) (most *ℤ w) d z p in
    let e = scaled_line a m t0 w first d in
    let u = turned m first d in
    omega (arith, ints, s, s1, s2, t, e, u))
    (λ rises.
    let s : (n *ℤ m) ≤ℤ ((last *ℤ d) *ℤ m) = scale n (last *ℤ d) m rises high in
    let s1 : n *ℤ m ≡ m *ℤ n = omega (arith, ints) in
    let t : ((a *ℤ w +ℤ m *ℤ (last -ℤ t0)) *ℤ d) ≤ℤ ((most *ℤ w) *ℤ d) = scale (a *ℤ w +ℤ m *ℤ (last -ℤ t0)) (most *ℤ w) d z q in
    let e = scaled_line a m t0 w last d in
    let u = turned m last d in
    omega (arith, ints, s, s1, t, e, u))

-- at the part s / d of the way from a to b it is not over the greater end, nor under the lesser
pub to_greater : (least a b s d : ℤ) → pos 0 <ℤ d → pos 0 ≤ℤ s → s ≤ℤ d → (least *ℤ d) ≤ℤ (a *ℤ d +ℤ (b -ℤ a) *ℤ s) → least ≤ℤ int_max a b
to_greater least a b s d wide from to h =
    by_lt_z b a
    (λ falls.
    let m : pos 0 ≤ℤ (a -ℤ b) = omega (arith, ints) in
    let t : (pos 0 *ℤ (a -ℤ b)) ≤ℤ (s *ℤ (a -ℤ b)) = scale (pos 0) s (a -ℤ b) m from in
    let e1 = times_difference s a b in
    let e2 = times_difference s b a in
    let e3 : (b -ℤ a) *ℤ s ≡ s *ℤ (b -ℤ a) = omega (arith, ints) in
    let l : (least *ℤ d) ≤ℤ (a *ℤ d) = omega (arith, ints, t, e1, e2, e3, h) in
    let c : least ≤ℤ a = cancel least a d wide l in
    omega (arith, ints, clamps))
    (λ rises.
    let m : pos 0 ≤ℤ (b -ℤ a) = omega (arith, ints) in
    let t : (s *ℤ (b -ℤ a)) ≤ℤ (d *ℤ (b -ℤ a)) = scale s d (b -ℤ a) m to in
    let e1 = times_difference d b a in
    let e3 : (b -ℤ a) *ℤ s ≡ s *ℤ (b -ℤ a) = omega (arith, ints) in
    let l : (least *ℤ d) ≤ℤ (b *ℤ d) = omega (arith, ints, t, e1, e3, h) in
    let c : least ≤ℤ b = cancel least b d wide l in
    omega (arith, ints, clamps))

pub from_lesser : (most a b s d : ℤ) → pos 0 <ℤ d → pos 0 ≤ℤ s → s ≤ℤ d → (a *ℤ d +ℤ (b -ℤ a) *ℤ s) ≤ℤ (most *ℤ d) → int_min a b ≤ℤ most
from_lesser most a b s d wide from to h =
    by_lt_z b a
    (λ falls.
    let m : pos 0 ≤ℤ (a -ℤ b) = omega (arith, ints) in
    let t : (s *ℤ (a -ℤ b)) ≤ℤ (d *ℤ (a -ℤ b)) = scale s d (a -ℤ b) m to in
    let e0 = times_difference d a b in
    let e1 = times_difference s a b in
    let e2 = times_difference s b a in
    let e3 : (b -ℤ a) *ℤ s ≡ s *ℤ (b -ℤ a) = omega (arith, ints) in
    let l : (b *ℤ d) ≤ℤ (most *ℤ d) = omega (arith, ints, t, e0, e1, e2, e3, h) in
    let c : b ≤ℤ most = cancel b most d wide l in
    omega (arith, ints, clamps))
    (λ rises.
    let m : pos 0 ≤ℤ (b -ℤ a) = omega (arith, ints) in
    let t : (pos 0 *ℤ (b -ℤ a)) ≤ℤ (s *ℤ (b -ℤ a)) = scale (pos 0) s (b -ℤ a) m from in
    let e3 : (b -ℤ a) *ℤ s ≡ s *ℤ (b -ℤ a) = omega (arith, ints) in
    let l : (a *ℤ d) ≤ℤ (most *ℤ d) = omega (arith, ints, t, e3, h) in
    let c : a ≤ℤ most = cancel a most d wide l in
    omega (arith, ints, clamps))
