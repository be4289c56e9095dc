-- What a step of the clipping keeps.
use Rattle.std.proofs.Common.{ℤ, pos, ◌-ℤ◌, ◌*ℤ◌, neg_ℤ, ◌≤ℤ◌, ◌<ℤ◌, ◌≡◌, ◌↔◌, Option, Some, None, arith, ap, subst}
use Rattle.std.proofs.lemmas.Int.{ints}
use Rattle.clipping.proofs.Products.{products}
use Rattle.clipping.proofs.Fractions.{scale, scale_strictly}
use Rattle.clipping.specs.Line.{Keeps, OnSide, IsFrom, IsTo, IsAcross}
use Rattle.clipping.specs.declared.line.Frac.{Frac}
use Rattle.clipping.specs.declared.line.Cut.{Cut}

pub Keeps-same : (c : Cut) (P Q : ℤ → ℤ → Type 0) (answer : Option Cut) → ((s d : ℤ) → pos 0 <ℤ d → P s d ↔ Q s d) → Keeps c P answer → Keeps c Q answer
unfolding Keeps
Keeps-same c P Q None same k = λ s d z w q. k s d z w ((same s d z).1 q)
Keeps-same c P Q (Some n) same k = λ s d z.
    (λ w. let both = (k s d z).0 w in (both.0, (same s d z).0 both.1), λ both. (k s d z).1 (both.0, (same s d z).1 both.1))

-- a side with a factor above 0 is a bound from below, and one with a factor below 0 a bound from above
pub side_from : (p q : ℤ) (f : Frac) → f.num ≡ neg_ℤ q → f.den ≡ p → (s d : ℤ) → pos 0 <ℤ d → IsFrom f s d ↔ OnSide p q s d
side_from p q f e g s d z =
    let x : f.num *ℤ d ≡ neg_ℤ q *ℤ d = ap (λ v. v *ℤ d) e in
    let y : s *ℤ f.den ≡ s *ℤ p = ap (λ v. s *ℤ v) g in
    (λ h. record { side = omega (arith, ints, products, x, y, h.from) }, λ h. record { from = omega (arith, ints, products, x, y, h.side) })

pub side_to : (p q : ℤ) (f : Frac) → f.num ≡ q → f.den ≡ neg_ℤ p → (s d : ℤ) → pos 0 <ℤ d → IsTo f s d ↔ OnSide p q s d
side_to p q f e g s d z =
    let x : f.num *ℤ d ≡ q *ℤ d = ap (λ v. v *ℤ d) e in
    let y : s *ℤ f.den ≡ s *ℤ neg_ℤ p = ap (λ v. s *ℤ v) g in
    (λ h. record { side = omega (arith, ints, products, x, y, h.to) }, λ h. record { to = omega (arith, ints, products, x, y, h.side) })

-- a side with the factor 0 holds everywhere or nowhere
pub side_all : (p q : ℤ) → p ≡ pos 0 → pos 0 ≤ℤ q → (s d : ℤ) → pos 0 <ℤ d → OnSide p q s d
side_all p q e h s d z =
    let x : p *ℤ s ≡ pos 0 *ℤ s = ap (λ v. v *ℤ s) e in
    let d0 : pos 0 ≤ℤ d = omega (arith, ints) in
    let y : (pos 0 *ℤ d) ≤ℤ (q *ℤ d) = scale (pos 0) q d d0 h in
    record { side = omega (arith, ints, x, y) }

pub side_none : (p q : ℤ) → p ≡ pos 0 → q <ℤ pos 0 → (s d : ℤ) → pos 0 <ℤ d → OnSide p q s d → ⊥
side_none p q e h s d z o =
    let x : p *ℤ s ≡ pos 0 *ℤ s = ap (λ v. v *ℤ s) e in
    let y : (q *ℤ d) <ℤ (pos 0 *ℤ d) = scale_strictly q (pos 0) d z h in
    omega (arith, ints, x, y, o.side)

-- one step after another
pub Keeps-none : (c : Cut) (P Q : ℤ → ℤ → Type 0) → Keeps c P None → Keeps c (λ s d. P s d × Q s d) None
unfolding Keeps
Keeps-none c P Q k = λ s d z w both. k s d z w both.0

pub Keeps-then : (c n : Cut) (P Q : ℤ → ℤ → Type 0) (answer : Option Cut) → Keeps c P (Some n) → Keeps n Q answer → Keeps c (λ s d. P s d × Q s d) answer
unfolding Keeps
Keeps-then c n P Q None k l = λ s d z w both. l s d z ((k s d z).1 (w, both.0)) both.1
Keeps-then c n P Q (Some m) k l = λ s d z. (
  λ w. let in_n = (l s d z).0 w in let in_c = (k s d z).0 in_n.0 in (in_c.0, (in_c.1, in_n.1)),
  λ both. (l s d z).1 ((k s d z).1 (both.0, both.1.0), both.1.1),
)

pub across_sides : (a b least most p q r t : ℤ) → p ≡ b -ℤ a → q ≡ a -ℤ least → r ≡ a -ℤ b → t ≡ most -ℤ a
    → (s d : ℤ) → pos 0 <ℤ d → (OnSide p q s d × OnSide r t s d) ↔ IsAcross a b least most s d
across_sides a b least most p q r t ep eq er et s d z =
    let x : p *ℤ s ≡ (b -ℤ a) *ℤ s = ap (λ v. v *ℤ s) ep in
    let y : q *ℤ d ≡ (a -ℤ least) *ℤ d = ap (λ v. v *ℤ d) eq in
    let u : r *ℤ s ≡ (a -ℤ b) *ℤ s = ap (λ v. v *ℤ s) er in
    let v : t *ℤ d ≡ (most -ℤ a) *ℤ d = ap (λ v. v *ℤ d) et in (
      λ both. record { from_least = omega (arith, ints, products, x, y, both.0.side); to_most = omega (arith, ints, products, u, v, both.1.side) },
      λ h. (record { side = omega (arith, ints, products, x, y, h.from_least) }, record { side = omega (arith, ints, products, u, v, h.to_most) }),
    )

pub Keeps-across : (c : Cut) (a b least most p q r t : ℤ) (answer : Option Cut) → p ≡ b -ℤ a → q ≡ a -ℤ least → r ≡ a -ℤ b → t ≡ most -ℤ a
    → Keeps c (λ s d. OnSide p q s d × OnSide r t s d) answer → Keeps c (IsAcross a b least most) answer
Keeps-across c a b least most p q r t answer ep eq er et k =
    Keeps-same c _ _ answer (across_sides a b least most p q r t ep eq er et) k

pub IsAcross-same : (c : Cut) (a b least most a' b' least' most' : ℤ) (answer : Option Cut) → a ≡ a' → b ≡ b' → least ≡ least' → most ≡ most'
    → Keeps c (IsAcross a b least most) answer → Keeps c (IsAcross a' b' least' most') answer
IsAcross-same c a b least most a' b' least' most' answer e f g h k =
    subst (λ (v : ℤ). Keeps c (IsAcross v b' least' most') answer) e
    (subst (λ (v : ℤ). Keeps c (IsAcross a v least' most') answer) f
    (subst (λ (v : ℤ). Keeps c (IsAcross a b v most') answer) g
    (subst (λ (v : ℤ). Keeps c (IsAcross a b least v) answer) h k)))

-- the same numbers, the same part
pub across_same : (a b least most s d a' b' least' most' s' d' : ℤ) → a ≡ a' → b ≡ b' → least ≡ least' → most ≡ most' → s ≡ s' → d ≡ d' → IsAcross a b least most s d → IsAcross a' b' least' most' s' d'
across_same a b least most s d a' b' least' most' s' d' e f g h i j k =
    subst (λ (v : ℤ). IsAcross v b' least' most' s' d') e
    (subst (λ (v : ℤ). IsAcross a v least' most' s' d') f
    (subst (λ (v : ℤ). IsAcross a b v most' s' d') g
    (subst (λ (v : ℤ). IsAcross a b least v s' d') h
    (subst (λ (v : ℤ). IsAcross a b least most v d') i
    (subst (λ (v : ℤ). IsAcross a b least most s v) j k)))))
