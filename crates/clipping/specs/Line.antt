-- Helpers of private functions: half-lines and cuts of a leg's duration. A place of it is s / d, with d above 0.
use Rattle.std.specs.Prelude.{Option, MatchOption, ◌↔◌, ℤ, pos, ◌+ℤ◌, ◌-ℤ◌, ◌*ℤ◌, ◌≤ℤ◌, ◌<ℤ◌}
use Rattle.clipping.specs.declared.line.Frac.{Frac}
use Rattle.clipping.specs.declared.line.Cut.{Cut}

-- s / d is on the side where p * s + q * d is not negative
pub record OnSide (p q s d : ℤ) : Type 0 where
  pub side : pos 0 ≤ℤ (p *ℤ s +ℤ q *ℤ d)

-- s / d is at least the fraction
pub record IsFrom (f : Frac) (s d : ℤ) : Type 0 where
  pub from : (f.num *ℤ d) ≤ℤ (s *ℤ f.den)

-- s / d is at most the fraction
pub record IsTo (f : Frac) (s d : ℤ) : Type 0 where
  pub to : (s *ℤ f.den) ≤ℤ (f.num *ℤ d)

-- s / d is in the cut: from its lower to its upper fraction
pub record IsWithin (c : Cut) (s d : ℤ) : Type 0 where
  pub after : (c.lo.num *ℤ d) ≤ℤ (s *ℤ c.lo.den)
  pub before : (s *ℤ c.hi.den) ≤ℤ (c.hi.num *ℤ d)

-- the places of the cut where P holds are those of the cut in the answer, and there is none where it is `None`
unfoldable pub Keeps : Cut → (ℤ → ℤ → Type 0) → Option Cut → Type 0
Keeps c P answer =
    MatchOption answer
    ((s d : ℤ) → pos 0 <ℤ d → IsWithin c s d → P s d → ⊥)
    (λ kept. (s d : ℤ) → pos 0 <ℤ d → IsWithin kept s d ↔ (IsWithin c s d × P s d))

-- what goes evenly from a to b lies from least to most at s / d
pub record IsAcross (a b least most s d : ℤ) : Type 0 where
  pub from_least : (least *ℤ d) ≤ℤ (a *ℤ d +ℤ (b -ℤ a) *ℤ s)
  pub to_most : (a *ℤ d +ℤ (b -ℤ a) *ℤ s) ≤ℤ (most *ℤ d)
