-- Stays over cuts that are apart are apart, and none ends before it begins.
use Rattle.std.specs.Prelude.{IfOk, Result, Ok, Err}
use Rattle.std.proofs.Common.{ℕ, ◌<◌, All, List, [], ◌∷◌, ℤ, pos, ◌-ℤ◌, ◌*ℤ◌, ◌≤ℤ◌, ◌<ℤ◌, arith}
use Rattle.std.proofs.lemmas.Int.{by_lt_z, ints}
use Rattle.std.proofs.lemmas.List.Elements.{All-cons, All-nil}
use Rattle.legs.specs.Legs.{LegView}
use Rattle.clipping.specs.Inside.{duration}
use Rattle.clipping.proofs.Fractions.{scale_strictly, through, through_less}
use Rattle.zones.specs.Cuts as cuts
use Rattle.zones.specs.declared.cuts.Cut.{Cut}
use Rattle.zoning.specs.Lengths.{IsNotAfter}
use Rattle.zoning.specs.Parts.{IsAt, numerator_of}
use Rattle.zoning.specs.Stays.{AreAfter, AreApart, AreOver, IsBefore, IsOver}
use Rattle.zoning.specs.declared.moment.Moment.{Moment}
use Rattle.zoning.specs.declared.stay.Stay.{Stay}
use Rattle.zoning.proofs.Orders.{after_from, after_to, before_to}

positive : (d : ℕ) → 0 < d → pos 0 <ℤ pos d
positive d h = omega (arith, ints, h)

positive_product : (a b : ℤ) → pos 0 <ℤ a → pos 0 <ℤ b → pos 0 <ℤ (a *ℤ b)
positive_product a b h g = let s = scale_strictly (pos 0) a b g h in omega (arith, ints, s)

same_order : (a : ℤ) → a ≤ℤ a
same_order a = omega (arith, ints)

module _ (leg : LegView) (w0 : pos 0 <ℤ duration leg) where
  module _ (p q r s : ℤ) (one other : Moment) (q0 : pos 0 <ℤ q) (s0 : pos 0 <ℤ s) (at_one : IsAt leg p q one) (at_other : IsAt leg r s other) where
    abbrev w : ℤ
    w = duration leg

    abbrev k : ℤ
    k = pos other.den

    abbrev n : ℤ
    n = numerator_of other -ℤ leg.t0 *ℤ k

    k0 : pos 0 <ℤ k
    k0 = positive other.den other.positive

    -- the other moment is at its part
    there : (r *ℤ (k *ℤ w)) ≤ℤ (n *ℤ s)
    there = after_to (numerator_of other) r s k leg.t0 w (numerator_of other) k s0 k0 at_other.at (same_order (numerator_of other *ℤ k))

    no_later : (p *ℤ s) ≤ℤ (r *ℤ q) → IsNotAfter one other
    no_later h =
        after_from (numerator_of one) p q (pos one.den) leg.t0 w (numerator_of other) k q0 (positive one.den one.positive) at_one.at
        (through p q r s n (k *ℤ w) q0 s0 (positive_product k w k0 w0) h there)

    before : (p *ℤ s) <ℤ (r *ℤ q) → IsBefore one other
    before h =
        by_lt_z (numerator_of one *ℤ k) (numerator_of other *ℤ pos one.den) (λ less. less)
        (λ over.
        absurd
        (through_less r s p q n (k *ℤ w) s0 q0 (positive_product k w k0 w0) h there
        (before_to (numerator_of one) p q (pos one.den) leg.t0 w (numerator_of other) k q0 (positive one.den one.positive) at_one.at over)))

  after_all : (cut : Cut) (stay : Stay) → IsOver leg cut stay → (cs : List Cut) (stays : List Stay) → AreOver leg cs stays → cuts.AllAfter cut.hi cs → AreAfter stay.leaves stays
  after_all cut stay is [] [] over h = tt
  after_all cut stay is [] (next ∷ stays) over h = absurd over
  after_all cut stay is (c ∷ cs) [] over h = absurd over
  after_all cut stay is (c ∷ cs) (next ∷ stays) over h = (
    before cut.hi.num cut.hi.den c.lo.num c.lo.den stay.leaves next.enters cut.hi.positive c.lo.positive is.leaves over.0.enters h.0,
    after_all cut stay is cs stays over.1 h.1,
  )

  pub all_apart : (cs : List Cut) (stays : List Stay) → AreOver leg cs stays → cuts.AllApart cs → AreApart stays
  all_apart [] [] over h = tt
  all_apart [] (stay ∷ stays) over h = absurd over
  all_apart (cut ∷ cs) [] over h = absurd over
  all_apart (cut ∷ cs) (stay ∷ stays) over h = (after_all cut stay over.0 cs stays over.1 h.0, all_apart cs stays over.1 h.1)

  abbrev IsForward : Stay → Type 0
  IsForward stay = IsNotAfter stay.enters stay.leaves

  pub all_forward : (cs : List Cut) (stays : List Stay) → AreOver leg cs stays → All IsForward stays
  all_forward [] [] over = All-nil IsForward
  all_forward [] (stay ∷ stays) over = absurd over
  all_forward (cut ∷ cs) [] over = absurd over
  all_forward (cut ∷ cs) (stay ∷ stays) over =
      All-cons IsForward stay stays
      (no_later cut.lo.num cut.lo.den cut.hi.num cut.hi.den stay.enters stay.leaves cut.lo.positive cut.hi.positive over.0.enters over.0.leaves cut.ordered)
      (all_forward cs stays over.1)

-- two facts of a value that a call returns, where it does
pub both_ok : {X Y : Type 0} (r : Result X Y) (P Q R : X → Type 0) → ((x : X) → P x → Q x → R x) → IfOk r P → IfOk r Q → IfOk r R
both_ok (Ok x) P Q R f p q = f x p q
both_ok (Err y) P Q R f p q = tt
