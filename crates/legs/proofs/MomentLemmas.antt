-- Moments of a leg in a period.
use Rattle.std.proofs.Common.{ℕ, ◌<◌, ◌≤◌, ◌≡◌, ◌∙◌, sym, Bool, ◌↔◌, ℤ, pos, ◌*ℤ◌, ◌≤ℤ◌, ◌<ℤ◌, arith}
use Rattle.std.specs.Prelude.{IsTrue}
use Rattle.std.specs.Int.{int_max, int_min}
use Rattle.std.proofs.lemmas.Int.{ints, by_lt_z}
use Rattle.std.proofs.Math.Nat.{mul-lt-mul_of_pos_right}
use borrow.Author.Differences.{lt_out}
use Rattle.timebase.specs.Period.{PeriodView}
use Rattle.legs.specs.Legs.{LegView, HasMoment, is_live}
use Rattle.legs.proofs.BoxLemmas.{le_from, le_to}

-- an order of products with one factor above 0
scaled : (a b : ℤ) (d : ℕ) → 1 ≤ d → a <ℤ b → (a *ℤ pos d) <ℤ (b *ℤ pos d)
scaled a b d z h =
    let k : 0 < d = omega arith in
    omega (arith, ints, mul-lt-mul_of_pos_right (lt_out a b h) k)

pub unscaled : (a b : ℤ) (d : ℕ) → 1 ≤ d → (a *ℤ pos d) ≤ℤ (b *ℤ pos d) → a ≤ℤ b
unscaled a b d z h = by_lt_z b a (λ g. let m : (b *ℤ pos d) <ℤ (a *ℤ pos d) = scaled b a d z g in absurd (omega (arith, ints))) (λ g. g)

times_one : (a : ℤ) → (a *ℤ pos 1) ≡ a
times_one a = omega (arith, ints)

-- the leg has a moment exactly where the later start is not after the earlier end
pub live_is : (leg : LegView) (period : PeriodView) (t : Bool) → t ≡ is_live period leg → IsTrue t ↔ HasMoment leg period
live_is leg period t e = (
  λ holds.
      let order : int_max leg.t0 period.start ≤ℤ int_min leg.t1 period.end = le_from (int_max leg.t0 period.start) (int_min leg.t1 period.end) (sym e ∙ holds) in (
        int_max leg.t0 period.start,
        1,
        record {
          divisor = omega arith;
          from = rw (times_one (int_max leg.t0 period.start)) (omega (arith, ints));
          to = rw (times_one (int_min leg.t1 period.end)) order;
        },
      ),
  λ moment.
      let low = moment.2.from in
      let high = moment.2.to in
      e ∙ le_to (int_max leg.t0 period.start) (int_min leg.t1 period.end) (unscaled (int_max leg.t0 period.start) (int_min leg.t1 period.end) moment.1 moment.2.divisor (omega (arith, ints))),
)
