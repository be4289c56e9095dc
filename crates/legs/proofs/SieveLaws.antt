-- What a sieve keeps when it leaves out nothing.
use Rattle.std.proofs.Common.{◌≡◌, List, [], ◌∷◌, refl, sym, subst, inl}
use Rattle.timebase.specs.Period.{PeriodView}
use Rattle.legs.specs.Legs.{LegView}
use Rattle.legs.specs.Sieves.{LeavesOut, MayGo, IsSieved}
use Rattle.legs.specs.declared.sieve.Sieve.{Sieve}

-- all legs are what any sieve keeps, or more
pub leaves_none : (May : LegView → Type 0) (legs : List LegView) → LeavesOut May legs legs
leaves_none May [] = refl
leaves_none May (leg ∷ legs) = inl (legs, refl, leaves_none May legs)

-- all legs are what any sieve keeps, or more
pub sieved_self : (sieve : Sieve) (period : PeriodView) (legs : List LegView)
    → IsSieved sieve period legs legs
sieved_self sieve period legs =
    record { of = leaves_none (MayGo sieve period) legs; first = refl; last = refl }

-- so are legs that are the same list
pub sieved_same : (sieve : Sieve) (period : PeriodView) (all some : List LegView) → some ≡ all
    → IsSieved sieve period all some
sieved_same sieve period all some e =
    subst (λ l. IsSieved sieve period all l) (sym e) (sieved_self sieve period all)
