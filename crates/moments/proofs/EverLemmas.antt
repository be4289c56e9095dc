-- The legs of which `ever` holds, and those that have a stay.
use Rattle.std.proofs.Common.{zero, suc, ◌≡◌, ◌∙◌, ◌∷◌, [], List, map, arith, ap, sym, subst, refl, inl, inr}
use Rattle.timebase.specs.Period.{PeriodView}
use Rattle.legs.specs.Legs.{LegView}
use Rattle.legs.specs.Boxes.{RectView}
use Rattle.clipping.specs.Inside.{HasMomentInside}
use Rattle.predicates.specs.Predicates.{HoldsIn, IsEverIn}
use Rattle.predicates.specs.declared.Predicate.TheVariants.{Ever}
use Rattle.trajdb.specs.Answers.{HoldsOfLeg}
use Rattle.trajdb.specs.Picks.{Picks}
use Rattle.moments.specs.Stays.{AreStays}
use Rattle.moments.specs.declared.stay.Stay.{Stay}

pub inside_ever : (leg : LegView) (rect : RectView) (period : PeriodView) → HasMomentInside leg rect period → HoldsOfLeg Ever rect period leg
unfolding HoldsIn IsEverIn
inside_ever leg rect period h = (0, leg, omega arith, refl, h)

pub ever_inside : (leg : LegView) (rect : RectView) (period : PeriodView) → HoldsOfLeg Ever rect period leg → HasMomentInside leg rect period
unfolding HoldsIn IsEverIn
ever_inside leg rect period (zero, x, less, is, h) = subst (λ (l : LegView). HasMomentInside l rect period) (sym is) h
ever_inside leg rect period (suc k, x, less, is, h) = absurd (omega (arith, less))

module _ (rect : RectView) (period : PeriodView) where
  -- of what is picked of all legs are the stays of all legs
  pub stays_of_all : (legs near : List LegView) (stays : List Stay) → Picks (HoldsOfLeg Ever rect period) legs near → AreStays rect period near stays → AreStays rect period legs stays
  stays_of_all [] near stays e are = subst (λ (l : List LegView). AreStays rect period l stays) e are
  stays_of_all (leg ∷ legs) near stays (inl (held, others, e, picks)) are =
      by (λ more rest. stays_of_all legs others more picks rest) (subst (λ (l : List LegView). AreStays rect period l stays) e are)
    where
      by : ((more : List Stay) → AreStays rect period others more → AreStays rect period legs more) → AreStays rect period (leg ∷ others) stays → AreStays rect period (leg ∷ legs) stays
      by next (inl (stay, more, f, is, rest)) = inl (stay, more, f, is, next more rest)
      by next (inr (none, rest)) = inr (none, next stays rest)
  stays_of_all (leg ∷ legs) near stays (inr (unheld, picks)) are = inr (λ h. unheld (inside_ever leg rect period h), stays_of_all legs near stays picks are)

  -- each of them has one
  pub legs_of_stays : (legs near : List LegView) (stays : List Stay) → Picks (HoldsOfLeg Ever rect period) legs near → AreStays rect period near stays → map (λ (stay : Stay). stay.leg) stays ≡ near
  legs_of_stays [] near stays e are =
      let none : stays ≡ [] = subst (λ (l : List LegView). AreStays rect period l stays) e are in
      ap (map (λ (stay : Stay). stay.leg)) none ∙ sym e
  legs_of_stays (leg ∷ legs) near stays (inl (held, others, e, picks)) are =
      by (λ more rest. legs_of_stays legs others more picks rest) (subst (λ (l : List LegView). AreStays rect period l stays) e are) ∙ sym e
    where
      by : ((more : List Stay) → AreStays rect period others more → map (λ (stay : Stay). stay.leg) more ≡ others) → AreStays rect period (leg ∷ others) stays → map (λ (stay : Stay). stay.leg) stays ≡ leg ∷ others
      by next (inl (stay, more, f, is, rest)) = ap (map (λ (stay : Stay). stay.leg)) f ∙ (λ i. is.same i ∷ next more rest i)
      by next (inr (none, rest)) = absurd (none (ever_inside leg rect period held))
  legs_of_stays (leg ∷ legs) near stays (inr (unheld, picks)) are = legs_of_stays legs near stays picks are
