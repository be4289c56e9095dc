-- Stays of legs, one after another.
use Rattle.std.proofs.Common.{◌++◌, ◌∷◌, [], All, List, sym, subst, refl, inl, inr}
use Rattle.std.proofs.lemmas.List.Elements.{All-cons, All-nil}
use Rattle.std.proofs.lemmas.List.{append_assoc, append-nil}
use Rattle.timebase.specs.Period.{PeriodView}
use Rattle.legs.specs.Legs.{LegView}
use Rattle.legs.specs.Boxes.{RectView}
use Rattle.clipping.specs.Inside.{HasMomentInside}
use Rattle.moments.specs.Lengths.{IsNoLater}
use Rattle.moments.specs.Stays.{AreStays, IsStay}
use Rattle.moments.specs.declared.stay.Stay.{Stay}

module _ (rect : RectView) (period : PeriodView) (all : List LegView) where
  -- the stays of what is left complete those of all
  abbrev pub IsStaying : List LegView → List Stay → Type 0
  IsStaying left stays = (rest : List Stay) → AreStays rect period left rest → AreStays rect period all (stays ++ rest)

  pub staying-yes : (left : List LegView) (stays : List Stay) (leg : LegView) (stay : Stay) → IsStaying (leg ∷ left) stays → IsStay rect period leg stay → IsStaying left (stays ++ stay ∷ [])
  staying-yes left stays leg stay so_far is = λ rest h.
      subst (λ (l : List Stay). AreStays rect period all l) (sym (append_assoc stays (stay ∷ []) rest)) (so_far (stay ∷ rest) (inl (stay, rest, refl, is, h)))

  pub staying-no : (left : List LegView) (stays : List Stay) (leg : LegView) → IsStaying (leg ∷ left) stays → (HasMomentInside leg rect period → ⊥) → IsStaying left stays
  staying-no left stays leg so_far none = λ rest h. so_far rest (inr (none, h))

  pub staying-end : (stays : List Stay) → IsStaying [] stays → AreStays rect period all stays
  staying-end stays so_far = subst (λ (l : List Stay). AreStays rect period all l) (append-nil stays) (so_far [] refl)

  -- the last moment of a stay is not before its first
  not_turned : (leg : LegView) (stay : Stay) → IsStay rect period leg stay → IsNoLater stay.enters stay.leaves
  not_turned leg stay is = is.first.least stay.leaves.num stay.leaves.den is.last.inside

pub none_turns : (rect : RectView) (period : PeriodView) (legs : List LegView) (stays : List Stay) → AreStays rect period legs stays → All (λ stay. IsNoLater stay.enters stay.leaves) stays
none_turns rect period [] stays e = subst (All (λ (stay : Stay). IsNoLater stay.enters stay.leaves)) (sym e) (All-nil (λ (stay : Stay). IsNoLater stay.enters stay.leaves))
none_turns rect period (leg ∷ legs) stays (inl (stay, others, e, is, rest)) =
    subst (All (λ (stay : Stay). IsNoLater stay.enters stay.leaves)) (sym e)
    (All-cons (λ (stay : Stay). IsNoLater stay.enters stay.leaves) stay others (not_turned rect period legs leg stay is) (none_turns rect period legs others rest))
none_turns rect period (leg ∷ legs) stays (inr (none, rest)) = none_turns rect period legs stays rest
