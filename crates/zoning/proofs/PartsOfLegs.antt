-- What is left out of legs, feature by feature.
use Rattle.std.proofs.Common.{ℕ, ap, sym, refl, subst, Bool, true, false, cond, inl, inr, List, [], ◌∷◌}
use Rattle.std.specs.Prelude.{◌==◌, filter}
use Rattle.legs.specs.Legs.{LegView}
use Rattle.legs.specs.Sieves.{LeavesOut}
use Rattle.legs.specs.Index.{legs_of}

module _ (May : LegView → Type 0) where
  filter_out : (p : LegView → Bool) (all near : List LegView) → LeavesOut May all near → LeavesOut May (filter p all) (filter p near)
  filter_out p [] near h = ap (filter p) h
  filter_out p (leg ∷ all) near (inl h) = subst (λ (l : List LegView). LeavesOut May (filter p (leg ∷ all)) (filter p l)) (sym h.1) (by (p leg) (filter_out p all h.0 h.2))
    where
      by : (b : Bool) → LeavesOut May (filter p all) (filter p h.0) → LeavesOut May (cond b (leg ∷ filter p all) (filter p all)) (cond b (leg ∷ filter p h.0) (filter p h.0))
      by true rest = inl (filter p h.0, refl, rest)
      by false rest = rest
  filter_out p (leg ∷ all) near (inr h) = by (p leg) (filter_out p all near h.1)
    where
      by : (b : Bool) → LeavesOut May (filter p all) (filter p near) → LeavesOut May (cond b (leg ∷ filter p all) (filter p all)) (filter p near)
      by true rest = inr (h.0, rest)
      by false rest = rest

  pub near_of : (f : ℕ) (all near : List LegView) → LeavesOut May all near → LeavesOut May (legs_of f all) (legs_of f near)
  near_of f all near h = filter_out (λ (leg : LegView). leg.feature == f) all near h
