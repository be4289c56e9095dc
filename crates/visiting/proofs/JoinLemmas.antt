-- What is joined, one part more at a time.
use Rattle.std.proofs.Common.{ℕ, ◌≡◌, ◌∙◌, ◌<◌, ◌++◌, ◌∷◌, [], Bool, true, false, cond, List, All, length, get_or, set, ap, sym, refl}
use Rattle.std.specs.Prelude.{fold, Option, Some, None}
use Rattle.std.proofs.lemmas.List.{get_or_default}
use Rattle.std.proofs.lemmas.List.Elements.{All-nil, All-cons, All-head, All-tail, All-append, All-set}
use Rattle.visiting.proofs.PlaceLemmas.{last_in}
use Rattle.visiting.specs.Places.{last_place}
use Rattle.visiting.specs.Joining.{joined_at, joined_with}

module _ {P J : Type 0} (feature : J → ℕ) (part_feature : P → ℕ) (of : P → J) (goes_on : J → P → Bool) (with_part : J → P → J) where
  abbrev at : List J → P → Option ℕ → List J
  at = joined_at feature part_feature of goes_on with_part

  abbrev step : List J → P → List J
  step = joined_with feature part_feature of goes_on with_part

  -- the one at a place does not go on
  pub begins_one : (all : List J) (part : P) (place : ℕ) (one : J) → place < length all → one ≡ get_or all place one → false ≡ goes_on one part → at all part (Some place) ≡ all ++ of part ∷ []
  begins_one all part place one less is stops =
      let last : get_or all place (of part) ≡ one = get_or_default all place (of part) one less ∙ sym is in
      ap (λ b. cond b (set all place (with_part (get_or all place (of part)) part)) (all ++ of part ∷ [])) (ap (λ v. goes_on v part) last ∙ sym stops)

  -- the one at a place goes on
  pub goes_one : (all : List J) (part : P) (place : ℕ) (one kept : J) → place < length all → step all part ≡ set all place (with_part (get_or all place (of part)) part)
      → one ≡ get_or all place one → kept ≡ with_part one part → set all place kept ≡ step all part
  goes_one all part place one kept less are is e =
      ap (set all place) (e ∙ ap (λ v. with_part v part) (is ∙ get_or_default all place one (of part) less)) ∙ sym are

  -- what holds of each that is begun, and is kept with a part more, holds of all
  module _ (Holds : J → Type 0) (HoldsPart : P → Type 0) (begun : (part : P) → HoldsPart part → Holds (of part)) (more : (one : J) (part : P) → Holds one → HoldsPart part → goes_on one part ≡ true → Holds (with_part one part)) where
    all_with : (all : List J) (part : P) → All Holds all → HoldsPart part → All Holds (step all part)
    all_with all part are h = by (last_place feature (part_feature part) all) refl
      where
        new : All Holds (all ++ of part ∷ [])
        new = All-append Holds all (of part ∷ []) are (All-cons Holds (of part) [] (begun part h) (All-nil Holds))

        there : (place : ℕ) (b : Bool) → last_place feature (part_feature part) all ≡ Some place → goes_on (get_or all place (of part)) part ≡ b
            → All Holds (cond b (set all place (with_part (get_or all place (of part)) part)) (all ++ of part ∷ []))
        there place true found e =
            let less = (last_in feature (part_feature part) place all (of part) found).0 in
            All-set Holds all place (with_part (get_or all place (of part)) part) (more (get_or all place (of part)) part (are place (of part) less) h e) are
        there place false found e = new

        by : (o : Option ℕ) → last_place feature (part_feature part) all ≡ o → All Holds (at all part o)
        by None found = new
        by (Some place) found = there place (goes_on (get_or all place (of part)) part) found refl

    pub all_hold : (parts : List P) (all : List J) → All Holds all → All HoldsPart parts → All Holds (fold step all parts)
    all_hold [] all are h = are
    all_hold (part ∷ parts) all are h = all_hold parts (step all part) (all_with all part are (All-head HoldsPart part parts h)) (All-tail HoldsPart part parts h)
