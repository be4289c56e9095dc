-- Legs by their places.
use Rattle.std.proofs.Common.{ℕ, ◌+◌, ◌<◌, ◌≤◌, ◌≡◌, ◌≢◌, ◌∙◌, ap, sym, refl, List, [], ◌∷◌, ◌++◌, length, max, Bool, true, false, cond, eqb, ltb, subst, arith, get_or, inl, inr, ◌⊎◌}
use Rattle.std.specs.Prelude.{All, fold, slice_set}
use Rattle.std.proofs.lemmas.Bool.Decides.{nat_tests}
use Rattle.std.proofs.lemmas.Grind.{fold-append}
use Rattle.std.proofs.lemmas.List.{get_or_append_left, map_push, length_push, append-nil, get_or-set_same, get_or-set_other, get_or_push, length-set}
use Rattle.std.proofs.lemmas.List.Elements.{All-tail, All-head, All-push, All-weaker, filter-append}
use Rattle.legs.specs.Legs.{LegView}
use Rattle.legs.specs.Index.{is_of, legs_of, feature_count}
use Rattle.legs.specs.Places.{no_leg, legs_at, ArePlaces, IsPlaced, places_with}

cases_bool : (b : Bool) → (b ≡ true) ⊎ (b ≡ false)
cases_bool true = inl refl
cases_bool false = inr refl

-- one leg more
pub feature_count-push : (legs : List LegView) (leg : LegView) → feature_count (legs ++ leg ∷ []) ≡ max (feature_count legs) (leg.feature + 1)
feature_count-push legs leg = fold-append (λ count l. max count (l.feature + 1)) 0 legs (leg ∷ [])

pub legs_of-push : (f : ℕ) (legs : List LegView) (leg : LegView) → legs_of f (legs ++ leg ∷ []) ≡ legs_of f legs ++ legs_of f (leg ∷ [])
legs_of-push f legs leg = filter-append (is_of f) legs (leg ∷ [])

-- the legs at places that are there stay when a leg is added
pub legs_at-kept : (legs : List LegView) (leg : LegView) (places : List ℕ) → All (λ place. place < length legs) places → legs_at (legs ++ leg ∷ []) places ≡ legs_at legs places
legs_at-kept legs leg [] h = refl
legs_at-kept legs leg (p ∷ ps) h =
    let here : p < length legs = All-head (λ place. place < length legs) p ps h in
    let e = get_or_append_left legs (leg ∷ []) no_leg p here in
    ap (λ (x : LegView). x ∷ legs_at (legs ++ leg ∷ []) ps) e ∙ ap (λ (xs : List LegView). get_or legs p no_leg ∷ xs) (legs_at-kept legs leg ps (All-tail (λ place. place < length legs) p ps h))

-- a feature that is not there has no leg
pub fold_max-le : (legs : List LegView) (n m : ℕ) → m ≤ n → m ≤ fold (λ count leg. max count (leg.feature + 1)) n legs
fold_max-le [] n m h = h
fold_max-le (leg ∷ legs) n m h = fold_max-le legs (max n (leg.feature + 1)) m (omega arith)

fold_max-none : (legs : List LegView) (n f : ℕ) → fold (λ count leg. max count (leg.feature + 1)) n legs ≤ f → legs_of f legs ≡ []
fold_max-none [] n f h = refl
fold_max-none (leg ∷ legs) n f h =
    let most = fold_max-le legs (max n (leg.feature + 1)) (max n (leg.feature + 1)) (omega arith) in
    let other : eqb leg.feature f ≡ false = grind (arith, nat_tests) in
    ap (λ b. cond b (leg ∷ legs_of f legs) (legs_of f legs)) other ∙ fold_max-none legs (max n (leg.feature + 1)) f h

pub legs_of-absent : (legs : List LegView) (f : ℕ) → feature_count legs ≤ f → legs_of f legs ≡ []
legs_of-absent legs f h = fold_max-none legs 0 f h

-- the place of the new leg, among the places of its feature
pub places_more : (legs : List LegView) (leg : LegView) (places : List ℕ) → ArePlaces legs leg.feature places → ArePlaces (legs ++ leg ∷ []) leg.feature (places ++ length legs ∷ [])
places_more legs leg places h =
    let longer = length_push legs leg in
    let same : eqb leg.feature leg.feature ≡ true = grind (arith, nat_tests) in
    record {
      within = All-push (λ place. place < length (legs ++ leg ∷ [])) places (length legs)
          (All-weaker (λ place. place < length legs) (λ place. place < length (legs ++ leg ∷ [])) (λ p q. omega arith) places h.within) (omega arith);
      there = map_push (λ place. get_or (legs ++ leg ∷ []) place no_leg) places (length legs)
          ∙ ap (λ (xs : List LegView). xs ++ get_or (legs ++ leg ∷ []) (length legs) no_leg ∷ []) (legs_at-kept legs leg places h.within ∙ h.there)
          ∙ ap (λ (x : LegView). legs_of leg.feature legs ++ x ∷ []) (get_or_push legs leg no_leg (length legs) refl)
          ∙ ap (λ b. legs_of leg.feature legs ++ cond b (leg ∷ []) []) (sym same)
          ∙ sym (legs_of-push leg.feature legs leg);
    }

-- the places of another feature stay
pub places_kept : (legs : List LegView) (leg : LegView) (f : ℕ) (places : List ℕ) → leg.feature ≢ f → ArePlaces legs f places → ArePlaces (legs ++ leg ∷ []) f places
places_kept legs leg f places ne h =
    let longer = length_push legs leg in
    let other : eqb leg.feature f ≡ false = grind (arith, nat_tests) in
    record {
      within = All-weaker (λ place. place < length legs) (λ place. place < length (legs ++ leg ∷ [])) (λ p q. omega arith) places h.within;
      there = legs_at-kept legs leg places h.within ∙ h.there ∙ sym (append-nil (legs_of f legs))
          ∙ ap (λ b. legs_of f legs ++ cond b (leg ∷ []) []) (sym other) ∙ sym (legs_of-push f legs leg);
    }

-- no place for a feature that is not there
pub places_none : (legs : List LegView) (f : ℕ) → feature_count legs ≤ f → ArePlaces legs f []
places_none legs f h = record { within = λ k d l. absurd (omega arith); there = sym (legs_of-absent legs f h) }

-- the tables after a leg whose feature is there
pub placed_more : (legs : List LegView) (leg : LegView) (places : List (List ℕ)) (new : List ℕ) → leg.feature < length places → new ≡ get_or places leg.feature [] ++ length legs ∷ [] → IsPlaced legs places → IsPlaced (legs ++ leg ∷ []) (slice_set places leg.feature new)
placed_more legs leg places new h e is =
    let n = length-set places leg.feature new in
    let more = feature_count-push legs leg in
    record {
      counted = n ∙ is.counted ∙ sym (more ∙ (let m : max (feature_count legs) (leg.feature + 1) ≡ feature_count legs = omega (arith, is.counted) in m));
      each = λ f l.
          elim (cases_bool (eqb leg.feature f)) [
            | inl same ↦
                let at : leg.feature ≡ f = grind (arith, nat_tests) in
                subst (λ g. ArePlaces (legs ++ leg ∷ []) g (get_or (slice_set places leg.feature new) g [])) at
                (rw (get_or-set_same places leg.feature new [] h, e) (places_more legs leg (get_or places leg.feature []) (is.each leg.feature h)))
            | inr other ↦
                let ne : leg.feature ≢ f = grind (arith, nat_tests) in
                let back : f ≢ leg.feature = λ x. ne (sym x) in
                rw (get_or-set_other places leg.feature f new [] back) (places_kept legs leg f (get_or places f []) ne (is.each f (omega (arith, n))))
          ];
    }

-- the tables after the first leg of the next feature
pub placed_wider : (legs : List LegView) (leg : LegView) (places : List (List ℕ)) → leg.feature ≡ length places → IsPlaced legs places → IsPlaced (legs ++ leg ∷ []) (places ++ (length legs ∷ []) ∷ [])
placed_wider legs leg places e is =
    let n = length_push places (length legs ∷ []) in
    let more = feature_count-push legs leg in
    record {
      counted = n ∙ (let m : length places + 1 ≡ max (feature_count legs) (leg.feature + 1) = omega (arith, is.counted) in m) ∙ sym more;
      each = λ f l.
          elim (cases_bool (eqb leg.feature f)) [
            | inl same ↦
                let at : leg.feature ≡ f = grind (arith, nat_tests) in
                subst (λ g. ArePlaces (legs ++ leg ∷ []) g (get_or (places ++ (length legs ∷ []) ∷ []) g [])) at
                (rw (get_or_push places (length legs ∷ []) [] leg.feature (sym e)) (places_more legs leg [] (places_none legs leg.feature (omega (arith, is.counted)))))
            | inr other ↦
                let ne : leg.feature ≢ f = grind (arith, nat_tests) in
                let below : f < length places = omega (arith, n) in
                rw (get_or_append_left places ((length legs ∷ []) ∷ []) [] f below) (places_kept legs leg f (get_or places f []) ne (is.each f below))
          ];
    }

pub placed_with : (legs : List LegView) (leg : LegView) (places : List (List ℕ)) → leg.feature ≤ feature_count legs → IsPlaced legs places → IsPlaced (legs ++ leg ∷ []) (places_with places leg.feature (length legs))
placed_with legs leg places h is =
    elim (cases_bool (ltb leg.feature (length places))) [
      | inl there ↦ rw there (placed_more legs leg places (get_or places leg.feature [] ++ length legs ∷ []) (grind (arith, nat_tests)) refl is)
      | inr next ↦
          let past : length places ≤ leg.feature = grind (arith, nat_tests) in
          rw next (placed_wider legs leg places (omega (arith, is.counted)) is)
    ]

-- the same, of what the code holds
pub put_places : (legs items : List LegView) (leg : LegView) (places new : List (List ℕ)) (f n : ℕ) → f ≡ leg.feature → n ≡ length legs → items ≡ legs ++ leg ∷ [] → new ≡ places_with places f n → leg.feature ≤ feature_count legs → IsPlaced legs places → IsPlaced items new
put_places legs items leg places new f n p q r s h is = rw (r, s, p, q) (placed_with legs leg places h is)

pub row_of : (legs : List LegView) (places : List (List ℕ)) (f : ℕ) (row : List ℕ) → IsPlaced legs places → f < length places → row ≡ get_or places f [] → ArePlaces legs f row
row_of legs places f row is h e = rw e (is.each f h)

pub no_row_of : (legs : List LegView) (places : List (List ℕ)) (f : ℕ) → IsPlaced legs places → length places ≤ f → legs_of f legs ≡ []
no_row_of legs places f is h = legs_of-absent legs f (omega (arith, is.counted))
