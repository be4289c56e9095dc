-- Legs that come in turn in each feature, and whose ordinals are their places, may follow one another.
use Rattle.std.proofs.Common.{◌≡◌, ◌≢◌, ℕ, zero, suc, ◌+◌, ◌<◌, ◌≤◌, ◌==◌, max, true, false, cond, if◌then◌else◌, List, [], ◌∷◌, ◌++◌, length, map, fold, Option, Some, None, slice_get, refl, sym, ap, ◌∙◌, arith, subst, ⊎_elim, append_assoc, length-append, ℤ, ◌≤ℤ◌}
use Rattle.std.specs.List.{filter, range_with_len}
use Rattle.std.specs.Option.{option_map, ForSome}
use Rattle.std.proofs.lemmas.Bool.{cases_eq}
use Rattle.std.proofs.lemmas.List.Elements.{filter-append}
use Rattle.legs.specs.Costs.{leg_feature}
use Rattle.legs.specs.Index.{feature_count, last_end, CanFollow, CanFollowInTurn}
use Rattle.legs.specs.Legs.{LegView}
use Rattle.tbtree.specs.Turn.{last_leg, first_ordinal, ComesAfter, ComeInTurn, IsPast, IsRising}
use Rattle.legs.proofs.GroupLemmas.{some_none, some_same}
use Rattle.tbtree.proofs.KeyRuns.{is}
use Rattle.tbtree.proofs.OwnedLists.{AreOf, numbered_at}
use Rattle.tbtree.proofs.RisingLists.{own_first, not_own, past_lower, past_get}
use Rattle.tbtree.proofs.SortLemmas.{number}
use Rattle.tbtree.proofs.Widening.{cons_head, nil_cons}

abbrev end_of : Option LegView → Option ℤ
end_of d = option_map (λ leg. leg.t1) d

-- the last end of a feature is that of its last leg
ends_from : (f : ℕ) (d : Option LegView) (legs : List LegView) → fold (λ end leg. if leg.feature == f then Some leg.t1 else end) (end_of d) legs ≡ end_of (last_leg d (filter (is leg_feature f) legs))
ends_from f d [] = refl
ends_from f d (x ∷ legs) =
    elim (x.feature == f) as (λ b. fold (λ end leg. if leg.feature == f then Some leg.t1 else end) (if b then Some x.t1 else end_of d) legs ≡ end_of (last_leg d (cond b (x ∷ filter (is leg_feature f) legs) (filter (is leg_feature f) legs)))) [
      | true ↦ ends_from f (Some x) legs
      | false ↦ ends_from f d legs
    ]

pub ends_at : (f : ℕ) (legs : List LegView) → last_end f legs ≡ end_of (last_leg None (filter (is leg_feature f) legs))
ends_at f legs = ends_from f None legs

pub turn_of : (f rows : ℕ) (d : Option LegView) (legs : List LegView) → ComeInTurn f rows d legs → AreOf leg_feature f legs
turn_of f rows d [] h = tt
turn_of f rows d (x ∷ legs) h = (h.0, turn_of f rows (Some x) legs h.3)

turn_past : (f rows : ℕ) (x : LegView) (legs : List LegView) → ComeInTurn f rows (Some x) legs → IsPast number x.ordinal legs
turn_past f rows x [] h = tt
turn_past f rows x (y ∷ legs) h =
    let l = h.2.0 in
    (l, past_lower number y.ordinal x.ordinal legs (omega (arith, l)) (turn_past f rows y legs h.3))

pub turn_rising : (f rows : ℕ) (d : Option LegView) (legs : List LegView) → ComeInTurn f rows d legs → IsRising number legs
turn_rising f rows d [] h = tt
turn_rising f rows d (x ∷ legs) h = (turn_past f rows x legs h.3, turn_rising f rows (Some x) legs h.3)

turn_split : (f rows : ℕ) (d : Option LegView) (before : List LegView) (leg : LegView) (after : List LegView) → ComeInTurn f rows d (before ++ leg ∷ after) → ComesAfter (last_leg d before) leg
turn_split f rows d [] leg after h = h.2
turn_split f rows d (x ∷ before) leg after h = turn_split f rows (Some x) before leg after h.3

pub turn_append : (f rows : ℕ) (d : Option LegView) (xs ys : List LegView) → ComeInTurn f rows d (xs ++ ys) → ComeInTurn f rows d xs × ComeInTurn f rows (last_leg d xs) ys
turn_append f rows d [] ys h = (tt, h)
turn_append f rows d (x ∷ xs) ys h = let r = turn_append f rows (Some x) xs ys h.3 in ((h.0, h.1, h.2, r.0), r.1)

abbrev counts : ℕ → LegView → ℕ
counts count leg = max count (leg.feature + 1)

counts_grow : (c : ℕ) (legs : List LegView) → c ≤ fold counts c legs
counts_grow c [] = omega arith
counts_grow c (x ∷ legs) = let on = counts_grow (max c (x.feature + 1)) legs in omega (arith, on)

counted_from : (c : ℕ) (legs : List LegView) (i : ℕ) (leg : LegView) → slice_get legs i ≡ Some leg → leg.feature + 1 ≤ fold counts c legs
counted_from c [] i leg e = absurd (some_none leg (sym e))
counted_from c (x ∷ legs) zero leg e = let on = counts_grow (max c (x.feature + 1)) legs in let s : x.feature ≡ leg.feature = ap leg_feature (some_same x leg e) in omega (arith, on, s)
counted_from c (x ∷ legs) (suc i) leg e = counted_from (max c (x.feature + 1)) legs i leg e

pub counted : (legs : List LegView) (i : ℕ) (leg : LegView) → slice_get legs i ≡ Some leg → leg.feature + 1 ≤ feature_count legs
counted legs i leg e = counted_from 0 legs i leg e

counts_most : (c most : ℕ) (legs : List LegView) → c ≤ most → ((i : ℕ) (leg : LegView) → slice_get legs i ≡ Some leg → leg.feature < most) → fold counts c legs ≤ most
counts_most c most [] l h = l
counts_most c most (x ∷ legs) l h = counts_most (max c (x.feature + 1)) most legs (let here = h 0 x refl in omega (arith, l, here)) (λ i. h (suc i))

pub count_most : (most : ℕ) (legs : List LegView) → ((i : ℕ) (leg : LegView) → slice_get legs i ≡ Some leg → leg.feature < most) → feature_count legs ≤ most
count_most most legs h = counts_most 0 most legs (omega arith) h

-- where each leg may follow those before it, they may follow one another
follow_all : (before legs : List LegView) → ((xs : List LegView) (leg : LegView) (ys : List LegView) → before ++ legs ≡ xs ++ leg ∷ ys → length before ≤ length xs → CanFollow xs leg) → CanFollowInTurn before legs
follow_all before [] h = tt
follow_all before (x ∷ legs) h = (
  h before x legs refl (omega arith),
  follow_all (before ++ x ∷ []) legs (λ xs leg ys e l. h xs leg ys (sym (append_assoc before (x ∷ []) legs) ∙ e) (let n = length-append before (x ∷ []) in omega (arith, n, l))),
)

pub get_split : {X : Type 0} (xs : List X) (x : X) (ys : List X) → slice_get (xs ++ x ∷ ys) (length xs) ≡ Some x
get_split [] x ys = refl
get_split (z ∷ xs) x ys = get_split xs x ys

pub get_before : {X : Type 0} (xs ys : List X) (i : ℕ) (x : X) → slice_get (xs ++ ys) i ≡ Some x → i < length xs → slice_get xs i ≡ Some x
get_before [] ys i x e l = absurd (omega (arith, l))
get_before (z ∷ xs) ys zero x e l = e
get_before (z ∷ xs) ys (suc i) x e l = get_before xs ys i x e (omega (arith, l))

pub rising_get : {X : Type 0} (num : X → ℕ) (xs : List X) (i j : ℕ) (a b : X) → IsRising num xs → slice_get xs i ≡ Some a → slice_get xs j ≡ Some b → i < j → num a < num b
rising_get num [] i j a b r e g l = absurd (some_none a (sym e))
rising_get num (x ∷ xs) i zero a b r e g l = absurd (omega (arith, l))
rising_get num (x ∷ xs) zero (suc j) a b r e g l = let p = past_get num (num x) xs j b r.0 g in let s : num x ≡ num a = ap num (some_same x a e) in omega (arith, p, s)
rising_get num (x ∷ xs) (suc i) (suc j) a b r e g l = rising_get num xs i j a b r.1 e g (omega (arith, l))

-- the first of legs whose ordinals rise is the lowest
first_low : (xs : List LegView) (leg : LegView) (ys : List LegView) → IsRising number (xs ++ leg ∷ ys) → first_ordinal (xs ++ leg ∷ ys) ≤ leg.ordinal
first_low [] leg ys r = omega arith
first_low (x ∷ xs) leg ys r = let p = past_get number x.ordinal (xs ++ leg ∷ ys) (length xs) leg r.0 (get_split xs leg ys) in omega (arith, p)

-- legs by their features: each feature's come in turn, and their first ordinals rise with the features
pub record AreTurns (rows total : ℕ) (chains : List (List LegView)) (legs : List LegView) : Type 0 where
  pub numbers : map number legs ≡ range_with_len 0 total
  pub own : (f : ℕ) (chain : List LegView) → slice_get chains f ≡ Some chain → filter (is leg_feature f) legs ≡ chain
  pub few : (i : ℕ) (leg : LegView) → slice_get legs i ≡ Some leg → leg.feature < length chains
  pub turns : (f : ℕ) (chain : List LegView) → slice_get chains f ≡ Some chain → ComeInTurn f rows None chain
  pub some : (f : ℕ) (chain : List LegView) → slice_get chains f ≡ Some chain → chain ≢ []
  pub firsts : IsRising first_ordinal chains

module _ (rows total : ℕ) (chains : List (List LegView)) (legs : List LegView) (t : AreTurns rows total chains legs) where
  place : (i : ℕ) (leg : LegView) → slice_get legs i ≡ Some leg → leg.ordinal ≡ i
  place i leg e = let n = numbered_at 0 total legs i leg t.numbers e in omega (arith, n)

  chain_at : (f : ℕ) → f < length chains → (chain : List LegView) × (slice_get chains f ≡ Some chain)
  chain_at f l = at f chains l
    where
      at : {X : Type 0} (f : ℕ) (xs : List X) → f < length xs → (x : X) × (slice_get xs f ≡ Some x)
      at f [] l = absurd (omega (arith, l))
      at zero (x ∷ xs) l = (x, refl)
      at (suc f) (x ∷ xs) l = at f xs (omega (arith, l))

  -- a feature that has a lower first leg than an ordinal is among the legs below it
  among : (g i : ℕ) (chain xs ys : List LegView) → slice_get chains g ≡ Some chain → legs ≡ xs ++ ys → first_ordinal chain < length xs → g + 1 ≤ feature_count xs
  among g i chain xs ys e s l = with_first chain refl
    where
      first_in : (f : ℕ) (xs : List LegView) (x : LegView) (zs : List LegView) → filter (is leg_feature f) xs ≡ x ∷ zs → (i : ℕ) × (slice_get xs i ≡ Some x) × (x.feature ≡ f)
      first_in f [] x zs e = absurd (nil_cons x zs e)
      first_in f (y ∷ xs) x zs e =
          ⊎_elim
          (λ (o : leg_feature y ≡ f).
          let h : y ≡ x = cons_head y x (filter (is leg_feature f) xs) zs (sym (own_first leg_feature f y xs o) ∙ e) in
          (0, ap Some h, ap leg_feature (sym h) ∙ o))
          (λ (o : leg_feature y ≢ f). let r = first_in f xs x zs (sym (not_own leg_feature f y xs o) ∙ e) in (suc r.0, r.1, r.2))
          (cases_eq (leg_feature y) f)

      with_first : (c : List LegView) → chain ≡ c → g + 1 ≤ feature_count xs
      with_first [] q = absurd (t.some g chain e q)
      with_first (x ∷ zs) q =
          let r = first_in g legs x zs (t.own g chain e ∙ q) in
          let o : x.ordinal ≡ r.0 = place r.0 x r.1 in
          let first : first_ordinal chain ≡ x.ordinal = ap first_ordinal q in
          let here : slice_get xs r.0 ≡ Some x = get_before xs ys r.0 x (ap (λ l. slice_get l r.0) (sym s) ∙ r.1) (omega (arith, o, first, l)) in
          let c = counted xs r.0 x here in let f = r.2 in omega (arith, c, f)

  pub in_turn : CanFollowInTurn [] legs
  in_turn = follow_all [] legs (λ xs leg ys s l. follows xs leg ys s)
    where
      follows : (xs : List LegView) (leg : LegView) (ys : List LegView) → legs ≡ xs ++ leg ∷ ys → CanFollow xs leg
      follows xs leg ys s =
          let f = leg.feature in
          let here : slice_get legs (length xs) ≡ Some leg = ap (λ l. slice_get l (length xs)) s ∙ get_split xs leg ys in
          let few : f < length chains = t.few (length xs) leg here in
          let c = chain_at f few in
          let chain = c.0 in
          let split : chain ≡ filter (is leg_feature f) xs ++ leg ∷ filter (is leg_feature f) ys =
          sym (t.own f chain c.1) ∙ ap (filter (is leg_feature f)) s ∙ filter-append (is leg_feature f) xs (leg ∷ ys) ∙ ap (λ l. filter (is leg_feature f) xs ++ l) (own_first leg_feature f leg ys refl) in
          let turn : ComeInTurn f rows None (filter (is leg_feature f) xs ++ leg ∷ filter (is leg_feature f) ys) = subst (ComeInTurn f rows None) split (t.turns f chain c.1) in
          let after : ComesAfter (last_leg None (filter (is leg_feature f) xs)) leg = turn_split f rows None (filter (is leg_feature f) xs) leg (filter (is leg_feature f) ys) turn in
          let low : first_ordinal chain ≤ leg.ordinal = subst (λ l. first_ordinal l ≤ leg.ordinal) (sym split) (first_low (filter (is leg_feature f) xs) leg (filter (is leg_feature f) ys) (turn_rising f rows None _ turn)) in
          record {
            ordinal = place (length xs) leg here;
            feature = known f refl few chain c.1 low;
            time = subst (λ o. ForSome o (λ end. end ≤ℤ leg.t0)) (sym (ends_at f xs)) (ended (last_leg None (filter (is leg_feature f) xs)) after);
          }
        where
          ended : (d : Option LegView) → ComesAfter d leg → ForSome (end_of d) (λ end. end ≤ℤ leg.t0)
          ended None h = λ end e. absurd (some_none end (sym e))
          ended (Some last) h = λ end e. subst (λ z. z ≤ℤ leg.t0) (some_same last.t1 end e) h.1

          known : (f : ℕ) → leg.feature ≡ f → f < length chains → (chain : List LegView) → slice_get chains f ≡ Some chain → first_ordinal chain ≤ leg.ordinal → leg.feature ≤ feature_count xs
          known zero e l chain g low = omega (arith, e)
          known (suc g) e l chain at low =
              let d = chain_at g (omega (arith, l)) in
              let rise : first_ordinal d.0 < first_ordinal chain = rising_get first_ordinal chains g (suc g) d.0 chain t.firsts d.1 at (omega arith) in
              let o : leg.ordinal ≡ length xs = place (length xs) leg (ap (λ l. slice_get l (length xs)) s ∙ get_split xs leg ys) in
              let k = among g 0 d.0 xs (leg ∷ ys) d.1 s (omega (arith, rise, low, o)) in omega (arith, k, e)
