-- Legs that may follow one another: each feature's come in turn, and the features begin in the order of their numbers.
use Rattle.std.proofs.Common.{◌≡◌, ◌≢◌, ℕ, zero, suc, ◌+◌, ◌<◌, ◌≤◌, max, Bool, true, false, cond, List, [], ◌∷◌, ◌++◌, length, map, Option, Some, None, slice_get, refl, sym, ap, ◌∙◌, arith, subst, ⊎_elim, append_assoc, length-append}
use Rattle.std.specs.List.{filter, range_with_len}
use Rattle.std.specs.Option.{option_map}
use Rattle.std.proofs.lemmas.Bool.{cases_eq, cases_lt, eqb-true}
use Rattle.std.proofs.lemmas.List.{append-nil}
use Rattle.std.proofs.lemmas.List.Elements.{filter-append}
use Rattle.std.proofs.lemmas.List.Sums.{fold-append}
use Rattle.legs.specs.Costs.{leg_feature}
use Rattle.legs.specs.Index.{feature_count, last_end, legs_of, CanFollow, CanFollowInTurn}
use Rattle.legs.specs.Legs.{LegView}
use Rattle.tbtree.specs.Turn.{last_leg, first_ordinal, ComesAfter, ComeInTurn, IsRising}
use Rattle.legs.proofs.GroupLemmas.{some_none, some_same}
use Rattle.tbtree.proofs.KeyRuns.{is}
use Rattle.tbtree.proofs.OwnedLists.{numbered_at, numbered_rise}
use Rattle.tbtree.proofs.RisingLists.{get_few, own_first, not_own, past_get}
use Rattle.tbtree.proofs.SortLemmas.{number}
use Rattle.tbtree.proofs.TurnLemmas.{counted, ends_at, get_split}
use Rattle.tbtree.proofs.Widening.{cons_head, cons_tail, nil_cons}

module _ {X : Type 0} where
  -- a list whose elements that pass are split at one of them is split there
  pub record IsSplit (q : X → Bool) (xs firsts : List X) (x : X) (rest : List X) : Type 0 where
    pub before : List X
    pub after : List X
    pub is : xs ≡ before ++ x ∷ after
    pub passes : q x ≡ true
    pub firsts_are : filter q before ≡ firsts
    pub rest_are : filter q after ≡ rest

  pub split_filter : (q : X → Bool) (xs fs : List X) (x : X) (bs : List X) → filter q xs ≡ fs ++ x ∷ bs → IsSplit q xs fs x bs
  split_filter q [] [] x bs e = absurd (nil_cons x bs e)
  split_filter q [] (a ∷ fs) x bs e = absurd (nil_cons a (fs ++ x ∷ bs) e)
  split_filter q (y ∷ ys) [] x bs e =
      (elim (q y) as (λ b. q y ≡ b → cond b (y ∷ filter q ys) (filter q ys) ≡ x ∷ bs → IsSplit q (y ∷ ys) [] x bs) [
        | true ↦ λ t e.
            let head : y ≡ x = cons_head y x (filter q ys) bs e in
            record { before = []; after = ys; is = ap (λ z. z ∷ ys) head; passes = ap q (sym head) ∙ t; firsts_are = refl; rest_are = cons_tail y x (filter q ys) bs e }
        | false ↦ λ t e.
            let r = split_filter q ys [] x bs e in
            record { before = y ∷ r.before; after = r.after; is = ap (λ l. y ∷ l) r.is; passes = r.passes; firsts_are = ap (λ b. cond b (y ∷ filter q r.before) (filter q r.before)) t ∙ r.firsts_are; rest_are = r.rest_are }
      ]) refl e
  split_filter q (y ∷ ys) (a ∷ fs) x bs e =
      (elim (q y) as (λ b. q y ≡ b → cond b (y ∷ filter q ys) (filter q ys) ≡ a ∷ (fs ++ x ∷ bs) → IsSplit q (y ∷ ys) (a ∷ fs) x bs) [
        | true ↦ λ t e.
            let head : y ≡ a = cons_head y a (filter q ys) (fs ++ x ∷ bs) e in
            let r = split_filter q ys fs x bs (cons_tail y a (filter q ys) (fs ++ x ∷ bs) e) in
            record { before = y ∷ r.before; after = r.after; is = ap (λ l. y ∷ l) r.is; passes = r.passes; firsts_are = ap (λ b. cond b (y ∷ filter q r.before) (filter q r.before)) t ∙ (λ i. head i ∷ r.firsts_are i); rest_are = r.rest_are }
        | false ↦ λ t e.
            let r = split_filter q ys (a ∷ fs) x bs e in
            record { before = y ∷ r.before; after = r.after; is = ap (λ l. y ∷ l) r.is; passes = r.passes; firsts_are = ap (λ b. cond b (y ∷ filter q r.before) (filter q r.before)) t ∙ r.firsts_are; rest_are = r.rest_are }
      ]) refl e

  pub get_append : (xs ys : List X) (i : ℕ) (x : X) → slice_get xs i ≡ Some x → slice_get (xs ++ ys) i ≡ Some x
  get_append [] ys i x e = absurd (some_none x (sym e))
  get_append (z ∷ xs) ys zero x e = e
  get_append (z ∷ xs) ys (suc i) x e = get_append xs ys i x e

-- the leg, if any, has a lower ordinal
abbrev IsBelow : ℕ → Option LegView → Type 0
IsBelow k None = Unit {0}
IsBelow k (Some leg) = leg.ordinal < k

below_more : (k : ℕ) (d : Option LegView) → IsBelow k d → IsBelow (k + 1) d
below_more k None b = tt
below_more k (Some leg) b = omega (arith, b)

last_push : (d : Option LegView) (xs : List LegView) (x : LegView) → last_leg d (xs ++ x ∷ []) ≡ Some x
last_push d [] x = refl
last_push d (y ∷ xs) x = last_push (Some y) xs x

comes_after : (f : ℕ) (d : Option LegView) (before : List LegView) (x : LegView) → last_leg None (filter (is leg_feature f) before) ≡ d → IsBelow (length before) d → CanFollow before x → leg_feature x ≡ f → ComesAfter d x
comes_after f None before x e b w o = tt
comes_after f (Some last) before x e b w o = (
  let n = w.ordinal in omega (arith, b, n),
  w.time last.t1 (ap (λ f. last_end f before) o ∙ ends_at f before ∙ ap (λ d. option_map (λ (leg : LegView). leg.t1) d) e),
)

-- legs that may follow come in turn in each feature
turn_from : (f rows : ℕ) (d : Option LegView) (before legs : List LegView) → last_leg None (filter (is leg_feature f) before) ≡ d → IsBelow (length before) d → CanFollowInTurn before legs
    → ((i : ℕ) (leg : LegView) → slice_get legs i ≡ Some leg → leg.row < rows) → ComeInTurn f rows d (filter (is leg_feature f) legs)
turn_from f rows d before [] e b t r = tt
turn_from f rows d before (x ∷ legs) e b t r =
    let n : length (before ++ x ∷ []) ≡ length before + 1 = length-append before (x ∷ []) in
    ⊎_elim
    (λ (o : leg_feature x ≡ f).
    let last : last_leg None (filter (is leg_feature f) (before ++ x ∷ [])) ≡ Some x =
    ap (last_leg None) (filter-append (is leg_feature f) before (x ∷ []) ∙ ap (λ l. filter (is leg_feature f) before ++ l) (own_first leg_feature f x [] o)) ∙ last_push None (filter (is leg_feature f) before) x in
    let low : x.ordinal < length (before ++ x ∷ []) = (let w = t.0.ordinal in omega (arith, w, n)) in
    let on = turn_from f rows (Some x) (before ++ x ∷ []) legs last low t.1 (λ i. r (suc i)) in
    subst (ComeInTurn f rows d) (sym (own_first leg_feature f x legs o)) (o, r 0 x refl, comes_after f d before x e b t.0 o, on))
    (λ (o : leg_feature x ≢ f).
    let last : last_leg None (filter (is leg_feature f) (before ++ x ∷ [])) ≡ d =
    ap (last_leg None) (filter-append (is leg_feature f) before (x ∷ []) ∙ ap (λ l. filter (is leg_feature f) before ++ l) (not_own leg_feature f x [] o) ∙ append-nil (filter (is leg_feature f) before)) ∙ e in
    let low : IsBelow (length (before ++ x ∷ [])) d = subst (λ k. IsBelow k d) (sym n) (below_more (length before) d b) in
    subst (ComeInTurn f rows d) (sym (not_own leg_feature f x legs o)) (turn_from f rows d (before ++ x ∷ []) legs last low t.1 (λ i. r (suc i))))
    (cases_eq (leg_feature x) f)

pub come_in_turn : (f rows : ℕ) (legs : List LegView) → CanFollowInTurn [] legs → ((i : ℕ) (leg : LegView) → slice_get legs i ≡ Some leg → leg.row < rows) → ComeInTurn f rows None (legs_of f legs)
come_in_turn f rows legs t r = turn_from f rows None [] legs refl tt t r

numbers_from : (before legs : List LegView) → CanFollowInTurn before legs → map number legs ≡ range_with_len (length before) (length legs)
numbers_from before [] t = refl
numbers_from before (x ∷ legs) t =
    let rest : map number legs ≡ range_with_len (length before + 1) (length legs) = numbers_from (before ++ x ∷ []) legs t.1 ∙ ap (λ a. range_with_len a (length legs)) (length-append before (x ∷ [])) in
    let here : x.ordinal ≡ length before = t.0.ordinal in
    λ i. here i ∷ rest i

-- the ordinals are the places
pub numbers_are : (legs : List LegView) → CanFollowInTurn [] legs → map number legs ≡ range_with_len 0 (length legs)
numbers_are legs t = numbers_from [] legs t

pub numbers_rise : (legs : List LegView) → CanFollowInTurn [] legs → IsRising number legs
numbers_rise legs t = numbered_rise (length legs) legs (numbers_are legs t)

-- there is a leg of the feature
abbrev HasLeg : ℕ → List LegView → Type 0
HasLeg f legs = (i : ℕ) × (leg : LegView) × (slice_get legs i ≡ Some leg) × (leg.feature ≡ f)

-- each feature that is counted has a leg
abbrev HaveLegs : List LegView → Type 0
HaveLegs legs = (f : ℕ) → f < feature_count legs → HasLeg f legs

abbrev counts : ℕ → LegView → ℕ
counts count leg = max count (leg.feature + 1)

have_more : (before : List LegView) (x : LegView) → x.feature ≤ feature_count before → HaveLegs before → HaveLegs (before ++ x ∷ [])
have_more before x low h f l =
    let c : feature_count (before ++ x ∷ []) ≡ max (feature_count before) (x.feature + 1) = fold-append counts 0 before (x ∷ []) in
    ⊎_elim
    (λ (k : f < feature_count before). let r = h f k in (r.0, r.1, get_append before (x ∷ []) r.0 r.1 r.2, r.3))
    (λ (k : feature_count before ≤ f). (length before, x, get_split before x [], omega (arith, c, l, low, k)))
    (cases_lt f (feature_count before))

-- before a leg there is one of each lower feature
early : (before xs : List LegView) (x : LegView) (ys : List LegView) (f : ℕ) → CanFollowInTurn before (xs ++ x ∷ ys) → HaveLegs before → f < x.feature → HasLeg f (before ++ xs)
early before [] x ys f t h l = subst (HasLeg f) (sym (append-nil before)) (h f (let k = t.0.feature in omega (arith, k, l)))
early before (z ∷ xs) x ys f t h l = subst (HasLeg f) (append_assoc before (z ∷ []) xs) (early (before ++ z ∷ []) xs x ys f t.1 (have_more before z t.0.feature h) l)

first_most : (f : ℕ) (legs : List LegView) (i : ℕ) (y : LegView) → slice_get legs i ≡ Some y → y.feature ≡ f → IsRising number legs → first_ordinal (legs_of f legs) ≤ y.ordinal
first_most f [] i y e o r = absurd (some_none y (sym e))
first_most f (z ∷ legs) zero y e o r =
    let s : z ≡ y = some_same z y e in
    let n : z.ordinal ≡ y.ordinal = ap number s in
    subst (λ l. first_ordinal l ≤ y.ordinal) (sym (own_first leg_feature f z legs (ap leg_feature s ∙ o))) (omega (arith, n))
first_most f (z ∷ legs) (suc i) y e o r =
    ⊎_elim
    (λ (k : leg_feature z ≡ f). subst (λ l. first_ordinal l ≤ y.ordinal) (sym (own_first leg_feature f z legs k)) (let p = past_get number z.ordinal legs i y r.0 e in omega (arith, p)))
    (λ (k : leg_feature z ≢ f). subst (λ l. first_ordinal l ≤ y.ordinal) (sym (not_own leg_feature f z legs k)) (first_most f legs i y e o r.1))
    (cases_eq (leg_feature z) f)

-- a lower feature has a lower first leg
pub firsts_rise : (legs : List LegView) → CanFollowInTurn [] legs → (f g : ℕ) → f < g → legs_of g legs ≢ [] → first_ordinal (legs_of f legs) < first_ordinal (legs_of g legs)
firsts_rise legs t f g l u = with_head (legs_of g legs) refl
  where
    with_head : (c : List LegView) → legs_of g legs ≡ c → first_ordinal (legs_of f legs) < first_ordinal (legs_of g legs)
    with_head [] e = absurd (u e)
    with_head (x ∷ zs) e =
        let s = split_filter (is leg_feature g) legs [] x zs e in
        let numbers = numbers_are legs t in
        let mine : x.feature ≡ g = eqb-true x.feature g s.passes in
        let k = early [] s.before x s.after f (subst (CanFollowInTurn []) s.is t) (λ f l. absurd (omega (arith, l))) (omega (arith, l, mine)) in
        let there : slice_get legs k.0 ≡ Some k.1 = ap (λ l. slice_get l k.0) s.is ∙ get_append s.before (x ∷ s.after) k.0 k.1 k.2 in
        let here : slice_get legs (length s.before) ≡ Some x = ap (λ l. slice_get l (length s.before)) s.is ∙ get_split s.before x s.after in
        let low = first_most f legs k.0 k.1 there k.3 (numbers_rise legs t) in
        let n = numbered_at 0 (length legs) legs k.0 k.1 numbers there in
        let m = numbered_at 0 (length legs) legs (length s.before) x numbers here in
        let few = get_few s.before k.0 k.1 k.2 in
        let first : first_ordinal (legs_of g legs) ≡ x.ordinal = ap first_ordinal e in
        omega (arith, low, n, m, few, first)

-- a feature that is not counted has no leg
pub none_beyond : (legs : List LegView) (f : ℕ) → feature_count legs ≤ f → legs_of f legs ≡ []
none_beyond legs f l = with_head (legs_of f legs) refl
  where
    with_head : (c : List LegView) → legs_of f legs ≡ c → legs_of f legs ≡ []
    with_head [] e = e
    with_head (x ∷ zs) e =
        let s = split_filter (is leg_feature f) legs [] x zs e in
        let mine : x.feature ≡ f = eqb-true x.feature f s.passes in
        let here : slice_get legs (length s.before) ≡ Some x = ap (λ l. slice_get l (length s.before)) s.is ∙ get_split s.before x s.after in
        let c = counted legs (length s.before) x here in
        absurd (omega (arith, c, mine, l))
