-- Whether a predicate holds does not depend on the numbers of legs.
use Rattle.std.proofs.Common.{[], ◌∷◌, ◌++◌, ◌≡◌, ◌∙◌, ◌<◌, ℕ, ℤ, ap, sym, refl, subst, get_or, List, Bool, true, false, cond, length, map, reverse, Option, Some, None}
use Rattle.std.specs.Prelude.{All, Any, IsSomeAnd, find}
use Rattle.std.specs.Option.{option_map}
use Rattle.std.proofs.lemmas.List.{get_or-map, get_or_default, length-map, map-append, reverse-append}
use Rattle.timebase.specs.Period.{PeriodView}
use Rattle.legs.specs.Legs.{LegView, IsMomentOf, HasMoment, first_moment, is_live, last_moment}
use Rattle.legs.specs.Boxes.{RectView}
use Rattle.clipping.specs.Inside.{HasMomentInside, InRect, IsInside}
use Rattle.predicates.specs.declared.Predicate.{Predicate}
use Rattle.predicates.specs.declared.Predicate.TheVariants.{Ever, Always, Enters, Leaves, Crosses, Bypasses}
use Rattle.legs.specs.Sieves.{first_live, last_live}
use Rattle.predicates.specs.Predicates.{Holds, HoldsIn, HasAMoment, IsEverIn, IsAllIn, IsFirstIn, IsLastIn, IsThroughoutIn}
use Rattle.together.specs.Told.{bare}

-- what holds of a leg holds of it without its numbers, and the other way round
moment_to : (leg : LegView) (period : PeriodView) (n : ℤ) (d : ℕ) → IsMomentOf leg period n d → IsMomentOf (bare leg) period n d
moment_to leg period n d h = record { divisor = h.divisor; from = h.from; to = h.to }

moment_from : (leg : LegView) (period : PeriodView) (n : ℤ) (d : ℕ) → IsMomentOf (bare leg) period n d → IsMomentOf leg period n d
moment_from leg period n d h = record { divisor = h.divisor; from = h.from; to = h.to }

inside_to : (leg : LegView) (rect : RectView) (n : ℤ) (d : ℕ) → IsInside leg rect n d → IsInside (bare leg) rect n d
inside_to leg rect n d h = record { left = h.left; right = h.right; below = h.below; above = h.above }

inside_from : (leg : LegView) (rect : RectView) (n : ℤ) (d : ℕ) → IsInside (bare leg) rect n d → IsInside leg rect n d
inside_from leg rect n d h = record { left = h.left; right = h.right; below = h.below; above = h.above }

some_to : (leg : LegView) (period : PeriodView) → HasMoment leg period → HasMoment (bare leg) period
some_to leg period (n, d, h) = (n, d, moment_to leg period n d h)

some_from : (leg : LegView) (period : PeriodView) → HasMoment (bare leg) period → HasMoment leg period
some_from leg period (n, d, h) = (n, d, moment_from leg period n d h)

in_to : (leg : LegView) (rect : RectView) (period : PeriodView) → HasMomentInside leg rect period → HasMomentInside (bare leg) rect period
in_to leg rect period (n, d, h) = (n, d, record { moment = moment_to leg period n d h.moment; inside = inside_to leg rect n d h.inside })

in_from : (leg : LegView) (rect : RectView) (period : PeriodView) → HasMomentInside (bare leg) rect period → HasMomentInside leg rect period
in_from leg rect period (n, d, h) = (n, d, record { moment = moment_from leg period n d h.moment; inside = inside_from leg rect n d h.inside })

through_to : (leg : LegView) (rect : RectView) (period : PeriodView) → IsThroughoutIn (InRect rect) leg period → IsThroughoutIn (InRect rect) (bare leg) period
through_to leg rect period h = λ n d m. inside_to leg rect n d (h n d (moment_from leg period n d m))

through_from : (leg : LegView) (rect : RectView) (period : PeriodView) → IsThroughoutIn (InRect rect) (bare leg) period → IsThroughoutIn (InRect rect) leg period
through_from leg rect period h = λ n d m. inside_from leg rect n d (h n d (moment_to leg period n d m))

-- of some leg, and of all
any_to : (P : LegView → Type 0) → ((leg : LegView) → P leg → P (bare leg)) → (legs : List LegView) → Any P legs → Any P (map bare legs)
any_to P to legs (k, x, less, at, held) = (k, bare x, rw (length-map legs bare) less, get_or-map bare legs k x (bare x) less ∙ ap bare at, to x held)

any_from : (P : LegView → Type 0) → ((leg : LegView) → P (bare leg) → P leg) → (legs : List LegView) → Any P (map bare legs) → Any P legs
any_from P from legs (k, y, less, at, held) =
    let within : k < length legs = rw (length-map legs bare) at less in
    let x : LegView = get_or legs k y in
    let same : bare x ≡ y = sym (get_or-map bare legs k y y within) ∙ at in
    (k, x, within, get_or_default legs k x y within, from x (subst P (sym same) held))

all_to : (P : LegView → Type 0) → ((leg : LegView) → P leg → P (bare leg)) → (legs : List LegView) → All P legs → All P (map bare legs)
all_to P to legs h = λ k d less.
    let within : k < length legs = rw (length-map legs bare) at less in
    subst P (sym (get_or-map bare legs k d d within)) (to (get_or legs k d) (h k d within))

all_from : (P : LegView → Type 0) → ((leg : LegView) → P (bare leg) → P leg) → (legs : List LegView) → All P (map bare legs) → All P legs
all_from P from legs h = λ k d less.
    from (get_or legs k d) (subst P (get_or-map bare legs k d d less) (h k d (rw (length-map legs bare) less)))

-- of the first and of the last live leg
find_bare : (period : PeriodView) (legs : List LegView) → find (is_live period) (map bare legs) ≡ option_map bare (find (is_live period) legs)
find_bare period [] = refl
find_bare period (leg ∷ legs) = by (is_live period leg) (find_bare period legs)
  where
    by : (b : Bool) → find (is_live period) (map bare legs) ≡ option_map bare (find (is_live period) legs)
        → cond b (Some (bare leg)) (find (is_live period) (map bare legs)) ≡ option_map bare (cond b (Some leg) (find (is_live period) legs))
    by true more = refl
    by false more = more

reverse_bare : (legs : List LegView) → reverse (map bare legs) ≡ map bare (reverse legs)
reverse_bare [] = refl
reverse_bare (leg ∷ legs) =
    reverse-append (bare leg ∷ []) (map bare legs) ∙ ap (λ (l : List LegView). l ++ (bare leg ∷ [])) (reverse_bare legs)
    ∙ sym (map-append bare (reverse legs) (leg ∷ [])) ∙ sym (ap (map bare) (reverse-append (leg ∷ []) legs))

last_bare : (period : PeriodView) (legs : List LegView) → last_live period (map bare legs) ≡ option_map bare (last_live period legs)
last_bare period legs = ap (find (is_live period)) (reverse_bare legs) ∙ find_bare period (reverse legs)

one_to : (P : LegView → Type 0) → ((leg : LegView) → P leg → P (bare leg)) → (o : Option LegView) → IsSomeAnd o P → IsSomeAnd (option_map bare o) P
one_to P to None h = h
one_to P to (Some leg) h = to leg h

one_from : (P : LegView → Type 0) → ((leg : LegView) → P (bare leg) → P leg) → (o : Option LegView) → IsSomeAnd (option_map bare o) P → IsSomeAnd o P
one_from P from None h = h
one_from P from (Some leg) h = from leg h

-- the parts of predicates
has_to : (legs : List LegView) (period : PeriodView) → HasAMoment legs period → HasAMoment (map bare legs) period
unfolding HasAMoment
has_to legs period h = any_to (λ leg. HasMoment leg period) (λ leg. some_to leg period) legs h

has_from : (legs : List LegView) (period : PeriodView) → HasAMoment (map bare legs) period → HasAMoment legs period
unfolding HasAMoment
has_from legs period h = any_from (λ leg. HasMoment leg period) (λ leg. some_from leg period) legs h

ever_to : (legs : List LegView) (rect : RectView) (period : PeriodView) → IsEverIn (InRect rect) legs period → IsEverIn (InRect rect) (map bare legs) period
unfolding IsEverIn
ever_to legs rect period h = any_to (λ leg. HasMomentInside leg rect period) (λ leg. in_to leg rect period) legs h

ever_from : (legs : List LegView) (rect : RectView) (period : PeriodView) → IsEverIn (InRect rect) (map bare legs) period → IsEverIn (InRect rect) legs period
unfolding IsEverIn
ever_from legs rect period h = any_from (λ leg. HasMomentInside leg rect period) (λ leg. in_from leg rect period) legs h

inside_all_to : (legs : List LegView) (rect : RectView) (period : PeriodView) → IsAllIn (InRect rect) legs period → IsAllIn (InRect rect) (map bare legs) period
unfolding IsAllIn
inside_all_to legs rect period h = all_to (λ leg. IsThroughoutIn (InRect rect) leg period) (λ leg. through_to leg rect period) legs h

inside_all_from : (legs : List LegView) (rect : RectView) (period : PeriodView) → IsAllIn (InRect rect) (map bare legs) period → IsAllIn (InRect rect) legs period
unfolding IsAllIn
inside_all_from legs rect period h = all_from (λ leg. IsThroughoutIn (InRect rect) leg period) (λ leg. through_from leg rect period) legs h

first_to : (legs : List LegView) (rect : RectView) (period : PeriodView) → IsFirstIn (InRect rect) legs period → IsFirstIn (InRect rect) (map bare legs) period
unfolding IsFirstIn
first_to legs rect period h =
    let P : LegView → Type 0 = λ leg. IsInside leg rect (first_moment leg period) 1 in
    subst (λ o. IsSomeAnd o P) (sym (find_bare period legs)) (one_to P (λ leg. inside_to leg rect (first_moment leg period) 1) (first_live period legs) h)

first_from : (legs : List LegView) (rect : RectView) (period : PeriodView) → IsFirstIn (InRect rect) (map bare legs) period → IsFirstIn (InRect rect) legs period
unfolding IsFirstIn
first_from legs rect period h =
    let P : LegView → Type 0 = λ leg. IsInside leg rect (first_moment leg period) 1 in
    one_from P (λ leg. inside_from leg rect (first_moment leg period) 1) (first_live period legs) (subst (λ o. IsSomeAnd o P) (find_bare period legs) h)

last_to : (legs : List LegView) (rect : RectView) (period : PeriodView) → IsLastIn (InRect rect) legs period → IsLastIn (InRect rect) (map bare legs) period
unfolding IsLastIn
last_to legs rect period h =
    let P : LegView → Type 0 = λ leg. IsInside leg rect (last_moment leg period) 1 in
    subst (λ o. IsSomeAnd o P) (sym (last_bare period legs)) (one_to P (λ leg. inside_to leg rect (last_moment leg period) 1) (last_live period legs) h)

last_from : (legs : List LegView) (rect : RectView) (period : PeriodView) → IsLastIn (InRect rect) (map bare legs) period → IsLastIn (InRect rect) legs period
unfolding IsLastIn
last_from legs rect period h =
    let P : LegView → Type 0 = λ leg. IsInside leg rect (last_moment leg period) 1 in
    one_from P (λ leg. inside_from leg rect (last_moment leg period) 1) (last_live period legs) (subst (λ o. IsSomeAnd o P) (last_bare period legs) h)

pub holds_bare : (predicate : Predicate) (legs : List LegView) (rect : RectView) (period : PeriodView) → Holds predicate legs rect period → Holds predicate (map bare legs) rect period
unfolding HoldsIn
holds_bare Ever legs rect period h = ever_to legs rect period h
holds_bare Always legs rect period h = (has_to legs period h.0, inside_all_to legs rect period h.1)
holds_bare Enters legs rect period h = (has_to legs period h.0, (λ x. h.1 (first_from legs rect period x)), last_to legs rect period h.2)
holds_bare Leaves legs rect period h = (has_to legs period h.0, first_to legs rect period h.1, λ x. h.2 (last_from legs rect period x))
holds_bare Crosses legs rect period h = (has_to legs period h.0, (λ x. h.1 (first_from legs rect period x)), (λ x. h.2 (last_from legs rect period x)), ever_to legs rect period h.3)
holds_bare Bypasses legs rect period h = (has_to legs period h.0, λ x. h.1 (ever_from legs rect period x))

pub bare_holds : (predicate : Predicate) (legs : List LegView) (rect : RectView) (period : PeriodView) → Holds predicate (map bare legs) rect period → Holds predicate legs rect period
unfolding HoldsIn
bare_holds Ever legs rect period h = ever_from legs rect period h
bare_holds Always legs rect period h = (has_from legs period h.0, inside_all_from legs rect period h.1)
bare_holds Enters legs rect period h = (has_from legs period h.0, (λ x. h.1 (first_to legs rect period x)), last_from legs rect period h.2)
bare_holds Leaves legs rect period h = (has_from legs period h.0, first_from legs rect period h.1, λ x. h.2 (last_to legs rect period x))
bare_holds Crosses legs rect period h = (has_from legs period h.0, (λ x. h.1 (first_to legs rect period x)), (λ x. h.2 (last_to legs rect period x)), ever_from legs rect period h.3)
bare_holds Bypasses legs rect period h = (has_from legs period h.0, λ x. h.1 (ever_to legs rect period x))
