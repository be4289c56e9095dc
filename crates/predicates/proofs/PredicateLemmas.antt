-- Laws of the predicates.
use Rattle.std.proofs.Common.{ℕ, ℤ, ◌≡◌, ◌≢◌, ◌∙◌, ap, sym, refl, true, List, [], ◌∷◌, ◌↔◌}
use Rattle.std.proofs.lemmas.Bool.{false≢true}
use Rattle.std.specs.List.{filter}
use Rattle.std.specs.Option.{IsSomeAnd}
use Rattle.std.proofs.lemmas.List.Elements.{All-filter}
use Rattle.timebase.specs.Period.{PeriodView}
use Rattle.legs.specs.Legs.{LegView, IsLeg, HasMoment, is_live, first_moment, last_moment}
use Rattle.legs.specs.Boxes.{RectView, box_of, box_over, boxes_meet}
use Rattle.clipping.specs.Inside.{HasMomentIn, InRect}
use Rattle.predicates.specs.Predicates.{Holds, HoldsIn, HasAMoment, IsEverIn, IsThroughoutIn, IsAllIn, IsFirstIn, IsLastIn}
use Rattle.predicates.specs.declared.Predicate.{Predicate}
use Rattle.predicates.specs.declared.Predicate.TheVariants.{Ever, Always, Enters, Leaves, Crosses, Bypasses}
use Rattle.predicates.proofs.LegLemmas.{live_of_moment, first_is, last_is, box_meets}
use Rattle.predicates.proofs.ListLemmas.{Any-one, Any-filter, Any-unfiltered, All-head, All-unfiltered, find-filter, find-reverse-filter}

-- legs without a moment change no fact
live_filter : (legs : List LegView) (period : PeriodView) → HasAMoment legs period ↔ HasAMoment (filter (is_live period) legs) period
unfolding HasAMoment
live_filter legs period = (
  Any-filter (λ leg. HasMoment leg period) (is_live period) legs (λ leg moment. live_of_moment leg period moment),
  Any-unfiltered (λ leg. HasMoment leg period) (is_live period) legs,
)

ever_filter : (legs : List LegView) (Inside : LegView → ℤ → ℕ → Type 0) (period : PeriodView) → IsEverIn Inside legs period ↔ IsEverIn Inside (filter (is_live period) legs) period
unfolding IsEverIn
ever_filter legs Inside period = (
  Any-filter (λ leg. HasMomentIn Inside leg period) (is_live period) legs (λ leg at. live_of_moment leg period (at.0, at.1, at.2.moment)),
  Any-unfiltered (λ leg. HasMomentIn Inside leg period) (is_live period) legs,
)

all_filter : (legs : List LegView) (Inside : LegView → ℤ → ℕ → Type 0) (period : PeriodView) → IsAllIn Inside legs period ↔ IsAllIn Inside (filter (is_live period) legs) period
unfolding IsAllIn
all_filter legs Inside period = (
  All-filter (is_live period) (λ leg. IsThroughoutIn Inside leg period) legs,
  All-unfiltered (λ leg. IsThroughoutIn Inside leg period) (is_live period) legs (λ leg unlive n d moment. absurd (false≢true (sym unlive ∙ live_of_moment leg period (n, d, moment)))),
)

first_filter : (legs : List LegView) (Inside : LegView → ℤ → ℕ → Type 0) (period : PeriodView) → IsFirstIn Inside (filter (is_live period) legs) period ≡ IsFirstIn Inside legs period
unfolding IsFirstIn
first_filter legs Inside period = ap (λ o. IsSomeAnd o (λ leg. Inside leg (first_moment leg period) 1)) (find-filter (is_live period) legs)

last_filter : (legs : List LegView) (Inside : LegView → ℤ → ℕ → Type 0) (period : PeriodView) → IsLastIn Inside (filter (is_live period) legs) period ≡ IsLastIn Inside legs period
unfolding IsLastIn
last_filter legs Inside period = ap (λ o. IsSomeAnd o (λ leg. Inside leg (last_moment leg period) 1)) (find-reverse-filter (is_live period) legs)

-- so the predicates hold of the legs that have one alone
pub holds_filter : (predicate : Predicate) (legs : List LegView) (Inside : LegView → ℤ → ℕ → Type 0) (period : PeriodView) → HoldsIn Inside predicate legs period ↔ HoldsIn Inside predicate (filter (is_live period) legs) period
unfolding HoldsIn
holds_filter Ever legs Inside period = ever_filter legs Inside period
holds_filter Always legs Inside period =
    let m = live_filter legs period in
    let a = all_filter legs Inside period in
    (λ h. (m.0 h.0, a.0 h.1), λ h. (m.1 h.0, a.1 h.1))
holds_filter Enters legs Inside period =
    let m = live_filter legs period in
    (λ h. (m.0 h.0, rw (first_filter legs Inside period) h.1, rw (last_filter legs Inside period) h.2), λ h. (m.1 h.0, rw (← first_filter legs Inside period) h.1, rw (← last_filter legs Inside period) h.2))
holds_filter Leaves legs Inside period =
    let m = live_filter legs period in
    (λ h. (m.0 h.0, rw (first_filter legs Inside period) h.1, rw (last_filter legs Inside period) h.2), λ h. (m.1 h.0, rw (← first_filter legs Inside period) h.1, rw (← last_filter legs Inside period) h.2))
holds_filter Crosses legs Inside period =
    let m = live_filter legs period in
    let e = ever_filter legs Inside period in
    (λ h. (m.0 h.0, rw (first_filter legs Inside period) h.1, rw (last_filter legs Inside period) h.2, e.0 h.3), λ h. (m.1 h.0, rw (← first_filter legs Inside period) h.1, rw (← last_filter legs Inside period) h.2, e.1 h.3))
holds_filter Bypasses legs Inside period =
    let m = live_filter legs period in
    let e = ever_filter legs Inside period in
    (λ h. (m.0 h.0, λ ever. h.1 (e.1 ever)), λ h. (m.1 h.0, λ ever. h.1 (e.0 ever)))

-- one leg
one_live : (leg : LegView) (period : PeriodView) → HasAMoment (leg ∷ []) period → is_live period leg ≡ true
unfolding HasAMoment
one_live leg period some = live_of_moment leg period (Any-one (λ leg. HasMoment leg period) leg some)

one_ever : (leg : LegView) (Inside : LegView → ℤ → ℕ → Type 0) (period : PeriodView) → IsEverIn Inside (leg ∷ []) period → HasMomentIn Inside leg period
unfolding IsEverIn
one_ever leg Inside period some = Any-one (λ leg. HasMomentIn Inside leg period) leg some

one_always : (leg : LegView) (Inside : LegView → ℤ → ℕ → Type 0) (period : PeriodView) → is_live period leg ≡ true → IsAllIn Inside (leg ∷ []) period → HasMomentIn Inside leg period
unfolding IsAllIn
one_always leg Inside period live all =
    let moment = first_is leg period live in
    (first_moment leg period, 1, record { moment = moment; inside = All-head (λ leg. IsThroughoutIn Inside leg period) leg [] all (first_moment leg period) 1 moment })

one_first : (leg : LegView) (Inside : LegView → ℤ → ℕ → Type 0) (period : PeriodView) → is_live period leg ≡ true → IsFirstIn Inside (leg ∷ []) period → HasMomentIn Inside leg period
unfolding IsFirstIn
one_first leg Inside period live inside =
    (first_moment leg period, 1, record { moment = first_is leg period live; inside = rw live at inside })

one_last : (leg : LegView) (Inside : LegView → ℤ → ℕ → Type 0) (period : PeriodView) → is_live period leg ≡ true → IsLastIn Inside (leg ∷ []) period → HasMomentIn Inside leg period
unfolding IsLastIn
one_last leg Inside period live inside =
    (last_moment leg period, 1, record { moment = last_is leg period live; inside = rw live at inside })

pub holds_live : (predicate : Predicate) (leg : LegView) (Inside : LegView → ℤ → ℕ → Type 0) (period : PeriodView) → HoldsIn Inside predicate (leg ∷ []) period → is_live period leg ≡ true
unfolding HoldsIn
holds_live Ever leg Inside period h = let some = one_ever leg Inside period h in live_of_moment leg period (some.0, some.1, some.2.moment)
holds_live Always leg Inside period h = one_live leg period h.0
holds_live Enters leg Inside period h = one_live leg period h.0
holds_live Leaves leg Inside period h = one_live leg period h.0
holds_live Crosses leg Inside period h = one_live leg period h.0
holds_live Bypasses leg Inside period h = one_live leg period h.0

pub holds_inside : (predicate : Predicate) (leg : LegView) (Inside : LegView → ℤ → ℕ → Type 0) (period : PeriodView) → predicate ≢ Bypasses → HoldsIn Inside predicate (leg ∷ []) period → HasMomentIn Inside leg period
unfolding HoldsIn
holds_inside Ever leg Inside period other h = one_ever leg Inside period h
holds_inside Always leg Inside period other h = one_always leg Inside period (one_live leg period h.0) h.1
holds_inside Enters leg Inside period other h = one_last leg Inside period (one_live leg period h.0) h.2
holds_inside Leaves leg Inside period other h = one_first leg Inside period (one_live leg period h.0) h.1
holds_inside Crosses leg Inside period other h = one_ever leg Inside period h.3
holds_inside Bypasses leg Inside period other h = absurd (other refl)

pub holds_meets : (predicate : Predicate) (leg : LegView) (rect : RectView) (period : PeriodView) → IsLeg leg → predicate ≢ Bypasses → Holds predicate (leg ∷ []) rect period → boxes_meet (box_of leg) (box_over rect period) ≡ true
holds_meets predicate leg rect period lawful other h = box_meets leg rect period lawful.rises (holds_inside predicate leg (InRect rect) period other h)
