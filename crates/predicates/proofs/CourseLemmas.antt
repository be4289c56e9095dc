-- What the facts about legs say of legs in parts, and the courses that tell them.
use Rattle.std.proofs.Common.{ℕ, ℤ, ◌≡◌, ◌∙◌, ap, sym, refl, subst, Bool, true, false, cond, ◌&&◌, ◌||◌, ◌⊎◌, inl, inr, List, [], ◌∷◌, ◌++◌, Option, Some, None, ◌↔◌, IsTrue}
use Rattle.std.proofs.lemmas.Bool.{false≢true}
use Rattle.std.specs.Prelude.{if◌then◌else◌, is_some, not, reverse}
use Rattle.std.specs.List.{find, list_any}
use Rattle.std.specs.Option.{option_or, IsSomeAnd}
use Rattle.std.proofs.lemmas.List.Elements.{All-append}
use Rattle.std.proofs.lemmas.List.Folds.{find-append, Any-from_list_any, list_any-from_Any}
use Rattle.timebase.specs.Period.{PeriodView}
use Rattle.legs.specs.Legs.{LegView, HasMoment, is_live, first_moment, last_moment}
use Rattle.legs.specs.Boxes.{RectView}
use Rattle.clipping.specs.Inside.{HasMomentIn, HasMomentInside, InRect, IsInside, live_ends}
use Rattle.clipping.specs.Clip.{Clips}
use Rattle.clipping.specs.declared.line.Cut.{Cut}
use Rattle.predicates.specs.Predicates.{HasAMoment, HoldsIn, IsEverIn, IsThroughoutIn, IsAllIn, IsFirstIn, IsLastIn}
use Rattle.predicates.specs.Courses.{IsCourse, no_course, outside_course, tells, then_of}
use Rattle.predicates.specs.declared.Predicate.{Predicate}
use Rattle.predicates.specs.declared.Predicate.TheVariants.{Ever, Always, Enters, Leaves, Crosses, Bypasses}
use Rattle.predicates.specs.declared.courses.Course.{Course}
use Rattle.predicates.proofs.LegLemmas.{live_of_moment, first_is, last_is, inside_between}
use Rattle.predicates.proofs.ListLemmas.{Any-nil, Any-here, Any-after, Any-one, Any-weaker, Any-first, Any-second, Any-parts, All-cons, All-none, All-head, All-first, All-second, or_none, none_of, or_some, or_else, is_some-find, is_some-find-reverse, find-reverse-append}

-- tests
pub and_parts : (a b : Bool) → (a && b) ≡ true → (a ≡ true) × (b ≡ true)
and_parts true b e = (refl, e)
and_parts false b e = cc

pub and_true : (a b : Bool) → a ≡ true → b ≡ true → (a && b) ≡ true
and_true true b p q = q
and_true false b p q = cc

or_parts : (a b : Bool) → (a || b) ≡ true → (a ≡ true) ⊎ (b ≡ true)
or_parts true b e = inl refl
or_parts false b e = inr e

or_first : (a b : Bool) → a ≡ true → (a || b) ≡ true
or_first true b e = refl
or_first false b e = cc

or_second : (a b : Bool) → b ≡ true → (a || b) ≡ true
or_second true b e = refl
or_second false b e = e

false_of : (a : Bool) → (a ≡ true → ⊥) → a ≡ false
false_of true h = absurd (h refl)
false_of false h = refl

-- two facts, and the lack of one
both_tell : {A B : Type 0} (x y : Bool) → IsTrue x ↔ A → IsTrue y ↔ B → IsTrue (x && y) ↔ (A × B)
both_tell x y f g = (λ t. let both = and_parts x y t in (f.0 both.0, g.0 both.1), λ h. and_true x y (f.1 h.0) (g.1 h.1))

three_tell : {A B C : Type 0} (x y z : Bool) → IsTrue x ↔ A → IsTrue y ↔ B → IsTrue z ↔ C → IsTrue (x && (y && z)) ↔ (A × B × C)
three_tell x y z f g h = (
  λ t. let first = and_parts x (y && z) t in let rest = and_parts y z first.1 in (f.0 first.0, g.0 rest.0, h.0 rest.1),
  λ all. and_true x (y && z) (f.1 all.0) (and_true y z (g.1 all.1) (h.1 all.2)),
)

four_tell : {A B C D : Type 0} (x y z w : Bool) → IsTrue x ↔ A → IsTrue y ↔ B → IsTrue z ↔ C → IsTrue w ↔ D → IsTrue (x && (y && (z && w))) ↔ (A × B × C × D)
four_tell x y z w f g h k = (
  λ t. let first = and_parts x (y && (z && w)) t in let rest = and_parts y (z && w) first.1 in let last = and_parts z w rest.1 in (f.0 first.0, g.0 rest.0, h.0 last.0, k.0 last.1),
  λ all. and_true x (y && (z && w)) (f.1 all.0) (and_true y (z && w) (g.1 all.1) (and_true z w (h.1 all.2) (k.1 all.3))),
)

not_tells : {A : Type 0} (x : Bool) → IsTrue x ↔ A → IsTrue (not x) ↔ (A → ⊥)
not_tells true f = (λ t. absurd (false≢true t), λ none. absurd (none (f.0 refl)))
not_tells false f = (λ t a. false≢true (f.1 a), λ none. refl)

-- there is a moment where some leg is live
pub live_is : (legs : List LegView) (period : PeriodView) → (list_any (is_live period) legs ≡ true) ↔ HasAMoment legs period
unfolding HasAMoment
live_is legs period = (
  λ t. Any-weaker (λ leg. is_live period leg ≡ true) (λ leg. HasMoment leg period) legs (λ leg live. (first_moment leg period, 1, first_is leg period live)) (Any-from_list_any (is_live period) legs t),
  λ some. list_any-from_Any (is_live period) legs (Any-weaker (λ leg. HasMoment leg period) (λ leg. is_live period leg ≡ true) legs (λ leg moment. live_of_moment leg period moment) some),
)

pub not_live : (legs : List LegView) (period : PeriodView) → (HasAMoment legs period → ⊥) → list_any (is_live period) legs ≡ false
not_live legs period none = false_of (list_any (is_live period) legs) (λ t. none ((live_is legs period).0 t))

-- a moment inside is a moment
pub ever_live : (legs : List LegView) (Inside : LegView → ℤ → ℕ → Type 0) (period : PeriodView) → IsEverIn Inside legs period → HasAMoment legs period
unfolding IsEverIn HasAMoment
ever_live legs Inside period some = Any-weaker (λ leg. HasMomentIn Inside leg period) (λ leg. HasMoment leg period) legs (λ leg at. (at.0, at.1, at.2.moment)) some

-- legs without a moment
pub all_inside_unlive : (legs : List LegView) (Inside : LegView → ℤ → ℕ → Type 0) (period : PeriodView) → (HasAMoment legs period → ⊥) → IsAllIn Inside legs period
unfolding IsAllIn HasAMoment
all_inside_unlive [] Inside period none = All-none (λ leg. IsThroughoutIn Inside leg period)
all_inside_unlive (leg ∷ legs) Inside period none =
    All-cons (λ leg. IsThroughoutIn Inside leg period) leg legs
    (λ n d moment. absurd (none (Any-here (λ leg. HasMoment leg period) leg legs (n, d, moment))))
    (all_inside_unlive legs Inside period (λ some. none (Any-after (λ leg. HasMoment leg period) leg legs some)))

-- the facts of two lists of legs, one after the other
either : {A B C : Type 0} (x y z : Bool) → IsTrue x ↔ A → IsTrue y ↔ B → z ≡ (x || y) → (A → C) → (B → C) → (C → A ⊎ B) → IsTrue z ↔ C
either x y z f g e in_first in_second parts = (
  λ t. elim (or_parts x y (sym e ∙ t)) [ inl p ↦ in_first (f.0 p) | inr q ↦ in_second (g.0 q) ],
  λ h. elim (parts h) [ inl a ↦ e ∙ or_first x y (f.1 a) | inr b ↦ e ∙ or_second x y (g.1 b) ],
)

pub live_append : (xs ys : List LegView) (period : PeriodView) (x y z : Bool) → IsTrue x ↔ HasAMoment xs period → IsTrue y ↔ HasAMoment ys period → z ≡ (x || y) → IsTrue z ↔ HasAMoment (xs ++ ys) period
unfolding HasAMoment
live_append xs ys period x y z f g e =
    let P = λ (leg : LegView). HasMoment leg period in
    either x y z f g e (Any-first P xs ys) (Any-second P xs ys) (Any-parts P xs ys)

pub ever_append : (xs ys : List LegView) (Inside : LegView → ℤ → ℕ → Type 0) (period : PeriodView) (x y z : Bool) → IsTrue x ↔ IsEverIn Inside xs period → IsTrue y ↔ IsEverIn Inside ys period → z ≡ (x || y) → IsTrue z ↔ IsEverIn Inside (xs ++ ys) period
unfolding IsEverIn
ever_append xs ys Inside period x y z f g e =
    let P = λ (leg : LegView). HasMomentIn Inside leg period in
    either x y z f g e (Any-first P xs ys) (Any-second P xs ys) (Any-parts P xs ys)

pub always_append : (xs ys : List LegView) (Inside : LegView → ℤ → ℕ → Type 0) (period : PeriodView) (x y z : Bool) → IsTrue x ↔ IsAllIn Inside xs period → IsTrue y ↔ IsAllIn Inside ys period → z ≡ (x && y) → IsTrue z ↔ IsAllIn Inside (xs ++ ys) period
unfolding IsAllIn
always_append xs ys Inside period x y z f g e =
    let P = λ (leg : LegView). IsThroughoutIn Inside leg period in (
      λ t. let both = and_parts x y (sym e ∙ t) in All-append P xs ys (f.0 both.0) (g.0 both.1),
      λ h. e ∙ and_true x y (f.1 (All-first P xs ys h)) (g.1 (All-second P xs ys h)),
    )

-- the first moment is one of the first legs, where those have one
pub first_append : (xs ys : List LegView) (Inside : LegView → ℤ → ℕ → Type 0) (period : PeriodView) → list_any (is_live period) xs ≡ true → IsFirstIn Inside (xs ++ ys) period ≡ IsFirstIn Inside xs period
unfolding IsFirstIn
first_append xs ys Inside period live =
    let p = is_live period in
    ap (λ o. IsSomeAnd o (λ leg. Inside leg (first_moment leg period) 1)) (find-append p xs ys ∙ or_some (find p xs) (find p ys) (is_some-find p xs ∙ live))

pub first_append_unlive : (xs ys : List LegView) (Inside : LegView → ℤ → ℕ → Type 0) (period : PeriodView) → list_any (is_live period) xs ≡ false → IsFirstIn Inside (xs ++ ys) period ≡ IsFirstIn Inside ys period
unfolding IsFirstIn
first_append_unlive xs ys Inside period unlive =
    let p = is_live period in
    ap (λ o. IsSomeAnd o (λ leg. Inside leg (first_moment leg period) 1)) (find-append p xs ys ∙ or_else (find p xs) (find p ys) (is_some-find p xs ∙ unlive))

-- and the last moment is one of the second legs, where those have one
pub last_append : (xs ys : List LegView) (Inside : LegView → ℤ → ℕ → Type 0) (period : PeriodView) → list_any (is_live period) ys ≡ true → IsLastIn Inside (xs ++ ys) period ≡ IsLastIn Inside ys period
unfolding IsLastIn
last_append xs ys Inside period live =
    let p = is_live period in
    ap (λ o. IsSomeAnd o (λ leg. Inside leg (last_moment leg period) 1))
    (find-reverse-append p xs ys ∙ or_some (find p (reverse ys)) (find p (reverse xs)) (is_some-find-reverse p ys ∙ live))

pub last_append_unlive : (xs ys : List LegView) (Inside : LegView → ℤ → ℕ → Type 0) (period : PeriodView) → list_any (is_live period) ys ≡ false → IsLastIn Inside (xs ++ ys) period ≡ IsLastIn Inside xs period
unfolding IsLastIn
last_append_unlive xs ys Inside period unlive =
    let p = is_live period in
    ap (λ o. IsSomeAnd o (λ leg. Inside leg (last_moment leg period) 1))
    (find-reverse-append p xs ys ∙ or_else (find p (reverse ys)) (find p (reverse xs)) (is_some-find-reverse p ys ∙ unlive))

-- where the others have none, the first and the last moment are theirs
pub first_append_rest_unlive : (xs ys : List LegView) (Inside : LegView → ℤ → ℕ → Type 0) (period : PeriodView) → list_any (is_live period) ys ≡ false → IsFirstIn Inside (xs ++ ys) period ≡ IsFirstIn Inside xs period
unfolding IsFirstIn
first_append_rest_unlive xs ys Inside period unlive =
    let p = is_live period in
    ap (λ o. IsSomeAnd o (λ leg. Inside leg (first_moment leg period) 1))
    (find-append p xs ys ∙ ap (option_or (find p xs)) (none_of (find p ys) (is_some-find p ys ∙ unlive)) ∙ or_none (find p xs))

pub last_append_rest_unlive : (xs ys : List LegView) (Inside : LegView → ℤ → ℕ → Type 0) (period : PeriodView) → list_any (is_live period) xs ≡ false → IsLastIn Inside (xs ++ ys) period ≡ IsLastIn Inside ys period
unfolding IsLastIn
last_append_rest_unlive xs ys Inside period unlive =
    let p = is_live period in
    ap (λ o. IsSomeAnd o (λ leg. Inside leg (last_moment leg period) 1))
    (find-reverse-append p xs ys ∙ ap (option_or (find p (reverse ys))) (none_of (find p (reverse xs)) (is_some-find-reverse p xs ∙ unlive)) ∙ or_none (find p (reverse ys)))

same_fact : {A B : Type 0} (x : Bool) → A ≡ B → IsTrue x ↔ B → IsTrue x ↔ A
same_fact x e f = subst (λ (T : Type 0). IsTrue x ↔ T) (sym e) f

dead : (x : Bool) {A : Type 0} → x ≡ false → IsTrue x ↔ A → A → ⊥
dead x e f a = false≢true (sym e ∙ f.1 a)

-- the first legs have no moment
pub then_second : (a b : Course) (xs ys : List LegView) (Inside : LegView → ℤ → ℕ → Type 0) (period : PeriodView) → a.live ≡ false → IsCourse Inside a xs period → IsCourse Inside b ys period → IsCourse Inside b (xs ++ ys) period
then_second a b xs ys Inside period e f g =
    let none = dead a.live e f.live in
    let unlive = not_live xs period none in
    let never = false_of a.ever (λ t. none (ever_live xs Inside period (f.ever.0 t))) in
    let all = f.always.1 (all_inside_unlive xs Inside period none) in record {
      live = live_append xs ys period a.live b.live b.live f.live g.live (ap (λ t. t || b.live) (sym e));
      first = same_fact b.first (first_append_unlive xs ys Inside period unlive) g.first;
      last = same_fact b.last (last_append_rest_unlive xs ys Inside period unlive) g.last;
      ever = ever_append xs ys Inside period a.ever b.ever b.ever f.ever g.ever (ap (λ t. t || b.ever) (sym never));
      always = always_append xs ys Inside period a.always b.always b.always f.always g.always (ap (λ t. t && b.always) (sym all));
    }

-- what the short tests answer
pub and_then : (a b : Bool) → a ≡ true → b ≡ (a && b)
and_then true b e = refl
and_then false b e = cc

pub and_stop : (a b : Bool) → a ≡ false → a ≡ (a && b)
and_stop true b e = cc
and_stop false b e = refl

pub or_then : (a b : Bool) → a ≡ true → a ≡ (a || b)
or_then true b e = refl
or_then false b e = cc

pub or_stop : (a b : Bool) → a ≡ false → b ≡ (a || b)
or_stop true b e = cc
or_stop false b e = refl

or_false : (x y : Bool) → y ≡ false → x ≡ (x || y)
or_false true y e = refl
or_false false y e = sym e

and_all : (x y : Bool) → y ≡ true → x ≡ (x && y)
and_all true y e = sym e
and_all false y e = refl

-- the second legs have no moment
pub then_first : (a b : Course) (xs ys : List LegView) (Inside : LegView → ℤ → ℕ → Type 0) (period : PeriodView) → b.live ≡ false → IsCourse Inside a xs period → IsCourse Inside b ys period → IsCourse Inside a (xs ++ ys) period
then_first a b xs ys Inside period e f g =
    let none = dead b.live e g.live in
    let unlive = not_live ys period none in
    let never = false_of b.ever (λ t. none (ever_live ys Inside period (g.ever.0 t))) in
    let all = g.always.1 (all_inside_unlive ys Inside period none) in record {
      live = live_append xs ys period a.live b.live a.live f.live g.live (or_false a.live b.live e);
      first = same_fact a.first (first_append_rest_unlive xs ys Inside period unlive) f.first;
      last = same_fact a.last (last_append_unlive xs ys Inside period unlive) f.last;
      ever = ever_append xs ys Inside period a.ever b.ever a.ever f.ever g.ever (or_false a.ever b.ever never);
      always = always_append xs ys Inside period a.always b.always a.always f.always g.always (and_all a.always b.always all);
    }

-- both have moments
pub then_both : (a b : Course) (xs ys : List LegView) (Inside : LegView → ℤ → ℕ → Type 0) (period : PeriodView) → a.live ≡ true → b.live ≡ true → IsCourse Inside a xs period → IsCourse Inside b ys period
    → (ever always : Bool) → ever ≡ (a.ever || b.ever) → always ≡ (a.always && b.always)
    → IsCourse Inside (record { live = true; first = a.first; last = b.last; ever = ever; always = always }) (xs ++ ys) period
then_both a b xs ys Inside period d e f g ever always ever_is always_is =
    let live_first = (live_is xs period).1 (f.live.0 d) in
    let live_second = (live_is ys period).1 (g.live.0 e) in record {
      live = live_append xs ys period a.live b.live true f.live g.live (sym (or_first a.live b.live d));
      first = same_fact a.first (first_append xs ys Inside period live_first) f.first;
      last = same_fact b.last (last_append xs ys Inside period live_second) g.last;
      ever = ever_append xs ys Inside period a.ever b.ever ever f.ever g.ever ever_is;
      always = always_append xs ys Inside period a.always b.always always f.always g.always always_is;
    }

-- some legs, and then others
pub then_course : (a b : Course) (xs ys : List LegView) (Inside : LegView → ℤ → ℕ → Type 0) (period : PeriodView) → IsCourse Inside a xs period → IsCourse Inside b ys period
    → IsCourse Inside (then_of a b) (xs ++ ys) period
then_course a b xs ys Inside period f g = by a.live b.live refl refl
  where
    by : (s t : Bool) → a.live ≡ s → b.live ≡ t
        → IsCourse Inside (cond s (cond t (record { live = true; first = a.first; last = b.last; always = a.always && b.always; ever = a.ever || b.ever }) a) b) (xs ++ ys) period
    by false t d e = then_second a b xs ys Inside period d f g
    by true false d e = then_first a b xs ys Inside period e f g
    by true true d e = then_both a b xs ys Inside period d e f g (a.ever || b.ever) (a.always && b.always) refl refl

-- no legs
pub empty_course : (Inside : LegView → ℤ → ℕ → Type 0) (period : PeriodView) → IsCourse Inside no_course [] period
unfolding HasAMoment IsFirstIn IsLastIn IsEverIn IsAllIn
empty_course Inside period = record {
  live = (λ t. absurd (false≢true t), λ some. absurd (Any-nil (λ leg. HasMoment leg period) some));
  first = (λ t. absurd (false≢true t), λ inside. absurd inside);
  last = (λ t. absurd (false≢true t), λ inside. absurd inside);
  ever = (λ t. absurd (false≢true t), λ some. absurd (Any-nil (λ leg. HasMomentIn Inside leg period) some));
  always = (λ t. All-none (λ leg. IsThroughoutIn Inside leg period), λ all. refl);
}

-- one leg that has no moment
pub unlive_course : (leg : LegView) (Inside : LegView → ℤ → ℕ → Type 0) (period : PeriodView) → is_live period leg ≡ false → IsCourse Inside no_course (leg ∷ []) period
unfolding HasAMoment IsFirstIn IsLastIn IsEverIn IsAllIn
unlive_course leg Inside period unlive =
    let none = λ (some : HasAMoment (leg ∷ []) period). false≢true (sym (ap (λ b. b || false) unlive) ∙ (live_is (leg ∷ []) period).1 some) in
    let empty = empty_course Inside period in
    let found : find (is_live period) (leg ∷ []) ≡ None = ap (λ b. cond b (Some leg) None) unlive in record {
      live = (λ t. absurd (false≢true t), λ some. absurd (none some));
      first = same_fact false (ap (λ o. IsSomeAnd o (λ leg. Inside leg (first_moment leg period) 1)) found) empty.first;
      last = same_fact false (ap (λ o. IsSomeAnd o (λ leg. Inside leg (last_moment leg period) 1)) found) empty.last;
      ever = (λ t. absurd (false≢true t), λ some. absurd (none (ever_live (leg ∷ []) Inside period some)));
      always = (λ t. all_inside_unlive (leg ∷ []) Inside period none, λ all. refl);
    }

-- one leg that has moments
pub leg_course : (leg : LegView) (Inside : LegView → ℤ → ℕ → Type 0) (period : PeriodView) (first last ever always : Bool) → is_live period leg ≡ true
    → IsTrue first ↔ Inside leg (first_moment leg period) 1 → IsTrue last ↔ Inside leg (last_moment leg period) 1 → IsTrue ever ↔ HasMomentIn Inside leg period
    → IsTrue always ↔ IsThroughoutIn Inside leg period
    → IsCourse Inside (record { live = true; first = first; last = last; ever = ever; always = always }) (leg ∷ []) period
unfolding HasAMoment IsFirstIn IsLastIn IsEverIn IsAllIn
leg_course leg Inside period first last ever always live f l e a =
    let found : find (is_live period) (leg ∷ []) ≡ Some leg = ap (λ b. cond b (Some leg) None) live in
    let at_first : IsSomeAnd (find (is_live period) (leg ∷ [])) (λ leg. Inside leg (first_moment leg period) 1) ≡ Inside leg (first_moment leg period) 1 =
    ap (λ o. IsSomeAnd o (λ leg. Inside leg (first_moment leg period) 1)) found in
    let at_last : IsSomeAnd (find (is_live period) (leg ∷ [])) (λ leg. Inside leg (last_moment leg period) 1) ≡ Inside leg (last_moment leg period) 1 =
    ap (λ o. IsSomeAnd o (λ leg. Inside leg (last_moment leg period) 1)) found in record {
      live = (λ t. Any-here (λ leg. HasMoment leg period) leg [] (first_moment leg period, 1, first_is leg period live), λ some. refl);
      first = same_fact first at_first f;
      last = same_fact last at_last l;
      ever = (λ t. Any-here (λ leg. HasMomentIn Inside leg period) leg [] (e.0 t), λ some. e.1 (Any-one (λ leg. HasMomentIn Inside leg period) leg some));
      always = (
        λ t. All-cons (λ leg. IsThroughoutIn Inside leg period) leg [] (a.0 t) (All-none (λ leg. IsThroughoutIn Inside leg period)),
        λ all. a.1 (All-head (λ leg. IsThroughoutIn Inside leg period) leg [] all),
      );
    }

-- one leg that has moments and is inside at none
pub outside_leg : (leg : LegView) (Inside : LegView → ℤ → ℕ → Type 0) (period : PeriodView) → HasMoment leg period → (HasMomentIn Inside leg period → ⊥) → IsCourse Inside outside_course (leg ∷ []) period
outside_leg leg Inside period moment none =
    let live = live_of_moment leg period moment in
    let at_first = λ (inside : Inside leg (first_moment leg period) 1). none (first_moment leg period, 1, record { moment = first_is leg period live; inside = inside }) in
    leg_course leg Inside period false false false false live
    (λ t. absurd (false≢true t), λ inside. absurd (at_first inside))
    (λ t. absurd (false≢true t), λ inside. absurd (none (last_moment leg period, 1, record { moment = last_is leg period live; inside = inside })))
    (λ t. absurd (false≢true t), λ some. absurd (none some))
    (λ t. absurd (false≢true t), λ all. absurd (at_first (all (first_moment leg period) 1 (first_is leg period live))))

-- in a rectangle at both ends is in it throughout
pub rect_throughout : (leg : LegView) (rect : RectView) (period : PeriodView) (first last always : Bool) → is_live period leg ≡ true
    → IsTrue first ↔ IsInside leg rect (first_moment leg period) 1 → IsTrue last ↔ IsInside leg rect (last_moment leg period) 1
    → always ≡ (first && last) → IsTrue always ↔ IsThroughoutIn (InRect rect) leg period
rect_throughout leg rect period first last always live f l both_are = (
  λ t. let both = and_parts first last (sym both_are ∙ t) in
      λ n d moment. inside_between leg rect (first_moment leg period) (last_moment leg period) n d moment.from moment.to (f.0 both.0) (l.0 both.1),
  λ through. both_are ∙ and_true first last (f.1 (through (first_moment leg period) 1 (first_is leg period live))) (l.1 (through (last_moment leg period) 1 (last_is leg period live))),
)

-- what the clipping answers
pub some_moment_inside : (leg : LegView) (rect : RectView) (period : PeriodView) (answer : Option Cut) → Clips leg rect period answer → IsTrue (is_some answer) ↔ HasMomentInside leg rect period
unfolding Clips
some_moment_inside leg rect period None clips = (λ t. absurd (false≢true t), λ some. absurd (clips some))
some_moment_inside leg rect period (Some cut) clips = (λ t. clips.1, λ some. refl)

-- the ends of the live stretch
ends_from : (t : Bool) (e : ℤ × ℤ) (x y : ℤ) → Some e ≡ (if t then Some (x, y) else None) → (t ≡ true) × (e.0 ≡ x) × (e.1 ≡ y)
ends_from true e x y same = let pair : e ≡ (x, y) = cc in (refl, ap (λ p. p.0) pair, ap (λ p. p.1) pair)
ends_from false e x y same = cc

no_ends_from : (t : Bool) (e : ℤ × ℤ) → None ≡ (if t then Some e else None) → t ≡ false
no_ends_from true e same = cc
no_ends_from false e same = refl

pub live_from : (leg : LegView) (period : PeriodView) (answer : Option (ℤ × ℤ)) (e : ℤ × ℤ) → answer ≡ Some e → answer ≡ live_ends leg period
    → (is_live period leg ≡ true) × (e.0 ≡ first_moment leg period) × (e.1 ≡ last_moment leg period)
live_from leg period answer e is ends = ends_from (is_live period leg) e (first_moment leg period) (last_moment leg period) (sym is ∙ ends)

pub unlive_from : (leg : LegView) (period : PeriodView) (answer : Option (ℤ × ℤ)) → answer ≡ None → answer ≡ live_ends leg period → is_live period leg ≡ false
unlive_from leg period answer is ends = no_ends_from (is_live period leg) (first_moment leg period, last_moment leg period) (sym is ∙ ends)

-- inside at an end of the live stretch is inside at some moment
pub inside_at_end : (leg : LegView) (Inside : LegView → ℤ → ℕ → Type 0) (period : PeriodView) (e : ℤ × ℤ) → live_ends leg period ≡ Some e
    → (Inside leg e.0 1 → HasMomentIn Inside leg period) × (Inside leg e.1 1 → HasMomentIn Inside leg period)
inside_at_end leg Inside period e ends =
    let from = live_from leg period (live_ends leg period) e ends refl in (
      λ inside. (first_moment leg period, 1, record { moment = first_is leg period from.0; inside = subst (λ t. Inside leg t 1) from.1 inside }),
      λ inside. (last_moment leg period, 1, record { moment = last_is leg period from.0; inside = subst (λ t. Inside leg t 1) from.2 inside }),
    )

-- what a course tells of a predicate
pub told : (predicate : Predicate) (c : Course) (legs : List LegView) (Inside : LegView → ℤ → ℕ → Type 0) (period : PeriodView) → IsCourse Inside c legs period
    → IsTrue (tells predicate c) ↔ HoldsIn Inside predicate legs period
unfolding HoldsIn
told Ever c legs Inside period is = is.ever
told Always c legs Inside period is = both_tell c.live c.always is.live is.always
told Enters c legs Inside period is = three_tell c.live (not c.first) c.last is.live (not_tells c.first is.first) is.last
told Leaves c legs Inside period is = three_tell c.live c.first (not c.last) is.live is.first (not_tells c.last is.last)
told Crosses c legs Inside period is = four_tell c.live (not c.first) (not c.last) c.ever is.live (not_tells c.first is.first) (not_tells c.last is.last) is.ever
told Bypasses c legs Inside period is = both_tell c.live (not c.ever) is.live (not_tells c.ever is.ever)
