-- The features that are held are exactly those of which the predicate holds, in rising order.
use Rattle.std.proofs.Common.{ℕ, ◌≡◌, ◌∙◌, ap, sym, refl, subst, Bool, true, false, cond, ◌||◌, ◌↔◌, IsTrue, Option, Some, None, List, [], ◌∷◌, Less, ℤ}
use Rattle.std.specs.Prelude.{◌==◌, Contains}
use Rattle.std.specs.BTreeMap.{get, is_at}
use Rattle.std.specs.Cmp.{nat_eq_equiv}
use Rattle.std.specs.List.{AllByRecursion, list_any}
use Rattle.std.specs.List.Sorted.{IsStrictlySortedBy}
use Rattle.std.specs.Map.{keys_of, lookup}
use Rattle.std.specs.Ordering.{is_eq, nat_cmp}
use Rattle.std.proofs.lemmas.Bool.{eqb-true, false≢true}
use Rattle.std.proofs.lemmas.Map.Views.{Contains-from_any, list_any-from_Contains}
use Rattle.timebase.specs.Period.{PeriodView}
use Rattle.legs.specs.Legs.{LegView}
use Rattle.visiting.proofs.PlaceLemmas.{same_key}
use Rattle.predicates.specs.Courses.{no_course, tells}
use Rattle.predicates.specs.Predicates.{HoldsIn}
use Rattle.predicates.specs.declared.Predicate.{Predicate}
use Rattle.predicates.specs.declared.Predicate.TheVariants.{Ever, Always, Enters, Leaves, Crosses, Bypasses}
use Rattle.predicates.proofs.CourseLemmas.{empty_course, told}
use Rattle.predicates.proofs.SieveLemmas.{ever_same}
use Rattle.zones.specs.Places.{Corner}
use Rattle.legs.specs.Index.{legs_of}
use Rattle.zoning.specs.Holding.{AreCourses, AreHolding, AreNear, AreTallies, IsOutside, IsTallied, course_with, held, holds_with}
use Rattle.zoning.specs.Stays.{IsInZone}
use Rattle.zoning.specs.declared.holding.Courses.{Courses}
use Rattle.zoning.specs.declared.holding.Near.{Near}
use Rattle.zoning.specs.declared.holding.Tallies.{Tallies}
use Rattle.zoning.specs.declared.holding.Tally.{Tally}
use Rattle.zoning.proofs.NearLemmas.{course_is_with}
use Rattle.zoning.proofs.PartsOfLegs.{near_of}

-- what is below all of a list is not in it
none_equal : (k : ℕ) (ks : List ℕ) → AllByRecursion (λ y. nat_cmp k y ≡ Less) ks → list_any (λ y. k == y) ks ≡ false
none_equal k [] h = refl
none_equal k (y ∷ ks) h = ap (λ (b : Bool). b || list_any (λ y. k == y) ks) (sym (same_key k y) ∙ ap is_eq h.0) ∙ none_equal k ks h.1

module _ (predicate : Predicate) (near : ℕ → Option Near) where
  -- whether the predicate holds of the feature of a tally, if there is one
  abbrev told_at : ℕ → Option Tally → Bool
  told_at f None = false
  told_at f (Some tally) = holds_with predicate tally (near f)

  held_below : (k : ℕ) (es : List (ℕ × Tally)) → AllByRecursion (λ y. nat_cmp k y ≡ Less) (keys_of es) → AllByRecursion (λ y. nat_cmp k y ≡ Less) (held predicate near es)
  held_below k [] h = h
  held_below k (e ∷ es) h = by (holds_with predicate e.1 (near e.0)) (held_below k es h.1)
    where
      by : (b : Bool) → AllByRecursion (λ y. nat_cmp k y ≡ Less) (held predicate near es) → AllByRecursion (λ y. nat_cmp k y ≡ Less) (cond b (e.0 ∷ held predicate near es) (held predicate near es))
      by true rest = (h.0, rest)
      by false rest = rest

  held_rises : (es : List (ℕ × Tally)) → IsStrictlySortedBy nat_cmp (keys_of es) → IsStrictlySortedBy nat_cmp (held predicate near es)
  unfolding IsStrictlySortedBy
  held_rises [] h = h
  held_rises (e ∷ es) h = by (holds_with predicate e.1 (near e.0)) (held_rises es h.1)
    where
      by : (b : Bool) → IsStrictlySortedBy nat_cmp (held predicate near es) → IsStrictlySortedBy nat_cmp (cond b (e.0 ∷ held predicate near es) (held predicate near es))
      by true rest = (held_below e.0 es h.0, rest)
      by false rest = rest

  -- a feature is held exactly where the predicate holds of it
  held_has : (f : ℕ) (es : List (ℕ × Tally)) → IsStrictlySortedBy nat_cmp (keys_of es) → list_any (λ y. f == y) (held predicate near es) ≡ told_at f (lookup (is_at (nat_cmp f)) es)
  unfolding IsStrictlySortedBy
  held_has f [] h = refl
  held_has f (e ∷ es) h =
      by (f == e.0) refl (held_has f es h.1) ∙ sym (ap (λ (b : Bool). told_at f (cond b (Some e.1) (lookup (is_at (nat_cmp f)) es))) (same_key f e.0))
    where
      H : List ℕ
      H = held predicate near es

      by : (t : Bool) → (f == e.0) ≡ t → list_any (λ y. f == y) H ≡ told_at f (lookup (is_at (nat_cmp f)) es)
          → list_any (λ y. f == y) (cond (holds_with predicate e.1 (near e.0)) (e.0 ∷ H) H) ≡ told_at f (cond (f == e.0) (Some e.1) (lookup (is_at (nat_cmp f)) es))
      by true is rest =
          let same : f ≡ e.0 = eqb-true f e.0 is in
          let none : list_any (λ y. f == y) H ≡ false = ap (λ (k : ℕ). list_any (λ y. k == y) H) same ∙ none_equal e.0 H (held_below e.0 es h.0) in
          here (holds_with predicate e.1 (near e.0)) none
          ∙ ap (λ (k : ℕ). holds_with predicate e.1 (near k)) (sym same)
          ∙ sym (ap (λ (b : Bool). told_at f (cond b (Some e.1) (lookup (is_at (nat_cmp f)) es))) is)
        where
          here : (b : Bool) → list_any (λ y. f == y) H ≡ false → list_any (λ y. f == y) (cond b (e.0 ∷ H) H) ≡ b
          here true none = ap (λ (b : Bool). b || list_any (λ y. f == y) H) is
          here false none = none
      by false is rest =
          there (holds_with predicate e.1 (near e.0)) ∙ rest
          ∙ sym (ap (λ (b : Bool). told_at f (cond b (Some e.1) (lookup (is_at (nat_cmp f)) es))) is)
        where
          there : (b : Bool) → list_any (λ y. f == y) (cond b (e.0 ∷ H) H) ≡ list_any (λ y. f == y) H
          there true = ap (λ (b : Bool). b || list_any (λ y. f == y) H) is
          there false = refl

-- of no legs no predicate holds
none_holds : (predicate : Predicate) (Inside : LegView → ℤ → ℕ → Type 0) (period : PeriodView) → HoldsIn Inside predicate [] period → ⊥
none_holds predicate Inside period h = false≢true (by predicate ∙ (told predicate no_course [] Inside period (empty_course Inside period)).1 h)
  where
    by : (predicate : Predicate) → false ≡ tells predicate no_course
    by Ever = refl
    by Always = refl
    by Enters = refl
    by Leaves = refl
    by Crosses = refl
    by Bypasses = refl

pub are_holding : (predicate : Predicate) (rings : List (List Corner)) (period : PeriodView) (legs near : List LegView) (tallies : Tallies) (courses : Courses) (features : List ℕ)
    → AreTallies period legs tallies → AreNear rings period legs near → AreCourses rings period near courses
    → IsStrictlySortedBy nat_cmp (keys_of tallies.by_feature.entries)
    → features ≡ held predicate (λ f. get nat_cmp courses.by_feature f) tallies.by_feature.entries
    → AreHolding predicate rings legs period features
are_holding predicate rings period legs near tallies courses features told_all out told_near sorted is =
    subst (λ (l : List ℕ). AreHolding predicate rings legs period l) (sym is)
    (record { rising = held_rises predicate found tallies.by_feature.entries sorted; exact = exact })
  where
    found : ℕ → Option Near
    found f = get nat_cmp courses.by_feature f

    Inside : LegView → ℤ → ℕ → Type 0
    Inside leg n d = IsInZone rings leg n d

    all_held : List ℕ
    all_held = held predicate found tallies.by_feature.entries

    at_feature : (f : ℕ) (o : Option Tally) → IsTallied period o (legs_of f legs) → IsTrue (told_at predicate found f o) ↔ HoldsIn Inside predicate (legs_of f legs) period
    at_feature f None none = (
      λ t. absurd (false≢true t),
      λ h. absurd (none_holds predicate Inside period (subst (λ (l : List LegView). HoldsIn Inside predicate l period) none h)),
    )
    at_feature f (Some tally) tallied =
        told predicate (course_with tally (found f)) (legs_of f legs) Inside period
        (course_is_with Inside period (legs_of f legs) (legs_of f near) (near_of (IsOutside Inside period) f legs near out) tally (found f) tallied (told_near f))

    exact : (f : ℕ) → Contains all_held f ↔ HoldsIn Inside predicate (legs_of f legs) period
    exact f =
        let has = held_has predicate found f tallies.by_feature.entries sorted in
        let holds = at_feature f (get nat_cmp tallies.by_feature f) (told_all f) in (
          λ some. holds.0 (sym has ∙ list_any-from_Contains nat_eq_equiv f all_held some),
          λ h. Contains-from_any (λ x y e. eqb-true x y e) f all_held (has ∙ holds.1 h),
        )

-- of `ever` the legs near the zone say all
pub ever_holding : (rings : List (List Corner)) (period : PeriodView) (legs near : List LegView) (features : List ℕ) → AreNear rings period legs near
    → AreHolding Ever rings near period features → AreHolding Ever rings legs period features
unfolding HoldsIn
ever_holding rings period legs near features out h = record { rising = h.rising; exact = exact }
  where
    May : LegView → Type 0
    May leg = IsOutside (IsInZone rings) period leg

    exact : (f : ℕ) → Contains features f ↔ HoldsIn (IsInZone rings) Ever (legs_of f legs) period
    exact f =
        let same = ever_same (IsInZone rings) period May (λ leg may. may.never) (legs_of f legs) (legs_of f near) (near_of May f legs near out) in
        let is = h.exact f in
        (λ some. same.0 (is.0 some), λ holds. is.1 (same.1 holds))
