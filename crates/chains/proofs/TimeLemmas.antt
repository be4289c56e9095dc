-- A feature's legs go forward in time, so a walk back may stop.
use Rattle.std.proofs.Common.{ℕ, suc, ◌≡◌, ◌==◌, ◌||◌, true, false, cond, List, [], ◌∷◌, ◌++◌, refl, sym, ap, ◌∙◌, arith, subst, append_assoc, Option, Some, None, slice_get, ℤ, ◌≤ℤ◌, ◌<ℤ◌, All}
use Rattle.std.specs.Prelude.{int_le, int_lt}
use Rattle.std.specs.Int.{int_max, int_min}
use Rattle.std.specs.List.{filter, list_any}
use Rattle.std.specs.Option.{ForSome}
use Rattle.std.proofs.lemmas.Bool.{eqb-true}
use Rattle.std.proofs.lemmas.Int.{ints, clamps}
use Rattle.std.proofs.lemmas.List.{append-nil}
use Rattle.std.proofs.lemmas.List.Elements.{All-weaker, All-push, All-nil, All-head, All-tail, filter-append}
use Rattle.std.proofs.lemmas.List.Sums.{fold-append}
use Rattle.timebase.specs.Period.{PeriodView}
use Rattle.legs.specs.Blocks.{joined}
use Rattle.legs.specs.Boxes.{BoxView}
use Rattle.legs.specs.Costs.{reaches}
use Rattle.legs.specs.Index.{CanFollowInTurn, is_of, last_end, legs_of}
use Rattle.legs.specs.Legs.{LegView, is_live}
use Rattle.tbtree.specs.Nodes.{Pages}
use Rattle.chains.specs.Links.{begins_before}
use Rattle.chains.proofs.BackLemmas.{StopsRight, onto, unwound}
use Rattle.chains.proofs.RiseLemmas.{Rises}

-- each of some legs ends by that moment
abbrev pub AllBy : ℤ → List LegView → Type 0
AllBy end legs = All (λ (leg : LegView). leg.t1 ≤ℤ end) legs

-- each leg ends before those after it begin
abbrev pub InOrder : List LegView → List LegView → Type 0
InOrder before [] = Unit {0}
InOrder before (leg ∷ legs) = AllBy leg.t0 before × InOrder (before ++ leg ∷ []) legs

pub skip : (before legs others : List LegView) → InOrder before (legs ++ others) → InOrder (before ++ legs) others
skip before [] others h = subst (λ b. InOrder b others) (sym (append-nil before)) h
skip before (leg ∷ legs) others h = subst (λ b. InOrder b others) (append_assoc before (leg ∷ []) legs) (skip (before ++ leg ∷ []) legs others h.1)

-- the legs end by the last end, where there is one; there is none otherwise
abbrev pub EndBy : Option ℤ → List LegView → Type 0
EndBy None legs = legs ≡ []
EndBy (Some end) legs = AllBy end legs

later : (a b : ℤ) → a ≤ℤ b → (legs : List LegView) → AllBy a legs → AllBy b legs
later a b h legs all = All-weaker (λ (l : LegView). l.t1 ≤ℤ a) (λ (l : LegView). l.t1 ≤ℤ b) (λ l e. omega (arith, ints, e, h)) legs all

end_by : (o : Option ℤ) (legs : List LegView) (t : ℤ) → EndBy o legs → ForSome o (λ end. end ≤ℤ t) → AllBy t legs
end_by None legs t by h = subst (λ l. AllBy t l) (sym by) (All-nil (λ (l : LegView). l.t1 ≤ℤ t))
end_by (Some end) legs t by h = later end t (h end refl) legs by

le_self : (z : ℤ) → z ≤ℤ z
le_self z = omega (arith, ints)

last_end-push : (f : ℕ) (legs : List LegView) (leg : LegView) → last_end f (legs ++ leg ∷ []) ≡ cond (leg.feature == f) (Some leg.t1) (last_end f legs)
last_end-push f legs leg = fold-append (λ end l. cond (l.feature == f) (Some l.t1) end) None legs (leg ∷ [])

-- legs that may follow one another are in order
pub in_order : (f : ℕ) (before legs : List LegView) → CanFollowInTurn before legs → EndBy (last_end f before) (legs_of f before) → All Rises (legs_of f legs) → InOrder (legs_of f before) (legs_of f legs)
in_order f before [] turn by up = tt
in_order f before (leg ∷ legs) turn by up =
    let push : legs_of f (before ++ leg ∷ []) ≡ legs_of f before ++ cond (leg.feature == f) (leg ∷ []) [] = filter-append (is_of f) before (leg ∷ []) in
    let end : last_end f (before ++ leg ∷ []) ≡ cond (leg.feature == f) (Some leg.t1) (last_end f before) = last_end-push f before leg in
    (elim (leg.feature == f) as (λ v. (leg.feature == f) ≡ v → legs_of f (before ++ leg ∷ []) ≡ legs_of f before ++ cond v (leg ∷ []) [] → last_end f (before ++ leg ∷ []) ≡ cond v (Some leg.t1) (last_end f before)
    → All Rises (cond v (leg ∷ legs_of f legs) (legs_of f legs)) → InOrder (legs_of f before) (cond v (leg ∷ legs_of f legs) (legs_of f legs))) [
      | true ↦ λ e p q up.
          let same : leg.feature ≡ f = eqb-true leg.feature f e in
          let time : ForSome (last_end f before) (λ end. end ≤ℤ leg.t0) = subst (λ (g : ℕ). ForSome (last_end g before) (λ end. end ≤ℤ leg.t0)) same turn.0.time in
          let first : AllBy leg.t0 (legs_of f before) = end_by (last_end f before) (legs_of f before) leg.t0 by time in
          let rises : Rises leg = All-head Rises leg (legs_of f legs) up in
          let all : AllBy leg.t1 (legs_of f before ++ leg ∷ []) = All-push (λ (l : LegView). l.t1 ≤ℤ leg.t1) (legs_of f before) leg (later leg.t0 leg.t1 rises (legs_of f before) first) (le_self leg.t1) in
          let by' : EndBy (last_end f (before ++ leg ∷ [])) (legs_of f (before ++ leg ∷ [])) = subst (λ o. EndBy o (legs_of f (before ++ leg ∷ []))) (sym q) (subst (λ l. AllBy leg.t1 l) (sym p) all) in
          let on = in_order f (before ++ leg ∷ []) legs turn.1 by' (All-tail Rises leg (legs_of f legs) up) in
          (first, subst (λ b. InOrder b (legs_of f legs)) p on)
      | false ↦ λ e p q up.
          let same : legs_of f (before ++ leg ∷ []) ≡ legs_of f before = p ∙ append-nil (legs_of f before) in
          let by' : EndBy (last_end f (before ++ leg ∷ [])) (legs_of f (before ++ leg ∷ [])) = subst (λ o. EndBy o (legs_of f (before ++ leg ∷ []))) (sym q) (subst (λ l. EndBy (last_end f before) l) (sym same) by) in
          let on = in_order f (before ++ leg ∷ []) legs turn.1 by' up in
          subst (λ b. InOrder b (legs_of f legs)) same on
    ]) refl push end up

le_from : (x y : ℤ) → int_le x y ≡ true → x ≤ℤ y
le_from x y e = grind (arith, ints)

lt_from : (x y : ℤ) → int_lt x y ≡ true → x <ℤ y
lt_from x y e = grind (arith, ints)

not_lt : (x y : ℤ) → int_lt x y ≡ false → y ≤ℤ x
not_lt x y e = grind (arith, ints)

le_to : (x y : ℤ) → x ≤ℤ y → int_le x y ≡ true
le_to x y h = grind (arith, ints)

not_live : (leg : LegView) (end : ℤ) (period : PeriodView) → leg.t1 ≤ℤ end → end <ℤ period.start → is_live period leg ≡ false
not_live leg end period before over =
    (elim (is_live period leg) as (λ v. is_live period leg ≡ v → v ≡ false) [
      | true ↦ λ live.
          let order : int_max leg.t0 period.start ≤ℤ int_min leg.t1 period.end = le_from (int_max leg.t0 period.start) (int_min leg.t1 period.end) live in
          absurd (omega (arith, ints, clamps))
      | false ↦ λ over. refl
    ]) refl

none_live : (period : PeriodView) (end : ℤ) (legs : List LegView) → end <ℤ period.start → AllBy end legs → filter (is_live period) legs ≡ []
none_live period end [] over all = refl
none_live period end (leg ∷ legs) over all =
    let out = not_live leg end period (All-head (λ (l : LegView). l.t1 ≤ℤ end) leg legs all) over in
    ap (λ b. cond b (leg ∷ filter (is_live period) legs) (filter (is_live period) legs)) out ∙ none_live period end legs over (All-tail (λ (l : LegView). l.t1 ≤ℤ end) leg legs all)

-- where the walk stops, no leg before is live
pub stops_right : (nodes : Pages LegView BoxView) (period : PeriodView) (gs acc : List (List LegView)) → InOrder (unwound acc) (joined gs) → StopsRight nodes (Some period) acc → StopsRight nodes (Some period) (onto gs acc)
stops_right nodes period [] acc t s = s
stops_right nodes period ([] ∷ gs) acc t s =
    stops_right nodes period gs ([] ∷ acc) (subst (λ b. InOrder b (joined gs)) (sym (append-nil (unwound acc))) t) ((λ e. absurd (let z : false ≡ true = e in cc)), s)
stops_right nodes period ((leg ∷ legs) ∷ gs) acc t s =
    stops_right nodes period gs ((leg ∷ legs) ∷ acc) (skip (unwound acc) (leg ∷ legs) (joined gs) t)
    ((λ e. none_live period leg.t0 (unwound acc) (lt_from leg.t0 period.start e) t.0), s)

-- what does not stop the walk reaches the period's start
abbrev pub EachReaches : PeriodView → List (List LegView) → Type 0
EachReaches period [] = Unit {0}
EachReaches period (r ∷ rs) = (begins_before period r ≡ false → reaches period r ≡ true) × EachReaches period rs

reach : (period : PeriodView) (leg : LegView) (legs : List LegView) → Rises leg → begins_before period (leg ∷ legs) ≡ false → reaches period (leg ∷ legs) ≡ true
reach period leg legs up b =
    let start : period.start ≤ℤ leg.t0 = not_lt leg.t0 period.start b in
    let m : int_le period.start leg.t1 ≡ true = le_to period.start leg.t1 (omega (arith, ints, start, up)) in
    ap (λ v. v || list_any (λ (l : LegView). int_le period.start l.t1) legs) m

all_right : (xs ys : List LegView) → All Rises (xs ++ ys) → All Rises ys
all_right [] ys h = h
all_right (x ∷ xs) ys h = all_right xs ys (All-tail Rises x (xs ++ ys) h)

pub each_reaches : (period : PeriodView) (gs acc : List (List LegView)) → All Rises (joined gs) → ((i : ℕ) → slice_get gs i ≡ Some [] → ⊥) → EachReaches period acc → EachReaches period (onto gs acc)
each_reaches period [] acc h n a = a
each_reaches period ([] ∷ gs) acc h n a = absurd (n 0 refl)
each_reaches period ((leg ∷ legs) ∷ gs) acc h n a =
    each_reaches period gs ((leg ∷ legs) ∷ acc) (all_right (leg ∷ legs) (joined gs) h) (λ i. n (suc i))
    (reach period leg legs (All-head Rises leg (legs ++ joined gs) h), a)
