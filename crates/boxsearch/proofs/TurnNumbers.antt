-- The numbers of turns are those of the order.
use Rattle.std.proofs.Common.{ℕ, zero, suc, ◌≡◌, ◌≢◌, ◌≤◌, ◌<◌, ◌+◌, ◌-◌, ◌%◌, ◌^◌, ◌==◌, cond, true, false, min, max, refl, sym, ap, ◌∙◌, arith, ⊎_elim, eq-eqb, List, [], ◌∷◌, ◌++◌, map, length, append_assoc, get_or, slice_get, Some}
use Rattle.std.specs.Prelude.{slice_set}
use Rattle.std.specs.List.{count_by}
use Rattle.std.proofs.Math.Nat.{suc-mod, zero-mod, mod-lt}
use Rattle.std.proofs.lemmas.Bool.{cases_eq}
use Rattle.std.proofs.lemmas.Bool.Decides.{nat_tests}
use Rattle.std.proofs.lemmas.Int.{clamps}
use Rattle.std.proofs.lemmas.List.{length_push}
use Rattle.std.proofs.lemmas.List.Sums.{length-filter, sum_by-append}
use Rattle.std.proofs.lemmas.Option.{slice_get-get_or}
use Rattle.legs.specs.Blocks.{begins}
use Rattle.legs.specs.Costs.{leg_feature}
use Rattle.legs.specs.Index.{feature_count, CanFollowInTurn}
use Rattle.legs.specs.Legs.{LegView}
use Rattle.legs.specs.Places.{no_leg}
use Rattle.tbtree.proofs.TurnOrders.{numbered, run_for, with_last}
use Rattle.tbtree.specs.declared.tree.Place.{Place}
use Rattle.boxsearch.specs.Turns.{leaf_for, open_after, open_at, open_with, opened_from, turns_from}
use Rattle.boxsearch.specs.declared.turns.Open.{Open}
use Rattle.boxsearch.specs.declared.turns.Turn.{Turn}
use Rattle.boxsearch.proofs.AddLemmas.{feature_count-push}
use Rattle.boxsearch.proofs.TrackLemmas.{no_legs}
use Rattle.boxsearch.proofs.TurnSteps.{length_after, length_with, opened_length}

abbrev counts : ℕ → List LegView → ℕ
counts f legs = count_by (λ z. leg_feature z == f) legs

-- the places of the features of some legs
pub record ArePlacesOf (places : List Place) (legs : List LegView) : Type 0 where
  pub features : length places ≡ feature_count legs
  pub counts : (f : ℕ) (place : Place) → slice_get places f ≡ Some place → place.legs ≡ count_by (λ l. leg_feature l == f) legs

-- the last leaves of the features of some legs, by their numbers
record IsEnds (most : ℕ) (ends : List Open) (last : ℕ → ℕ) (before : List LegView) : Type 0 where
  pub many : length ends ≡ feature_count before
  pub filled : (f : ℕ) (d : Open) → f < length ends → (get_or ends f d).filled ≡ counts f before % most
  pub leaf : (f : ℕ) (d : Open) → f < length ends → (get_or ends f d).leaf ≡ last f

pub opened_at : (most k : ℕ) (places : List Place) (f : ℕ) (d : Open) (p : Place) → f < length places → ((get_or (opened_from most k places) f d).filled ≡ (get_or places f p).legs % most) × ((get_or (opened_from most k places) f d).leaf ≡ k + f)
opened_at most k [] f d p l = absurd (omega (arith, l))
opened_at most k (q ∷ places) zero d p l = (refl, omega arith)
opened_at most k (q ∷ places) (suc f) d p l = let on = opened_at most (k + 1) places f d p (omega (arith, l)) in (on.0, (let e = on.1 in omega (arith, e)))

pub some_place : Place
some_place = record { first = 0; last = 0; last_index = 0; legs = 0 }

start_ends : (most : ℕ) (places : List Place) (before : List LegView) → ArePlacesOf places before → IsEnds most (opened_from most 0 places) (λ f. f) before
start_ends most places before p =
    let len = opened_length most 0 places in
    record {
      many = len ∙ p.features;
      filled = λ f d l. (let k : f < length places = omega (arith, l, len) in (opened_at most 0 places f d some_place k).0 ∙ ap (λ n. n % most) (p.counts f (get_or places f some_place) (slice_get-get_or places f some_place k)));
      leaf = λ f d l. (let k : f < length places = omega (arith, l, len) in let e = (opened_at most 0 places f d some_place k).1 in omega (arith, e));
    }

pub get_last : {X : Type 0} (xs : List X) (x d : X) → get_or (xs ++ x ∷ []) (length xs) d ≡ x
get_last [] x d = refl
get_last (y ∷ xs) x d = get_last xs x d

pub get_front : {X : Type 0} (xs ys : List X) (i : ℕ) (d : X) → i < length xs → get_or (xs ++ ys) i d ≡ get_or xs i d
get_front [] ys i d l = absurd (omega (arith, l))
get_front (x ∷ xs) ys zero d l = refl
get_front (x ∷ xs) ys (suc i) d l = get_front xs ys i d (omega (arith, l))

pub set_same : {X : Type 0} (xs : List X) (i : ℕ) (v d : X) → i < length xs → get_or (slice_set xs i v) i d ≡ v
set_same [] i v d l = absurd (omega (arith, l))
set_same (x ∷ xs) zero v d l = refl
set_same (x ∷ xs) (suc i) v d l = set_same xs i v d (omega (arith, l))

pub set_other : {X : Type 0} (xs : List X) (i j : ℕ) (v d : X) → j ≢ i → get_or (slice_set xs i v) j d ≡ get_or xs j d
set_other [] i j v d u = refl
set_other (x ∷ xs) zero zero v d u = absurd (u refl)
set_other (x ∷ xs) zero (suc j) v d u = refl
set_other (x ∷ xs) (suc i) zero v d u = refl
set_other (x ∷ xs) (suc i) (suc j) v d u = set_other xs i j v d (λ e. u (ap suc e))

pub none_yet : (before : List LegView) (f : ℕ) → feature_count before ≤ f → counts f before ≡ 0
none_yet before f l = sym (length-filter (λ z. leg_feature z == f) before) ∙ ap length (no_legs before f l)

module _ (most : ℕ) (some : 0 < most) (few : most ≤ 50) (ends : List Open) (last : ℕ → ℕ) (before : List LegView) (h : IsEnds most ends last before) (leg : LegView) (made : ℕ) (fits : leg.feature ≤ feature_count before) where
  abbrev f : ℕ
  f = leg.feature

  abbrev fresh : Open
  fresh = record { filled = 0; leaf = made }

  within : f ≤ length ends
  within = let m = h.many in omega (arith, m, fits)

  with_new : f ≡ length ends → open_with ends f made ≡ ends ++ fresh ∷ []
  with_new e = ap (λ v. cond v (ends ++ fresh ∷ []) ends) (eq-eqb _ _ e)

  with_old : f ≢ length ends → open_with ends f made ≡ ends
  with_old u = let n : (f == length ends) ≡ false = grind (arith, nat_tests, u) in ap (λ v. cond v (ends ++ fresh ∷ []) ends) n

  -- what is known of the feature's last leaf
  at_new : f ≡ length ends → open_at ends f made ≡ fresh
  at_new e = ap (λ l. get_or l f fresh) (with_new e) ∙ ap (λ i. get_or (ends ++ fresh ∷ []) i fresh) e ∙ get_last ends fresh fresh

  at_old : f ≢ length ends → open_at ends f made ≡ get_or ends f fresh
  at_old u = ap (λ l. get_or l f fresh) (with_old u)

  filled_is : (open_at ends f made).filled ≡ counts f before % most
  filled_is =
      ⊎_elim
      (λ (e : f ≡ length ends). ap (λ (o : Open). o.filled) (at_new e) ∙ sym (ap (λ n. n % most) (none_yet before f (let m = h.many in omega (arith, m, e))) ∙ zero-mod most))
      (λ (u : f ≢ length ends). ap (λ (o : Open). o.filled) (at_old u) ∙ h.filled f fresh (let w = within in omega (arith, w, u)))
      (cases_eq f (length ends))

  leaf_is : leaf_for ends f made ≡ run_for leg_feature most last before made leg
  unfolding leaf_for
  leaf_is =
      ap (λ n. cond (n == 0) made (open_at ends f made).leaf) filled_is
      ∙ ⊎_elim
      (λ (e : f ≡ length ends).
      let z : begins leg_feature most before leg ≡ true = eq-eqb _ 0 (ap (λ n. n % most) (none_yet before f (let m = h.many in omega (arith, m, e))) ∙ zero-mod most) in
      ap (λ v. cond v made (open_at ends f made).leaf) z ∙ sym (ap (λ v. cond v made (last f)) z))
      (λ (u : f ≢ length ends). ap (λ n. cond (begins leg_feature most before leg) made n) (ap (λ (o : Open). o.leaf) (at_old u) ∙ h.leaf f fresh (let w = within in omega (arith, w, u))))
      (cases_eq f (length ends))

  longer_with : f < length (open_with ends f made)
  longer_with = let e = length_with ends f made within in omega (arith, e)

  others_are : (g : ℕ) (d : Open) → g ≢ f → g < length (open_after most ends f made) → (g < length ends) × (get_or (open_after most ends f made) g d ≡ get_or ends g d)
  unfolding open_after
  others_are g d u l =
      let len = length_after most ends f made within in
      let w = within in
      let k : g < length ends = omega (arith, len, w, u, l) in (
        k,
        set_other (open_with ends f made) f g _ d u ∙ ⊎_elim
            (λ (e : f ≡ length ends). ap (λ l. get_or l g d) (with_new e) ∙ get_front ends (fresh ∷ []) g d k)
            (λ (v : f ≢ length ends). ap (λ l. get_or l g d) (with_old v))
            (cases_eq f (length ends)),
      )

  mine_is : (d : Open) → get_or (open_after most ends f made) f d ≡ record { filled = min ((open_at ends f made).filled + 1) (2 ^ 64 - 1) % most; leaf = leaf_for ends f made }
  unfolding open_after
  mine_is d = set_same (open_with ends f made) f _ d longer_with

  counted_more : (g : ℕ) → counts g (before ++ leg ∷ []) ≡ counts g before + cond (f == g) 1 0
  counted_more g = sum_by-append (λ z. cond (leg_feature z == g) 1 0) before (leg ∷ []) ∙ omega arith

  refilled : min ((open_at ends f made).filled + 1) (2 ^ 64 - 1) % most ≡ counts f (before ++ leg ∷ []) % most
  refilled =
      let c = counts f before in
      let z = filled_is in
      let low : c % most < most = mod-lt c some in
      let a : min ((open_at ends f made).filled + 1) (2 ^ 64 - 1) ≡ suc (c % most) = omega (arith, clamps, z, low, few) in
      let b : suc c ≡ counts f (before ++ leg ∷ []) = (let m = counted_more f ∙ ap (λ v. c + cond v 1 0) (eq-eqb f f refl) in omega (arith, m)) in
      ap (λ n. n % most) a ∙ sym (suc-mod c most) ∙ ap (λ n. n % most) b

  abbrev n : ℕ
  n = run_for leg_feature most last before made leg

  next_ends : IsEnds most (open_after most ends f made) (with_last leg_feature most last f n) (before ++ leg ∷ [])
  next_ends = record {
    many = length_after most ends f made within ∙ ap (λ k. max k (f + 1)) h.many ∙ sym (feature_count-push before leg);
    filled = λ g d l. ⊎_elim
        (λ (e : g ≡ f). ap (λ g. (get_or (open_after most ends f made) g d).filled) e ∙ ap (λ (o : Open). o.filled) (mine_is d) ∙ refilled ∙ ap (λ g. counts g (before ++ leg ∷ []) % most) (sym e))
        (λ (u : g ≢ f).
        let o = others_are g d u l in
        let v : (f == g) ≡ false = grind (arith, nat_tests, u) in
        ap (λ (o : Open). o.filled) o.1 ∙ h.filled g d o.0 ∙ ap (λ k. k % most) (sym (counted_more g ∙ ap (λ v. counts g before + cond v 1 0) v ∙ omega arith)))
        (cases_eq g f);
    leaf = λ g d l. ⊎_elim
        (λ (e : g ≡ f).
        let v : (g == f) ≡ true = eq-eqb _ _ e in
        ap (λ g. (get_or (open_after most ends f made) g d).leaf) e ∙ ap (λ (o : Open). o.leaf) (mine_is d) ∙ leaf_is ∙ sym (ap (λ v. cond v n (last g)) v))
        (λ (u : g ≢ f).
        let o = others_are g d u l in
        let v : (g == f) ≡ false = grind (arith, nat_tests, u) in
        ap (λ (o : Open). o.leaf) o.1 ∙ h.leaf g d o.0 ∙ sym (ap (λ v. cond v n (last g)) v))
        (cases_eq g f);
  }

pub get_place : (xs ys : List LegView) (leg : LegView) → get_or (xs ++ leg ∷ ys) (length xs) no_leg ≡ leg
get_place [] ys leg = refl
get_place (x ∷ xs) ys leg = get_place xs ys leg

-- the legs done are those before place k
numbers_from : (most base : ℕ) → 0 < most → most ≤ 50 → (all done legs : List LegView) (ends : List Open) (last : ℕ → ℕ) (before : List LegView) (k : ℕ) → all ≡ done ++ legs → k ≡ length done → IsEnds most ends last before → CanFollowInTurn before legs
    → map (λ (t : Turn). (t.leaf, get_or all t.place no_leg)) (turns_from most ends base k legs) ≡ numbered leg_feature most last before (base + k) legs
numbers_from most base some few all done [] ends last before k e c h w = refl
numbers_from most base some few all done (leg ∷ legs) ends last before k e c h w =
    let fits = w.0.feature in
    let here : get_or all k no_leg ≡ leg = ap (λ l. get_or l k no_leg) e ∙ ap (λ i. get_or (done ++ leg ∷ legs) i no_leg) c ∙ get_place done legs leg in
    let leaf = leaf_is most some few ends last before h leg (base + k) fits in
    let n = run_for leg_feature most last before (base + k) leg in
    let on = numbers_from most base some few all (done ++ leg ∷ []) legs (open_after most ends leg.feature (base + k)) (with_last leg_feature most last leg.feature n) (before ++ leg ∷ []) (k + 1)
    (e ∙ sym (append_assoc done (leg ∷ []) legs)) (let q = length_push done leg in omega (arith, q, c)) (next_ends most some few ends last before h leg (base + k) fits) w.1 in
    let next : base + (k + 1) ≡ suc (base + k) = omega arith in
    let rest = numbered leg_feature most (with_last leg_feature most last leg.feature n) (before ++ leg ∷ []) in
    λ i. (leaf i, here i) ∷ (on ∙ ap (λ m. rest m legs) next) i

pub map_pairs : (g : ℕ → LegView) (ts : List Turn) → map {B = ℕ × LegView} (λ (p : ℕ × ℕ). (p.0, g p.1)) (map {B = ℕ × ℕ} (λ (t : Turn). (t.leaf, t.place)) ts) ≡ map (λ (t : Turn). (t.leaf, g t.place)) ts
map_pairs g [] = refl
map_pairs g (t ∷ ts) = ap (λ l. (t.leaf, g t.place) ∷ l) (map_pairs g ts)

pub numbers_are : (places : List Place) (most : ℕ) (legs before : List LegView) → 0 < most → most ≤ 50 → ArePlacesOf places before → CanFollowInTurn before legs
    → map {B = ℕ × LegView} (λ (p : ℕ × ℕ). (p.0, get_or legs p.1 no_leg)) (map {B = ℕ × ℕ} (λ (t : Turn). (t.leaf, t.place)) (turns_from most (opened_from most 0 places) (length places) 0 legs)) ≡ numbered leg_feature most (λ f. f) before (feature_count before) legs
numbers_are places most legs before some few p w =
    let ts = turns_from most (opened_from most 0 places) (length places) 0 legs in
    let base : length places + 0 ≡ feature_count before = (let e = p.features in omega (arith, e)) in
    map_pairs (λ place. get_or legs place no_leg) ts
    ∙ numbers_from most (length places) some few legs [] legs (opened_from most 0 places) (λ f. f) before 0 refl refl (start_ends most places before p) w
    ∙ ap (λ m. numbered leg_feature most (λ f. f) before m legs) base
