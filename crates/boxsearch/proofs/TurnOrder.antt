-- Turns in order take the legs leaf by leaf.
use Rattle.std.proofs.Common.{ℕ, zero, suc, ◌≡◌, ◌≤◌, ◌<◌, ◌+◌, ◌*◌, ◌^◌, cond, nat_lt, true, false, refl, sym, ap, ◌∙◌, arith, subst, ⊎_elim, lt-ltb, le-ltb, List, [], ◌∷◌, ◌++◌, drop, map, length, get_or, All}
use Rattle.std.specs.Prelude.{slice_index_or}
use Rattle.std.specs.List.Sorted.{IsPermutation, IsNonDecreasingBy}
use Rattle.std.proofs.lemmas.Bool.{cases_lt}
use Rattle.std.proofs.lemmas.List.{append-nil, length-map}
use Rattle.std.proofs.lemmas.List.Elements.{All-nil, All-cons}
use Rattle.std.proofs.lemmas.List.Sorted.{IsPermutation-refl, IsPermutation-sym, IsPermutation-cons, IsPermutation-trans, IsPermutation-middle, IsPermutation-append_left, IsPermutation-map, All-permutation, IsNonDecreasingBy-short, IsNonDecreasingBy-from_default}
use Rattle.legs.specs.Costs.{leg_feature}
use Rattle.legs.specs.Index.{feature_count, CanFollowInTurn}
use Rattle.legs.specs.Legs.{LegView}
use Rattle.legs.specs.Places.{no_leg}
use Rattle.tbtree.proofs.RisingLists.{in_order_once}
use Rattle.tbtree.specs.Turn.{IsPast, IsRising}
use Rattle.tbtree.proofs.TurnOrders.{put_in, put_all, elements, numbered, leaf_by_leaf}
use Rattle.tbtree.specs.declared.tree.Place.{Place}
use Rattle.boxsearch.specs.Taking.{taken}
use Rattle.boxsearch.specs.Turns.{leaf_for, open_after, opened_from, turn_number, turns_from}
use Rattle.boxsearch.specs.declared.turns.Open.{Open}
use Rattle.boxsearch.specs.declared.turns.Turn.{Turn}
use Rattle.boxsearch.proofs.TurnNumbers.{ArePlacesOf, numbers_are}

-- a number and a place as one number
abbrev weight : ℕ × ℕ → ℕ
weight p = p.0 * 4294967296 + p.1

abbrev pub pair : Turn → ℕ × ℕ
pair t = (t.leaf, t.place)

put_moves : {X : Type 0} (p : ℕ × X) (qs : List (ℕ × X)) → IsPermutation (p ∷ qs) (put_in p qs)
put_moves p [] = IsPermutation-refl (p ∷ [])
put_moves p (q ∷ qs) =
    elim (nat_lt p.0 q.0) as (λ v. IsPermutation (p ∷ q ∷ qs) (cond v (p ∷ q ∷ qs) (q ∷ put_in p qs))) [
      | true ↦ IsPermutation-refl (p ∷ q ∷ qs)
      | false ↦ IsPermutation-trans (p ∷ q ∷ qs) (q ∷ p ∷ qs) (q ∷ put_in p qs) (IsPermutation-middle (p ∷ []) q qs) (IsPermutation-cons q (p ∷ qs) (put_in p qs) (put_moves p qs))
    ]

all_moves : {X : Type 0} (out ps : List (ℕ × X)) → IsPermutation (out ++ ps) (put_all out ps)
all_moves out [] = subst (λ l. IsPermutation l out) (sym (append-nil out)) (IsPermutation-refl out)
all_moves out (p ∷ ps) =
    IsPermutation-trans (out ++ p ∷ ps) (p ∷ (out ++ ps)) (put_all (put_in p out) ps) (IsPermutation-middle out p ps)
    (IsPermutation-trans ((p ∷ out) ++ ps) (put_in p out ++ ps) (put_all (put_in p out) ps) (IsPermutation-append_left ps (p ∷ out) (put_in p out) (put_moves p out)) (all_moves (put_in p out) ps))

past_lower : (a b : ℕ) (ps : List (ℕ × ℕ)) → b ≤ a → IsPast weight a ps → IsPast weight b ps
past_lower a b [] l h = tt
past_lower a b (p ∷ ps) l h = ((let x = h.0 in omega (arith, l, x)), past_lower a b ps l h.1)

put_past : (c : ℕ) (p : ℕ × ℕ) (qs : List (ℕ × ℕ)) → c < weight p → IsPast weight c qs → IsPast weight c (put_in p qs)
put_past c p [] l h = (l, tt)
put_past c p (q ∷ qs) l h =
    elim (nat_lt p.0 q.0) as (λ v. IsPast weight c (cond v (p ∷ q ∷ qs) (q ∷ put_in p qs))) [
      | true ↦ (l, h)
      | false ↦ (h.0, put_past c p qs l h.1)
    ]

-- each place is below that one
abbrev Below : ℕ → List (ℕ × ℕ) → Type 0
Below k [] = Unit {0}
Below k (p ∷ ps) = (p.1 < k) × Below k ps

below_more : (k m : ℕ) (ps : List (ℕ × ℕ)) → k ≤ m → Below k ps → Below m ps
below_more k m [] l h = tt
below_more k m (p ∷ ps) l h = ((let x = h.0 in omega (arith, l, x)), below_more k m ps l h.1)

put_below : (k : ℕ) (p : ℕ × ℕ) (qs : List (ℕ × ℕ)) → p.1 < k → Below k qs → Below k (put_in p qs)
put_below k p [] l h = (l, tt)
put_below k p (q ∷ qs) l h =
    elim (nat_lt p.0 q.0) as (λ v. Below k (cond v (p ∷ q ∷ qs) (q ∷ put_in p qs))) [
      | true ↦ (l, h)
      | false ↦ (h.0, put_below k p qs l h.1)
    ]

put_rising : (p : ℕ × ℕ) (qs : List (ℕ × ℕ)) → p.1 < 4294967296 → Below p.1 qs → IsRising weight qs → IsRising weight (put_in p qs)
put_rising p [] l h r = (tt, tt)
put_rising p (q ∷ qs) l h r =
    ⊎_elim
    (λ (b : p.0 < q.0).
    let up : weight p < weight q = omega (arith, b, l) in
    subst (λ v. IsRising weight (cond v (p ∷ q ∷ qs) (q ∷ put_in p qs))) (sym (lt-ltb p.0 q.0 b)) ((up, past_lower (weight q) (weight p) qs (omega (arith, up)) r.0), r))
    (λ (b : q.0 ≤ p.0).
    let first = h.0 in
    let up : weight q < weight p = omega (arith, b, first) in
    subst (λ v. IsRising weight (cond v (p ∷ q ∷ qs) (q ∷ put_in p qs))) (sym (le-ltb p.0 q.0 b)) (put_past (weight q) p qs up r.0, put_rising p qs l h.1 r.1))
    (cases_lt p.0 q.0)

-- the places rise by one from k on
abbrev Counted : ℕ → List (ℕ × ℕ) → Type 0
Counted k [] = Unit {0}
Counted k (p ∷ ps) = (p.1 ≡ k) × Counted (k + 1) ps

all_rising : (k : ℕ) (out ps : List (ℕ × ℕ)) → k + length ps < 4294967296 → Counted k ps → Below k out → IsRising weight out → IsRising weight (put_all out ps)
all_rising k out [] l c b r = r
all_rising k out (p ∷ ps) l c b r =
    let at = c.0 in
    all_rising (k + 1) (put_in p out) ps (omega (arith, l)) c.1
    (put_below (k + 1) p out (omega (arith, at)) (below_more k (k + 1) out (omega arith) b))
    (put_rising p out (omega (arith, at, l)) (subst (λ n. Below n out) (sym at) b) r)

rising_map : (ps : List (ℕ × ℕ)) → IsRising weight ps → IsRising (λ (n : ℕ). n) (map weight ps)
rising_map [] r = tt
rising_map (p ∷ ps) r = (past (weight p) ps r.0, rising_map ps r.1)
  where
    past : (a : ℕ) (ps : List (ℕ × ℕ)) → IsPast weight a ps → IsPast (λ (n : ℕ). n) a (map weight ps)
    past a [] h = tt
    past a (q ∷ qs) h = (h.0, past a qs h.1)

-- the places of turns
counted_from : (most base k : ℕ) (ends : List Open) (legs : List LegView) → Counted k (map pair (turns_from most ends base k legs))
counted_from most base k ends [] = tt
counted_from most base k ends (leg ∷ legs) = (refl, counted_from most base (k + 1) (open_after most ends leg.feature (base + k)) legs)

pub length_from : (most base k : ℕ) (ends : List Open) (legs : List LegView) → length (turns_from most ends base k legs) ≡ length legs
length_from most base k ends [] = refl
length_from most base k ends (leg ∷ legs) = ap suc (length_from most base (k + 1) (open_after most ends leg.feature (base + k)) legs)

within_from : (most base k n : ℕ) (ends : List Open) (legs : List LegView) → k + length legs ≤ n → All (λ (t : Turn). t.place < n) (turns_from most ends base k legs)
within_from most base k n ends [] l = All-nil (λ (t : Turn). t.place < n)
within_from most base k n ends (leg ∷ legs) l =
    All-cons (λ (t : Turn). t.place < n) (record { leaf = leaf_for ends leg.feature (base + k); place = k }) (turns_from most (open_after most ends leg.feature (base + k)) base (k + 1) legs)
    (omega (arith, l)) (within_from most base (k + 1) n (open_after most ends leg.feature (base + k)) legs (omega (arith, l)))

module _ {X Y : Type 0} (g : X → Y) where
  abbrev over : ℕ × X → ℕ × Y
  over p = (p.0, g p.1)

  put_over : (p : ℕ × X) (qs : List (ℕ × X)) → put_in (over p) (map over qs) ≡ map over (put_in p qs)
  put_over p [] = refl
  put_over p (q ∷ qs) =
      elim (nat_lt p.0 q.0) as (λ v. cond v (over p ∷ over q ∷ map over qs) (over q ∷ put_in (over p) (map over qs)) ≡ map over (cond v (p ∷ q ∷ qs) (q ∷ put_in p qs))) [
        | true ↦ refl
        | false ↦ ap (λ l. over q ∷ l) (put_over p qs)
      ]

  all_over : (out ps : List (ℕ × X)) → put_all (map over out) (map over ps) ≡ map over (put_all out ps)
  all_over out [] = refl
  all_over out (p ∷ ps) = ap (λ l. put_all l (map over ps)) (put_over p out) ∙ all_over (put_in p out) ps

get-map : {X Y : Type 0} (f : X → Y) (xs : List X) (i : ℕ) (d : Y) (x : X) → i < length xs → get_or (map f xs) i d ≡ f (get_or xs i x)
get-map f [] i d x l = absurd (omega (arith, l))
get-map f (y ∷ xs) zero d x l = refl
get-map f (y ∷ xs) (suc i) d x l = get-map f xs i d x (omega (arith, l))

numbers_rise : {X : Type 0} (f : X → ℕ) (xs : List X) → IsNonDecreasingBy f xs → IsNonDecreasingBy (λ (n : ℕ). n) (map f xs)
numbers_rise f [] h = IsNonDecreasingBy-short (λ (n : ℕ). n) [] (omega arith)
numbers_rise f (x ∷ xs) h = IsNonDecreasingBy-from_default (λ (n : ℕ). n) (map f (x ∷ xs)) 0 (λ i j l k.
    let len = length-map (x ∷ xs) f in
    let b : j < length (x ∷ xs) = omega (arith, k, len) in
    let p = get-map f (x ∷ xs) i 0 x (omega (arith, l, b)) in
    let q = get-map f (x ∷ xs) j 0 x b in
    let up = h i j x l b in
    omega (arith, p, q, up))

below_all : (k : ℕ) (ps : List (ℕ × ℕ)) → All (λ (p : ℕ × ℕ). p.1 < k) ps → Below k ps
below_all k [] h = tt
below_all k (p ∷ ps) h = (h 0 p (omega arith), below_all k ps (λ i d l. h (suc i) d (omega (arith, l))))

-- numbers and places that weigh the same are the same
weights_same : (ps qs : List (ℕ × ℕ)) → Below 4294967296 ps → Below 4294967296 qs → map weight ps ≡ map weight qs → ps ≡ qs
weights_same [] [] h k e = refl
weights_same [] (q ∷ qs) h k e = absurd (let l = ap length e in omega (arith, l))
weights_same (p ∷ ps) [] h k e = absurd (let l = ap length e in omega (arith, l))
weights_same (p ∷ ps) (q ∷ qs) h k e =
    let first : weight p ≡ weight q = ap (λ l. get_or l 0 0) e in
    let x = h.0 in
    let y = k.0 in
    let a : p.0 ≡ q.0 = omega (arith, first, x, y) in
    let b : p.1 ≡ q.1 = omega (arith, first, a) in
    let on = weights_same ps qs h.1 k.1 (ap (drop 1) e) in
    λ i. (a i, b i) ∷ on i

-- the legs that turns take, each with the number of its leaf
abbrev pub numbered_legs : List LegView → List Turn → List (ℕ × LegView)
numbered_legs legs turns = map {B = ℕ × LegView} (λ turn. (turn.leaf, slice_index_or legs turn.place no_leg)) turns

numbered_pairs : (legs : List LegView) (turns : List Turn) → numbered_legs legs turns ≡ map (over (λ place. get_or legs place no_leg)) (map pair turns)
numbered_pairs legs [] = refl
numbered_pairs legs (t ∷ turns) = ap (λ l. (t.leaf, get_or legs t.place no_leg) ∷ l) (numbered_pairs legs turns)

pub taken_elements : (legs : List LegView) (turns : List Turn) → taken legs turns ≡ elements (numbered_legs legs turns)
taken_elements legs [] = refl
taken_elements legs (t ∷ turns) = ap (λ l. get_or legs t.place no_leg ∷ l) (taken_elements legs turns)

from_counted : (k n : ℕ) (ps : List (ℕ × ℕ)) → Counted k ps → k + length ps ≤ n → Below n ps
from_counted k n [] c l = tt
from_counted k n (p ∷ ps) c l = ((let at = c.0 in omega (arith, at, l)), from_counted (k + 1) n ps c.1 (omega (arith, l)))

all_below : (n : ℕ) (out ps : List (ℕ × ℕ)) → Below n out → Below n ps → Below n (put_all out ps)
all_below n out [] h k = h
all_below n out (p ∷ ps) h k = all_below n (put_in p out) ps (put_below n p out k.0 h) k.1

below_moved : (n : ℕ) (ps qs : List (ℕ × ℕ)) → IsPermutation ps qs → Below n ps → Below n qs
below_moved n ps qs m h = below_all n qs (All-permutation (λ (p : ℕ × ℕ). p.1 < n) ps qs m (each n ps h))
  where
    each : (n : ℕ) (ps : List (ℕ × ℕ)) → Below n ps → All (λ (p : ℕ × ℕ). p.1 < n) ps
    each n [] h = All-nil (λ (p : ℕ × ℕ). p.1 < n)
    each n (p ∷ ps) h = All-cons (λ (p : ℕ × ℕ). p.1 < n) p ps h.0 (each n ps h.1)

pub turns_within : (most base : ℕ) (ends : List Open) (legs : List LegView) (turns : List Turn) → IsPermutation (turns_from most ends base 0 legs) turns → All (λ (t : Turn). t.place < length legs) turns
turns_within most base ends legs turns m = All-permutation (λ (t : Turn). t.place < length legs) (turns_from most ends base 0 legs) turns m (within_from most base 0 (length legs) ends legs (omega arith))

-- turns are those of the order, with its numbers
abbrev pub AreNumbered : List Place → ℕ → List LegView → List Turn → Type 0
AreNumbered places leaf legs turns =
    (before : List LegView) → ArePlacesOf places before → CanFollowInTurn before legs
    → numbered_legs legs turns ≡ put_all [] (numbered leg_feature leaf (λ f. f) before (feature_count before) legs)

-- turns in order are put in by their numbers, one after another
pub turns_put : (places : List Place) (most : ℕ) (legs : List LegView) (turns : List Turn) → length places + length legs < 2 ^ 32
    → IsPermutation (turns_from most (opened_from most 0 places) (length places) 0 legs) turns → IsNonDecreasingBy turn_number turns
    → numbered_legs legs turns ≡ put_all [] (map {B = ℕ × LegView} (λ (p : ℕ × ℕ). (p.0, get_or legs p.1 no_leg)) (map pair (turns_from most (opened_from most 0 places) (length places) 0 legs)))
turns_put places most legs turns few moved rises =
    let ends = opened_from most 0 places in
    let base = length places in
    let ts = turns_from most ends base 0 legs in
    let P = map pair ts in
    let S = put_all [] P in
    let Q = map pair turns in
    let g : ℕ → LegView = λ place. get_or legs place no_leg in
    let len : length P ≡ length legs = length-map ts pair ∙ length_from most base 0 ends legs in
    let counted = counted_from most base 0 ends legs in
    let below : Below 4294967296 P = from_counted 0 4294967296 P counted (omega (arith, len, few)) in
    let rising = rising_map S (all_rising 0 [] P (omega (arith, len, few)) counted tt tt) in
    let same : IsPermutation P Q = IsPermutation-map pair ts turns moved in
    let perm : IsPermutation S Q = IsPermutation-trans S P Q (IsPermutation-sym P S (all_moves [] P)) same in
    let up : IsNonDecreasingBy (λ (n : ℕ). n) (map weight Q) = subst (λ l. IsNonDecreasingBy (λ (n : ℕ). n) l) (weights turns) (numbers_rise turn_number turns rises) in
    let e : map weight Q ≡ map weight S = in_order_once (λ n. n) (map weight S) (map weight Q) rising (IsPermutation-map weight S Q perm) up in
    let pairs : Q ≡ S = weights_same Q S (below_moved 4294967296 P Q same below) (all_below 4294967296 [] P tt below) e in
    numbered_pairs legs turns ∙ ap (map (over g)) pairs ∙ sym (all_over g [] P)
  where
    weights : (turns : List Turn) → map turn_number turns ≡ map weight (map pair turns)
    weights [] = refl
    weights (t ∷ turns) = ap (λ l. turn_number t ∷ l) (weights turns)

pub are_numbered : (places : List Place) (most : ℕ) (legs : List LegView) (turns : List Turn) → 0 < most → most ≤ 50 → length places + length legs < 2 ^ 32
    → IsPermutation (turns_from most (opened_from most 0 places) (length places) 0 legs) turns → IsNonDecreasingBy turn_number turns → AreNumbered places most legs turns
are_numbered places most legs turns some fifty few moved rises before p w = turns_put places most legs turns few moved rises ∙ ap (λ l. put_all [] l) (numbers_are places most legs before some fifty p w)

-- the turns are those of legs that may follow, leaf by leaf
abbrev pub AreTurns : List Place → ℕ → List LegView → List Turn → Type 0
AreTurns places leaf legs turns =
    (before : List LegView) → ArePlacesOf places before → CanFollowInTurn [] before → CanFollowInTurn before legs → taken legs turns ≡ leaf_by_leaf leaf before legs

pub are_turns : (places : List Place) (most : ℕ) (legs : List LegView) (turns : List Turn) → AreNumbered places most legs turns → AreTurns places most legs turns
are_turns places most legs turns are before p i w = taken_elements legs turns ∙ ap elements (are before p w)
