-- The last leaf of a feature takes the feature's next legs.
use Rattle.std.proofs.Common.{ℕ, zero, suc, ◌+◌, ◌-◌, ◌<◌, ◌≤◌, ◌≡◌, ◌==◌, ◌∙◌, ◌&&◌, nat_lt, eq-eqb, lt-ltb, Bool, true, false, true≢false, cond, List, [], ◌∷◌, ◌++◌, All, take, length, refl, sym, ap, subst, arith, append_assoc, Option, Some, option_map, slice_get, get_or}
use Rattle.std.specs.List.{filter}
use Rattle.std.proofs.lemmas.List.{length_push}
use Rattle.std.proofs.lemmas.List.Elements.{All-cons, All-filter, All-take, All-nil, filter_passes}
use Rattle.std.proofs.lemmas.Bool.{eqb-true}
use Rattle.std.proofs.lemmas.Bool.Decides.{nat_tests}
use Rattle.std.proofs.lemmas.Option.{slice_get_within, slice_get-get_or}
use Rattle.legs.specs.Legs.{LegView}
use Rattle.legs.specs.Blocks.{begins, same, runs_after, leaves}
use Rattle.legs.specs.Costs.{leg_feature}
use Rattle.legs.specs.Index.{CanFollow, CanFollowInTurn}
use Rattle.tbnode.specs.Edits.{TakesLeg, leaf_with_leg}
use Rattle.tbnode.specs.Nodes.{as_leaf, with_leg}
use Rattle.legs.specs.Boxes.{BoxView}
use Rattle.tbtree.specs.Nodes.{LeafView, Node, ALeaf}
use Rattle.tbtree.specs.Joining.{CanJoin, CanJoinInTurn}
use Rattle.tbtree.specs.Payloads.{TakesLegs, Takes, are_of_one_leaf, goes_on, leaf_with_legs}
use Rattle.legs.proofs.GroupLemmas.{some_none, some_same}
use Rattle.tbtree.proofs.Widening.{cons_head}
use Rattle.tbtree.proofs.BeginLemmas.{get-push_last}

-- what holds of each element holds of each of a run
runs_all : {X : Type 0} (key : X → ℕ) (P : X → Type 0) (m : ℕ) (b xs : List X) → All P xs → (i : ℕ) (r : List X) → slice_get (runs_after key (suc m) b xs) i ≡ Some r → All P r
runs_all key P m b [] all i r e = absurd (some_none r (sym e))
runs_all {X} key P m b (x ∷ xs) all i r e =
    let first : P x = all 0 x (omega arith) in
    let rest : All P xs = λ k d h. all (suc k) d (omega (arith, h)) in
    let R = take m (filter (same key (suc m) x) xs) in
    let run : All P (x ∷ R) = All-cons P x R first (All-take P m (filter (same key (suc m) x) xs) (All-filter (same key (suc m) x) P xs rest)) in
    (elim (begins key (suc m) b x) as (λ v. slice_get (cond v ((x ∷ R) ∷ runs_after key (suc m) (b ++ x ∷ []) xs) (runs_after key (suc m) (b ++ x ∷ []) xs)) i ≡ Some r → All P r) [
      | true ↦ elim i as (λ i. slice_get ((x ∷ R) ∷ runs_after key (suc m) (b ++ x ∷ []) xs) i ≡ Some r → All P r) [ zero ↦ λ e. subst (λ l. All P l) (some_same (x ∷ R) r e) run | suc i' ↦ λ e. runs_all key P m (b ++ x ∷ []) xs rest i' r e ]
      | false ↦ λ e. runs_all key P m (b ++ x ∷ []) xs rest i r e
    ]) e

-- each leg's ordinal is below the number of legs
ordinals_below : (before legs : List LegView) → CanFollowInTurn before legs → All (λ (l : LegView). l.ordinal < length before + length legs) legs
ordinals_below before [] h = All-nil (λ (l : LegView). l.ordinal < length before + length {A = LegView} [])
ordinals_below before (l ∷ legs) h =
    let P : LegView → Type 0 = λ l'. l'.ordinal < length before + suc (length legs) in
    let here : P l = let o = h.0.ordinal in omega (arith, o) in
    let later : All (λ (l' : LegView). l'.ordinal < length (before ++ l ∷ []) + length legs) legs = ordinals_below (before ++ l ∷ []) legs h.1 in
    All-cons P l legs here (λ k d i. let o = later k d i in omega (arith, o, length_push before l))

-- a leg that may follow legs in turn may join them
pub can_join : (legs : List LegView) (y : LegView) → CanFollowInTurn [] legs → CanFollow legs y → CanJoin legs y
can_join legs y in_turn w = λ k d h same. (let low = ordinals_below [] legs in_turn k d h in omega (arith, low, w.ordinal))

-- the elements of a run are of one key
run_key : {X : Type 0} (key : X → ℕ) (m : ℕ) (b xs : List X) (i : ℕ) (x : X) (r : List X) → slice_get (runs_after key (suc m) b xs) i ≡ Some (x ∷ r) → All (λ z. key z ≡ key x) (x ∷ r)
run_key key m b [] i y r e = absurd (some_none (y ∷ r) (sym e))
run_key {X} key m b (x ∷ xs) i y r e =
    let P : X → X → Type 0 = λ o z. key z ≡ key o in
    let R = take m (filter (same key (suc m) x) xs) in
    let mine : All (P x) (filter (same key (suc m) x) xs) = λ k d h. eqb-true _ _ (filter_passes (same key (suc m) x) xs k d h) in
    let run : All (P x) (x ∷ R) = All-cons (P x) x R refl (All-take (P x) m (filter (same key (suc m) x) xs) mine) in
    (elim (begins key (suc m) b x) as (λ v. slice_get (cond v ((x ∷ R) ∷ runs_after key (suc m) (b ++ x ∷ []) xs) (runs_after key (suc m) (b ++ x ∷ []) xs)) i ≡ Some (y ∷ r) → All (P y) (y ∷ r)) [
      | true ↦ elim i as (λ i. slice_get ((x ∷ R) ∷ runs_after key (suc m) (b ++ x ∷ []) xs) i ≡ Some (y ∷ r) → All (P y) (y ∷ r)) [
        | zero ↦ λ e.
            let l : x ∷ R ≡ y ∷ r = some_same (x ∷ R) (y ∷ r) e in
            let first : x ≡ y = cons_head x y R r l in
            subst (λ o. All (P o) (y ∷ r)) first (subst (λ l. All (P x) l) l run)
        | suc i' ↦ λ e. run_key key m (b ++ x ∷ []) xs i' y r e
      ]
      | false ↦ λ e. run_key key m (b ++ x ∷ []) xs i y r e
    ]) e

-- the last of a list
last_of : (legs : List LegView) (y : LegView) (P : LegView → Type 0) → All P (legs ++ y ∷ []) → P y
last_of [] y P all = all 0 y (omega arith)
last_of (l ∷ legs) y P all = last_of legs y P (λ j d h. all (suc j) d (omega (arith, h)))

-- the last leg of a run of a feature is below each of it that may join
last_below : (m : ℕ) (legs : List LegView) (y : LegView) (k : ℕ) (x : LegView) (xs : List LegView) (leaf : LeafView LegView) → CanJoin legs y → slice_get (leaves leg_feature (suc m) legs) k ≡ Some (x ∷ xs) → leg_feature x ≡ leg_feature y
    → leaf.legs ≡ x ∷ xs → (last : LegView) → slice_get leaf.legs (length leaf.legs - 1) ≡ Some last → last.ordinal < y.ordinal
last_below m legs y k x xs leaf w is owner same last at =
    let low = runs_all leg_feature (λ (l : LegView). l.feature ≡ y.feature → l.ordinal < y.ordinal) m [] legs w k (x ∷ xs) is in
    let mine = run_key leg_feature m [] legs k x xs is in
    let i = length leaf.legs - 1 in
    let here : slice_get (x ∷ xs) i ≡ Some last = ap (λ l. slice_get l i) (sym same) ∙ at in
    let within : i < length (x ∷ xs) = slice_get_within (x ∷ xs) i last here in
    let found : get_or (x ∷ xs) i last ≡ last = some_same _ _ (sym (slice_get-get_or (x ∷ xs) i last within) ∙ here) in
    let below = low i last within (mine i last within ∙ owner) in
    omega (arith, below, ap (λ (l : LegView). l.ordinal) found)

get_last : (legs : List LegView) (y : LegView) → slice_get (legs ++ y ∷ []) (length (legs ++ y ∷ []) - 1) ≡ Some y
get_last legs y = get-push_last legs y (length (legs ++ y ∷ []) - 1) (let n = length_push legs y in omega (arith, n))

-- legs that may join legs in turn go on from an ordinal that the first may come after
goes_on_in_turn : (f o : ℕ) (legs ys : List LegView) → ((y : LegView) → y.feature ≡ f → CanJoin legs y → o < y.ordinal) → All (λ y. y.feature ≡ f) ys → CanJoinInTurn legs ys → goes_on f o ys ≡ true
goes_on_in_turn f o legs [] low all w = refl
goes_on_in_turn f o legs (y ∷ ys) low all w =
    let own : y.feature ≡ f = all 0 y (omega arith) in
    let more : goes_on f y.ordinal ys ≡ true = goes_on_in_turn f y.ordinal (legs ++ y ∷ []) ys (λ y' own' w'. last_of legs y (λ l. l.feature ≡ y'.feature → l.ordinal < y'.ordinal) w' (own ∙ sym own')) (λ j d l. all (suc j) d (omega (arith, l))) w.1 in
    ap (λ b. b && (nat_lt o y.ordinal && goes_on f y.ordinal ys)) (eq-eqb _ _ own) ∙ ap (λ b. b && goes_on f y.ordinal ys) (lt-ltb _ _ (low y own w.0)) ∙ more

-- legs that may join legs are those of one leaf
pub of_one_leaf : (f : ℕ) (legs ys : List LegView) → All (λ y. y.feature ≡ f) ys → CanJoinInTurn legs ys → are_of_one_leaf ys ≡ true
of_one_leaf f legs [] all w = refl
of_one_leaf f legs (y ∷ ys) all w =
    let own : y.feature ≡ f = all 0 y (omega arith) in
    ap (λ g. goes_on g y.ordinal ys) own
    ∙ goes_on_in_turn f y.ordinal (legs ++ y ∷ []) ys (λ y' own' w'. last_of legs y (λ l. l.feature ≡ y'.feature → l.ordinal < y'.ordinal) w' (own ∙ sym own')) (λ j d l. all (suc j) d (omega (arith, l))) w.1

pub takes_legs : (m most f : ℕ) (legs ys : List LegView) (k : ℕ) (x : LegView) (xs : List LegView) (leaf : LeafView LegView) → All (λ y. y.feature ≡ f) ys → CanJoinInTurn legs ys → slice_get (leaves leg_feature (suc m) legs) k ≡ Some (x ∷ xs) → leg_feature x ≡ f
    → length (x ∷ xs) + length ys ≤ most → leaf.feature ≡ leg_feature x → leaf.legs ≡ x ∷ xs → TakesLegs most leaf ys
takes_legs m most f legs ys k x xs leaf all w is owner few of same =
    let i = length leaf.legs - 1 in
    let last = get_or leaf.legs i x in
    let at : slice_get leaf.legs i ≡ Some last = slice_get-get_or leaf.legs i x (omega (arith, ap length same)) in
    record {
      room = omega (arith, few, ap length same);
      last = last;
      is_last = at;
      go_on = subst (λ g. goes_on g last.ordinal ys ≡ true) (sym (of ∙ owner)) (goes_on_in_turn f last.ordinal legs ys (λ y own c. last_below m legs y k x xs leaf c is (owner ∙ sym own) same last at) all w);
    }

pub both_true : (a b : Bool) → (a && b) ≡ true → (a ≡ true) × (b ≡ true)
both_true true b e = (refl, e)
both_true false b e = absurd (true≢false (sym e))

below_of : (a b : ℕ) → nat_lt a b ≡ true → a < b
below_of a b e = grind (arith, nat_tests, e)

-- a leaf that takes legs takes the first one, and then the others
module _ (node : Option (Node LegView BoxView)) (y : LegView) (ys : List LegView) (t : Takes node 50 (y ∷ ys)) where
  goes : (t.leaf.feature ≡ y.feature) × (t.takes.last.ordinal < y.ordinal) × (goes_on y.feature y.ordinal ys ≡ true)
  goes =
      let o = t.takes.last.ordinal in
      let f = t.leaf.feature in
      let a = both_true (y.feature == f) (nat_lt o y.ordinal && goes_on f y.ordinal ys) t.takes.go_on in
      let b = both_true (nat_lt o y.ordinal) (goes_on f y.ordinal ys) a.1 in
      let own : y.feature ≡ f = eqb-true _ _ a.0 in
      (sym own, below_of o y.ordinal b.0, ap (λ g. goes_on g y.ordinal ys) own ∙ b.1)

  pub takes_first : (leaf : LeafView LegView) → as_leaf node ≡ Some leaf → TakesLeg leaf y
  takes_first leaf e =
      let same : t.leaf ≡ leaf = some_same t.leaf leaf (sym (ap (λ n. as_leaf n) t.is) ∙ e) in
      let here : TakesLeg t.leaf y = record {
        room = (let r = t.takes.room in omega (arith, r));
        feature = sym goes.0;
        above = λ last at. (let g = goes.1 in let u = some_same t.takes.last last (sym t.takes.is_last ∙ at) in omega (arith, g, ap (λ (l : LegView). l.ordinal) u));
      } in
      subst (λ l. TakesLeg l y) same here

  module _ (new : Option (Node LegView BoxView)) (e : new ≡ option_map (leaf_with_leg y) (as_leaf node)) where
    pushed : new ≡ Some (ALeaf (with_leg y t.leaf))
    pushed = e ∙ ap (λ n. option_map (leaf_with_leg y) (as_leaf n)) t.is

    pub takes_rest : Takes new 50 ys
    takes_rest = record {
      leaf = with_leg y t.leaf;
      is = pushed;
      takes = record {
        room = (let r = t.takes.room in let n = length_push t.leaf.legs y in omega (arith, r, n));
        last = y;
        is_last = get_last t.leaf.legs y;
        go_on = ap (λ g. goes_on g y.ordinal ys) goes.0 ∙ goes.2;
      };
    }

    pub makes_rest : option_map (leaf_with_legs ys) (as_leaf new) ≡ option_map (leaf_with_legs (y ∷ ys)) (as_leaf node)
    makes_rest =
        ap (λ n. option_map (leaf_with_legs ys) (as_leaf n)) pushed
        ∙ ap (λ l. Some (ALeaf (record t.leaf { legs = l }))) (append_assoc t.leaf.legs (y ∷ []) ys)
        ∙ sym (ap (λ n. option_map (leaf_with_legs (y ∷ ys)) (as_leaf n)) t.is)
