-- Legs leaf by leaf may be put into an index, and leave what they leave in their own order.
use Rattle.std.proofs.Common.{ℕ, suc, ◌+◌, ◌%◌, ◌<◌, ◌≤◌, ◌≡◌, ◌≢◌, ◌==◌, max, Bool, true, false, cond, List, [], ◌∷◌, ◌++◌, All, length, refl, sym, ap, ◌∙◌, arith, subst, append_assoc, ⊎_elim, eq-eqb, lt-ltb, le-ltb, get_or}
use Rattle.std.specs.List.{filter, count_by}
use Rattle.std.specs.List.Sorted.{IsPermutation}
use Rattle.std.proofs.Math.Nat.{zero-mod}
use Rattle.std.proofs.lemmas.Bool.{cases_eq, cases_lt}
use Rattle.std.proofs.lemmas.List.{append-nil}
use Rattle.std.proofs.lemmas.List.Elements.{filter-append}
use Rattle.std.proofs.lemmas.List.Sums.{fold-append, length-filter}
use Rattle.std.proofs.lemmas.List.Sorted.{IsPermutation-sym, All-permutation, length_permutation, IsPermutation-append_right}
use Rattle.std.proofs.lemmas.Option.{slice_get_within, slice_get-get_or}
use Rattle.legs.specs.Blocks.{begins, leaves}
use Rattle.legs.specs.Boxes.{BoxView}
use Rattle.legs.specs.Costs.{leg_feature, leaves_of}
use Rattle.legs.specs.Hull.{leg_boxes}
use Rattle.legs.specs.Index.{CanFollowInTurn, feature_count}
use Rattle.legs.specs.Legs.{LegView}
use Rattle.tbtree.specs.Turn.{IsPast, IsRising}
use Rattle.tbtree.specs.Joining.{CanJoin, CanTakeInTurn, Holds}
use Rattle.tbtree.specs.Insert.{IsPlace, Stands}
use Rattle.tbtree.specs.Nodes.{Pages}
use Rattle.tbtree.proofs.TurnOrders.{put_in, put_all, elements, run_for, with_last, numbered, leaf_by_leaf}
use Rattle.tbtree.specs.Stands.{TreeStands, PlaceStands, marks}
use Rattle.tbtree.specs.declared.tree.Place.{Place}
use Rattle.tbtree.specs.declared.tree.TbTree.{TbTree}
use Rattle.tbtree.proofs.BlockOrder.{Each, IsUpFrom, PassesOthers, IsPut, ahead, count_differ, passes, begun_last, next_put, order_kept, order_moves, order_runs, start}
use Rattle.legs.proofs.GroupLemmas.{some_same}
use Rattle.tbtree.proofs.HeldLemmas.{get_append, none_beyond, numbers_rise}
use Rattle.tbtree.proofs.KeyRuns.{is}
use Rattle.tbtree.proofs.OrdinalOrder.{all_from_get}
use Rattle.tbtree.proofs.RisingLists.{in_filter}
use Rattle.tbtree.proofs.RoomLemmas.{push_other}
use Rattle.tbtree.proofs.SortLemmas.{number}
use Rattle.tbtree.proofs.TurnLemmas.{counted, count_most, get_split, rising_get}

module _ {X : Type 0} (key : X → ℕ) where
  -- each key is at most the number of those so far
  abbrev Fits : ℕ → List X → Type 0
  Fits c [] = Unit {0}
  Fits c (x ∷ xs) = (key x ≤ c) × Fits (max c (key x + 1)) xs

  fits_shift : (c : ℕ) (x : X) (vs s : List X) → key x < c → Fits c (vs ++ x ∷ s) → Fits c (x ∷ (vs ++ s))
  fits_shift c x [] s l h = h
  fits_shift c x (v ∷ vs) s l h =
      let on = fits_shift (max c (key v + 1)) x vs s (omega (arith, l)) h.1 in
      let same : max (max c (key v + 1)) (key x + 1) ≡ max (max c (key x + 1)) (key v + 1) = omega arith in
      (omega (arith, l), ((let k = h.0 in omega (arith, k)), subst (λ c. Fits c (vs ++ s)) same on.1))

  -- c is the number of keys of some elements
  abbrev Bounds : ℕ → List X → Type 0
  Bounds c b = (f : ℕ) → count_by (is key f) b ≢ 0 → f < c

  bounds_more : (c : ℕ) (b : List X) (v : X) → Bounds c b → Bounds (max c (key v + 1)) (b ++ v ∷ [])
  bounds_more c b v h f some =
      ⊎_elim
      (λ (e : key v ≡ f). omega (arith, e))
      (λ (u : key v ≢ f). let l = h f (λ z. some (push_other key 0 f b v u ∙ z)) in omega (arith, l))
      (cases_eq (key v) f)

  module _ (n : ℕ) where
    there : (c : ℕ) (b : List X) (x : X) → Bounds c b → begins key n b x ≡ false → key x < c
    there c b x h e = h (key x) (λ z. let t : begins key n b x ≡ true = eq-eqb _ 0 (ap (λ k. k % n) z ∙ zero-mod n) in subst (λ v. cond v (Unit {0}) ⊥) (sym t ∙ e) tt)

    put_fits : (a : ℕ) (x : X) (b : List X) (c d : ℕ) (ps : List (ℕ × X)) (s : List X) → IsUpFrom d ps → PassesOthers key n a x ps → (begins key n (b ++ elements ps) x ≡ true → Each (λ (p : ℕ × X). p.0 ≤ a) ps)
        → Bounds c b → Fits c (elements ps ++ x ∷ s) → Fits c (elements (put_in (a, x) ps) ++ s)
    put_fits a x b c d [] s u h last k fits = fits
    put_fits a x b c d (p ∷ ps) s u h last k fits =
        ⊎_elim
        (λ (l : a < p.0).
        let differ = ahead key n a x (p.0) (p ∷ ps) (omega arith, u.1) l h in
        let same : begins key n (b ++ elements (p ∷ ps)) x ≡ begins key n b x = ap (λ k. k % n == 0) (count_differ key x b (elements (p ∷ ps)) differ) in
        let goes : begins key n b x ≡ false = (elim (begins key n b x) as (λ v. begins key n b x ≡ v → v ≡ false) [
          | true ↦ λ e. absurd (let z = (last (same ∙ e)).0 in omega (arith, z, l))
          | false ↦ λ e. refl
        ]) refl in
        subst (λ v. Fits c (elements (cond v ((a, x) ∷ p ∷ ps) (p ∷ put_in (a, x) ps)) ++ s)) (sym (lt-ltb a (p.0) l))
        (fits_shift c x (elements (p ∷ ps)) s (there c b x k goes) fits))
        (λ (l : p.0 ≤ a).
        let further : begins key n ((b ++ p.1 ∷ []) ++ elements ps) x ≡ true → Each (λ (p : ℕ × X). p.0 ≤ a) ps = λ e. (last (ap (λ l. begins key n l x) (sym (append_assoc b (p.1 ∷ []) (elements ps))) ∙ e)).1 in
        subst (λ v. Fits c (elements (cond v ((a, x) ∷ p ∷ ps) (p ∷ put_in (a, x) ps)) ++ s)) (sym (le-ltb a (p.0) l))
        (fits.0, put_fits a x (b ++ p.1 ∷ []) (max c (key p.1 + 1)) (p.0) ps s u.1 h.1 further (bounds_more c b (p.1) k) fits.1))
        (cases_lt a (p.0))

    all_fits : (b : List X) (c : ℕ) (out : List (ℕ × X)) (last : ℕ → ℕ) (before : List X) (made : ℕ) (xs : List X) → IsPut key n b out last before made → Bounds c b → Fits c (elements out ++ xs) → Fits c (elements (put_all out (numbered key n last before made xs)))
    all_fits b c out last before made [] h k fits = subst (λ l. Fits c l) (append-nil (elements out)) fits
    all_fits b c out last before made (x ∷ xs) h k fits =
        let v = run_for key n last before made x in
        all_fits b c (put_in (v, x) out) (with_last key n last (key x) v) (before ++ x ∷ []) (suc made) xs (next_put key n b out last before made x h) k
        (put_fits v x b c 0 out xs h.up (passes key n b out last before made x h) (begun_last key n b out last before made x h) k fits)

feature_count-push : (legs : List LegView) (leg : LegView) → feature_count (legs ++ leg ∷ []) ≡ max (feature_count legs) (leg.feature + 1)
feature_count-push legs leg = fold-append (λ count l. max count (l.feature + 1)) 0 legs (leg ∷ [])

fits_in_turn : (before legs : List LegView) → CanFollowInTurn before legs → Fits leg_feature (feature_count before) legs
fits_in_turn before [] h = tt
fits_in_turn before (x ∷ legs) h = (h.0.feature, subst (λ c. Fits leg_feature c legs) (feature_count-push before x) (fits_in_turn (before ++ x ∷ []) legs h.1))

pub turn_join : (b before legs : List LegView) → CanFollowInTurn b before → CanFollowInTurn (b ++ before) legs → CanFollowInTurn b (before ++ legs)
turn_join b [] legs h k = subst (λ l. CanFollowInTurn l legs) (append-nil b) k
turn_join b (x ∷ before) legs h k = (h.0, turn_join (b ++ x ∷ []) before legs h.1 (subst (λ l. CanFollowInTurn l legs) (sym (append_assoc b (x ∷ []) before)) k))

past_filter : (p : LegView → Bool) (a : ℕ) (legs : List LegView) → IsPast number a legs → IsPast number a (filter p legs)
past_filter p a [] h = tt
past_filter p a (x ∷ legs) h = elim (p x) as (λ v. IsPast number a (cond v (x ∷ filter p legs) (filter p legs))) [ true ↦ (h.0, past_filter p a legs h.1) | false ↦ past_filter p a legs h.1 ]

rising_filter : (p : LegView → Bool) (legs : List LegView) → IsRising number legs → IsRising number (filter p legs)
rising_filter p [] h = tt
rising_filter p (x ∷ legs) h = elim (p x) as (λ v. IsRising number (cond v (x ∷ filter p legs) (filter p legs))) [ true ↦ (past_filter p (number x) legs h.0, rising_filter p legs h.1) | false ↦ rising_filter p legs h.1 ]

-- each feature's ordinals rise
abbrev Rise : List LegView → Type 0
Rise legs = (f : ℕ) → IsRising number (filter (is leg_feature f) legs)

joins_next : (before : List LegView) (y : LegView) (legs : List LegView) → Rise (before ++ y ∷ legs) → CanJoin before y
joins_next before y legs r =
    let f = y.feature in
    let mine : List LegView = filter (is leg_feature f) before in
    let rest : List LegView = filter (is leg_feature f) legs in
    let own : filter (is leg_feature f) (y ∷ legs) ≡ y ∷ rest = ap (λ v. cond v (y ∷ rest) rest) (eq-eqb f f refl) in
    let split : filter (is leg_feature f) (before ++ y ∷ legs) ≡ mine ++ y ∷ rest = filter-append (is leg_feature f) before (y ∷ legs) ∙ ap (λ l. mine ++ l) own in
    let up : IsRising number (mine ++ y ∷ rest) = subst (λ l. IsRising number l) split (r f) in
    all_from_get (λ (l : LegView). l.feature ≡ y.feature → l.ordinal < y.ordinal) before (λ i l e same.
    let at = in_filter (is leg_feature f) before i l e (eq-eqb _ _ same) in
    rising_get number (mine ++ y ∷ rest) (at.0) (length mine) l y up (get_append mine (y ∷ rest) (at.0) l at.1) (get_split mine y rest) (slice_get_within mine (at.0) l at.1))

take_in_turn : (before legs : List LegView) → Rise (before ++ legs) → Fits leg_feature (feature_count before) legs → CanTakeInTurn before legs
take_in_turn before [] r f = tt
take_in_turn before (y ∷ legs) r f = (
  record { joins = joins_next before y legs r; feature = f.0 },
  take_in_turn (before ++ y ∷ []) legs (subst (λ l. Rise l) (sym (append_assoc before (y ∷ []) legs)) r) (subst (λ c. Fits leg_feature c legs) (sym (feature_count-push before y)) f.1),
)

count_below : (legs : List LegView) → Bounds leg_feature (feature_count legs) legs
count_below legs f some =
    ⊎_elim (λ (l : f < feature_count legs). l)
    (λ (l : feature_count legs ≤ f). absurd (some (sym (length-filter (is leg_feature f) legs) ∙ ap length (none_beyond legs f l))))
    (cases_lt f (feature_count legs))

-- pages that hold legs, the last of them leaf by leaf, stand for them in their own order
pub record IsReordered (nodes : Pages LegView BoxView) (tree : TbTree)
    (before legs turns : List LegView) (pages : ℕ → List ℕ) : Type 0 where
  pub stands : Stands nodes tree (before ++ legs) pages
  pub places : (f : ℕ) (place : Place) → IsPlace tree (before ++ turns) pages f place
      → IsPlace tree (before ++ legs) pages f place
  pub as_many : length (before ++ turns) ≡ length (before ++ legs)
  pub features : feature_count (before ++ turns) ≡ feature_count (before ++ legs)

module _ (leaf : ℕ) (before legs : List LegView) where
  abbrev turns : List LegView
  turns = leaf_by_leaf leaf before legs

  low : (f : ℕ) → count_by (is leg_feature f) before % leaf ≢ 0 → f < feature_count before
  low f u = count_below before f (λ z. u (ap (λ k. k % leaf) z ∙ zero-mod leaf))

  kept : (f : ℕ) → filter (is leg_feature f) turns ≡ filter (is leg_feature f) legs
  kept = order_kept leg_feature leaf (feature_count before) before legs low

  kept_behind : (f : ℕ) → filter (is leg_feature f) (before ++ turns) ≡ filter (is leg_feature f) (before ++ legs)
  kept_behind f = filter-append (is leg_feature f) before turns ∙ ap (λ l. filter (is leg_feature f) before ++ l) (kept f) ∙ sym (filter-append (is leg_feature f) before legs)

  moves : IsPermutation (before ++ turns) (before ++ legs)
  moves = IsPermutation-append_right before turns legs (order_moves leg_feature leaf (feature_count before) before legs low)

  pub turns_taken : CanFollowInTurn [] before → CanFollowInTurn before legs → CanTakeInTurn before turns
  turns_taken h k =
      take_in_turn before turns
      (λ f. subst (λ l. IsRising number l) (sym (kept_behind f)) (rising_filter (is leg_feature f) (before ++ legs) (numbers_rise (before ++ legs) (turn_join [] before legs h k))))
      (all_fits leg_feature leaf before (feature_count before) [] (λ f. f) before (feature_count before) legs (start leg_feature leaf (feature_count before) before legs low) (count_below before) (fits_in_turn before legs k))

  features_most : (xs ys : List LegView) → IsPermutation xs ys → feature_count ys ≤ feature_count xs
  features_most xs ys p =
      let all : All (λ (l : LegView). l.feature < feature_count xs) ys = All-permutation (λ (l : LegView). l.feature < feature_count xs) xs ys p (all_from_get (λ (l : LegView). l.feature < feature_count xs) xs (λ i l e. (let c = counted xs i l e in omega (arith, c)))) in
      count_most (feature_count xs) ys (λ i l e.
      let within = slice_get_within ys i l e in
      let same : get_or ys i l ≡ l = some_same _ _ (sym (slice_get-get_or ys i l within) ∙ e) in
      subst (λ (l : LegView). l.feature < feature_count xs) same (all i l within))

  pub reordered : (nodes : Pages LegView BoxView) (tree : TbTree) (pages : ℕ → List ℕ) → tree.shape.leaf ≡ leaf → CanFollowInTurn [] before → CanFollowInTurn before legs → Holds nodes tree (before ++ turns) pages → IsReordered nodes tree before legs turns pages
  reordered nodes tree pages e h k held =
      let same : leaves_of tree.shape (before ++ turns) ≡ leaves_of tree.shape (before ++ legs) =
      ap (λ n. leaves leg_feature n (before ++ turns)) e ∙ order_runs leg_feature leaf (feature_count before) before legs low ∙ ap (λ n. leaves leg_feature n (before ++ legs)) (sym e) in
      record {
        stands = record {
          in_turn = turn_join [] before legs h k;
          tree_stands = subst (λ rs. TreeStands leg_boxes leg_feature tree.shape.inner tree.levels tree.root nodes rs pages) same held.tree_stands;
          leaves_are = held.leaves_are ∙ ap length same;
        };
        places = λ f place p. (
            let q = subst (λ rs. PlaceStands leg_feature (before ++ turns) (marks leg_feature rs (pages 0)) f place) same p in
            record {
              first = q.first;
              last = q.last;
              legs_are = q.legs_are ∙ sym (length-filter (is leg_feature f) (before ++ turns)) ∙ ap length (kept_behind f) ∙ length-filter (is leg_feature f) (before ++ legs);
              last_index = q.last_index;
              none = q.none;
            }
            );
        as_many = sym (length_permutation (before ++ turns) (before ++ legs) moves);
        features = (
            let a = features_most (before ++ turns) (before ++ legs) moves in
            let b = features_most (before ++ legs) (before ++ turns) (IsPermutation-sym (before ++ turns) (before ++ legs) moves) in
            omega (arith, a, b)
            );
      }
