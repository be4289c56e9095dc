-- The way along the chain of a feature.
use Rattle.std.proofs.Common.{◌≡◌, ℕ, zero, suc, ◌+◌, ◌<◌, List, [], ◌∷◌, length, drop, Option, Some, None, Bool, false, Result, Ok, slice_get, refl, sym, ap, ◌∙◌, arith, subst}
use Rattle.std.proofs.lemmas.Bool.{true≢false}
use Rattle.std.specs.declared.alloc.AllocError.{AllocError}
use Rattle.legs.specs.Boxes.{BoxView}
use Rattle.legs.specs.Hull.{both, hull, leg_boxes}
use Rattle.legs.specs.Legs.{LegView}
use Rattle.tbtree.specs.Descent.{legs_in}
use Rattle.tbtree.specs.Nodes.{Pages, Node, LeafView, InnerView, ALeaf, AnInner}
use Rattle.tbtree.specs.Turn.{ComeInTurn}
use Rattle.tbnode.specs.Nodes.{as_leaf, as_inner}
use Rattle.treecheck.specs.Check.{IsLeafOf}
use Rattle.treecheck.specs.Walking.{after, IsNextNode, Notes, TakesLeaf, TakesNext}
use Rattle.treecheck.specs.declared.walking.Survey.{Survey}
use Rattle.treecheck.specs.declared.walking.Walk.{Walk}

pub drop_at : {X : Type 0} (xs : List X) (i : ℕ) (x : X) → slice_get xs i ≡ Some x → drop i xs ≡ x ∷ drop (i + 1) xs
drop_at [] i x e = let none : None ≡ Some x = e in absurd (cc)
drop_at (y ∷ ys) zero x e = let same : Some y ≡ Some x = e in let s : y ≡ x = cc in ap (λ z. z ∷ ys) s
drop_at (y ∷ ys) (suc i) x e = let s : suc (i + 1) ≡ suc i + 1 = omega arith in drop_at ys i x e ∙ ap (λ n. x ∷ drop n (y ∷ ys)) s

pub turn_next : (f rows : ℕ) (last : Option LegView) (leg : LegView) (rest : List LegView) → ComeInTurn f rows last (leg ∷ []) → ComeInTurn f rows (Some leg) rest → ComeInTurn f rows last (leg ∷ rest)
turn_next f rows last leg rest h r = (h.0, h.1, h.2, r)

pub turn_first : (f rows : ℕ) (last : Option LegView) (leg : LegView) (rest : List LegView) → ComeInTurn f rows last (leg ∷ rest) → ComeInTurn f rows last (leg ∷ [])
turn_first f rows last leg rest h = (h.0, h.1, h.2, tt)

pub turn_rest : (f rows : ℕ) (last : Option LegView) (leg : LegView) (rest : List LegView) → ComeInTurn f rows last (leg ∷ rest) → ComeInTurn f rows (Some leg) rest
turn_rest f rows last leg rest h = h.3

drop_end : (legs : List LegView) (i : ℕ) → length legs ≡ i → drop i legs ≡ []
drop_end [] zero e = refl
drop_end [] (suc i) e = absurd (omega arith)
drop_end (x ∷ legs) zero e = absurd (omega arith)
drop_end (x ∷ legs) (suc i) e = drop_end legs i (omega arith)

drop_next : (legs : List LegView) (i : ℕ) (leg : LegView) → slice_get legs i ≡ Some leg → drop i legs ≡ leg ∷ drop (suc i) legs
drop_next legs i leg e = let s : i + 1 ≡ suc i = omega arith in drop_at legs i leg e ∙ ap (λ n. leg ∷ drop n legs) s

-- the least box of legs, from the last one on
pub hull_at_end : (legs : List LegView) (i : ℕ) (leg : LegView) → suc i ≡ length legs → slice_get legs i ≡ Some leg → hull leg_boxes (drop i legs) ≡ Some (leg_boxes.of leg)
hull_at_end legs i leg end at = ap (hull leg_boxes) (drop_next legs i leg at) ∙ ap (λ rest. both leg_boxes (Some (leg_boxes.of leg)) (hull leg_boxes rest)) (drop_end legs (suc i) (sym end))

pub hull_before : (legs : List LegView) (i : ℕ) (leg : LegView) (b : BoxView) → slice_get legs i ≡ Some leg → hull leg_boxes (drop (suc i) legs) ≡ Some b → hull leg_boxes (drop i legs) ≡ Some (leg_boxes.cover (leg_boxes.of leg) b)
hull_before legs i leg b at held = ap (hull leg_boxes) (drop_next legs i leg at) ∙ ap (both leg_boxes (Some (leg_boxes.of leg))) held

pub same_some : {X : Type 0} (x y : X) → Some x ≡ Some y → x ≡ y
same_some {X} x y e = ap (λ (o : Option X). elim o as (λ _. X) [ Some z ↦ z | None ↦ x ]) e

-- what is read as a leaf is one, and what is not so read is none
leaf_is : (node : Option (Node LegView BoxView)) (leaf : LeafView LegView) → as_leaf node ≡ Some leaf → Some (ALeaf leaf) ≡ node
leaf_is None leaf e = let none : None ≡ Some leaf = e in absurd (cc)
leaf_is (Some (ALeaf l)) leaf e = ap (λ l. Some (ALeaf l)) (sym (same_some l leaf e))
leaf_is (Some (AnInner p)) leaf e = let none : None ≡ Some leaf = e in absurd (cc)

pub inner_is : (node : Option (Node LegView BoxView)) (inner : InnerView BoxView) → as_inner node ≡ Some inner → Some (AnInner inner) ≡ node
inner_is None inner e = let none : None ≡ Some inner = e in absurd (cc)
inner_is (Some (ALeaf l)) inner e = let none : None ≡ Some inner = e in absurd (cc)
inner_is (Some (AnInner p)) inner e = ap (λ p. Some (AnInner p)) (sym (same_some p inner e))

module _ (most rows : ℕ) (node : Option (Node LegView BoxView)) (walk next : Walk) (old new : Survey) where
  pub takes_leaf : (leaf : LeafView LegView) (result : Result Bool AllocError) → as_leaf node ≡ Some leaf → TakesNext most rows (Some (ALeaf leaf)) walk next old new result → TakesNext most rows node walk next old new result
  takes_leaf leaf result e h = subst (λ node. TakesNext most rows node walk next old new result) (leaf_is node leaf e) h

  pub takes_none : None ≡ as_leaf node → TakesNext most rows node walk next old new (Ok false)
  takes_none none = record {
    taken = λ t. absurd (true≢false (sym t));
    whole = λ h. let e : None ≡ Some h.0.leaf = none ∙ ap as_leaf h.0.is in absurd (cc);
  }

  -- a page that has the node is the next leaf of its chain just where the node is the next leaf of the way
  module _ (nodes : Pages LegView BoxView) (at : nodes.at walk.page ≡ Some node) where
    pub page_taken : 0 < walk.left → 0 < walk.page → walk.page < nodes.count
        → (IsNextNode most walk node × ComeInTurn walk.feature rows walk.last (legs_in (Some node))) × ((next ≡ after most walk (Some node)) × Notes (Some node) walk.page old new)
        → TakesLeaf nodes most rows walk next old new
    page_taken some above within h =
        let n = h.0.0 in
        record {
          leaf = record { leaf = n.leaf; some = some; above = above; within = within; is = at ∙ ap (λ node. Some node) n.is; feature_is = n.feature_is; previous_is = n.previous_is; count_is = n.count_is };
          turn = subst (λ at. ComeInTurn walk.feature rows walk.last (legs_in at)) (sym at) h.0.1;
          next_is = h.1.0 ∙ ap (after most walk) (sym at);
          notes = subst (λ at. Notes at walk.page old new) (sym at) h.1.1;
        }

    pub page_next : IsLeafOf nodes most walk.feature walk.previous walk.left walk.page × ComeInTurn walk.feature rows walk.last (legs_in (nodes.at walk.page))
        → IsNextNode most walk node × ComeInTurn walk.feature rows walk.last (legs_in (Some node))
    page_next h =
        let l = h.0 in (
          record { leaf = l.leaf; is = same_some node (Some (ALeaf l.leaf)) (sym at ∙ l.is); feature_is = l.feature_is; previous_is = l.previous_is; count_is = l.count_is },
          subst (λ at. ComeInTurn walk.feature rows walk.last (legs_in at)) at h.1,
        )
