-- The leaf at the end of the way takes legs.
use Rattle.std.proofs.Common.{ℕ, suc, ◌/◌, ◌<◌, ◌^◌, ◌≡◌, ◌≢◌, List, ◌∷◌, ◌++◌, set, map, length, refl, sym, ap, ◌∙◌, arith, subst, ⊎_elim, Option, Some, None, slice_get}
use Rattle.std.specs.Prelude.{Result, Ok, Err, OnOk, IfErr}
use Rattle.std.specs.List.{zip}
use Rattle.std.proofs.Math.Nat.{pow-zero, div-one}
use Rattle.std.proofs.lemmas.Bool.{cases_eq}
use Rattle.std.proofs.lemmas.List.{length-set, map-set}
use Rattle.std.proofs.lemmas.Option.{slice_get_within, slice_get-map}
use Rattle.legs.specs.Blocks.{groups, level}
use Rattle.legs.specs.Hull.{Boxes, hull}
use Rattle.tbtree.proofs.LawfulBoxes.{AreLawful}
use Rattle.tbtree.specs.Nodes.{Pages, ALeaf, LeafView, Pushes, HasLeafRoom, with_legs}
use Rattle.tbtree.specs.Stands.{page_at, owner, marks, leaf_of, LeavesStand, NumbersStand, TreeStands}
use Rattle.tbtree.specs.Way.{Going, IsWidened, IsOnWay}
use Rattle.tbtree.specs.Faults.{MayRefuseWrite}
use Rattle.tbtree.specs.declared.fault.TreeFault.{TreeFault}
use Rattle.tbtree.specs.Insert.{Grows}
use Rattle.legs.proofs.GroupLemmas.{some_same}
use Rattle.tbtree.proofs.RoomLemmas.{set_same}
use Rattle.tbtree.proofs.Widening.{get-set_same, get-set_other, groups_set, leaf_inner, leaf_same, pow_above}
use Rattle.tbtree.proofs.WiderLemmas.{becomes_held, wider_grown, keep_inner}
use Rattle.tbtree.proofs.WayLemmas.{one_level}

module _ {L : Type 0} (feature : L → ℕ) where
  -- a leaf that grows keeps its feature, and with it all links
  pub marks_grown : (runs : List (List L)) (i : ℕ) (x : L) (xs ys : List L) (ps : List ℕ) → slice_get runs i ≡ Some (x ∷ xs) → marks feature (set runs i ((x ∷ xs) ++ ys)) ps ≡ marks feature runs ps
  marks_grown runs i x xs ys ps e =
      let at : slice_get (map (owner feature) runs) i ≡ Some (feature x) = slice_get-map (owner feature) runs i ∙ ap (λ (o : Option (List L)). elim o as (λ _. Option ℕ) [ Some r ↦ Some (owner feature r) | None ↦ None ]) e in
      ap (λ os. zip os ps) (map-set (owner feature) runs i ((x ∷ xs) ++ ys) ∙ set_same (map (owner feature) runs) i (feature x) at)

module _ {L B : Type 0} (feature : L → ℕ) (inner levels root count : ℕ) (pages : ℕ → List ℕ) where
  grow_leaves : (runs : List (List L)) (old new : Pages L B) (i c : ℕ) (x : L) (xs ys : List L) → Pushes old c ys new → NumbersStand inner levels root count runs pages → page_at pages 0 i ≡ Some c → slice_get runs i ≡ Some (x ∷ xs)
      → LeavesStand old feature runs (pages 0) → LeavesStand new feature (set runs i ((x ∷ xs) ++ ys)) (pages 0)
  grow_leaves runs old new i c x xs ys w n at ri v j p r a b =
      let ps = pages 0 in
      let run' = (x ∷ xs) ++ ys in
      let m : marks feature (set runs i run') ps ≡ marks feature runs ps = marks_grown feature runs i x xs ys ps ri in
      ⊎_elim
      (λ (e : j ≡ i).
      let u : p ≡ c = some_same p c (sym a ∙ ap (slice_get ps) e ∙ at) in
      let q : r ≡ run' = some_same r run' (sym b ∙ ap (slice_get (set runs i run')) e ∙ get-set_same runs i run' (x ∷ xs) ri) in
      let was : w.leaf ≡ leaf_of (feature x) (marks feature runs ps) i (x ∷ xs) = leaf_same B _ _ (some_same _ _ (sym w.was ∙ v i c (x ∷ xs) at ri)) in
      ap new.at u ∙ w.becomes.now
      ∙ ap (λ (l : LeafView L). Some (Some (ALeaf (with_legs ys l)))) was
      ∙ ap (λ ms. Some (Some (ALeaf (leaf_of (feature x) ms i run')))) (sym m)
      ∙ ap (λ j. Some (Some (ALeaf (leaf_of (feature x) (marks feature (set runs i run') ps) j run')))) (sym e)
      ∙ ap (λ r. Some (Some (ALeaf (leaf_of (owner feature r) (marks feature (set runs i run') ps) j r)))) (sym q))
      (λ (e : j ≢ i).
      let u : p ≢ c = λ u. e (n.apart 0 j 0 i c (a ∙ ap Some u) at).1 in
      w.becomes.rest p u ∙ v j p r a (sym (get-set_other runs i j run' e) ∙ b)
      ∙ ap (λ ms. Some (Some (ALeaf (leaf_of (owner feature r) ms j r)))) (sym m))
      (cases_eq j i)

module _ {L : Type 0} (inner levels root count : ℕ) (pages : ℕ → List ℕ) where
  grow_numbers : (runs : List (List L)) (i : ℕ) (r ys : List L) → 0 < inner → slice_get runs i ≡ Some r
      → NumbersStand inner levels root count runs pages → NumbersStand inner levels root count (set runs i (r ++ ys)) pages
  grow_numbers runs i r ys h ri n =
      let il : i < length runs = slice_get_within runs i r ri in
      let as_many : (k : ℕ) → length (level inner k (set runs i (r ++ ys))) ≡ length (level inner k runs) = λ k. ap length (groups_set (inner ^ k) runs i (r ++ ys) (pow_above inner k h) il) ∙ length-set (groups (inner ^ k) runs) _ _ in
      record {
        page_0 = n.page_0;
        one_each = λ k l. n.one_each k l ∙ sym (as_many k);
        no_more = n.no_more;
        below_top = λ k l. omega (arith, as_many k, n.below_top k l);
        top = λ k e. (as_many k ∙ (n.top k e).0, (n.top k e).1);
        empty = λ e. absurd (let z = ap length (n.empty e).0 in omega (arith, z, il));
        within = n.within;
        apart = n.apart;
      }

module _ {L B : Type 0} (s : Boxes L B) (laws : AreLawful s) (feature : L → ℕ) (inner levels root : ℕ) where
  -- what has run i with ys
  abbrev with : List (List L) → ℕ → L → List L → List L → List (List L)
  with runs i x xs ys = set runs i ((x ∷ xs) ++ ys)

  -- the way to the leaf of a run that grows
  grow_going : (old : Pages L B) (i : ℕ) (ys : List L) (box : B) (runs : List (List L)) (pages : ℕ → List ℕ) (x : L) (xs : List L) → 0 < inner → hull s ys ≡ Some box → slice_get runs i ≡ Some (x ∷ xs) → TreeStands s feature inner levels root old runs pages
      → Going s inner levels root old 0 i box runs (with runs i x xs ys) pages old.count i
  grow_going old i ys box runs pages x xs h b ri t = record {
    block = sym (ap (λ n. i / n) (pow-zero inner) ∙ div-one i);
    wider = λ k l. wider_grown s laws (inner ^ k) runs i (x ∷ xs) ys box (pow_above inner k h) b ri;
    numbers = t.numbers;
    above = λ k l. t.inners k;
  }

  -- its page is still as it was
  grow_leaf : (old mid : Pages L B) (i c : ℕ) (runs after : List (List L)) (pages : ℕ → List ℕ) → TreeStands s feature inner levels root old runs pages → IsWidened s inner old mid after pages 0 i c → LeavesStand mid feature runs (pages 0)
  grow_leaf old mid i c runs after pages t o j p r a b = o.kept.same p (one_level inner levels root old.count runs pages t.numbers 0 0 j p a (omega arith)) ∙ t.leaves j p r a b

  -- the leaf takes the legs, and the nodes stand for the runs with them
  grow : (old mid new : Pages L B) (i c : ℕ) (ys : List L) → 0 < inner → Pushes mid c ys new → (runs : List (List L)) (pages : ℕ → List ℕ) (x : L) (xs : List L) → slice_get runs i ≡ Some (x ∷ xs)
      → TreeStands s feature inner levels root old runs pages → IsWidened s inner old mid (with runs i x xs ys) pages 0 i c → TreeStands s feature inner levels root new (with runs i x xs ys) pages
  grow old mid new i c ys h w runs pages x xs ri t o =
      let n = t.numbers in
      let len : new.count ≡ old.count = w.counted ∙ o.kept.as_many in
      let v = grow_leaf old mid i c runs (with runs i x xs ys) pages t o in
      record {
        held = λ q l e. t.held q (omega (arith, l, len)) (o.kept.held q (becomes_held mid new c q _ w.becomes e).0);
        numbers = subst (λ z. NumbersStand inner levels root z (with runs i x xs ys) pages) (sym len) (grow_numbers inner levels root old.count pages runs i (x ∷ xs) ys h ri n);
        leaves = grow_leaves feature inner levels root old.count pages runs mid new i c x xs ys w n o.found ri v;
        inners = λ k j q a.
            let z = o.above k (omega arith) j q a in
            let u : q ≢ c = λ u. leaf_inner w.leaf z.page (some_same _ _ (sym w.was ∙ ap mid.at (sym u) ∙ z.is)) in
            keep_inner s mid new q (suc k) _ _ (w.becomes.rest q u) z;
      }

  pub grow_way : (old mid new : Pages L B) (i p last : ℕ) (ys : List L) (can : LeafView L → Type 0) (box : B) → 0 < inner → hull s ys ≡ Some box → IsOnWay s inner levels root old mid 0 i box (Ok p)
      → (res : Result (Unit {0}) TreeFault) → OnOk res (Pushes mid p ys new) → (HasLeafRoom mid p can → IfErr res MayRefuseWrite) → Grows s feature inner levels root old new i last ys can res
  grow_way old mid new i p last ys can box h b on (Ok u) w only runs pages x xs ri at takes t =
      grow old mid new i p ys h w runs pages x xs ri t (on runs (with runs i x xs ys) pages old.count i (grow_going old i ys box runs pages x xs h b ri t))
  grow_way old mid new i p last ys can box h b on (Err e) w only runs pages x xs ri at takes t =
      let o = on runs (with runs i x xs ys) pages old.count i (grow_going old i ys box runs pages x xs h b ri t) in
      only (record { above = (t.numbers.within 0 i p o.found).0; leaf = leaf_of (feature x) (marks feature runs (pages 0)) i (x ∷ xs); is = grow_leaf old mid i p runs (with runs i x xs ys) pages t o i p (x ∷ xs) o.found ri; takes = takes (leaf_of (feature x) (marks feature runs (pages 0)) i (x ∷ xs)) refl refl })

  -- the way to a run ends at its page
  pub grow_elsewhere : (old mid new : Pages L B) (i p last : ℕ) (ys : List L) (can : LeafView L → Type 0) (box : B) (e : TreeFault) → 0 < inner → hull s ys ≡ Some box → IsOnWay s inner levels root old mid 0 i box (Ok p) → p ≢ last
      → Grows s feature inner levels root old new i last ys can (Err e)
  grow_elsewhere old mid new i p last ys can box e h b on other runs pages x xs ri at takes t =
      absurd (other (some_same p last (sym (on runs (with runs i x xs ys) pages old.count i (grow_going old i ys box runs pages x xs h b ri t)).found ∙ at)))

  pub grow_refused : (old mid new : Pages L B) (i last : ℕ) (ys : List L) (can : LeafView L → Type 0) (box : B) (e : TreeFault) → 0 < inner → hull s ys ≡ Some box → IsOnWay s inner levels root old mid 0 i box (Err e) → Grows s feature inner levels root old new i last ys can (Err e)
  grow_refused old mid new i last ys can box e h b on runs pages x xs ri at takes t = on runs (with runs i x xs ys) pages old.count i (grow_going old i ys box runs pages x xs h b ri t)
