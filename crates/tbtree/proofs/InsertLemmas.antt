-- One leg more, as insert's parts state it.
use Rattle.std.proofs.Common.{ℕ, zero, suc, ◌+◌, ◌^◌, ◌%◌, ◌/◌, ◌<◌, ◌≤◌, ◌≡◌, ◌≢◌, All, true, false, List, [], ◌∷◌, ◌++◌, drop, map, length, refl, sym, ap, ◌∙◌, arith, subst, ⊎_elim, Option, Some, None, slice_get}
use Rattle.std.specs.Prelude.{Result, Ok, Err, OnOk, ◌-◌, ◌*◌, ◌==◌, set, get_or}
use Rattle.std.specs.List.{count_by}
use Rattle.std.proofs.lemmas.Bool.{cases_eq, cases_lt, true≢false}
use Rattle.std.proofs.Math.Nat.{pow-zero, mod-one, div-one, zero-mod}
use Rattle.std.proofs.lemmas.List.{length_push, append-nil, append_assoc}
use Rattle.std.proofs.lemmas.List.Elements.{All-cons, All-nil}
use Rattle.legs.specs.Index.{CanFollow, CanFollowInTurn}
use Rattle.pagecache.specs.Cache.{Cache}
use Rattle.tbtree.specs.Nodes.{LeafView}
use Rattle.tbtree.specs.Shape.{IsShape}
use Rattle.tbtree.specs.Payloads.{TakesLegs, are_of_one_leaf}
use Rattle.tbtree.proofs.TakeLemmas.{can_join, of_one_leaf, takes_legs}
use Rattle.tbtree.proofs.LevelLemmas.{low_tree}
use Rattle.std.proofs.lemmas.Option.{slice_get_within, slice_get-get_or, slice_get-map}
use Rattle.legs.specs.Blocks.{leaves, level}
use Rattle.legs.specs.Hull.{Boxes}
use Rattle.legs.specs.Hull.{hull, leg_boxes}
use Rattle.legs.specs.Costs.{leg_feature}
use Rattle.tbtree.specs.Nodes.{Pages, HasLastLeaf}
use Rattle.tbtree.specs.Stands.{head_or_zero, page_at, pages_of, owner, marks, leaf_of, PlaceStands, NumbersStand, LeavesStand, TreeStands}
use Rattle.tbtree.specs.Insert.{NamesLast}
use Rattle.tbtree.specs.Way.{Hanging, Hung, Hangs}
use Rattle.tbtree.specs.Insert.{Grows, Begins, IsPlace, Stands}
use Rattle.tbtree.specs.Joining.{AllJoined, Fills, Holds, InsertCall, JoinsAll}
use Rattle.legs.specs.Legs.{LegView}
use Rattle.tbtree.specs.declared.tree.Place.{Place}
use Rattle.legs.specs.Boxes.{BoxView}
use Rattle.tbtree.specs.declared.tree.TbTree.{TbTree}
use Rattle.legs.proofs.GroupLemmas.{some_none, some_same}
use Rattle.tbtree.proofs.BeginLemmas.{begin_leaf, get-zip, zip-second}
use Rattle.tbtree.proofs.Widening.{leaf_inner}
use Rattle.tbtree.proofs.WiderLemmas.{becomes_held, keep_inner}
use Rattle.tbtree.proofs.FullLemmas.{one_group}
use Rattle.tbtree.proofs.PagesLemmas.{grown_to, grown_below, grown_above, grown_within, grown_apart}
use Rattle.tbtree.proofs.HangLemmas.{same_leaves}
use Rattle.tbtree.proofs.PlaceLemmas.{as_many, run_some, Added, last_run, added_last, added_begun}
use Rattle.tbtree.proofs.BoundLemmas.{few_leaves, few_of_key}
use Rattle.tbtree.specs.Faults.{GivesWrite, MayRefuseWrite}
use Rattle.tbtree.specs.declared.fault.TreeFault.{TreeFault}
use Rattle.tbtree.specs.declared.tree.Top.{Top}
use Rattle.std.proofs.lemmas.Nat.{mul-le}

-- they stand for the legs with y at the end, and each feature has its place
pub record Inserted (nodes : Pages LegView BoxView) (old tree : TbTree) (legs : List LegView)
    (old_pages : ℕ → List ℕ) (y : LegView) (place : Place) : Type 0 where
  pub pages : ℕ → List ℕ
  pub stands : Stands nodes tree (legs ++ y ∷ []) pages
  pub placed : IsPlace tree (legs ++ y ∷ []) pages y.feature place
  pub others : (f : ℕ) (other : Place) → f ≢ y.feature → IsPlace old legs old_pages f other
      → IsPlace tree (legs ++ y ∷ []) pages f other

-- pages that stand for legs stand for them with a leg more that may follow, or a refusal that good
-- pages allow
abbrev pub Inserts : (old new : Pages LegView BoxView) (tree tree' : TbTree) (place place' : Place)
    (y : LegView) (result : Result (Unit {0}) TreeFault) → Type 0
Inserts old new tree tree' place place' y result =
    (legs : List LegView) (pages : ℕ → List ℕ)
    → Stands old tree legs pages
    → IsPlace tree legs pages y.feature place
    → CanFollow legs y
    → GivesWrite result (λ _. Inserted new tree tree' legs pages y place')

module _ {L B : Type 0} (s : Boxes L B) (feature : L → ℕ) (inner levels root : ℕ) where
  -- a leaf that has been begun is to be hung
  pub hanging : (old new : Pages L B) (runs : List (List L)) (place : Place) (ys : List L) (page : ℕ) (ls : List L) (pages : ℕ → List ℕ) → ((i : ℕ) → slice_get runs i ≢ Some []) → TreeStands s feature inner levels root old runs pages
      → PlaceStands feature ls (marks feature runs (pages 0)) (owner feature ys) place → Begins feature old place.last ys new page → Hanging s feature inner levels root new runs ys pages old.count 0
  hanging old new runs place ys page ls pages filled t at w =
      let n = t.numbers in
      let ms = marks feature runs (pages 0) in
      let legs_above : 0 < place.last → 0 < place.legs = λ h. ⊎_elim (λ (u : place.legs ≡ 0). absurd (let z = (at.none u).1 in omega (arith, z, h))) (λ (u : place.legs ≢ 0). omega (arith, u)) (cases_eq place.legs 0) in
      let last_page : 0 < place.last → place.last < old.count = λ h. (n.within 0 place.last_index place.last (zip-second (map (owner feature) runs) (pages 0) place.last_index _ (at.last_index (legs_above h)).0)).1 in
      let last_within : place.last < old.count = ⊎_elim last_page (λ (h : place.last ≤ 0). let z = n.page_0 in omega (arith, h, z)) (cases_lt 0 place.last) in
      let same : (p : ℕ) → p < old.count → p ≢ place.last → new.at p ≡ old.at p = λ p l u. ⊎_elim
      (λ (z : 0 < place.last). (w.links z).becomes.rest p u)
      (λ (z : place.last ≤ 0). ap (λ (l : Pages L B). l.at p) (w.alone (omega (arith, z))))
      (cases_lt 0 place.last) ∙ w.adds.becomes.rest p (λ u. let q = w.adds.number in omega (arith, l, q, u)) in
      let len : new.count ≡ old.count + 1 = ⊎_elim
      (λ (z : 0 < place.last). (w.links z).counted)
      (λ (z : place.last ≤ 0). ap (λ (l : Pages L B). l.count) (w.alone (omega (arith, z))))
      (cases_lt 0 place.last) ∙ w.adds.counted in
      let mid_page : (p : ℕ) → p < old.count → w.mid.at p ≡ old.at p = λ p l. w.adds.becomes.rest p (λ u. let q = w.adds.number in omega (arith, l, q, u)) in
      record {
        numbers = n;
        as_many = len ∙ omega arith;
        held = λ p l e. (let z = becomes_held old w.mid page p _ w.adds.becomes (⊎_elim (λ (z : 0 < place.last). (becomes_held w.mid new place.last p _ (w.links z).becomes e).0) (λ (z : place.last ≤ 0). ap (λ (l : Pages L B). l.at p) (sym (w.alone (omega (arith, z)))) ∙ e) (cases_lt 0 place.last)) in t.held p (let k = w.adds.number in let u = z.1 in omega (arith, l, len, k, u)) z.0);
        full = ap (λ m. length runs % m) (pow-zero inner) ∙ mod-one (length runs);
        filled = filled;
        leaves = subst (λ q. LeavesStand new feature (runs ++ ys ∷ []) (pages 0 ++ q ∷ [])) w.adds.number
            (begin_leaf feature runs (pages 0) old w.mid new page place.last ys (as_many inner levels root old.count runs pages n) t.leaves
            (λ i j p a b. (n.apart 0 i 0 j p a b).1) (n.within 0) last_within at.last
            (λ h. let k = at.last_index (legs_above h) in (place.last_index, k.0, k.1)) w.adds w.alone w.links);
        begun = λ k l. absurd (omega (arith, l));
        inners = λ k j p a.
            let z = t.inners k j p a in
            let l : p < old.count = (n.within (suc k) j p a).1 in
            let at_last : 0 < place.last → p ≢ place.last = λ h u. leaf_inner (w.links h).leaf z.page (some_same _ _ (sym (w.links h).was ∙ ap w.mid.at (sym u) ∙ mid_page p l ∙ z.is)) in
            let u : p ≢ place.last = λ u. at_last (let q = (n.within (suc k) j p a).0 in omega (arith, q, u)) u in
            keep_inner s old new p (suc k) _ _ (same p l u) z;
      }

  -- the first leaf is the root
  pub first_hung : (nodes : Pages L B) (j p : ℕ) (box : B) → levels ≡ 0 → Hangs s feature inner levels root nodes nodes 0 j p box (Ok (record { root = p; levels = 1 }))
  first_hung nodes j p box e runs ys pages count eb ep ej v =
      let n = v.numbers in
      let after = runs ++ ys ∷ [] in
      let is : p ≡ count = ep ∙ omega arith in
      let none : (k : ℕ) → pages k ≡ [] = λ k. n.no_more k (omega (arith, e)) in
      let g : grown_to 0 count pages 0 ≡ p ∷ [] = grown_below 0 count pages 0 (omega arith) ∙ (λ i. none 0 i ++ sym ep i ∷ []) in
      let ar : length after ≡ 1 = length_push runs ys ∙ ap (λ r. length r + 1) (n.empty e).0 in
      let one : length (level inner 0 after) ≡ 1 = one_group (inner ^ 0) after (omega (arith, ar)) (let z = pow-zero inner in omega (arith, ar, z)) in
      record {
        pages = grown_to 0 count pages;
        leaves_are = grown_below 0 count pages 0 (omega arith) ∙ ap (λ z. pages 0 ++ z ∷ []) (omega arith);
        tree = record {
          held = v.held;
          numbers = subst (λ z. NumbersStand inner 1 p z after (grown_to 0 count pages)) (sym v.as_many) (record {
            page_0 = omega arith;
            one_each = λ k l. subst (λ k. length (grown_to 0 count pages k) ≡ length (level inner k after)) (let z : 0 ≡ k = omega (arith, l) in z) (ap length g ∙ sym one);
            no_more = λ k l. grown_above 0 count pages k (omega (arith, l)) ∙ none k;
            below_top = λ k l. absurd (omega (arith, l));
            top = λ k l. subst (λ k. (length (level inner k after) ≡ 1) × (page_at (grown_to 0 count pages) k 0 ≡ Some p)) (let z : 0 ≡ k = omega (arith, l) in z) (one, ap (λ l. slice_get l 0) g);
            empty = λ z. absurd (omega (arith, z));
            within = grown_within inner levels root count runs pages n 0;
            apart = grown_apart inner levels root count runs pages n 0;
          });
          leaves = same_leaves s feature inner levels root 0 0 nodes nodes runs ys pages count v (λ p l f. refl);
          inners = λ k i q a. absurd (some_none q (sym a ∙ ap (λ l. slice_get l i) (grown_above 0 count pages (suc k) (omega arith) ∙ none (suc k))));
        };
      }

-- a leg that may come next comes after those before it
follow_push : (before legs : List LegView) (y : LegView) → CanFollowInTurn before legs → CanFollow (before ++ legs) y → CanFollowInTurn before (legs ++ y ∷ [])
follow_push before [] y h w = (subst (λ b. CanFollow b y) (append-nil before) w, tt)
follow_push before (l ∷ legs) y h w = (h.0, follow_push (before ++ l ∷ []) legs y h.1 (subst (λ b. CanFollow b y) (sym (append_assoc before (l ∷ []) legs)) w))

legs_below : (n f : ℕ) (legs : List LegView) → 0 < n → count_by (λ l. leg_feature l == f) legs ≤ length (leaves leg_feature n legs) * n
legs_below zero f legs h = absurd (omega (arith, h))
legs_below (suc m) f legs h = few_of_key leg_feature m f legs

inserted : (new : Pages LegView BoxView) (tree tree' : TbTree) (legs : List LegView) (pages : ℕ → List ℕ) (f : ℕ) (ys : List LegView) (after : Place) → tree'.shape.leaf ≡ tree.shape.leaf → tree'.shape.inner ≡ tree.shape.inner → Added leg_boxes leg_feature tree.shape.inner tree.shape.leaf tree'.levels tree'.root tree'.leaves new legs pages f ys after → AllJoined new tree tree' legs pages f ys after
inserted new tree tree' legs pages f ys after el ei a = record {
  pages = a.pages;
  stands = record {
    tree_stands = subst (λ n. TreeStands leg_boxes leg_feature tree'.shape.inner tree'.levels tree'.root new (leaves leg_feature n (legs ++ ys)) a.pages) (sym el)
        (subst (λ n. TreeStands leg_boxes leg_feature n tree'.levels tree'.root new (leaves leg_feature tree.shape.leaf (legs ++ ys)) a.pages) (sym ei) a.tree);
    leaves_are = a.leaves_are ∙ ap (λ n. length (leaves leg_feature n (legs ++ ys))) (sym el);
  };
  placed = subst (λ n. PlaceStands leg_feature (legs ++ ys) (marks leg_feature (leaves leg_feature n (legs ++ ys)) (a.pages 0)) f after) (sym el) a.placed;
  others = λ g other ne p. subst (λ n. PlaceStands leg_feature (legs ++ ys) (marks leg_feature (leaves leg_feature n (legs ++ ys)) (a.pages 0)) g other) (sym el) (a.others g other ne p);
}

one_own : (f : ℕ) (y : LegView) → y.feature ≡ f → All (λ y. y.feature ≡ f) (y ∷ [])
one_own f y e = All-cons (λ y. y.feature ≡ f) y [] e (All-nil (λ y. y.feature ≡ f))

-- there is a leg where some are left over
some_over : (n k : ℕ) → 0 < k % n → 0 < k
some_over n k h = ⊎_elim (λ (u : k ≡ 0). absurd (let z : k % n ≡ 0 = ap (λ j. j % n) u ∙ zero-mod n in omega (arith, z, h))) (λ (u : k ≢ 0). omega (arith, u)) (cases_eq k 0)

-- the page of the feature's last leaf
last_page : (n f : ℕ) (place : Place) (legs : List LegView) (pages : ℕ → List ℕ) → 0 < place.legs → PlaceStands leg_feature legs (marks leg_feature (leaves leg_feature n legs) (pages 0)) f place → page_at pages 0 place.last_index ≡ Some place.last
last_page n f place legs pages some at = zip-second (map (owner leg_feature) (leaves leg_feature n legs)) (pages 0) place.last_index _ (at.last_index some).0

-- the feature's last leaf has room
pub inserts_last : (old new : Pages LegView BoxView) (tree : TbTree) (place after : Place) (ys : List LegView) (res : Result (Unit {0}) TreeFault) → IsShape tree.shape → 0 < place.legs % tree.shape.leaf → place.legs % tree.shape.leaf + length ys ≤ tree.shape.leaf → OnOk res (after ≡ record place { legs = place.legs + length ys })
    → Grows leg_boxes leg_feature tree.shape.inner tree.levels tree.root old new place.last_index place.last ys (λ leaf. TakesLegs tree.shape.leaf leaf ys) res → JoinsAll old new tree tree place after ys res
inserts_last old new tree place after ys res shape h room e grows f legs pages st at all w =
    let lf : 0 < tree.shape.leaf = let least = shape.least_leaf in omega (arith, least) in
    (elim tree.shape.leaf as (λ n. tree.shape.leaf ≡ n → 0 < n → 0 < place.legs % n → place.legs % n + length ys ≤ n → Grows leg_boxes leg_feature tree.shape.inner tree.levels tree.root old new place.last_index place.last ys (λ leaf. TakesLegs n leaf ys) res → TreeStands leg_boxes leg_feature tree.shape.inner tree.levels tree.root old (leaves leg_feature n legs) pages
    → tree.leaves ≡ length (leaves leg_feature n legs) → PlaceStands leg_feature legs (marks leg_feature (leaves leg_feature n legs) (pages 0)) f place → GivesWrite res (λ _. AllJoined new tree tree legs pages f ys after)) [
      | zero ↦ λ u z h room g t l p. absurd (omega (arith, z))
      | suc m ↦ λ u z h room g t l p.
          let r = last_run leg_boxes leg_feature tree.shape.inner tree.levels tree.root m old.count f ys place legs pages all h room t.numbers p in
          let gives = g (leaves leg_feature (suc m) legs) pages r.x r.xs r.is (last_page (suc m) f place legs pages (some_over (suc m) place.legs h) p) (λ (leaf : LeafView LegView) of same. takes_legs m (suc m) f legs ys place.last_index r.x r.xs leaf all w r.is r.owner r.few of same) t in
          (elim res as (λ res. OnOk res (after ≡ record place { legs = place.legs + length ys }) → GivesWrite res (λ _. TreeStands leg_boxes leg_feature tree.shape.inner tree.levels tree.root new (set (leaves leg_feature (suc m) legs) place.last_index ((r.x ∷ r.xs) ++ ys)) pages) → GivesWrite res (λ _. AllJoined new tree tree legs pages f ys after)) [
            | Ok v ↦ λ e gives.
                inserted new tree tree legs pages f ys after refl refl
                (subst (λ n. Added leg_boxes leg_feature tree.shape.inner n tree.levels tree.root tree.leaves new legs pages f ys after) (sym u)
                (added_last leg_boxes leg_feature tree.shape.inner tree.levels tree.root m new f ys place after legs pages tree.leaves all h e l p r gives))
            | Err x ↦ λ e gives. gives
          ]) e gives
    ]) refl lf h room grows st.tree_stands st.leaves_are at

-- no run of legs is empty
filled : (n : ℕ) (legs : List LegView) → 0 < n → (i : ℕ) → slice_get (leaves leg_feature n legs) i ≢ Some []
filled zero legs h i e = omega (arith, h)
filled (suc m) legs h i e = run_some leg_feature m [] legs i e

-- legs of a feature have it
owner_is : (f : ℕ) (ys : List LegView) → 0 < length ys → All (λ y. y.feature ≡ f) ys → owner leg_feature ys ≡ f
owner_is f [] some all = absurd (omega (arith, some))
owner_is f (y ∷ ys) some all = all 0 y (omega arith)

-- the leaf that has been begun is to be hung
begun_hanging : (old mid : Pages LegView BoxView) (tree : TbTree) (place : Place) (ys : List LegView) (page f : ℕ) (legs : List LegView) (pages : ℕ → List ℕ) → 0 < tree.shape.leaf → owner leg_feature ys ≡ f → Begins leg_feature old place.last ys mid page → Holds old tree legs pages → IsPlace tree legs pages f place
    → Hanging leg_boxes leg_feature tree.shape.inner tree.levels tree.root mid (leaves leg_feature tree.shape.leaf legs) ys pages old.count 0
begun_hanging old mid tree place ys page f legs pages lf own b st at =
    hanging leg_boxes leg_feature tree.shape.inner tree.levels tree.root old mid (leaves leg_feature tree.shape.leaf legs) place ys page legs pages (filled tree.shape.leaf legs lf) st.tree_stands (subst (λ g. IsPlace tree legs pages g place) (sym own) at) b

-- and what hang_leaf gives for it
begun_hangs : (old mid new : Pages LegView BoxView) (tree : TbTree) (place : Place) (ys : List LegView) (page f : ℕ) (box : BoxView) (res : Result Top TreeFault) (legs : List LegView) (pages : ℕ → List ℕ) → 0 < tree.shape.leaf → owner leg_feature ys ≡ f → Begins leg_feature old place.last ys mid page → Holds old tree legs pages → IsPlace tree legs pages f place
    → hull leg_boxes ys ≡ Some box → Hangs leg_boxes leg_feature tree.shape.inner tree.levels tree.root mid new 0 tree.leaves page box res → GivesWrite res (λ top. Hung leg_boxes leg_feature tree.shape.inner top.levels top.root new (leaves leg_feature tree.shape.leaf legs) ys (pages 0) old.count)
begun_hangs old mid new tree place ys page f box res legs pages lf own b st at eb hangs =
    let rs = leaves leg_feature tree.shape.leaf legs in
    hangs rs ys pages old.count eb (b.adds.number ∙ omega arith) (st.leaves_are ∙ sym (ap (λ d. length rs / d) (pow-zero tree.shape.inner) ∙ div-one (length rs))) (begun_hanging old mid tree place ys page f legs pages lf own b st at)

-- the feature has no leaf, or its last one is full
pub inserts_begun : (old mid new : Pages LegView BoxView) (tree tree' : TbTree) (place after : Place) (ys : List LegView) (page : ℕ) (box : BoxView) → 0 < length ys → length ys ≤ tree.shape.leaf → place.legs % tree.shape.leaf ≡ 0
    → Begins leg_feature old place.last ys mid page → hull leg_boxes ys ≡ Some box → Hangs leg_boxes leg_feature tree.shape.inner tree.levels tree.root mid new 0 tree.leaves page box (Ok (record { root = tree'.root; levels = tree'.levels }))
    → tree' ≡ record tree { root = tree'.root; levels = tree'.levels; leaves = tree.leaves + 1 }
    → (place.last ≡ 0 → after.first ≡ page) → (0 < place.last → after.first ≡ place.first) → after.last ≡ page → after.last_index ≡ tree.leaves → after.legs ≡ place.legs + length ys
    → JoinsAll old new tree tree' place after ys (Ok tt)
inserts_begun old mid new tree tree' place after [] page box some room h b eb hangs et f0 f1 la ia ga f legs pages st at all w = absurd (omega (arith, some))
inserts_begun old mid new tree tree' place after (y ∷ ys) page box some room h b eb hangs et f0 f1 la ia ga f legs pages st at all w =
    let lv : tree'.leaves ≡ tree.leaves + 1 = ap (λ (t : TbTree). t.leaves) et in
    let is : page ≡ old.count = b.adds.number in
    let lf : 0 < tree.shape.leaf = omega (arith, some, room) in
    let hung = begun_hangs old mid new tree place (y ∷ ys) page f box (Ok (record { root = tree'.root; levels = tree'.levels })) legs pages lf (owner_is f (y ∷ ys) some all) b st at eb hangs in
    inserted new tree tree' legs pages f (y ∷ ys) after (ap (λ (t : TbTree). t.shape.leaf) et) (ap (λ (t : TbTree). t.shape.inner) et)
    ((elim tree.shape.leaf as (λ n. 0 < n → length (y ∷ ys) ≤ n → place.legs % n ≡ 0 → TreeStands leg_boxes leg_feature tree.shape.inner tree.levels tree.root old (leaves leg_feature n legs) pages → tree.leaves ≡ length (leaves leg_feature n legs)
    → PlaceStands leg_feature legs (marks leg_feature (leaves leg_feature n legs) (pages 0)) f place → Hung leg_boxes leg_feature tree.shape.inner tree'.levels tree'.root new (leaves leg_feature n legs) (y ∷ ys) (pages 0) old.count
    → Added leg_boxes leg_feature tree.shape.inner n tree'.levels tree'.root tree'.leaves new legs pages f (y ∷ ys) after) [
      | zero ↦ λ z few h t l p g. absurd (omega (arith, z))
      | suc m ↦ λ z few h t l p g.
          subst (λ k. Added leg_boxes leg_feature tree.shape.inner (suc m) tree'.levels tree'.root k new legs pages f (y ∷ ys) after) (sym (lv ∙ ap (λ k. k + 1) l))
          (added_begun leg_boxes leg_feature tree.shape.inner tree.levels tree.root m tree'.levels tree'.root old.count f old new y ys place after legs pages all few h t p
          (λ z. f0 z ∙ is) f1 (la ∙ is) (ia ∙ l) ga g)
    ]) lf room h st.tree_stands st.leaves_are at hung)

pub hang_not : (old mid new after : Pages LegView BoxView) (tree tree' : TbTree) (place place' : Place) (ys : List LegView) (page : ℕ) (box : BoxView) (x : TreeFault) → 0 < length ys → 0 < tree.shape.leaf → Begins leg_feature old place.last ys mid page → hull leg_boxes ys ≡ Some box
    → Hangs leg_boxes leg_feature tree.shape.inner tree.levels tree.root mid new 0 tree.leaves page box (Err x) → JoinsAll old after tree tree' place place' ys (Err x)
hang_not old mid new after tree tree' place place' ys page box x some lf b eb hangs f legs pages st at all w =
    begun_hangs old mid new tree place ys page f box (Err x) legs pages lf (owner_is f ys some all) b st at eb hangs

-- the feature's last leaf is there, and none is behind it
last_leaf : (old : Pages LegView BoxView) (tree : TbTree) (place : Place) (f : ℕ) (legs : List LegView) (pages : ℕ → List ℕ) → Holds old tree legs pages → IsPlace tree legs pages f place → 0 < place.last → HasLastLeaf old place.last f
last_leaf old tree place f legs pages st at h =
    let rs = leaves leg_feature tree.shape.leaf legs in
    let ms = marks leg_feature rs (pages 0) in
    let t = st.tree_stands in
    let above : 0 < place.legs = ⊎_elim (λ (u : place.legs ≡ 0). absurd (let z = (at.none u).1 in omega (arith, z, h))) (λ (u : place.legs ≢ 0). omega (arith, u)) (cases_eq place.legs 0) in
    let a = last_page tree.shape.leaf f place legs pages above at in
    let l : place.last_index < length rs = (let u = as_many tree.shape.inner tree.levels tree.root old.count rs pages t.numbers in let v = slice_get_within (pages 0) place.last_index place.last a in omega (arith, u, v)) in
    let r = get_or rs place.last_index [] in
    let r_is : slice_get rs place.last_index ≡ Some r = slice_get-get_or rs place.last_index [] l in
    let marked = at.last_index above in
    let here : slice_get ms place.last_index ≡ Some (owner leg_feature r, place.last) = get-zip (map (owner leg_feature) rs) (pages 0) place.last_index (owner leg_feature r) place.last
    (slice_get-map (owner leg_feature) rs place.last_index ∙ ap (λ (o : Option (List LegView)). elim o as (λ _. Option ℕ) [ Some q ↦ Some (owner leg_feature q) | None ↦ None ]) r_is) a in
    let own : owner leg_feature r ≡ f = ap (λ (m : ℕ × ℕ). m.0) (some_same _ _ (sym here ∙ marked.0)) in
    record {
      above = h;
      leaf = leaf_of (owner leg_feature r) ms place.last_index r;
      is = t.leaves place.last_index place.last r a r_is;
      own = own;
      end = ap (λ g. head_or_zero (pages_of g (drop (suc place.last_index) ms))) own ∙ ap head_or_zero marked.1;
    }

-- and is no page that is not there
last_below : (old : Pages LegView BoxView) (tree : TbTree) (place : Place) (f : ℕ) (legs : List LegView) (pages : ℕ → List ℕ) → Holds old tree legs pages → IsPlace tree legs pages f place → place.last < old.count
last_below old tree place f legs pages st at =
    let n = st.tree_stands.numbers in
    ⊎_elim
    (λ (u : place.legs ≡ 0). let z = (at.none u).1 in let first = n.page_0 in omega (arith, z, first))
    (λ (u : place.legs ≢ 0). (n.within 0 place.last_index place.last (last_page tree.shape.leaf f place legs pages (omega (arith, u)) at)).1)
    (cases_eq place.legs 0)

pub add_not : (old new : Pages LegView BoxView) (tree tree' : TbTree) (place place' : Place) (ys : List LegView) (x : TreeFault) → 0 < length ys → ((0 < place.last → HasLastLeaf old place.last (owner leg_feature ys)) → place.last < old.count → are_of_one_leaf ys ≡ true → MayRefuseWrite x) → JoinsAll old new tree tree' place place' ys (Err x)
add_not old new tree tree' place place' ys x some only f legs pages st at all w =
    only (λ h. subst (λ g. HasLastLeaf old place.last g) (sym (owner_is f ys some all)) (last_leaf old tree place f legs pages st at h)) (last_below old tree place f legs pages st at) (of_one_leaf f legs ys all w)

-- no count is past its type
pub few_enough : (old new : Pages LegView BoxView) (tree tree' : TbTree) (place place' : Place) (ys : List LegView) (x : TreeFault) → IsShape tree.shape → old.count < 2 ^ 32 → (tree.leaves < old.count → tree.levels < 34 → place.legs < 2 ^ 64 - 51 → ⊥) → JoinsAll old new tree tree' place place' ys (Err x)
few_enough old new tree tree' place place' ys x shape few most g legs pages st at all w =
    let n = st.tree_stands.numbers in
    let rs = leaves leg_feature tree.shape.leaf legs in
    let lf : 0 < tree.shape.leaf = let least = shape.least_leaf in omega (arith, least) in
    let lp = as_many tree.shape.inner tree.levels tree.root old.count rs pages n in
    let a : length (pages 0) < old.count = few_leaves tree.shape.inner tree.levels tree.root old.count rs pages n in
    let low : tree.levels < 34 = ⊎_elim (λ (some : 0 < length rs). low_tree tree.shape.inner tree.levels tree.root old.count rs pages shape.least_inner n some (omega (arith, a, lp, few)))
    (λ (none : length rs ≤ 0). ⊎_elim (λ (h : tree.levels < 34). h) (λ (h : 34 ≤ tree.levels). absurd (let one = n.one_each 0 (omega (arith, h)) in let many = n.below_top 0 (omega (arith, h)) in omega (arith, one, many, lp, none))) (cases_lt tree.levels 34))
    (cases_lt 0 (length rs)) in
    let l = st.leaves_are in
    let f = legs_below tree.shape.leaf g legs lf in
    let p : length rs * tree.shape.leaf ≤ (2 ^ 32 - 2) * 50 = mul-le (length rs) tree.shape.leaf (2 ^ 32 - 2) 50 (omega (arith, a, lp, few)) shape.most_leaf in
    absurd (most (omega (arith, a, lp, l)) low (let c = at.legs_are in omega (arith, c, f, p)))

-- a place names the last leaf of its legs
pub place_named : (old new : Pages LegView BoxView) (tree tree' : TbTree) (place place' : Place) (ys : List LegView) (x : TreeFault) → (NamesLast place → ⊥) → JoinsAll old new tree tree' place place' ys (Err x)
place_named old new tree tree' place place' ys x torn g legs pages st at all w =
    let n = st.tree_stands.numbers in
    absurd (torn (
      (λ z. (at.none z).1),
      (λ z. ⊎_elim
          (λ (none : place.legs ≡ 0). none)
          (λ (some : place.legs ≢ 0).
          let a = last_page tree.shape.leaf g place legs pages (omega (arith, some)) at in
          let above = (n.within 0 place.last_index place.last a).0 in
          absurd (omega (arith, above, z)))
          (cases_eq place.legs 0)),
    ))

module _ (old new : Cache) (tree tree' : TbTree) (place place' : Place) (ys : List LegView) (works : tree.spent ≡ false) where
  -- what a tree that is marked as spent meanwhile takes
  pub inserted_call : Fills old new (record tree { spent = true }) tree' place place' ys (Ok tt) → InsertCall old new tree (record tree' { spent = false }) place place' ys (Ok tt)
  inserted_call f = record {
    joins = λ _ fa g legs pages st at all w.
        let i = f.joins fa g legs pages (record { tree_stands = st.tree_stands; leaves_are = st.leaves_are }) at all w in
        record { pages = i.pages; stands = record { tree_stands = i.stands.tree_stands; leaves_are = i.stands.leaves_are }; placed = i.placed; others = i.others };
    shape = f.shape;
    passes = f.touches.passes;
    length = f.touches.length;
    caused = λ _. tt;
    works = refl;
    spent = tt;
    was_spent = λ e. absurd (true≢false (sym e ∙ works));
  }

  pub refused_call : (x : TreeFault) → Fills old new (record tree { spent = true }) tree' place place' ys (Err x) → InsertCall old new tree tree' place place' ys (Err x)
  refused_call x f = record {
    joins = λ _ fa g legs pages st at all w. f.joins fa g legs pages (record { tree_stands = st.tree_stands; leaves_are = st.leaves_are }) at all w;
    shape = f.shape;
    passes = f.touches.passes;
    length = tt;
    caused = λ _. f.touches.caused;
    works = tt;
    spent = f.spent;
    was_spent = λ e. absurd (true≢false (sym e ∙ works));
  }

module _ (old new : Pages LegView BoxView) (tree tree' : TbTree) (place after : Place) (y : LegView) where
  -- legs in turn are joined by a leg that may follow them
  pub inserts_joined : (res : Result (Unit {0}) TreeFault) → JoinsAll old new tree tree' place after (y ∷ []) res → Inserts old new tree tree' place after y res
  inserts_joined (Ok u) f legs pages st at w =
      let i = f y.feature legs pages (record { tree_stands = st.tree_stands; leaves_are = st.leaves_are }) at (one_own y.feature y refl) (can_join legs y st.in_turn w, tt) in
      record { pages = i.pages; stands = record { in_turn = follow_push [] legs y st.in_turn w; tree_stands = i.stands.tree_stands; leaves_are = i.stands.leaves_are }; placed = i.placed; others = i.others }
  inserts_joined (Err x) f legs pages st at w =
      f y.feature legs pages (record { tree_stands = st.tree_stands; leaves_are = st.leaves_are }) at (one_own y.feature y refl) (can_join legs y st.in_turn w, tt)
