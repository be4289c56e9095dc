-- A block that is hung: in a page with room, in a new page, or beside the root.
use Rattle.std.proofs.Common.{ℕ, suc, ◌+◌, ◌*◌, ◌/◌, ◌%◌, ◌^◌, ◌<◌, ◌≤◌, ◌≡◌, ◌≢◌, List, [], ◌∷◌, ◌++◌, map, length, refl, sym, ap, ◌∙◌, arith, subst, ⊎_elim, Some, slice_get}
use Rattle.std.proofs.lemmas.Bool.{cases_eq, cases_lt}
use Rattle.std.proofs.lemmas.List.{length-map, map-append}
use Rattle.std.proofs.lemmas.Option.{slice_get_within}
use Rattle.legs.specs.Blocks.{block, level}
use Rattle.legs.specs.Hull.{Boxes, hull, hull_of}
use Rattle.tbtree.proofs.LawfulBoxes.{AreLawful}
use Rattle.tbtree.specs.Nodes.{EntryView, children, boxes, with_entry, Pages, AnInner, InnerView, Attaches, Adds, HasRoom}
use Rattle.tbtree.specs.Stands.{page_at, LeavesStand, NumbersStand, InnerStands, LevelStands}
use Rattle.tbtree.specs.Way.{IsWidened, Going, Hanging, Hung, Hangs}
use Rattle.tbtree.specs.declared.fault.TreeFault.{TreeFault}
use Rattle.tbtree.specs.declared.tree.Top.{Top}
use Rattle.std.specs.Prelude.{Result}
use Rattle.legs.proofs.GroupLemmas.{some_same, block_push-at, block_push-other}
use Rattle.tbtree.proofs.BeginLemmas.{get-push_last, get-push_other}
use Rattle.tbtree.proofs.HullLemmas.{hull_alone}
use Rattle.tbtree.proofs.FullLemmas.{full_up, room_above, block_past, block_short}
use Rattle.tbtree.proofs.PagesLemmas.{grown_to, grown_below, grown_above, grown_page, grown_low, pages_are, parents_are, begun_level, hung_numbers}
use Rattle.tbtree.proofs.Widening.{inner_same, pow_above}
use Rattle.tbtree.proofs.WiderLemmas.{becomes_held, wider_begun, keep_inner, move_inner}
use Rattle.tbtree.proofs.WayLemmas.{parent_of, one_level}

module _ {L B : Type 0} (s : Boxes L B) (feature : L → ℕ) (inner levels root : ℕ) where
  -- the levels below the one that is hung: each last page is new and has the one new child
  pub below_level : (K M : ℕ) (old new : Pages L B) (runs : List (List L)) (ys : List L) (pages : ℕ → List ℕ) (count : ℕ) → 0 < inner → K < levels → K ≤ M → Hanging s feature inner levels root old runs ys pages count K
      → ((p : ℕ) → p < count + suc K → ((k j : ℕ) → page_at pages (suc k) j ≡ Some p → k < K) → new.at p ≡ old.at p)
      → (k : ℕ) → k < K → LevelStands s new inner (runs ++ ys ∷ []) (grown_to M count pages) k
  below_level K M old new runs ys pages count h b lm v same k l j p a =
      let n = v.numbers in
      let after = runs ++ ys ∷ [] in
      let w = parents_are inner levels root count runs pages n K h b v.full k l in
      let gk : grown_to M count pages k ≡ pages k ++ (count + k) ∷ [] = grown_below M count pages k (omega (arith, l, lm)) in
      let lv : level inner k after ≡ level inner k runs ++ (ys ∷ []) ∷ [] = begun_level inner levels root count runs pages n K h b v.full ys k (omega (arith, l)) in
      let len : length (level inner k runs) ≡ length (pages k) = sym (n.one_each k (omega (arith, l, b))) in
      let low : (k' j' : ℕ) → page_at pages (suc k') j' ≡ Some p → k' < K = grown_low inner levels root count runs pages n M K (suc k) j p (omega (arith, l)) a in
      ⊎_elim
      (λ (o : page_at pages (suc k) j ≡ Some p).
      let jl : j < length (pages (suc k)) = slice_get_within (pages (suc k)) j p o in
      let ne : j ≢ length (pages k) / inner = (λ u. let z = w.1 in omega (arith, jl, z, u)) in
      let ne' : j ≢ length (level inner k runs) / inner = λ u. ne (u ∙ ap (λ z. z / inner) len) in
      let keep : new.at p ≡ old.at p = same p (let z = n.within (suc k) j p o in omega (arith, z.1)) low in
      move_inner s new p (suc k) _ (block inner j (grown_to M count pages k)) _ (block inner j (level inner k after))
      (sym (ap (block inner j) gk ∙ block_push-other inner (pages k) (count + k) j h ne))
      (sym (ap (block inner j) lv ∙ block_push-other inner (level inner k runs) (ys ∷ []) j h ne'))
      (keep_inner s old new p (suc k) _ _ keep (v.inners k j p o)))
      (λ (e : (suc k ≤ M) × (j ≡ length (pages (suc k))) × (p ≡ count + suc k)).
      let je : j ≡ length (pages k) / inner = e.1 ∙ w.1 in
      let past : length (pages k) ≤ j * inner = (let z : j * inner ≡ length (pages k) = ap (λ z. z * inner) e.1 ∙ w.0 in omega (arith, z)) in
      let cs : block inner j (grown_to M count pages k) ≡ (count + k) ∷ [] = ap (block inner j) gk ∙ block_push-at inner (pages k) (count + k) j h je ∙ ap (λ l. l ++ (count + k) ∷ []) (block_past inner (pages k) j past) in
      let bs : block inner j (level inner k after) ≡ (ys ∷ []) ∷ [] = ap (block inner j) lv ∙ block_push-at inner (level inner k runs) (ys ∷ []) j h (je ∙ ap (λ z. z / inner) (sym len)) ∙ ap (λ l. l ++ (ys ∷ []) ∷ []) (block_past inner (level inner k runs) j (omega (arith, past, len))) in
      let keep : new.at (count + suc k) ≡ old.at (count + suc k) = ap new.at (sym e.2) ∙ same p (let z = e.2 in omega (arith, z, l)) low ∙ ap old.at e.2 in
      subst (λ z. InnerStands s new z (suc k) (block inner j (grown_to M count pages k)) (block inner j (level inner k after))) (sym e.2)
      (move_inner s new (count + suc k) (suc k) _ _ _ _ (sym cs) (sym bs) (keep_inner s old new (count + suc k) (suc k) _ _ keep (v.begun k l))))
      (grown_page M count pages (suc k) j p a)

  -- no leaf has changed since
  pub same_leaves : (K M : ℕ) (old new : Pages L B) (runs : List (List L)) (ys : List L) (pages : ℕ → List ℕ) (count : ℕ) → Hanging s feature inner levels root old runs ys pages count K
      → ((p : ℕ) → p < count + suc K → ((k j : ℕ) → page_at pages (suc k) j ≡ Some p → k < K) → new.at p ≡ old.at p)
      → LeavesStand new feature (runs ++ ys ∷ []) (grown_to M count pages 0)
  same_leaves K M old new runs ys pages count v same =
      let n = v.numbers in
      let g : grown_to M count pages 0 ≡ pages 0 ++ count ∷ [] = grown_below M count pages 0 (omega arith) ∙ ap (λ z. pages 0 ++ z ∷ []) (omega arith) in
      subst (λ ps. LeavesStand new feature (runs ++ ys ∷ []) ps) (sym g)
      (λ i p r a b.
      let a' : page_at (grown_to M count pages) 0 i ≡ Some p = ap (λ l. slice_get l i) g ∙ a in
      let below : p < count + suc K = ⊎_elim
      (λ (o : page_at pages 0 i ≡ Some p). let z = n.within 0 i p o in omega (arith, z.1))
      (λ (e : (0 ≤ M) × (i ≡ length (pages 0)) × (p ≡ count + 0)). let z = e.2 in omega (arith, z))
      (grown_page M count pages 0 i p a') in
      same p below (grown_low inner levels root count runs pages n M K 0 i p (omega arith) a') ∙ v.leaves i p r a b)

  attach_inner : (old new : Pages L B) (p h height c : ℕ) (box : B) (cs : List ℕ) (bs : List (List (List L))) (g : List (List L)) → Attaches old p height c box new → hull_of s g ≡ Some box → InnerStands s old p h cs bs → InnerStands s new p h (cs ++ c ∷ []) (bs ++ g ∷ [])
  attach_inner old new p h height c box cs bs g w e v =
      let same : w.page ≡ v.page = inner_same L w.page v.page (some_same _ _ (sym w.was ∙ v.is)) in
      record {
        page = with_entry (record { child = c; bounds = box }) w.page;
        is = w.becomes.now;
        height_is = ap (λ (x : InnerView B). x.level) same ∙ v.height_is;
        children_are = map-append (λ (x : EntryView B). x.child) w.page.entries (record { child = c; bounds = box } ∷ []) ∙ ap (λ (x : InnerView B). children x ++ c ∷ []) same ∙ ap (λ l. l ++ c ∷ []) v.children_are;
        boxes_are =
            ap (map Some) (map-append (λ (x : EntryView B). x.bounds) w.page.entries (record { child = c; bounds = box } ∷ []))
            ∙ map-append Some (boxes w.page) (box ∷ []) ∙ ap (λ (x : InnerView B). map Some (boxes x) ++ Some box ∷ []) same ∙ ap (λ l. l ++ Some box ∷ []) v.boxes_are
            ∙ ap (λ o. map (hull_of s) bs ++ o ∷ []) (sym e) ∙ sym (map-append (hull_of s) bs (g ∷ []));
      }

module _ {L B : Type 0} (s : Boxes L B) (laws : AreLawful s) (feature : L → ℕ) (inner levels root : ℕ) where
  -- the way to the page above, which has room
  pub hang_going : (old : Pages L B) (K j : ℕ) (box : B) (runs : List (List L)) (ys : List L) (pages : ℕ → List ℕ) (count : ℕ) → 0 < inner → j % inner ≢ 0 → hull s ys ≡ Some box → j ≡ length runs / inner ^ K → Hanging s feature inner levels root old runs ys pages count K
      → Going s inner levels root old (suc K) (j / inner) box runs (runs ++ ys ∷ []) pages count (length runs)
  hang_going old K j box runs ys pages count h ne eb ej v = record {
    block = parent_of inner (length runs) j K ej;
    wider = λ k l. wider_begun s laws (inner ^ k) runs ys box (pow_above inner k h)
        (room_above inner (length runs) h K k (omega (arith, l)) (λ u. ne (ap (λ z. z % inner) ej ∙ u))) eb;
    numbers = v.numbers;
    above = λ k l. v.inners k;
  }

  -- the page above, when it is reached
  at_parent : (old mid : Pages L B) (K j parent : ℕ) (runs : List (List L)) (ys : List L) (pages : ℕ → List ℕ) (count : ℕ) → Hanging s feature inner levels root old runs ys pages count K → IsWidened s inner old mid (runs ++ ys ∷ []) pages (suc K) (j / inner) parent
      → LevelStands s mid inner runs pages K
  at_parent old mid K j parent runs ys pages count v o i q a = keep_inner s old mid q (suc K) _ _ (o.kept.same q (one_level inner levels root count runs pages v.numbers (suc K) (suc K) i q a (omega arith))) (v.inners K i q a)

  pub parent_room : (old mid : Pages L B) (K j parent : ℕ) (runs : List (List L)) (ys : List L) (pages : ℕ → List ℕ) (count : ℕ) → 0 < inner → suc K < levels → j ≡ length runs / inner ^ K → Hanging s feature inner levels root old runs ys pages count K
      → IsWidened s inner old mid (runs ++ ys ∷ []) pages (suc K) (j / inner) parent → HasRoom mid parent (suc K) inner
  parent_room old mid K j parent runs ys pages count h b ej v o =
      let g = at_parent old mid K j parent runs ys pages count v o (j / inner) parent o.found in
      let lp : length (pages K) ≡ j = pages_are inner levels root count runs pages v.numbers K h (omega (arith, b)) v.full K (omega arith) ∙ sym ej in
      let few : length (block inner (j / inner) (pages K)) < inner = block_short inner (pages K) (j / inner) h (ap (λ z. z / inner) (sym lp)) in
      record { above = (v.numbers.within (suc K) (j / inner) parent o.found).0; page = g.page; is = g.is; height_is = g.height_is; few = (let e = ap length g.children_are in omega (arith, e, few, length-map g.page.entries (λ (x : EntryView B). x.child))) }

  -- the page above has room
  pub hang_room : (old mid new : Pages L B) (K j p parent : ℕ) (box : B) (runs : List (List L)) (ys : List L) (pages : ℕ → List ℕ) (count : ℕ) → 0 < inner → suc K < levels → j % inner ≢ 0 → hull s ys ≡ Some box → p ≡ count + K → j ≡ length runs / inner ^ K
      → Hanging s feature inner levels root old runs ys pages count K → IsWidened s inner old mid (runs ++ ys ∷ []) pages (suc K) (j / inner) parent → Attaches mid parent (suc K) p box new → Hung s feature inner levels root new runs ys (pages 0) count
  hang_room old mid new K j p parent box runs ys pages count h b ne eb ep ej v o w =
      let n = v.numbers in
      let after = runs ++ ys ∷ [] in
      let N = length runs in
      let b' : K < levels = omega (arith, b) in
      let room : (k : ℕ) → K < k → 0 < N % inner ^ k = λ k l. room_above inner N h K k l (λ u. ne (ap (λ z. z % inner) ej ∙ u)) in
      let other : (q : ℕ) → q ≢ parent → new.at q ≡ mid.at q = λ q u. w.becomes.rest q u in
      let same : (q : ℕ) → q < count + suc K → ((k i : ℕ) → page_at pages (suc k) i ≡ Some q → k < K) → new.at q ≡ old.at q = λ q _ f.
      other q (λ u. (let l = f K (j / inner) (o.found ∙ ap Some (sym u)) in omega (arith, l))) ∙ o.kept.same q (λ k i b. (let l = f k i b in omega (arith, l))) in
      let len : new.count ≡ count + suc K = w.counted ∙ o.kept.as_many ∙ v.as_many in
      let lp : length (pages K) ≡ j = pages_are inner levels root count runs pages n K h b' v.full K (omega arith) ∙ sym ej in
      let lr : length (level inner K runs) ≡ j = sym (n.one_each K b') ∙ lp in
      let gK : grown_to K count pages K ≡ pages K ++ p ∷ [] = grown_below K count pages K (omega arith) ∙ ap (λ c. pages K ++ c ∷ []) (sym ep) in
      let lv : level inner K after ≡ level inner K runs ++ (ys ∷ []) ∷ [] = begun_level inner levels root count runs pages n K h b' v.full ys K (omega arith) in
      let at_level : LevelStands s new inner after (grown_to K count pages) K = λ i q a.
      let a' : page_at pages (suc K) i ≡ Some q = ap (λ l. slice_get l i) (sym (grown_above K count pages (suc K) (omega arith))) ∙ a in
      let at_mid = at_parent old mid K j parent runs ys pages count v o i q a' in
      ⊎_elim
      (λ (e : i ≡ j / inner).
      let u : parent ≡ q = some_same parent q (sym o.found ∙ ap (page_at pages (suc K)) (sym e) ∙ a') in
      let w' : Attaches mid q (suc K) p box new = subst (λ z. Attaches mid z (suc K) p box new) u w in
      move_inner s new q (suc K) _ _ _ _
      (sym (ap (block inner i) gK ∙ block_push-at inner (pages K) p i h (e ∙ ap (λ z. z / inner) (sym lp))))
      (sym (ap (block inner i) lv ∙ block_push-at inner (level inner K runs) (ys ∷ []) i h (e ∙ ap (λ z. z / inner) (sym lr))))
      (attach_inner s feature inner levels root mid new q (suc K) (suc K) p box _ _ (ys ∷ []) w' (hull_alone s ys box eb) at_mid))
      (λ (e : i ≢ j / inner).
      let u : q ≢ parent = λ u. e (n.apart (suc K) i (suc K) (j / inner) parent (a' ∙ ap Some u) o.found).1 in
      move_inner s new q (suc K) _ _ _ _
      (sym (ap (block inner i) gK ∙ block_push-other inner (pages K) p i h (λ z. e (z ∙ ap (λ z. z / inner) lp))))
      (sym (ap (block inner i) lv ∙ block_push-other inner (level inner K runs) (ys ∷ []) i h (λ z. e (z ∙ ap (λ z. z / inner) lr))))
      (keep_inner s mid new q (suc K) _ _ (other q u) at_mid))
      (cases_eq i (j / inner)) in
      record {
        pages = grown_to K count pages;
        leaves_are = grown_below K count pages 0 (omega arith) ∙ ap (λ z. pages 0 ++ z ∷ []) (omega arith);
        tree = record {
          held = λ q l e. v.held q (let z = v.as_many in omega (arith, l, len, z)) (o.kept.held q (becomes_held mid new parent q _ w.becomes e).0);
          numbers = subst (λ z. NumbersStand inner levels root z after (grown_to K count pages)) (sym len) (hung_numbers inner levels root count runs pages n K ys h b v.full room);
          leaves = same_leaves s feature inner levels root K K old new runs ys pages count v same;
          inners = λ k. ⊎_elim
              (λ (l : k < K). below_level s feature inner levels root K K old new runs ys pages count h b' (omega arith) v same k l)
              (λ (l : K ≤ k). ⊎_elim
              (λ (e : K ≡ k). subst (λ k. LevelStands s new inner after (grown_to K count pages) k) e at_level)
              (λ (e : K ≢ k). λ i q a.
              let a' : page_at pages (suc k) i ≡ Some q = ap (λ l. slice_get l i) (sym (grown_above K count pages (suc k) (omega (arith, l)))) ∙ a in
              let u : q ≢ parent = λ u. e (let z = (n.apart (suc k) i (suc K) (j / inner) parent (a' ∙ ap Some u) o.found).0 in omega (arith, z)) in
              move_inner s new q (suc k) _ _ _ _ (ap (block inner i) (sym (grown_above K count pages k (omega (arith, l, e))))) refl
              (keep_inner s mid new q (suc k) _ _ (other q u) (o.above k (omega (arith, l, e)) i q a')))
              (cases_eq K k))
              (cases_lt k K);
        };
      }

  -- all pages of the level above are full: a new one is begun, to be hung itself
  pub hang_up : (old mid new : Pages L B) (K j p q height : ℕ) (box : B) (res : Result Top TreeFault) → 0 < inner → K < levels → j % inner ≡ 0 → height ≡ suc K → Adds old (AnInner (record { level = height; entries = record { child = p; bounds = box } ∷ [] })) mid q
      → Hangs s feature inner levels root mid new (suc K) (j / inner) q box res → Hangs s feature inner levels root old new K j p box res
  hang_up old mid new K j p q height box res h b full eh w on runs ys pages count eb ep ej v =
      let n = v.numbers in
      let N = length runs in
      let old_page : (r : ℕ) → r < count + suc K → mid.at r ≡ old.at r = λ r l. w.becomes.rest r (λ u. let z = v.as_many in let q = w.number in omega (arith, z, l, q, u)) in
      let is : q ≡ count + suc K = w.number ∙ v.as_many in
      let new_page : mid.at (count + suc K) ≡ Some (Some (AnInner (record { level = height; entries = record { child = p; bounds = box } ∷ [] }))) = ap mid.at (sym is) ∙ w.becomes.now in
      on runs ys pages count eb is (parent_of inner N j K ej) (record {
        numbers = n;
        as_many = w.counted ∙ ap (λ z. z + 1) v.as_many ∙ omega arith;
        held = λ r l e. (let b = becomes_held old mid q r _ w.becomes e in v.held r (let z = w.counted in let k = w.number in let u = b.1 in omega (arith, l, z, k, u)) b.0);
        full = full_up inner N h K v.full (ap (λ z. z % inner) (sym ej) ∙ full);
        filled = v.filled;
        leaves = λ i r t a c.
            let l : r < count + suc K = ⊎_elim
            (λ (e : i ≡ length (pages 0)). let z : r ≡ count = some_same r count (sym a ∙ get-push_last (pages 0) count i e) in omega (arith, z))
            (λ (e : i ≢ length (pages 0)). let z = n.within 0 i r (sym (get-push_other (pages 0) count i e) ∙ a) in omega (arith, z.1))
            (cases_eq i (length (pages 0))) in
            old_page r l ∙ v.leaves i r t a c;
        begun = λ k l. ⊎_elim
            (λ (u : k < K). keep_inner s old mid (count + suc k) (suc k) _ _ (old_page (count + suc k) (omega (arith, u))) (v.begun k u))
            (λ (u : K ≤ k).
            let z : K ≡ k = omega (arith, u, l) in
            subst (λ k. InnerStands s mid (count + suc k) (suc k) ((count + k) ∷ []) ((ys ∷ []) ∷ [])) z
            (record { page = record { level = height; entries = record { child = p; bounds = box } ∷ [] }; is = new_page; height_is = eh; children_are = ap (λ z. z ∷ []) ep; boxes_are = ap (λ o. o ∷ []) (sym (hull_alone s ys box eb)) }))
            (cases_lt k K);
        inners = λ k i r a. keep_inner s old mid r (suc k) _ _ (old_page r (let z = n.within (suc k) i r a in omega (arith, z.1))) (v.inners k i r a);
      })
