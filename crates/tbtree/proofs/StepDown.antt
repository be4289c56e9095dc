-- One level down.
use Rattle.std.proofs.Common.{ℕ, zero, suc, ◌*◌, ◌^◌, ◌≡◌, ◌<◌, Bool, true, false, cond, List, [], ◌∷◌, ◌++◌, take, drop, map, length, refl, sym, ap, ◌∙◌, arith, Option, Some, None, slice_get}
use Rattle.std.specs.List.{zip, filter, flat_map}
use Rattle.std.proofs.lemmas.List.{map-append, append-nil}
use Rattle.std.proofs.lemmas.List.Elements.{filter-append}
use Rattle.std.proofs.lemmas.Slice.Zip.{length-zip}
use Rattle.legs.specs.Blocks.{groups, level, block, joined}
use Rattle.legs.specs.Hull.{IsPruning, Boxes, both, hull_of}
use Rattle.legs.specs.Costs.{some_meets, block_meets}
use Rattle.tbtree.specs.Descent.{entries_in, node_at, children_met}
use Rattle.tbtree.specs.Nodes.{Pages, EntryView}
use Rattle.tbtree.specs.Stands.{NumbersStand, InnerStands, LevelStands}
use Rattle.legs.proofs.GroupLemmas.{some_none, some_same}
use Rattle.tbtree.proofs.Widening.{cons_head, cons_tail, nil_cons, pow_above}
use Rattle.tbtree.proofs.LawfulBoxes.{AreLawful}
use Rattle.tbtree.proofs.BlockLevels.{groups_as_many, group_get, groups_of_level, block_of_level, joined-groups}

module _ {X Y : Type 0} where
  zip-take : (n : ℕ) (xs : List X) (ys : List Y) → zip (take n xs) (take n ys) ≡ take n (zip xs ys)
  zip-take zero xs ys = refl
  zip-take (suc n) [] ys = refl
  zip-take (suc n) (x ∷ xs) [] = refl
  zip-take (suc n) (x ∷ xs) (y ∷ ys) = ap (λ l. (x, y) ∷ l) (zip-take n xs ys)

  zip-nil : (xs : List X) → zip xs (let e : List Y = [] in e) ≡ []
  zip-nil [] = refl
  zip-nil (x ∷ xs) = refl

  zip-drop : (n : ℕ) (xs : List X) (ys : List Y) → zip (drop n xs) (drop n ys) ≡ drop n (zip xs ys)
  zip-drop zero xs ys = refl
  zip-drop (suc n) [] ys = refl
  zip-drop (suc n) (x ∷ xs) [] = zip-nil (drop n xs)
  zip-drop (suc n) (x ∷ xs) (y ∷ ys) = zip-drop n xs ys

  pub zip-block : (n j : ℕ) (xs : List X) (ys : List Y) → zip (block n j xs) (block n j ys) ≡ block n j (zip xs ys)
  zip-block n j xs ys = zip-take n (drop (j * n) xs) (drop (j * n) ys) ∙ ap (take n) (zip-drop (j * n) xs ys)

  pub zip_get : (xs : List X) (ys : List Y) (j : ℕ) (m : X × Y) → slice_get (zip xs ys) j ≡ Some m → (slice_get xs j ≡ Some (m.0)) × (slice_get ys j ≡ Some (m.1))
  zip_get [] ys j m e = absurd (some_none m (sym e))
  zip_get (x ∷ xs) [] j m e = absurd (some_none m (sym e))
  zip_get (x ∷ xs) (y ∷ ys) zero m e = let s = some_same (x, y) m e in (ap (λ (c : X × Y). Some (c.0)) s, ap (λ (c : X × Y). Some (c.1)) s)
  zip_get (x ∷ xs) (y ∷ ys) (suc j) m e = zip_get xs ys j m e

-- a page but page 0 is what it says
pub node_above : {L B : Type 0} (nodes : Pages L B) (p : ℕ) → 0 < p → node_at nodes p ≡ nodes.at p
node_above nodes zero h = absurd (omega (arith, h))
node_above nodes (suc p) h = refl

module _ {L B : Type 0} (s : Boxes L B) (laws : AreLawful s) (meets : B → Bool) (prune : IsPruning s meets) where
  both-assoc : (a b c : Option B) → both s (both s a b) c ≡ both s a (both s b c)
  both-assoc None b c = refl
  both-assoc (Some a) None c = refl
  both-assoc (Some a) (Some b) None = refl
  both-assoc (Some a) (Some b) (Some c) = ap Some (laws.assoc a b c)

  hull_of-append : (xs ys : List (List L)) → hull_of s (xs ++ ys) ≡ both s (hull_of s xs) (hull_of s ys)
  hull_of-append [] ys = refl
  hull_of-append (x ∷ xs) ys = ap (both s _) (hull_of-append xs ys) ∙ sym (both-assoc _ (hull_of s xs) (hull_of s ys))

  pub both_miss : (a b : Option B) → some_meets s meets (both s a b) ≡ false → (some_meets s meets a ≡ false) × (some_meets s meets b ≡ false)
  both_miss None b e = (refl, e)
  both_miss (Some a) None e = (e, refl)
  both_miss (Some a) (Some b) e = prune a b e

  abbrev pub hit : ℕ × List (List L) → Bool
  hit b = block_meets s meets b.1

  abbrev pub page : ℕ × List (List L) → ℕ
  page b = b.0

  -- nothing below a block that does not meet does
  misses : (ps : List ℕ) (bs : List (List (List L))) → block_meets s meets (joined bs) ≡ false → filter hit (zip ps bs) ≡ []
  misses [] bs e = refl
  misses (p ∷ ps) [] e = refl
  misses (p ∷ ps) (b ∷ bs) e =
      let m = both_miss (hull_of s b) (hull_of s (joined bs)) (ap (some_meets s meets) (sym (hull_of-append b (joined bs))) ∙ e) in
      ap (λ v. cond v ((p, b) ∷ filter hit (zip ps bs)) (filter hit (zip ps bs))) m.0 ∙ misses ps bs m.1

  abbrev entry_page : EntryView B → ℕ
  entry_page e = e.child

  abbrev entry_meets : EntryView B → Bool
  entry_meets e = meets e.bounds

  shown : (es : List (EntryView B)) (gs : List (List (List L))) → map Some (map (λ (e : EntryView B). e.bounds) es) ≡ map (hull_of s) gs
      → map entry_page (filter entry_meets es) ≡ map page (filter hit (zip (map entry_page es) gs))
  shown [] gs e = refl
  shown (x ∷ es) [] e = absurd (nil_cons (Some x.bounds) (map Some (map (λ (e : EntryView B). e.bounds) es)) (sym e))
  shown (x ∷ es) (g ∷ gs) e =
      let h : Some x.bounds ≡ hull_of s g = cons_head (Some x.bounds) (hull_of s g) (map Some (map (λ (e : EntryView B). e.bounds) es)) (map (hull_of s) gs) e in
      let on : map entry_page (filter entry_meets es) ≡ map page (filter hit (zip (map entry_page es) gs)) = shown es gs (cons_tail (Some x.bounds) (hull_of s g) (map Some (map (λ (e : EntryView B). e.bounds) es)) (map (hull_of s) gs) e) in
      let m : meets x.bounds ≡ hit (x.child, g) = ap (some_meets s meets) h in
      ap (λ v. map entry_page (cond v (x ∷ filter entry_meets es) (filter entry_meets es))) m
      ∙ (elim (hit (x.child, g)) as (λ v. map entry_page (cond v (x ∷ filter entry_meets es) (filter entry_meets es)) ≡ map page (cond v ((x.child, g) ∷ filter hit (zip (map entry_page es) gs)) (filter hit (zip (map entry_page es) gs)))) [
        | true ↦ ap (λ l. x.child ∷ l) on
        | false ↦ on
      ])

  module _ (nodes : Pages L B) where
    children_are : (p height : ℕ) (ps : List ℕ) (gs : List (List (List L))) → 0 < p → InnerStands s nodes p height ps gs → children_met meets nodes p ≡ map page (filter hit (zip ps gs))
    unfolding children_met
    children_are p height ps gs above h =
        ap (λ n. map entry_page (filter entry_meets (entries_in n))) (node_above nodes p above ∙ h.is)
        ∙ shown h.page.entries gs h.boxes_are
        ∙ ap (λ cs. map page (filter hit (zip cs gs))) h.children_are

    -- a block's page shows the blocks below it that meet, and none of them does where it does not
    record Below (b : ℕ × List (List L)) (g : List (ℕ × List (List L))) : Type 0 where
      shows : children_met meets nodes b.0 ≡ map page (filter hit g)
      skips : hit b ≡ false → filter hit g ≡ []

    step : (bs : List (ℕ × List (List L))) (gs : List (List (ℕ × List (List L)))) → length bs ≡ length gs
        → ((j : ℕ) (b : ℕ × List (List L)) (g : List (ℕ × List (List L))) → slice_get bs j ≡ Some b → slice_get gs j ≡ Some g → Below b g)
        → flat_map (children_met meets nodes) (map page (filter hit bs)) ≡ map page (filter hit (joined gs))
    step [] [] e h = refl
    step [] (g ∷ gs) e h = absurd (omega (arith, e))
    step (b ∷ bs) [] e h = absurd (omega (arith, e))
    step (b ∷ bs) (g ∷ gs) e h =
        let here = h 0 b g refl refl in
        let on : flat_map (children_met meets nodes) (map page (filter hit bs)) ≡ map page (filter hit (joined gs)) = step bs gs (omega (arith, e)) (λ j. h (suc j)) in
        let split : map page (filter hit (g ++ joined gs)) ≡ map page (filter hit g) ++ map page (filter hit (joined gs)) = ap (map page) (filter-append hit g (joined gs)) ∙ map-append page (filter hit g) (filter hit (joined gs)) in
        (elim (hit b) as (λ v. hit b ≡ v → flat_map (children_met meets nodes) (map page (cond v (b ∷ filter hit bs) (filter hit bs))) ≡ map page (filter hit (g ++ joined gs))) [
          | true ↦ λ t. ap (λ l. l ++ flat_map (children_met meets nodes) (map page (filter hit bs))) here.shows ∙ ap (λ l. map page (filter hit g) ++ l) on ∙ sym split
          | false ↦ λ t. on ∙ sym (split ∙ ap (λ l. map page l ++ map page (filter hit (joined gs))) (here.skips t))
        ]) refl

    step_one : (root : ℕ) (bs : List (ℕ × List (List L))) (gs : List (List (ℕ × List (List L)))) → length bs ≡ 1 → length gs ≡ 1
        → ((b : ℕ × List (List L)) → slice_get bs 0 ≡ Some b → b.0 ≡ root)
        → ((j : ℕ) (b : ℕ × List (List L)) (g : List (ℕ × List (List L))) → slice_get bs j ≡ Some b → slice_get gs j ≡ Some g → Below b g)
        → flat_map (children_met meets nodes) (root ∷ []) ≡ map page (filter hit (joined gs))
    step_one root [] gs e f r h = absurd (omega (arith, e))
    step_one root (b ∷ bs) [] e f r h = absurd (omega (arith, f))
    step_one root (b ∷ bs) (g ∷ g' ∷ gs) e f r h = absurd (omega (arith, f))
    step_one root (b ∷ bs) (g ∷ []) e f r h =
        append-nil (children_met meets nodes root) ∙ ap (children_met meets nodes) (sym (r b refl)) ∙ (h 0 b g refl refl).shows ∙ ap (λ l. map page (filter hit l)) (sym (append-nil g))

  module _ (nodes : Pages L B) (inner levels root count : ℕ) (h : 0 < inner) (runs : List (List L)) (pages : ℕ → List ℕ)
      (n : NumbersStand inner levels root count runs pages) (inners : (k : ℕ) → LevelStands s nodes inner runs pages k) where
    -- each block of a level with its page
    abbrev pub paged : ℕ → List (ℕ × List (List L))
    paged k = zip (pages k) (level inner k runs)

    -- the pages of a level whose boxes meet
    abbrev pub met_on_level : ℕ → List ℕ
    met_on_level k = map page (filter hit (paged k))

    pub length-paged : (k : ℕ) → k < levels → length (paged k) ≡ length (level inner k runs)
    length-paged k l = let z = length-zip (pages k) (level inner k runs) in let o = n.one_each k l in omega (arith, z, o)

    below_at : (k j : ℕ) (b : ℕ × List (List L)) (g : List (ℕ × List (List L))) → slice_get (paged (suc k)) j ≡ Some b → slice_get (groups inner (paged k)) j ≡ Some g → Below nodes b g
    below_at k j b g e f =
        let z = zip_get (pages (suc k)) (level inner (suc k) runs) j b e in
        let ps = block inner j (pages k) in
        let gs = block inner j (level inner k runs) in
        let g_is : g ≡ zip ps gs = group_get inner (paged k) j g h f ∙ sym (zip-block inner j (pages k) (level inner k runs)) in
        let b_is : b.1 ≡ joined gs = group_get (inner ^ suc k) runs j b.1 (pow_above inner (suc k) h) z.1 ∙ sym (block_of_level inner h runs k j) in
        record {
          shows = children_are nodes b.0 (suc k) ps gs (n.within (suc k) j b.0 z.0).0 (inners k j b.0 z.0) ∙ ap (λ l. map page (filter hit l)) (sym g_is);
          skips = λ m. ap (filter hit) g_is ∙ misses ps gs (ap (block_meets s meets) (sym b_is) ∙ m);
        }

    length-below : (k : ℕ) → suc k < levels → length (paged (suc k)) ≡ length (groups inner (paged k))
    length-below k l =
        length-paged (suc k) l ∙ sym (groups_of_level inner h runs k)
        ∙ sym (groups_as_many inner (paged k) (level inner k runs) h (length-paged k (omega (arith, l))))

    pub level_down : (k : ℕ) → suc k < levels → flat_map (children_met meets nodes) (met_on_level (suc k)) ≡ met_on_level k
    level_down k l = step nodes (paged (suc k)) (groups inner (paged k)) (length-below k l) (below_at k) ∙ ap (λ l. map page (filter hit l)) (joined-groups inner h (paged k))

    pub root_down : (k : ℕ) → suc (suc k) ≡ levels → flat_map (children_met meets nodes) (root ∷ []) ≡ met_on_level k
    root_down k e =
        let l : suc k < levels = omega (arith, e) in
        let t = n.top (suc k) e in
        let one : length (paged (suc k)) ≡ 1 = length-paged (suc k) l ∙ t.0 in
        step_one nodes root (paged (suc k)) (groups inner (paged k)) one (sym (length-below k l) ∙ one)
        (λ b f. some_same b.0 root (sym (zip_get (pages (suc k)) (level inner (suc k) runs) 0 b f).0 ∙ t.1))
        (below_at k)
        ∙ ap (λ l. map page (filter hit l)) (joined-groups inner h (paged k))
