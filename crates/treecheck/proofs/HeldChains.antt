-- The leaves of a feature, linked one with the next, are its legs in groups.
use Rattle.std.proofs.Common.{◌≡◌, ◌≢◌, ℕ, zero, suc, ◌+◌, ◌-◌, ◌<◌, ◌≤◌, List, [], ◌∷◌, ◌++◌, length, map, take, drop, Some, slice_get, refl, sym, ap, ◌∙◌, arith, subst, ⊎_elim}
use Rattle.std.specs.List.{filter, flat_map, range_with_len}
use Rattle.std.proofs.lemmas.Bool.{cases_eq, cases_lt}
use Rattle.std.proofs.lemmas.List.{take_all, drop_all, length-take, length-take-le, length-drop, take-append-drop}
use Rattle.legs.specs.Blocks.{groups, joined}
use Rattle.legs.specs.Boxes.{BoxView}
use Rattle.legs.specs.Legs.{LegView}
use Rattle.legs.specs.declared.tracks.Track.{Track}
use Rattle.treecheck.specs.Check.{next_in, AreLeavesFrom, AreLeavesOf, AreChains}
use Rattle.tbtree.specs.Turn.{IsPast, IsRising}
use Rattle.tbtree.specs.Nodes.{Pages, ALeaf}
use Rattle.tbtree.specs.Stands.{head_or_zero, last_or}
use Rattle.tbtree.specs.declared.tree.Place.{Place}
use Rattle.legs.proofs.BlockLemmas.{all_pass}
use Rattle.tbtree.proofs.KeyRuns.{is, of_key_runs}
use Rattle.treecheck.proofs.LeafChains.{legs_at, groups_first, groups_only}
use Rattle.tbtree.proofs.OwnedLists.{AreOf, AreOwned}
use Rattle.tbtree.proofs.RisingLists.{own_first, not_own}
use Rattle.tbtree.proofs.Widening.{cons_head, cons_tail, nil_cons}

module _ {X Y : Type 0} (h : X → Y) where
  -- lists with the same elements, where those of the one are mapped
  pub same_map : (xs : List X) (ys : List Y) → length xs ≡ length ys → ((i : ℕ) (x : X) (y : Y) → slice_get xs i ≡ Some x → slice_get ys i ≡ Some y → h x ≡ y) → map h xs ≡ ys
  same_map [] [] l e = refl
  same_map [] (y ∷ ys) l e = absurd (omega (arith, l))
  same_map (x ∷ xs) [] l e = absurd (omega (arith, l))
  same_map (x ∷ xs) (y ∷ ys) l e =
      let head : h x ≡ y = e 0 x y refl refl in
      let rest : map h xs ≡ ys = same_map xs ys (omega (arith, l)) (λ i. e (suc i)) in
      λ i. head i ∷ rest i

  pub map_none : (xs : List X) → map h xs ≡ [] → xs ≡ []
  map_none [] e = refl
  map_none (x ∷ xs) e = absurd (nil_cons (h x) (map h xs) (sym e))

  past_unmap : (num : Y → ℕ) (a : ℕ) (xs : List X) → IsPast num a (map h xs) → IsPast (λ x. num (h x)) a xs
  past_unmap num a [] r = tt
  past_unmap num a (x ∷ xs) r = (r.0, past_unmap num a xs r.1)

  pub rising_unmap : (num : Y → ℕ) (xs : List X) → IsRising num (map h xs) → IsRising (λ x. num (h x)) xs
  rising_unmap num [] r = tt
  rising_unmap num (x ∷ xs) r = (past_unmap num (num (h x)) xs r.0, rising_unmap num xs r.1)

pub flat_joined : {X Y : Type 0} (h : X → List Y) (xs : List X) → flat_map h xs ≡ joined (map h xs)
flat_joined h [] = refl
flat_joined h (x ∷ xs) = ap (λ l. h x ++ l) (flat_joined h xs)

module _ {X : Type 0} where
  -- the elements of an owner are the owner's
  pub filter_of : (own : X → ℕ) (f : ℕ) (xs : List X) → AreOf own f (filter (is own f) xs)
  filter_of own f [] = tt
  filter_of own f (x ∷ xs) =
      ⊎_elim
      (λ (o : own x ≡ f). subst (AreOf own f) (sym (own_first own f x xs o)) (o, filter_of own f xs))
      (λ (o : own x ≢ f). subst (AreOf own f) (sym (not_own own f x xs o)) (filter_of own f xs))
      (cases_eq (own x) f)

  -- lists by numbers one after another
  pub owned_range : (own : X → ℕ) (list : ℕ → List X) (a m : ℕ) → ((f : ℕ) → AreOf own f (list f)) → AreOwned own a (map list (range_with_len a m))
  owned_range own list a zero h = tt
  owned_range own list a (suc m) h = (h a, subst (λ b. AreOwned own b (map list (range_with_len (a + 1) m))) (let e : a + 1 ≡ suc a = omega arith in e) (owned_range own list (a + 1) m h))

  pub get_range : (list : ℕ → X) (a m i f : ℕ) → i < m → a + i ≡ f → slice_get (map list (range_with_len a m)) i ≡ Some (list f)
  get_range list a zero i f l e = absurd (omega (arith, l))
  get_range list a (suc m) zero f l e = ap (λ f. Some (list f)) (omega (arith, e))
  get_range list a (suc m) (suc i) f l e = get_range list (a + 1) m i f (omega (arith, l)) (omega (arith, e))

  past_range : (num : X → ℕ) (list : ℕ → X) (b a m : ℕ) → ((g : ℕ) → a ≤ g → g < a + m → b < num (list g)) → IsPast num b (map list (range_with_len a m))
  past_range num list b a zero h = tt
  past_range num list b a (suc m) h = (h a (omega arith) (omega arith), past_range num list b (a + 1) m (λ g l k. h g (omega (arith, l)) (omega (arith, k))))

  pub rising_range : (num : X → ℕ) (list : ℕ → X) (a m : ℕ) → ((f g : ℕ) → f < g → g < a + m → num (list f) < num (list g)) → IsRising num (map list (range_with_len a m))
  rising_range num list a zero h = tt
  rising_range num list a (suc m) h = (
    past_range num list (num (list a)) (a + 1) m (λ g l k. h a g (omega (arith, l)) (omega (arith, k))),
    rising_range num list (a + 1) m (λ f g l k. h f g l (omega (arith, k))),
  )

  -- the groups of a list, one after another, are the list
  pub joined_groups : (n : ℕ) (xs : List X) → 0 < n → joined (groups n xs) ≡ xs
  joined_groups n xs h = sym (all_pass (joined (groups n xs))) ∙ of_key_runs (λ _. 0) n 0 xs h ∙ all_pass xs

  pub length_none : (xs : List X) → length xs ≤ 0 → xs ≡ []
  length_none [] l = refl
  length_none (x ∷ xs) l = absurd (omega (arith, l))

  -- the first group, and those behind it
  groups_step : (n : ℕ) (xs : List X) → 0 < n → 0 < length xs → groups n xs ≡ take n xs ∷ groups n (drop n xs)
  groups_step n xs h some =
      ⊎_elim
      (λ (l : length xs < n).
      groups_only n xs some (omega (arith, l)) ∙ ap (λ t. t ∷ []) (sym (take_all n xs (omega (arith, l)))) ∙ ap (λ d. take n xs ∷ groups n d) (sym (drop_all n xs (omega (arith, l)))))
      (λ (l : n ≤ length xs). ap (groups n) (sym (take-append-drop n xs)) ∙ groups_first n (take n xs) (drop n xs) h (length-take-le n xs l))
      (cases_lt (length xs) n)

module _ (nodes : Pages LegView BoxView) where
  -- each of the pages is a leaf of the feature, linked with those before and after it
  abbrev pub AreLinked : (f previous : ℕ) → List ℕ → Type 0
  AreLinked f previous ps =
      (xs : List ℕ) (p : ℕ) (ys : List ℕ) → ps ≡ xs ++ p ∷ ys
      → (0 < p) × (p < nodes.count) × (nodes.at p ≡ Some (Some (ALeaf (record { feature = f; previous = last_or previous xs; next = head_or_zero ys; legs = legs_at nodes p }))))

  -- linked leaves that have legs in groups are those of the legs
  pub leaves_from : (most f previous : ℕ) (ps : List ℕ) (legs : List LegView) → 0 < most → AreLinked f previous ps → map (legs_at nodes) ps ≡ groups most legs → AreLeavesFrom nodes most f previous (head_or_zero ps) (length legs) ps
  leaves_from most f previous [] legs h k e = (none, refl)
    where
      none : length legs ≡ 0
      none =
          ⊎_elim
          (λ (l : 0 < length legs). absurd (nil_cons (take most legs) (groups most (drop most legs)) (e ∙ groups_step most legs h l)))
          (λ (l : length legs ≤ 0). omega (arith, l))
          (cases_lt 0 (length legs))
  leaves_from most f previous (p ∷ ps) legs h k e =
      let here = k [] p ps refl in
      let some : 0 < length legs =
      ⊎_elim
      (λ (l : 0 < length legs). l)
      (λ (l : length legs ≤ 0). absurd (nil_cons (legs_at nodes p) (map (legs_at nodes) ps) (ap (groups most) (sym (length_none legs l)) ∙ sym e)))
      (cases_lt 0 (length legs)) in
      let step = e ∙ groups_step most legs h some in
      let first : legs_at nodes p ≡ take most legs = cons_head (legs_at nodes p) (take most legs) (map (legs_at nodes) ps) (groups most (drop most legs)) step in
      let rest : map (legs_at nodes) ps ≡ groups most (drop most legs) = cons_tail (legs_at nodes p) (take most legs) (map (legs_at nodes) ps) (groups most (drop most legs)) step in
      let next : next_in (nodes.at p) ≡ head_or_zero ps = ap next_in here.2 in
      let on = leaves_from most f p ps (drop most legs) h (λ xs q ys s. k (p ∷ xs) q ys (ap (λ l. p ∷ l) s)) rest in (
        refl,
        record {
          leaf = record { feature = f; previous = previous; next = head_or_zero ps; legs = legs_at nodes p };
          some = some;
          above = here.0;
          within = here.1;
          is = here.2;
          feature_is = refl;
          previous_is = refl;
          count_is = ap length first ∙ length-take most legs;
        },
        subst (λ page. AreLeavesFrom nodes most f p page (length legs - most) ps) (sym next) (subst (λ left. AreLeavesFrom nodes most f p (head_or_zero ps) left ps) (length-drop most legs) on),
      )

  -- each feature from that one on has its leaves
  pub chains_from : (most rows : ℕ) (chain : ℕ → List ℕ) (f : ℕ) (places : List Place) (tracks : List Track) → length tracks ≡ length places
      → ((i g : ℕ) (place : Place) (track : Track) → f + i ≡ g → slice_get places i ≡ Some place → slice_get tracks i ≡ Some track → AreLeavesOf nodes most rows g place track (chain g))
      → AreChains nodes most rows f places tracks (map chain (range_with_len f (length places)))
  chains_from most rows chain f [] [] l h = tt
  chains_from most rows chain f [] (track ∷ tracks) l h = absurd (omega (arith, l))
  chains_from most rows chain f (place ∷ places) [] l h = absurd (omega (arith, l))
  chains_from most rows chain f (place ∷ places) (track ∷ tracks) l h = (
    h 0 f place track (omega arith) refl refl,
    subst (λ g. AreChains nodes most rows g places tracks (map chain (range_with_len (f + 1) (length places)))) (let e : f + 1 ≡ suc f = omega arith in e)
        (chains_from most rows chain (f + 1) places tracks (omega (arith, l)) (λ i g p t s. h (suc i) g p t (omega (arith, s)))),
  )
