-- The chains of leaves of all features hold one list of legs, which may follow one another.
use Rattle.std.proofs.Common.{◌≡◌, ◌≢◌, ℕ, zero, suc, ◌+◌, ◌-◌, ◌<◌, ◌≤◌, true, List, [], ◌∷◌, ◌++◌, length, map, Option, Some, None, slice_get, refl, sym, ap, ◌∙◌, arith, subst, ⊎_elim}
use Rattle.std.specs.List.{filter}
use Rattle.std.specs.List.Sorted.{IsPermutation}
use Rattle.std.specs.Cmp.{nat_eq_equiv}
use Rattle.std.proofs.lemmas.Bool.{cases_lt}
use Rattle.std.proofs.lemmas.List.{length-map}
use Rattle.std.proofs.lemmas.List.Sorted.{IsPermutation-trans, IsPermutation-sym}
use Rattle.legs.specs.Blocks.{runs, joined}
use Rattle.legs.specs.Boxes.{BoxView}
use Rattle.legs.specs.Costs.{leg_feature}
use Rattle.legs.specs.Index.{legs_of, CanFollowInTurn}
use Rattle.legs.specs.Legs.{LegView}
use Rattle.legs.specs.declared.tracks.Track.{Track}
use Rattle.treecheck.specs.Check.{next_in, legs_on, first_on, IsLeafOf, AreLeavesFrom, AreLeavesOf, AreChains, HoldChains}
use Rattle.tbtree.specs.Turn.{first_ordinal, ComeInTurn, IsPast, IsRising}
use Rattle.tbtree.specs.Descent.{legs_in}
use Rattle.tbtree.specs.Nodes.{Pages}
use Rattle.tbtree.specs.Stands.{head_or_zero, last_or}
use Rattle.tbtree.specs.declared.tree.Place.{Place}
use Rattle.legs.proofs.BlockLemmas.{all_pass}
use Rattle.legs.proofs.GroupLemmas.{some_none, some_same}
use Rattle.tbtree.proofs.KeyRuns.{is}
use Rattle.treecheck.proofs.CheckingLemmas.{chains_once, rising_map}
use Rattle.treecheck.proofs.LeafChains.{runs_rise, legs_at, own, all_legs, leaves_own}
use Rattle.tbtree.proofs.OrdinalOrder.{IsUp}
use Rattle.tbtree.proofs.OwnedLists.{AreOwned, joined_map, owned_at, owned_beyond, numbered_rise}
use Rattle.tbtree.proofs.RisingLists.{own_order, in_filter, rising_up}
use Rattle.tbtree.proofs.SortLemmas.{number}
use Rattle.tbtree.proofs.TurnLemmas.{AreTurns, in_turn, turn_of, turn_rising}

module _ {X Y : Type 0} (h : X → Y) where
  pub get_of_map : (xs : List X) (i : ℕ) (y : Y) → slice_get (map h xs) i ≡ Some y → (x : X) × (slice_get xs i ≡ Some x) × (h x ≡ y)
  get_of_map [] i y e = absurd (some_none y (sym e))
  get_of_map (x ∷ xs) zero y e = (x, refl, some_same (h x) y e)
  get_of_map (x ∷ xs) (suc i) y e = get_of_map xs i y e

  pub get_map : (xs : List X) (i : ℕ) (x : X) → slice_get xs i ≡ Some x → slice_get (map h xs) i ≡ Some (h x)
  get_map [] i x e = absurd (some_none x (sym e))
  get_map (z ∷ xs) zero x e = ap (λ z. Some (h z)) (some_same z x e)
  get_map (z ∷ xs) (suc i) x e = get_map xs i x e

module _ {X : Type 0} where
  pub get_some : (xs : List X) (i : ℕ) → i < length xs → (x : X) × (slice_get xs i ≡ Some x)
  get_some [] i l = absurd (omega (arith, l))
  get_some (x ∷ xs) zero l = (x, refl)
  get_some (x ∷ xs) (suc i) l = get_some xs i (omega (arith, l))

  module _ (num : X → ℕ) where
    past_append : (a : ℕ) (xs ys : List X) → IsPast num a (xs ++ ys) → IsPast num a ys
    past_append a [] ys p = p
    past_append a (x ∷ xs) ys p = past_append a xs ys p.1

    rising_append : (xs ys : List X) → IsRising num (xs ++ ys) → IsRising num ys
    rising_append [] ys r = r
    rising_append (x ∷ xs) ys r = rising_append xs ys r.1

past_last : (num : ℕ → ℕ) (a b : ℕ) (bs : List ℕ) → IsPast num a (b ∷ bs) → a < num (last_or b bs)
past_last num a b [] p = p.0
past_last num a b (c ∷ bs) p = past_last num a c bs p.1

-- nothing stands behind the last one
pub none_behind : (num : ℕ → ℕ) (d : ℕ) (xs : List ℕ) (x : ℕ) (ys : List ℕ) → IsRising num (xs ++ x ∷ ys) → last_or d (xs ++ x ∷ ys) ≡ x → ys ≡ []
none_behind num d [] x [] r e = refl
none_behind num d [] x (y ∷ ys) r e = absurd (let p = past_last num (num x) y ys r.0 in let s : num (last_or y ys) ≡ num x = ap num e in omega (arith, p, s))
none_behind num d (z ∷ xs) x ys r e = none_behind num z xs x ys r.1 e

pub runs_rising : (n : ℕ) (legs : List LegView) → 0 < n → IsRising number legs → IsRising first_ordinal (runs leg_feature n legs)
runs_rising zero legs h r = absurd (omega (arith, h))
runs_rising (suc m) legs h r = runs_rise leg_feature m [] legs r

pub turn_row : (f rows : ℕ) (d : Option LegView) (legs : List LegView) (i : ℕ) (leg : LegView) → ComeInTurn f rows d legs → slice_get legs i ≡ Some leg → leg.row < rows
turn_row f rows d [] i leg t e = absurd (some_none leg (sym e))
turn_row f rows d (x ∷ legs) zero leg t e = subst (λ (x : LegView). x.row < rows) (some_same x leg e) t.1
turn_row f rows d (x ∷ legs) (suc i) leg t e = turn_row f rows (Some x) legs i leg t.3 e

first_head : (a : ℕ) (legs rest : List LegView) → 0 < length legs → IsPast number a (legs ++ rest) → a < first_ordinal legs
first_head a [] rest l p = absurd (omega (arith, l))
first_head a (x ∷ legs) rest l p = p.0

past_first : (legs rest : List LegView) → 0 < length legs → IsRising number (legs ++ rest) → IsPast number (first_ordinal legs) rest
past_first [] rest l r = absurd (omega (arith, l))
past_first (x ∷ legs) rest l r = past_append number x.ordinal legs rest r.0

module _ (nodes : Pages LegView BoxView) (most rows : ℕ) (h : 0 < most) where
  some_legs : (f previous left p : ℕ) → IsLeafOf nodes most f previous left p → 0 < length (legs_at nodes p)
  some_legs f previous left p l = let e : length (legs_at nodes p) ≡ length l.leaf.legs = ap (λ n. length (legs_in n)) l.is in let k = l.count_is in let s = l.some in omega (arith, e, k, s, h)

  past_firsts : (a f previous page left : ℕ) (ps : List ℕ) → AreLeavesFrom nodes most f previous page left ps → IsPast number a (legs_on nodes ps) → IsPast (first_on nodes) a ps
  past_firsts a f previous page left [] c p = tt
  past_firsts a f previous page left (q ∷ ps) c p = (
    first_head a (legs_at nodes q) (legs_on nodes ps) (some_legs f previous left q c.1) p,
    past_firsts a f q (next_in (nodes.at q)) (left - most) ps c.2 (past_append number a (legs_at nodes q) (legs_on nodes ps) p),
  )

  -- the firsts of a feature's leaves rise
  pub leaf_firsts : (f previous page left : ℕ) (ps : List ℕ) → AreLeavesFrom nodes most f previous page left ps → IsRising number (legs_on nodes ps) → IsRising (first_on nodes) ps
  leaf_firsts f previous page left [] c r = tt
  leaf_firsts f previous page left (p ∷ ps) c r = (
    past_firsts (first_on nodes p) f p (next_in (nodes.at p)) (left - most) ps c.2 (past_first (legs_at nodes p) (legs_on nodes ps) (some_legs f previous left p c.1) r),
    leaf_firsts f p (next_in (nodes.at p)) (left - most) ps c.2 (rising_append number (legs_at nodes p) (legs_on nodes ps) r),
  )

  pub first_is : (f previous page left : ℕ) (ps : List ℕ) → AreLeavesFrom nodes most f previous page left ps → page ≡ head_or_zero ps
  first_is f previous page left [] c = c.1
  first_is f previous page left (p ∷ ps) c = c.0

  -- a feature's pages, with its place and its track
  pub record Chain (f : ℕ) (places : List Place) (tracks : List Track) (j : ℕ) (ps : List ℕ) : Type 0 where
    pub place : Place
    pub track : Track
    pub placed : slice_get places j ≡ Some place
    pub tracked : slice_get tracks j ≡ Some track
    pub leaves : AreLeavesOf nodes most rows f place track ps

  pub chain_at : (f g j : ℕ) (places : List Place) (tracks : List Track) (chains : List (List ℕ)) (ps : List ℕ) → AreChains nodes most rows g places tracks chains → slice_get chains j ≡ Some ps → g + j ≡ f → Chain f places tracks j ps
  chain_at f g j places tracks [] ps c e s = absurd (some_none ps (sym e))
  chain_at f g j [] [] (qs ∷ chains) ps c e s = absurd c
  chain_at f g j [] (t ∷ tracks) (qs ∷ chains) ps c e s = absurd c
  chain_at f g j (place ∷ places) [] (qs ∷ chains) ps c e s = absurd c
  chain_at f g zero (place ∷ places) (track ∷ tracks) (qs ∷ chains) ps c e s =
      let q : g ≡ f = omega (arith, s) in
      record { place = place; track = track; placed = refl; tracked = refl; leaves = subst (λ f. AreLeavesOf nodes most rows f place track ps) q (subst (AreLeavesOf nodes most rows g place track) (some_same qs ps e) c.0) }
  chain_at f g (suc j) (place ∷ places) (track ∷ tracks) (qs ∷ chains) ps c e s =
      let r = chain_at f (suc g) j places tracks chains ps c.1 e (omega (arith, s)) in
      record { place = r.place; track = r.track; placed = r.placed; tracked = r.tracked; leaves = r.leaves }

  pub as_many_places : (g : ℕ) (places : List Place) (tracks : List Track) (chains : List (List ℕ)) → AreChains nodes most rows g places tracks chains → (length chains ≡ length places) × (length tracks ≡ length places)
  as_many_places g [] [] [] c = (refl, refl)
  as_many_places g [] [] (ps ∷ chains) c = absurd c
  as_many_places g [] (track ∷ tracks) chains c = absurd c
  as_many_places g (place ∷ places) [] chains c = absurd c
  as_many_places g (place ∷ places) (track ∷ tracks) [] c = absurd c
  as_many_places g (place ∷ places) (track ∷ tracks) (ps ∷ chains) c = let r = as_many_places (suc g) places tracks chains c.1 in (ap (λ n. suc n) r.0, ap (λ n. suc n) r.1)

  pub owned_pages : (g : ℕ) (places : List Place) (tracks : List Track) (chains : List (List ℕ)) → AreChains nodes most rows g places tracks chains → AreOwned (own nodes) g chains
  owned_pages g places tracks [] c = tt
  owned_pages g [] [] (ps ∷ chains) c = absurd c
  owned_pages g [] (track ∷ tracks) (ps ∷ chains) c = absurd c
  owned_pages g (place ∷ places) [] (ps ∷ chains) c = absurd c
  owned_pages g (place ∷ places) (track ∷ tracks) (ps ∷ chains) c = (leaves_own nodes most rows g 0 place.first place.legs None ps h c.0.leaves c.0.in_turn, owned_pages (suc g) places tracks chains c.1)

  pub owned_legs : (g : ℕ) (places : List Place) (tracks : List Track) (chains : List (List ℕ)) → AreChains nodes most rows g places tracks chains → AreOwned leg_feature g (map (legs_on nodes) chains)
  owned_legs g places tracks [] c = tt
  owned_legs g [] [] (ps ∷ chains) c = absurd c
  owned_legs g [] (track ∷ tracks) (ps ∷ chains) c = absurd c
  owned_legs g (place ∷ places) [] (ps ∷ chains) c = absurd c
  owned_legs g (place ∷ places) (track ∷ tracks) (ps ∷ chains) c = (turn_of g rows None (legs_on nodes ps) c.0.in_turn, owned_legs (suc g) places tracks chains c.1)

pub not_none : (ls : List LegView) → 0 < length ls → ls ≢ []
not_none ls l e = absurd (let z : length ls ≡ 0 = ap length e in omega (arith, l, z))

module _ (nodes : Pages LegView BoxView) (most rows total : ℕ) (places : List Place) (tracks : List Track) (h : 0 < most) (legs : List LegView) (c : HoldChains nodes most rows total places tracks legs) where
  abbrev all : List LegView
  all = legs_on nodes (joined c.chains)

  abbrev css : List (List LegView)
  css = map (legs_on nodes) c.chains

  pub legs_rise : IsRising number legs
  legs_rise = numbered_rise total legs c.numbered

  legs_up : IsUp (map number legs)
  legs_up = rising_up number legs legs_rise

  pub chain : (f : ℕ) (ps : List ℕ) → slice_get c.chains f ≡ Some ps → Chain nodes most rows h f places tracks f ps
  chain f ps e = chain_at nodes most rows h f 0 f places tracks c.chains ps c.are_chains e (omega arith)

  owned : AreOwned leg_feature 0 css
  owned = owned_legs nodes most rows h 0 places tracks c.chains c.are_chains

  pub as_many : length css ≡ length places
  as_many = length-map c.chains (legs_on nodes) ∙ (as_many_places nodes most rows h 0 places tracks c.chains c.are_chains).0

  pub own_legs : (f : ℕ) (ps : List ℕ) → slice_get c.chains f ≡ Some ps → legs_of f legs ≡ legs_on nodes ps
  own_legs f ps e =
      own_order number (is leg_feature f) (legs_on nodes ps) all legs (turn_rising f rows None (legs_on nodes ps) (chain f ps e).leaves.in_turn) c.moved
      (ap (filter (is leg_feature f)) (sym (joined_map (λ p. legs_in (nodes.at p)) c.chains)) ∙ owned_at leg_feature f 0 f css (legs_on nodes ps) owned (get_map (legs_on nodes) c.chains f ps e) (omega arith))
      legs_up

  pub no_legs : (f : ℕ) → length c.chains ≤ f → legs_of f legs ≡ []
  no_legs f l =
      own_order number (is leg_feature f) [] all legs tt c.moved
      (ap (filter (is leg_feature f)) (sym (joined_map (λ p. legs_in (nodes.at p)) c.chains)) ∙ owned_beyond leg_feature f 0 css owned (let m = length-map c.chains (legs_on nodes) in omega (arith, l, m)))
      legs_up

  pub few : (i : ℕ) (leg : LegView) → slice_get legs i ≡ Some leg → leg.feature < length c.chains
  few i leg e =
      ⊎_elim (λ (l : leg.feature < length c.chains). l)
      (λ (l : length c.chains ≤ leg.feature).
      let k = in_filter (is leg_feature leg.feature) legs i leg e (nat_eq_equiv.refl leg.feature) in
      absurd (some_none leg (sym (ap (λ l. slice_get l k.0) (sym (no_legs leg.feature l)) ∙ k.1))))
      (cases_lt leg.feature (length c.chains))

  pub led : (f : ℕ) (ps : List ℕ) → slice_get c.chains f ≡ Some ps → 0 < length (legs_on nodes ps)
  led f ps e = let k = chain f ps e in let s = c.some f k.place k.placed in let m = all_legs nodes most f 0 k.place.first k.place.legs ps k.leaves.leaves in omega (arith, s, m)

  turns : AreTurns rows total css legs
  turns = record {
    numbers = c.numbered;
    own = λ f ls e. let k = get_of_map (legs_on nodes) c.chains f ls e in own_legs f k.0 k.1 ∙ k.2;
    few = λ i leg e. (let l = few i leg e in let m = length-map c.chains (legs_on nodes) in omega (arith, l, m));
    turns = λ f ls e. let k = get_of_map (legs_on nodes) c.chains f ls e in subst (ComeInTurn f rows None) k.2 (chain f k.0 k.1).leaves.in_turn;
    some = λ f ls e. let k = get_of_map (legs_on nodes) c.chains f ls e in subst (λ ls. ls ≢ []) k.2 (not_none (legs_on nodes k.0) (led f k.0 k.1));
    firsts = rising_map (legs_on nodes) first_ordinal c.chains c.firsts;
  }

  pub chained : CanFollowInTurn [] legs
  chained = in_turn rows total css legs turns

module _ (nodes : Pages LegView BoxView) (most rows : ℕ) where
  -- chains hold one list alone
  pub one_list : (total : ℕ) (places : List Place) (tracks : List Track) (a b : List LegView) → HoldChains nodes most rows total places tracks a → HoldChains nodes most rows total places tracks b → a ≡ b
  one_list total places tracks a b x y =
      let chains : y.chains ≡ x.chains = chains_once nodes most rows 0 places tracks y.chains x.chains y.are_chains x.are_chains in
      let moved : IsPermutation (legs_on nodes (joined x.chains)) b = subst (λ c. IsPermutation (legs_on nodes (joined c)) b) chains y.moved in
      let both : IsPermutation a b = IsPermutation-trans a (legs_on nodes (joined x.chains)) b (IsPermutation-sym (legs_on nodes (joined x.chains)) a x.moved) moved in
      sym (sym (all_pass b) ∙ own_order number (λ _. true) a a b (numbered_rise total a x.numbered) both (all_pass a) (rising_up number b (numbered_rise total b y.numbered)))
