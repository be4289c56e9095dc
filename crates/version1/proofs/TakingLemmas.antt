-- What the legs of a store of version 1 are, by what its chains say.
use Rattle.std.proofs.Common.{◌≡◌, ◌≤◌, ◌+◌, ◌∙◌, ◌++◌, ◌∷◌, ℕ, zero, suc, List, [], map, take, drop, length, slice_get, Option, Some, None, Result, Ok, Err, IsErrOf, IfErr, OnOk, Bool, true, false, cond, nat_eq, refl, sym, ap, subst, arith, append_assoc, inl}
use Rattle.std.specs.List.{All, range_with_len}
use Rattle.std.specs.List.Sorted.{IsPermutation, IsNonDecreasingBy}
use Rattle.std.proofs.lemmas.List.Sorted.{IsPermutation-map, IsPermutation-sym, All-permutation}
use Rattle.std.proofs.lemmas.List.Elements.{All-head, All-tail, All-nil, All-cons}
use Rattle.std.specs.Map.{lookup}
use Rattle.std.proofs.lemmas.Bool.{eqb-true}
use Rattle.std.proofs.lemmas.List.{length-map}
use Rattle.legs.specs.Asking.{IsLater}
use Rattle.legs.proofs.RecordLemmas.{follow_append}
use Rattle.legs.specs.Blocks.{joined}
use Rattle.legs.specs.Boxes.{BoxView}
use Rattle.legs.specs.Index.{CanFollowInTurn}
use Rattle.legs.specs.declared.listed.Listed.{Ghosts}
use Rattle.pagecache.proofs.CallerLemmas.{store_unsyncs-trans}
use Rattle.pages.specs.Store.{Store, Stays, Faulted, HasRisen}
use Rattle.legs.specs.Legs.{LegView}
use Rattle.legs.specs.declared.tracks.Track.{Track}
use Rattle.treecheck.specs.Check.{legs_on, HoldChains}
use Rattle.tbtree.specs.Turn.{first_ordinal, IsRising}
use Rattle.tbnode.specs.Nodes.{as_leaf}
use Rattle.tbtree.specs.Descent.{legs_in, sort_by_ordinal}
use Rattle.tbtree.specs.Nodes.{Pages, Node, LeafView, ALeaf, AnInner}
use Rattle.tbtree.specs.declared.tree.Place.{Place}
use Rattle.std.proofs.lemmas.Int.{clamps}
use Rattle.legs.specs.declared.index.IndexFault.{IndexFault}
use Rattle.legs.specs.declared.index.IndexFault.TheVariants as index
use Rattle.pagecache.specs.Cache.{fresh}
use Rattle.pagecache.specs.declared.fault.CacheFault.TheVariants as cache
use Rattle.boxsearch.specs.Answers.{of_tree}
use Rattle.tbtree.specs.Faults.{RefusesRead}
use Rattle.tbtree.specs.declared.fault.TreeFault.{TreeFault}
use Rattle.tbtree.specs.declared.fault.TreeFault.TheVariants.{Cache as OfCache, Malformed, Spent}
use Rattle.version1.specs.OldLegs.{AreAmong, AreSurveyed, HaveLegsOf, IsNumbered, IsOneOf, StandByOrdinal}
use Rattle.version1.specs.Migrating.{Holds, MayWait}
use Rattle.treecheck.specs.Ordering.{IsSurveyWhole}
use Rattle.treecheck.specs.Walking.{IsMet, Surveys}
use Rattle.treecheck.specs.declared.walking.Met.{Met}
use Rattle.treecheck.specs.declared.walking.Survey.{Survey}
use Rattle.treecheck.proofs.CheckingLemmas.{rising_unmap}
use Rattle.treecheck.proofs.WalkLemmas.{drop_at}

module _ (nodes : Pages LegView BoxView) (most rows total : ℕ) (places : List Place) (tracks : List Track) where
  pub surveyed : (survey : Survey) (leaves : List Met) → Surveys nodes most rows places tracks survey → IsSurveyWhole places total survey → IsPermutation survey.leaves.items leaves
      → IsNonDecreasingBy (λ (m : Met). m.first) leaves → AreSurveyed nodes most rows total places tracks leaves
  surveyed survey leaves s w moved rises = record {
    chains = s.chains;
    are_chains = s.are_chains;
    some = w.some;
    once = subst (λ l. IsPermutation l (range_with_len 0 total)) s.ordinals w.once;
    firsts = rising_unmap (λ pages. first_ordinal (legs_on nodes pages)) (λ n. n) s.chains (subst (IsRising (λ n. n)) s.firsts w.firsts);
    ordered = subst (λ l. IsPermutation l (map (λ (m : Met). m.page) leaves)) s.pages_are (IsPermutation-map (λ (m : Met). m.page) survey.leaves.items leaves moved);
    are_met = All-permutation (λ (m : Met). IsMet (nodes.at m.page) m) survey.leaves.items leaves moved s.are_met;
    rises = rises;
  }

some_same : {X : Type 0} (x y : X) → Some x ≡ Some y → x ≡ y
some_same {X} x y e = ap (λ (o : Option X). elim o as (λ _. X) [ Some z ↦ z | None ↦ x ]) e

-- a leg is put to those that stand at their ordinals
pub stand_put : (legs : List LegView) (old new : List (ℕ × LegView)) (k : ℕ) (leg : LegView) → StandByOrdinal legs old → IsOneOf legs leg → leg.ordinal ≡ k
    → ((q : ℕ) → lookup (nat_eq q) new ≡ cond (nat_eq k q) (Some leg) (lookup (nat_eq q) old)) → StandByOrdinal legs new
stand_put legs old new k leg stand one at step o x e =
    (elim (nat_eq k o) as (λ b. nat_eq k o ≡ b → cond b (Some leg) (lookup (nat_eq o) old) ≡ Some x → (x.ordinal ≡ o) × IsOneOf legs x) [
      | true ↦ λ t s. let same : leg ≡ x = some_same leg x s in subst (λ (x : LegView). (x.ordinal ≡ o) × IsOneOf legs x) same (at ∙ eqb-true k o t, one)
      | false ↦ λ t s. stand o x s
    ]) refl (sym (step o) ∙ e)

-- a leg is taken out
pub stand_taken : (legs : List LegView) (old new : List (ℕ × LegView)) (test : ℕ → Bool) → StandByOrdinal legs old
    → ((q : ℕ) → lookup (nat_eq q) new ≡ cond (test q) None (lookup (nat_eq q) old)) → StandByOrdinal legs new
stand_taken legs old new test stand step o x e =
    (elim (test o) as (λ b. cond b None (lookup (nat_eq o) old) ≡ Some x → (x.ordinal ≡ o) × IsOneOf legs x) [
      | true ↦ λ s. let none : None ≡ Some x = s in absurd (cc)
      | false ↦ λ s. stand o x s
    ]) (sym (step o) ∙ e)

number_at : (a n : ℕ) (legs : List LegView) (i : ℕ) (leg : LegView) → map (λ leg. leg.ordinal) legs ≡ range_with_len a n → slice_get legs i ≡ Some leg → leg.ordinal ≡ a + i
number_at a n [] i leg e g = let none : None ≡ Some leg = g in absurd (cc)
number_at a zero (x ∷ legs) i leg e g = let none : x.ordinal ∷ map (λ (leg : LegView). leg.ordinal) legs ≡ [] = e in absurd (cc)
number_at a (suc n) (x ∷ legs) zero leg e g =
    let both : x.ordinal ∷ map (λ (leg : LegView). leg.ordinal) legs ≡ a ∷ range_with_len (a + 1) n = e in
    let h : x.ordinal ≡ a = cc in
    let s : x.ordinal ≡ leg.ordinal = ap (λ (leg : LegView). leg.ordinal) (some_same x leg g) in omega (arith, h, s)
number_at a (suc n) (x ∷ legs) (suc i) leg e g =
    let both : x.ordinal ∷ map (λ (leg : LegView). leg.ordinal) legs ≡ a ∷ range_with_len (a + 1) n = e in
    let rest : map (λ (leg : LegView). leg.ordinal) legs ≡ range_with_len (a + 1) n = cc in
    let on = number_at (a + 1) n legs i leg rest g in omega (arith, on)

take_next : {X : Type 0} (xs : List X) (i : ℕ) (x : X) → slice_get xs i ≡ Some x → take (i + 1) xs ≡ take i xs ++ x ∷ []
take_next [] i x e = let none : None ≡ Some x = e in absurd (cc)
take_next (y ∷ ys) zero x e = ap (λ z. z ∷ []) (some_same y x e)
take_next (y ∷ ys) (suc i) x e = (let s : suc i + 1 ≡ suc (i + 1) = omega arith in ap (λ n. take n (y ∷ ys)) s) ∙ ap (λ l. y ∷ l) (take_next ys i x e)

module _ {I : Type 0} (g : Ghosts I) where
  -- of the list so many legs are in the index, or wait behind those
  pub record Brought (first now : I) (opened : List (ℕ × LegView)) (waiting : List LegView) (n : ℕ) (list : List LegView) : Type 0 where
    pub stand : StandByOrdinal list opened
    pub may : MayWait g now waiting
    pub content : g.content now ++ waiting ≡ take n list
    pub rest : CanFollowInTurn (g.content now ++ waiting) (drop n list)
    pub marked : g.is_marked first → g.is_marked now

  pub brought_none : (index : I) (opened : List (ℕ × LegView)) (waiting : List LegView) (total : ℕ) (list : List LegView) → opened ≡ [] → waiting ≡ [] → g.is_sound index → g.content index ≡ [] → IsNumbered total list
      → Brought index index opened waiting 0 list
  brought_none index opened waiting total list none idle sound empty numbered =
      let nothing : g.content index ++ waiting ≡ [] = ap (λ l. l ++ waiting) empty ∙ idle in
      record {
        stand = subst (StandByOrdinal list) (sym none) (λ o leg e. (let n : None ≡ Some leg = e in absurd (cc)));
        may = (sound, subst (CanFollowInTurn (g.content index)) (sym idle) tt);
        content = nothing;
        rest = subst (λ l. CanFollowInTurn l list) (sym nothing) numbered.in_turn;
        marked = λ m. m;
      }

  -- at the next ordinal a leg of the list is opened
  pub record StandsNext (first now : I) (opened more : List (ℕ × LegView)) (waiting : List LegView) (n total : ℕ) (list : List LegView) (leg : LegView) : Type 0 where
    pub brought : Brought first now opened waiting n list
    pub numbered : IsNumbered total list
    pub stand : StandByOrdinal list more
    pub at : lookup (nat_eq n) more ≡ Some leg

  -- the leg at the next ordinal is the next one
  module _ {first now : I} {opened more : List (ℕ × LegView)} {waiting : List LegView} {n total : ℕ} {list : List LegView} {leg : LegView} (k : StandsNext first now opened more waiting n total list leg) where
    pub next_leg : slice_get list n ≡ Some leg
    next_leg =
        let s = k.stand n leg k.at in
        let i = s.1.0 in
        let o : leg.ordinal ≡ 0 + i = number_at 0 total list i leg k.numbered.numbers s.1.1 in
        let same : i ≡ n = (let p = s.0 in omega (arith, o, p)) in
        subst (λ i. slice_get list i ≡ Some leg) same s.1.1

    next_rest : CanFollowInTurn (g.content now ++ waiting) (leg ∷ drop (n + 1) list)
    next_rest = subst (CanFollowInTurn (g.content now ++ waiting)) (drop_at list n leg next_leg) k.brought.rest

    pub next_waits : MayWait g now (waiting ++ leg ∷ [])
    next_waits = (k.brought.may.0, follow_append (g.content now) waiting (leg ∷ []) k.brought.may.1 (next_rest.0, tt))

    pub brought_on : (later : I) (left : List (ℕ × LegView)) (after : List LegView) (next : ℕ) → n + 1 ≡ next → StandByOrdinal list left
        → (MayWait g now (waiting ++ leg ∷ []) → Holds g now later (waiting ++ leg ∷ []) after)
        → (MayWait g now (waiting ++ leg ∷ []) → g.is_marked now → g.is_marked later)
        → Brought first later left after next list
    brought_on later left after next s keep holds marks =
        let h = holds next_waits in
        let more : g.content later ++ after ≡ (g.content now ++ waiting) ++ leg ∷ [] = h.content ∙ sym (append_assoc (g.content now) waiting (leg ∷ [])) in
        record {
          stand = keep;
          may = h.may;
          content = more ∙ ap (λ l. l ++ leg ∷ []) k.brought.content ∙ sym (take_next list n leg next_leg) ∙ ap (λ n. take n list) s;
          rest = subst (λ n. CanFollowInTurn (g.content later ++ after) (drop n list)) s (subst (λ l. CanFollowInTurn l (drop (n + 1) list)) (sym more) next_rest.1);
          marked = λ m. marks next_waits (k.brought.marked m);
        }

take_past : {X : Type 0} (xs : List X) (i : ℕ) → length xs ≤ i → take i xs ≡ xs
take_past [] zero l = refl
take_past [] (suc i) l = refl
take_past (x ∷ xs) zero l = absurd (omega (arith, l))
take_past (x ∷ xs) (suc i) l = ap (λ l. x ∷ l) (take_past xs i (omega (arith, l)))

length_range : (a n : ℕ) → length (range_with_len a n) ≡ n
length_range a zero = refl
length_range a (suc n) = ap (λ n. suc n) (length_range (a + 1) n)

pub length_numbered : (total : ℕ) (list : List LegView) → IsNumbered total list → length list ≡ total
length_numbered total list numbered = sym (length-map list (λ leg. leg.ordinal)) ∙ ap length numbered.numbers ∙ length_range 0 total

pub numbered_at : (total : ℕ) (list : List LegView) (i : ℕ) (leg : LegView) → IsNumbered total list → slice_get list i ≡ Some leg → leg.ordinal ≡ i
numbered_at total list i leg numbered e = (let o = number_at 0 total list i leg numbered.numbers e in omega (arith, o))

pub all_taken : (total n : ℕ) (list : List LegView) → IsNumbered total list → total ≤ n → take n list ≡ list
all_taken total n list numbered l = (let e = length_numbered total list numbered in take_past list n (omega (arith, e, l)))

pub later_refl : {I : Type 0} (g : Ghosts I) (a : I) → IsLater g a a
later_refl g a = record { plan = refl; faults = omega arith; asked = omega arith; faithful = λ f. f }

pub later_trans : {I : Type 0} (g : Ghosts I) (a b c : I) → IsLater g a b → IsLater g b c → IsLater g a c
later_trans g a b c p q = record { plan = q.plan ∙ p.plan; faults = (let x = p.faults in let y = q.faults in omega (arith, x, y)); asked = (let x = p.asked in let y = q.asked in omega (arith, x, y)); faithful = λ f. q.faithful (p.faithful f) }

pub stays_refl : (a : Store) → Stays a a
stays_refl a = record { keeps = record { most = refl; faithful = refl; faults = omega arith; lost = λ l. l }; count = refl; pages = λ f. refl; unsynced = inl refl }

pub stays_trans : (a b c : Store) → Stays a b → Stays b c → Stays a c
stays_trans a b c p q = record {
  keeps = record { most = q.keeps.most ∙ p.keeps.most; faithful = q.keeps.faithful ∙ p.keeps.faithful; faults = (let x = p.keeps.faults in let y = q.keeps.faults in omega (arith, x, y)); lost = λ l. q.keeps.lost (p.keeps.lost l) };
  count = q.count ∙ p.count;
  pages = λ f. q.pages (p.keeps.faithful ∙ f) ∙ p.pages f;
  unsynced = store_unsyncs-trans a b c p.unsynced q.unsynced;
}

pub leaf_legs : (node : Option (Node LegView BoxView)) (leaf : LeafView LegView) → as_leaf node ≡ Some leaf → legs_in (Some node) ≡ leaf.legs
leaf_legs (Some (ALeaf l)) leaf e = let s : Some l ≡ Some leaf = e in ap (λ (l : LeafView LegView). l.legs) (some_same l leaf s)
leaf_legs (Some (AnInner page)) leaf e = let none : None ≡ Some leaf = e in absurd (cc)
leaf_legs None leaf e = let none : None ≡ Some leaf = e in absurd (cc)

-- a count that has risen after a while has risen
pub risen_after : (a b c : ℕ) → a ≤ b → HasRisen b c → HasRisen a c
risen_after a b c l h = omega (arith, l, h, clamps)

-- a store that is only read has failed where a search says so
pub store_failed : (old new : Store) (fault : TreeFault) → RefusesRead (fresh old 1) (fresh new 1) fault → of_tree fault ≡ index.Store → Faulted old new
store_failed old new (OfCache cache.NoPage) h e = absurd h
store_failed old new (OfCache cache.Store) h e = h
store_failed old new (OfCache (cache.Damaged n)) h e = let no : index.Damaged n ≡ index.Store = e in absurd (cc)
store_failed old new (OfCache cache.StoreFull) h e = absurd h
store_failed old new (OfCache cache.Memory) h e = let no : index.Memory ≡ index.Store = e in absurd (cc)
store_failed old new (Malformed n) h e = let no : index.Damaged n ≡ index.Store = e in absurd (cc)
store_failed old new Spent h e = absurd h

module _ {X : Type 0} (P : X → Type 0) where
  pub all_get : (xs : List X) (i : ℕ) (x : X) → All P xs → slice_get xs i ≡ Some x → P x
  all_get [] i x a e = let none : None ≡ Some x = e in absurd (cc)
  all_get (y ∷ ys) zero x a e = subst P (some_same y x e) (All-head P y ys a)
  all_get (y ∷ ys) (suc i) x a e = all_get ys i x (All-tail P y ys a) e

  pub all_from : (xs : List X) → ((i : ℕ) (x : X) → slice_get xs i ≡ Some x → P x) → All P xs
  all_from [] h = All-nil P
  all_from (x ∷ xs) h = All-cons P x xs (h 0 x refl) (all_from xs (λ i. h (suc i)))

  all_first : (xs ys : List X) → All P (xs ++ ys) → All P xs
  all_first [] ys a = All-nil P
  all_first (x ∷ xs) ys a = All-cons P x xs (All-head P x (xs ++ ys) a) (all_first xs ys (All-tail P x (xs ++ ys) a))

  all_last : (xs ys : List X) → All P (xs ++ ys) → All P ys
  all_last [] ys a = a
  all_last (x ∷ xs) ys a = all_last xs ys (All-tail P x (xs ++ ys) a)

module _ (nodes : Pages LegView BoxView) (list : List LegView) where
  pages_among : (pages : List ℕ) → All (IsOneOf list) (legs_on nodes pages) → All (λ p. AreAmong (legs_in (nodes.at p)) list) pages
  pages_among [] a = All-nil (λ p. AreAmong (legs_in (nodes.at p)) list)
  pages_among (p ∷ ps) a =
      All-cons (λ p. AreAmong (legs_in (nodes.at p)) list) p ps
      (λ i leg e. all_get (IsOneOf list) (legs_in (nodes.at p)) i leg (all_first (IsOneOf list) (legs_in (nodes.at p)) (legs_on nodes ps) a) e)
      (pages_among ps (all_last (IsOneOf list) (legs_in (nodes.at p)) (legs_on nodes ps) a))

  pub have_legs : (pages : List ℕ) (leaves : List Met) → IsPermutation pages (map (λ (m : Met). m.page) leaves) → IsPermutation (legs_on nodes pages) list → HaveLegsOf nodes leaves list
  have_legs pages leaves ordered moved k m e =
      let own : All (IsOneOf list) list = all_from (IsOneOf list) list (λ i leg g. (i, g)) in
      let all = All-permutation (IsOneOf list) list (legs_on nodes pages) (IsPermutation-sym (legs_on nodes pages) list moved) own in
      let met = All-permutation (λ p. AreAmong (legs_in (nodes.at p)) list) pages (map (λ (m : Met). m.page) leaves) ordered (pages_among pages all) in
      all_get (λ p. AreAmong (legs_in (nodes.at p)) list) (map (λ (m : Met). m.page) leaves) k m.page met (slice_get-map leaves k m e)
    where
      slice_get-map : (leaves : List Met) (k : ℕ) (m : Met) → slice_get leaves k ≡ Some m → slice_get (map (λ (m : Met). m.page) leaves) k ≡ Some m.page
      slice_get-map [] k m e = let none : None ≡ Some m = e in absurd (cc)
      slice_get-map (x ∷ leaves) zero m e = ap (λ (m : Met). Some m.page) (some_same x m e)
      slice_get-map (x ∷ leaves) (suc k) m e = slice_get-map leaves k m e

module _ (nodes : Pages LegView BoxView) (most rows total : ℕ) (places : List Place) (tracks : List Track) (leaves : List Met) (s : AreSurveyed nodes most rows total places tracks leaves) where
  abbrev all : List LegView
  all = legs_on nodes (joined s.chains)

  abbrev pub list : List LegView
  list = sort_by_ordinal all

  -- what the chains hold, in order
  pub held_list : IsPermutation all list × (map (λ leg. leg.ordinal) list ≡ range_with_len 0 total) → HoldChains nodes most rows total places tracks list
  held_list h = record { chains = s.chains; are_chains = s.are_chains; some = s.some; moved = h.0; numbered = h.1; firsts = s.firsts }

  pub legs_are : IsPermutation all list × (map (λ leg. leg.ordinal) list ≡ range_with_len 0 total) → HaveLegsOf nodes leaves list
  legs_are h = have_legs nodes list (joined s.chains) leaves s.ordered h.0

pub same_err : (x y : IndexFault) → IsErrOf {T = Unit {0}} (Err x) y → x ≡ y
same_err x y e = ap (λ (r : Result (Unit {0}) IndexFault). elim r as (λ _. IndexFault) [ Ok z ↦ x | Err z ↦ z ]) e

pub on_ok : {T P Q : Type 0} (r : Result T IndexFault) → (P → Q) → OnOk r P → OnOk r Q
on_ok (Ok x) f p = f p
on_ok (Err e) f p = p

pub on_err : {T : Type 0} {P Q : IndexFault → Type 0} (r : Result T IndexFault) → ((fault : IndexFault) → P fault → Q fault) → IfErr r P → IfErr r Q
on_err (Ok x) f p = tt
on_err (Err e) f p = f e p
