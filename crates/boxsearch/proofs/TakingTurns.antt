-- Legs put into an index in any order in which each feature's ordinals rise.
use Rattle.std.proofs.Common.{ℕ, zero, suc, All, drop, take, get_or, ◌≡◌, ◌≢◌, ◌≤◌, ◌<◌, ◌+◌, ◌*◌, ◌-◌, ◌^◌, min, max, refl, sym, ap, ◌∙◌, arith, subst, ⊎_elim, true, false, List, [], ◌∷◌, ◌++◌, length, set, Some, slice_get, Result, Ok, Err, OnOk, OnErr, append_assoc}
use Rattle.std.specs.Prelude.{IfErr}
use Rattle.std.proofs.lemmas.Bool.{cases_eq}
use Rattle.std.proofs.lemmas.Int.{clamps}
use Rattle.std.proofs.lemmas.List.{length-append, length-drop, length-map, length-set, append-nil, take_all}
use Rattle.std.proofs.lemmas.Nat.{mul-le}
use Rattle.legs.specs.Asking.{IsLater}
use Rattle.legs.specs.Index.{MayRefuseLeg, feature_count}
use Rattle.legs.specs.Legs.{LegView}
use Rattle.legs.specs.Places.{no_leg}
use Rattle.legs.specs.declared.index.IndexFault.{IndexFault}
use Rattle.legs.specs.declared.index.IndexFault.TheVariants as index
use Rattle.tbtree.specs.Faults.{GivesWrite, MayRefuseWrite, RefusesWrite}
use Rattle.tbtree.specs.Insert.{IsPlace}
use Rattle.tbtree.specs.Joining.{AllJoined, CanJoinInTurn, CanTakeInTurn}
use Rattle.tbtree.specs.Nodes.{pages_of_cache}
use Rattle.tbtree.specs.Shape.{IsShape}
use Rattle.tbtree.specs.declared.fault.TreeFault.{TreeFault}
use Rattle.tbtree.specs.declared.tree.Place.{Place}
use Rattle.boxsearch.specs.Answers.{answered, of_tree}
use Rattle.boxsearch.specs.Index.{IndexView, words, IsMarked, with_place}
use Rattle.boxsearch.specs.Putting.{PutsAll}
use Rattle.boxsearch.specs.Taking.{HoldsLegs, Taking, taken}
use Rattle.boxsearch.specs.declared.turns.Turn.{Turn}
use Rattle.boxsearch.proofs.AddLemmas.{made, marked_after, feature_count-push}
use Rattle.legs.proofs.GrowLemmas.{later-trans}
use Rattle.tbtree.proofs.LawLemmas.{held_fit, none_of}
use Rattle.boxsearch.proofs.AnswerLemmas.{each_fault, the_fault, SaidOfLeg, write_said, write_allowed}
use Rattle.boxsearch.proofs.OtherLemmas.{later_put, later_same, later_spent}
use Rattle.boxsearch.proofs.PlaceLemmas.{get-set_same, get-set_other, made_places, length-made, some_same}
use Rattle.boxsearch.proofs.TrackLemmas.{no_legs}

-- legs that may be taken in turn may join in turn
can_join_in_turn : (b ys : List LegView) → CanTakeInTurn b ys → CanJoinInTurn b ys
can_join_in_turn b [] w = tt
can_join_in_turn b (y ∷ ys) w = (w.0.joins, can_join_in_turn (b ++ y ∷ []) ys w.1)

-- the first of some legs of a feature is of a feature that is there, or of the next one
head_fits : (f : ℕ) (b ys : List LegView) → 0 < length ys → All (λ y. y.feature ≡ f) ys → CanTakeInTurn b ys → f ≤ feature_count b
head_fits f b [] some all w = absurd (omega (arith, some))
head_fits f b (y ∷ ys) some all w = let low = w.0.feature in let own : y.feature ≡ f = all 0 y (omega arith) in omega (arith, low, own)

-- how many features there are after some legs of one
feature_count-run : (f : ℕ) (b ys : List LegView) → All (λ y. y.feature ≡ f) ys → 0 < length ys → feature_count (b ++ ys) ≡ max (feature_count b) (f + 1)
feature_count-run f b [] all some = absurd (omega (arith, some))
feature_count-run f b (y ∷ []) all some = feature_count-push b y ∙ ap (λ g. max (feature_count b) (g + 1)) (all 0 y (omega arith))
feature_count-run f b (y ∷ z ∷ zs) all some =
    let first = feature_count-push b y in
    let own : y.feature ≡ f = all 0 y (omega arith) in
    let more : feature_count ((b ++ y ∷ []) ++ z ∷ zs) ≡ max (feature_count (b ++ y ∷ [])) (f + 1) = feature_count-run f (b ++ y ∷ []) (z ∷ zs) (λ k d l. all (suc k) d (omega (arith, l))) (omega arith) in
    ap feature_count (sym (append_assoc b (y ∷ []) (z ∷ zs))) ∙ more ∙ ap (λ n. max n (f + 1)) (first ∙ ap (λ g. max (feature_count b) (g + 1)) own) ∙ omega (arith, clamps)

module _ (old new : IndexView) (feature : ℕ) (legs before : List LegView) (some : 0 < length legs) (one : All (λ leg. leg.feature ≡ feature) legs) (r : Result (Unit {0}) TreeFault) (p : PutsAll (made old feature) new feature legs r) (s : HoldsLegs old before) where
  abbrev longer : List LegView
  longer = before ++ legs

  placed_made : (f : ℕ) (place : Place) → slice_get (with_place old.places feature) f ≡ Some place → IsPlace old.tree before s.pages f place
  placed_made =
      made_places (λ f place. IsPlace old.tree before s.pages f place) old.places feature s.placed
      (none_of old.tree before s.pages (length old.places) s.shape (no_legs before (length old.places) (let n = s.features in omega (arith, n))))

  pub gives : CanTakeInTurn before legs → GivesWrite r (λ _. AllJoined (pages_of_cache new.cache) old.tree new.tree before s.pages feature legs p.is)
  gives w = p.joins s.faithful feature before s.pages s.holds (placed_made feature p.was p.found) one (can_join_in_turn before legs w)

  module _ (w : CanTakeInTurn before legs) (i : AllJoined (pages_of_cache new.cache) old.tree new.tree before s.pages feature legs p.is) where
    still_shape : IsShape new.tree.shape
    still_shape = subst (λ shape. IsShape shape) (sym p.shape) s.shape

    few_legs : length longer ≤ 2 ^ 64 - 1
    few_legs =
        let fits = held_fit (pages_of_cache new.cache) new.tree longer i.pages still_shape i.stands in
        let most = still_shape.most_leaf in
        let few = p.few in
        let m : new.cache.count * new.tree.shape.leaf ≤ 2 ^ 32 * 50 = mul-le new.cache.count new.tree.shape.leaf (2 ^ 32) 50 (omega (arith, few)) most in
        omega (arith, fits, m)

    as_many_places : length new.places ≡ feature_count longer
    as_many_places =
        let n = s.features in
        let low = head_fits feature before legs some one w in
        let a : length new.places ≡ length (with_place old.places feature) = ap length p.places ∙ length-set (with_place old.places feature) feature p.is in
        let b = length-made old.places feature (omega (arith, n, low)) in
        let c = feature_count-run feature before legs one some in
        omega (arith, a, b, c, n)

    new_places : (f : ℕ) (place : Place) → slice_get new.places f ≡ Some place → IsPlace new.tree longer i.pages f place
    new_places f place h =
        let at : slice_get (set (with_place old.places feature) feature p.is) f ≡ Some place = ap (λ (l : List Place). slice_get l f) (sym p.places) ∙ h in
        ⊎_elim
        (λ (e : f ≡ feature).
        let same : p.is ≡ place = some_same p.is place (sym (get-set_same (with_place old.places feature) feature p.is p.was p.found) ∙ ap (slice_get (set (with_place old.places feature) feature p.is)) (sym e) ∙ at) in
        subst (λ f. IsPlace new.tree longer i.pages f place) (sym e) (subst (λ q. IsPlace new.tree longer i.pages feature q) same i.placed))
        (λ (u : f ≢ feature).
        i.others f place u (placed_made f place (sym (get-set_other (with_place old.places feature) feature f p.is u) ∙ at)))
        (cases_eq f feature)

    pub held_after : new.cache.count ≡ new.cache.store.count → new.tree.spent ≡ false → new.legs ≡ min (old.legs + length legs) (2 ^ 64 - 1) → HoldsLegs new longer
    held_after count works counted = record {
      faithful = p.passes.store.faithful ∙ s.faithful;
      works = works;
      shape = still_shape;
      count = count;
      pages = i.pages;
      holds = i.stands;
      counted = (let few = few_legs in let n = s.counted in let a = length-append before legs in omega (arith, clamps, few, n, a, counted));
      features = as_many_places;
      placed = new_places;
    }

module _ (old new : IndexView) (feature : ℕ) (legs : List LegView) (some : 0 < length legs) (one : All (λ leg. leg.feature ≡ feature) legs) where
  takes : (r : Result (Unit {0}) TreeFault) → PutsAll (made old feature) new feature legs r → OnOk (answered (λ fault. of_tree fault) r) ((before : List LegView) → HoldsLegs old before → CanTakeInTurn before legs → HoldsLegs new (before ++ legs))
  takes (Ok tt) p = λ before s w. held_after old new feature legs before some one (Ok tt) p s w (gives old new feature legs before some one (Ok tt) p s w) (p.count s.count) p.works p.counted
  takes (Err x) p = tt

  on_answer : (P : Type 0) (r : Result (Unit {0}) TreeFault) → OnOk r P → OnOk (answered (λ fault. of_tree fault) r) P
  on_answer P (Ok tt) h = h
  on_answer P (Err x) h = tt

  on_refusal : (P : Type 0) (r : Result (Unit {0}) TreeFault) → OnErr r P → OnErr (answered (λ fault. of_tree fault) r) P
  on_refusal P (Ok tt) h = tt
  on_refusal P (Err x) h = h

  allowed : (r : Result (Unit {0}) TreeFault) → PutsAll (made old feature) new feature legs r → IfErr r (λ fault. (before : List LegView) → HoldsLegs old before → CanTakeInTurn before legs → MayRefuseWrite fault)
  allowed (Ok tt) p = tt
  allowed (Err x) p = λ before s w. gives old new feature legs before some one (Err x) p s w

  pub joined : (r : Result (Unit {0}) TreeFault) → PutsAll (made old feature) new feature legs r → old.tree.spent ≡ false → Taking old new legs (answered (λ fault. of_tree fault) r)
  joined r p works =
      let say : TreeFault → IndexFault = λ fault. of_tree fault in
      let said = each_fault say (RefusesWrite old.cache new.cache) (SaidOfLeg old.cache new.cache) (write_said old.cache new.cache) r p.caused in
      record {
        takes = takes r p;
        later = later_put old new p.shape p.passes;
        works = on_answer (new.tree.spent ≡ false) r p.works;
        spent = on_refusal (new.tree.spent ≡ true) r p.spent;
        refused = each_fault say (λ fault. (before : List LegView) → HoldsLegs old before → CanTakeInTurn before legs → MayRefuseWrite fault)
            (λ fault. (before : List LegView) → HoldsLegs old before → CanTakeInTurn before legs → MayRefuseLeg fault) (λ x h before s w. write_allowed x (h before s w)) r (allowed r p);
        store = λ e. the_fault (answered say r) (SaidOfLeg old.cache new.cache) index.Store e said;
        full = λ e. the_fault (answered say r) (SaidOfLeg old.cache new.cache) index.StoreFull e said;
        works_on = λ e. the_fault (answered say r) (SaidOfLeg old.cache new.cache) index.Spent e said;
        marked = marked_after old.cache new.cache p.passes;
      }

take_front : (b xs ys : List LegView) → CanTakeInTurn b (xs ++ ys) → CanTakeInTurn b xs
take_front b [] ys w = tt
take_front b (x ∷ xs) ys w = (w.0, take_front (b ++ x ∷ []) xs ys w.1)

-- as far as a loop over legs has come, from an index to what it is now
pub record IsTaking (old now : IndexView) (all left : List LegView) : Type 0 where
  pub going : (before : List LegView) → HoldsLegs old before → CanTakeInTurn before all
      → (done : List LegView) × HoldsLegs now (before ++ done) × CanTakeInTurn (before ++ done) left × (done ++ left ≡ all)
  pub works : now.tree.spent ≡ false
  pub marked : IsMarked old.cache → IsMarked now.cache
  pub later : IsLater words old now

pub taking_start : (old : IndexView) (all : List LegView) → old.tree.spent ≡ false → IsTaking old old all all
taking_start old all works = record {
  going = λ before s w. ([], subst (λ l. HoldsLegs old l) (sym (append-nil before)) s, subst (λ l. CanTakeInTurn l all) (sym (append-nil before)) w, refl);
  works = works;
  marked = λ m. m;
  later = later_same old;
}

take_back : (b xs ys : List LegView) → CanTakeInTurn b (xs ++ ys) → CanTakeInTurn (b ++ xs) ys
take_back b [] ys w = subst (λ l. CanTakeInTurn l ys) (sym (append-nil b)) w
take_back b (x ∷ xs) ys w = subst (λ l. CanTakeInTurn l ys) (append_assoc b (x ∷ []) xs) (take_back (b ++ x ∷ []) xs ys w.1)

pub taking_more : (old now new : IndexView) (all left run : List LegView) → IsTaking old now all (run ++ left) → Taking now new run (Ok tt) → IsTaking old new all left
taking_more old now new all left run so_far more = record {
  going = λ before s w.
      let at = so_far.going before s w in
      let done = at.0 in
      let same : (before ++ done) ++ run ≡ before ++ (done ++ run) = append_assoc before done run in (
        done ++ run,
        subst (λ l. HoldsLegs new l) same (more.takes (before ++ done) at.1 (take_front (before ++ done) run left at.2)),
        subst (λ l. CanTakeInTurn l left) same (take_back (before ++ done) run left at.2),
        append_assoc done run left ∙ at.3,
      );
  works = more.works;
  marked = λ m. more.marked (so_far.marked m);
  later = later-trans words old now new so_far.later more.later;
}

pub taking_refused : (old now new : IndexView) (all left run : List LegView) (fault : IndexFault) → IsTaking old now all (run ++ left) → Taking now new run (Err fault) → Taking old new all (Err fault)
taking_refused old now new all left run fault so_far more = record {
  takes = tt;
  later = later-trans words old now new so_far.later more.later;
  works = tt;
  spent = more.spent;
  refused = λ before s w. (let at = so_far.going before s w in more.refused (before ++ at.0) at.1 (take_front (before ++ at.0) run left at.2));
  store = λ e. (let a = so_far.later.faults in let b = more.store e in omega (arith, clamps, a, b));
  full = more.full;
  works_on = more.works_on;
  marked = λ m. more.marked (so_far.marked m);
}

-- memory that runs out before a leg is put spends the index
pub taking_none : (old new : IndexView) (legs : List LegView) → new.tree.spent ≡ true → new.cache ≡ old.cache → new.tree.shape ≡ old.tree.shape → Taking old new legs (Err index.Memory)
taking_none old new legs spent cache shape = record {
  takes = tt;
  later = later_spent old new cache shape;
  works = tt;
  spent = spent;
  refused = λ before s w. tt;
  store = λ e. absurd cc;
  full = λ e. absurd cc;
  works_on = λ e. absurd cc;
  marked = λ m. subst (λ c. IsMarked c) (sym cache) m;
}

-- memory that runs out between two runs spends the index too
pub taking_ends : (old now new : IndexView) (all left : List LegView) → IsTaking old now all left → new.tree.spent ≡ true → new.cache ≡ now.cache → new.tree.shape ≡ now.tree.shape → Taking old new all (Err index.Memory)
taking_ends old now new all left so_far spent cache shape = record {
  takes = tt;
  later = later-trans words old now new so_far.later (later_spent now new cache shape);
  works = tt;
  spent = spent;
  refused = λ before s w. tt;
  store = λ e. absurd cc;
  full = λ e. absurd cc;
  works_on = λ e. absurd cc;
  marked = λ m. subst (λ c. IsMarked c) (sym cache) (so_far.marked m);
}

-- a run is of no more turns than there are
pub run_fits : (legs run : List LegView) (turns : List Turn) → taken legs turns ≡ run ++ taken legs (drop (length run) turns) → length run ≤ length turns
run_fits legs run turns e =
    let all = length-map turns (λ turn. get_or legs turn.place no_leg) in
    let rest = length-map (drop (length run) turns) (λ turn. get_or legs turn.place no_leg) in
    let split = ap length e ∙ length-append run (taken legs (drop (length run) turns)) in
    let left = length-drop (length run) turns in
    omega (arith, all, rest, split, left)

pub drop_none : {X : Type 0} (k : ℕ) → let none : List X = [] in drop k none ≡ none
drop_none zero = refl
drop_none (suc k) = refl

pub drop_add : {X : Type 0} (n m : ℕ) (xs : List X) → drop m (drop n xs) ≡ drop (n + m) xs
drop_add zero m xs = ap (λ k. drop k xs) (omega arith)
drop_add (suc n) m [] = drop_none m ∙ sym (drop_none (suc n + m))
drop_add (suc n) m (x ∷ xs) = drop_add n m xs ∙ ap (λ k. drop k (x ∷ xs)) (let e : suc (n + m) ≡ suc n + m = omega arith in e)

-- the legs of the next turns, and of those behind them
pub taken_run : (legs run : List LegView) (turns : List Turn) (k : ℕ) → (let rest = take (length turns - k) (drop k turns) in taken legs rest ≡ run ++ taken legs (drop (length run) rest)) → taken legs (drop k turns) ≡ run ++ taken legs (drop (k + length run) turns)
taken_run legs run turns k e =
    let rest : take (length turns - k) (drop k turns) ≡ drop k turns = take_all (length turns - k) (drop k turns) (let d = length-drop k turns in omega (arith, d)) in
    ap (taken legs) (sym rest) ∙ e ∙ ap (λ ts. run ++ taken legs (drop (length run) ts)) rest ∙ ap (λ ts. run ++ taken legs ts) (drop_add k (length run) turns)

pub drop_next : {X : Type 0} (xs : List X) (k : ℕ) (d : X) → k < length xs → drop k xs ≡ get_or xs k d ∷ drop (suc k) xs
drop_next [] k d l = absurd (omega (arith, l))
drop_next (x ∷ xs) zero d l = refl
drop_next (x ∷ xs) (suc k) d l = drop_next xs k d (omega (arith, l))

pub get_any : {X : Type 0} (xs : List X) (i : ℕ) (d e : X) → i < length xs → get_or xs i d ≡ get_or xs i e
get_any [] i d e l = absurd (omega (arith, l))
get_any (x ∷ xs) zero d e l = refl
get_any (x ∷ xs) (suc i) d e l = get_any xs i d e (omega (arith, l))

-- the next leg that is taken
pub taken_next : (legs : List LegView) (turns : List Turn) (k : ℕ) (d : Turn) (leg : LegView) → k < length turns → All (λ (turn : Turn). turn.place < length legs) turns → leg ≡ get_or legs (get_or turns k d).place leg
    → taken legs (drop k turns) ≡ leg ∷ taken legs (drop (k + 1) turns)
taken_next legs turns k d leg l within is =
    let p = (get_or turns k d).place in
    let next : k + 1 ≡ suc k = omega arith in
    let here : get_or legs p no_leg ≡ leg = get_any legs p no_leg leg (within k d l) ∙ sym is in
    ap (taken legs) (drop_next turns k d l) ∙ ap (λ x. x ∷ taken legs (drop (suc k) turns)) here ∙ ap (λ n. leg ∷ taken legs (drop n turns)) (sym next)

-- one leg more is taken
pub taken_more : (legs : List LegView) (turns : List Turn) (k : ℕ) (d : Turn) (leg : LegView) (run : List LegView) → k < length turns → All (λ (turn : Turn). turn.place < length legs) turns → leg ≡ get_or legs (get_or turns k d).place leg
    → taken legs turns ≡ run ++ taken legs (drop k turns) → taken legs turns ≡ (run ++ leg ∷ []) ++ taken legs (drop (k + 1) turns)
taken_more legs turns k d leg run l within is so_far = so_far ∙ ap (λ rest. run ++ rest) (taken_next legs turns k d leg l within is) ∙ sym (append_assoc run (leg ∷ []) (taken legs (drop (k + 1) turns)))
