-- The place of a feature, after one more leg.
use Rattle.std.proofs.Common.{ℕ, zero, suc, ◌+◌, ◌-◌, ◌%◌, ◌<◌, ◌≤◌, ◌≡◌, ◌≢◌, ◌==◌, All, true, false, cond, List, [], ◌∷◌, ◌++◌, take, drop, set, get_or, map, length, refl, sym, ap, ◌∙◌, arith, subst, eq-eqb, ⊎_elim, ◌⊎◌, inl, inr, Some, slice_get}
use Rattle.std.specs.List.{zip, filter, count_by}
use Rattle.std.proofs.lemmas.Bool.{cases_eq, cases_lt}
use Rattle.std.proofs.Math.Nat.{mod-eq_of_lt, pow-zero, div-one}
use Rattle.std.proofs.lemmas.List.{length-map, append-nil, drop-append-le, drop_all, length_push, length-append, length-set}
use Rattle.std.proofs.lemmas.Option.{slice_get_within, slice_get-get_or}
use Rattle.legs.specs.Blocks.{leaves, begins, runs_after, same, groups}
use Rattle.legs.specs.Hull.{Boxes}
use Rattle.tbtree.specs.Nodes.{Pages}
use Rattle.tbtree.specs.Stands.{owner, marks, pages_of, head_or_zero, last_or, PlaceStands, NumbersStand, TreeStands}
use Rattle.tbtree.specs.Way.{Hung}
use Rattle.tbtree.specs.declared.tree.Place.{Place}
use Rattle.legs.proofs.GroupLemmas.{some_none, some_same, get-drop, length-groups}
use Rattle.tbtree.proofs.RoomLemmas.{neq-eqb, runs_grown, count_append, count_all_same, count_all_other}
use Rattle.tbtree.proofs.BeginLemmas.{get-zip, get-push_last, get-push_other, marks_begun, pages_of-push, length-zip', zip-second}
use Rattle.tbtree.proofs.Growing.{marks_grown}
use Rattle.tbtree.proofs.NewRun.{runs_made}
use Rattle.tbtree.proofs.Widening.{get-set_same}
use Rattle.tbtree.proofs.BoundLemmas.{run_short}

cons_nil : {X : Type 0} (x : X) (xs : List X) → x ∷ xs ≡ [] → ⊥
cons_nil {X} x xs e = subst (λ (l : List X). elim l as (λ _. Type 0) [ [] ↦ ⊥ | y ∷ ys ↦ Unit {0} ]) e tt

none_of : (f g p : ℕ) (ms : List (ℕ × ℕ)) (i : ℕ) → pages_of f ms ≡ [] → slice_get ms i ≡ Some (g, p) → g ≢ f
none_of f g p [] i e a = absurd (some_none (g, p) (sym a))
none_of f g p (m ∷ ms) zero e a = λ u.
    let s : m.0 ≡ f = ap (λ (m : ℕ × ℕ). m.0) (some_same m (g, p) a) ∙ u in
    cons_nil (m.1) (pages_of f ms) (ap (λ b. cond b (m.1 ∷ pages_of f ms) (pages_of f ms)) (sym (eq-eqb _ _ s)) ∙ e)
none_of f g p (m ∷ ms) (suc i) e a =
    (elim (m.0 == f) as (λ b. cond b (m.1 ∷ pages_of f ms) (pages_of f ms) ≡ [] → g ≢ f) [
      | true ↦ λ e. absurd (cons_nil _ _ e)
      | false ↦ λ e. none_of f g p ms i e a
    ]) e

zip-first : (us bs : List ℕ) (i : ℕ) (m : ℕ × ℕ) → slice_get (zip us bs) i ≡ Some m → slice_get us i ≡ Some (m.0)
zip-first [] bs i m e = absurd (some_none m (sym e))
zip-first (x ∷ us) [] i m e = absurd (some_none m (sym e))
zip-first (x ∷ us) (y ∷ bs) zero m e = ap (λ (c : ℕ × ℕ). Some (c.0)) (some_same (x, y) m e)
zip-first (x ∷ us) (y ∷ bs) (suc i) m e = zip-first us bs i m e

get-owner : {L : Type 0} (feature : L → ℕ) (rs : List (List L)) (i : ℕ) (r : List L) → slice_get rs i ≡ Some r → slice_get (map (owner feature) rs) i ≡ Some (owner feature r)
get-owner feature [] i r e = absurd (some_none r (sym e))
get-owner feature (x ∷ rs) zero r e = ap (λ r. Some (owner feature r)) (some_same x r e)
get-owner feature (x ∷ rs) (suc i) r e = get-owner feature rs i r e

-- no run is empty
pub run_some : {X : Type 0} (key : X → ℕ) (m : ℕ) (b xs : List X) (i : ℕ) → slice_get (runs_after key (suc m) b xs) i ≡ Some [] → ⊥
run_some key m b [] i e = some_none _ (sym e)
run_some {X} key m b (x ∷ xs) i e =
    let R = take m (filter (same key (suc m) x) xs) in
    (elim (begins key (suc m) b x) as (λ v. slice_get (cond v ((x ∷ R) ∷ runs_after key (suc m) (b ++ x ∷ []) xs) (runs_after key (suc m) (b ++ x ∷ []) xs)) i ≡ Some [] → ⊥) [
      | true ↦ elim i as (λ i. slice_get ((x ∷ R) ∷ runs_after key (suc m) (b ++ x ∷ []) xs) i ≡ Some [] → ⊥) [ zero ↦ λ e. cons_nil x R (some_same (x ∷ R) [] e) | suc i' ↦ λ e. run_some key m (b ++ x ∷ []) xs i' e ]
      | false ↦ λ e. run_some key m (b ++ x ∷ []) xs i e
    ]) e

pub as_many : {L : Type 0} (inner levels root count : ℕ) (rs : List (List L)) (pages : ℕ → List ℕ) → NumbersStand inner levels root count rs pages → length (pages 0) ≡ length rs
as_many inner levels root count rs pages n =
    ⊎_elim
    (λ (h : 0 < levels). n.one_each 0 h ∙ ap (λ n. length (groups n rs)) (pow-zero inner) ∙ length-groups 0 rs ∙ div-one (length rs + 0) ∙ omega arith)
    (λ (h : levels ≤ 0). let z : levels ≡ 0 = omega (arith, h) in ap length (n.no_more 0 h) ∙ sym (ap length (n.empty z).0))
    (cases_lt 0 levels)

length-marks : {L : Type 0} (feature : L → ℕ) (rs : List (List L)) (ps : List ℕ) → length ps ≡ length rs → length (marks feature rs ps) ≡ length rs
length-marks feature rs ps e = length-zip' (map (owner feature) rs) ps (length-map rs (owner feature) ∙ sym e) ∙ e

-- pages are no zeros, so the last one is none only where there is none
last_above : (f d : ℕ) (ms : List (ℕ × ℕ)) → ((i : ℕ) (m : ℕ × ℕ) → slice_get ms i ≡ Some m → 0 < m.1) → 0 < d → 0 < last_or d (pages_of f ms)
last_above f d [] h l = l
last_above f d (m ∷ ms) h l =
    (elim (m.0 == f) as (λ b. 0 < last_or d (cond b (m.1 ∷ pages_of f ms) (pages_of f ms))) [
      | true ↦ last_above f (m.1) ms (λ i. h (suc i)) (h 0 m refl)
      | false ↦ last_above f d ms (λ i. h (suc i)) l
    ])

none_or_above : (f : ℕ) (ms : List (ℕ × ℕ)) → ((i : ℕ) (m : ℕ × ℕ) → slice_get ms i ≡ Some m → 0 < m.1) → (pages_of f ms ≡ []) ⊎ (0 < last_or 0 (pages_of f ms))
none_or_above f [] h = inl refl
none_or_above f (m ∷ ms) h =
    (elim (m.0 == f) as (λ b. (cond b (m.1 ∷ pages_of f ms) (pages_of f ms) ≡ []) ⊎ (0 < last_or 0 (cond b (m.1 ∷ pages_of f ms) (pages_of f ms)))) [
      | true ↦ inr (last_above f (m.1) ms (λ i. h (suc i)) (h 0 m refl))
      | false ↦ none_or_above f ms (λ i. h (suc i))
    ])

last_or-push : (d q : ℕ) (xs : List ℕ) → last_or d (xs ++ q ∷ []) ≡ q
last_or-push d q [] = refl
last_or-push d q (x ∷ xs) = last_or-push x q xs

head-push : (q : ℕ) (xs : List ℕ) → 0 < last_or 0 xs → head_or_zero (xs ++ q ∷ []) ≡ head_or_zero xs
head-push q [] h = absurd (omega (arith, h))
head-push q (x ∷ xs) h = refl

-- the nodes stand for the legs with ys, of the feature f, and each feature has its place
pub record Added {L B : Type 0} (s : Boxes L B) (feature : L → ℕ) (inner leaf levels root leaves' : ℕ) (new : Pages L B) (legs : List L) (old_pages : ℕ → List ℕ) (f : ℕ) (ys : List L) (place : Place) : Type 0 where
  pub pages : ℕ → List ℕ
  pub tree : TreeStands s feature inner levels root new (leaves feature leaf (legs ++ ys)) pages
  pub leaves_are : leaves' ≡ length (leaves feature leaf (legs ++ ys))
  pub placed : PlaceStands feature (legs ++ ys) (marks feature (leaves feature leaf (legs ++ ys)) (pages 0)) f place
  pub others : (g : ℕ) (other : Place) → g ≢ f → PlaceStands feature legs (marks feature (leaves feature leaf legs) (old_pages 0)) g other → PlaceStands feature (legs ++ ys) (marks feature (leaves feature leaf (legs ++ ys)) (pages 0)) g other

-- the run k, which has room, takes ys
pub record LastRun {L : Type 0} (feature : L → ℕ) (n : ℕ) (legs : List L) (f : ℕ) (ys : List L) (k : ℕ) : Type 0 where
  pub x : L
  pub xs : List L
  pub is : slice_get (leaves feature n legs) k ≡ Some (x ∷ xs)
  pub owner : feature x ≡ f
  pub few : length (x ∷ xs) + length ys ≤ n
  pub becomes : leaves feature n (legs ++ ys) ≡ set (leaves feature n legs) k ((x ∷ xs) ++ ys)

module _ {L B : Type 0} (s : Boxes L B) (feature : L → ℕ) (inner levels root : ℕ) where
  above_zero : (n k : ℕ) → 0 < k % suc n → 0 < k
  above_zero n k h = ⊎_elim (λ (u : k ≡ 0). absurd (let z : k % suc n ≡ 0 = ap (λ l. l % suc n) u ∙ mod-eq_of_lt (omega arith) in omega (arith, z, h))) (λ (u : k ≢ 0). omega (arith, u)) (cases_eq k 0)

  -- the last leaf of the feature has room
  pub last_run : (m count f : ℕ) (ys : List L) (place : Place) (legs : List L) (pages : ℕ → List ℕ) → All (λ y. feature y ≡ f) ys → 0 < place.legs % suc m → place.legs % suc m + length ys ≤ suc m
      → NumbersStand inner levels root count (leaves feature (suc m) legs) pages
      → PlaceStands feature legs (marks feature (leaves feature (suc m) legs) (pages 0)) f place → LastRun feature (suc m) legs f ys place.last_index
  last_run m count f ys place legs pages all h room numbers at =
      let n = suc m in
      let rs = leaves feature n legs in
      let ps = pages 0 in
      let ms = marks feature rs ps in
      let k = place.last_index in
      let lp : length ps ≡ length rs = as_many inner levels root count rs pages numbers in
      let li = at.last_index (above_zero m place.legs h) in
      let own : slice_get (map (owner feature) rs) k ≡ Some f = zip-first (map (owner feature) rs) ps k (f, place.last) li.0 in
      let kl : k < length rs = (let w = slice_get_within (map (owner feature) rs) k f own in let u = length-map rs (owner feature) in omega (arith, w, u)) in
      let c : count_by (λ l. feature l == f) legs % n ≡ place.legs % n = ap (λ c. c % n) (sym at.legs_are) in
      let later : (j : ℕ) (q : List L) → k < j → slice_get rs j ≡ Some q → owner feature q ≢ f = λ j q l a.
      let jl : j < length rs = slice_get_within rs j q a in
      let pj : slice_get ps j ≡ Some (get_or ps j 0) = slice_get-get_or ps j 0 (omega (arith, jl, lp)) in
      let mj : slice_get ms j ≡ Some (owner feature q, get_or ps j 0) = get-zip (map (owner feature) rs) ps j _ _ (get-owner feature rs j q a) pj in
      none_of f (owner feature q) (get_or ps j 0) (drop (suc k) ms) (j - suc k) li.1 (get-drop (suc k) ms (j - suc k) j (omega (arith, l)) ∙ mj) in
      (elim (get_or rs k []) as (λ r. slice_get rs k ≡ Some r → LastRun feature n legs f ys k) [
        | [] ↦ λ rk. absurd (run_some feature m [] legs k rk)
        | x ∷ xs ↦ λ rk.
            let o : feature x ≡ f = some_same _ _ (sym (get-owner feature rs k (x ∷ xs) rk) ∙ own) in
            let eq : leaves feature n (legs ++ ys) ≡ set rs k ((x ∷ xs) ++ ys) = runs_grown feature m legs ys k f x xs all (λ _. omega (arith, c, h)) (omega (arith, c, room)) rk o later in
            let short : length ((x ∷ xs) ++ ys) ≤ n = run_short feature m [] (legs ++ ys) k ((x ∷ xs) ++ ys) (ap (λ l. slice_get l k) eq ∙ get-set_same rs k _ (x ∷ xs) rk) in
            record { x = x; xs = xs; is = rk; owner = o; few = (let u = length-append (x ∷ xs) ys in omega (arith, u, short)); becomes = eq }
      ]) (slice_get-get_or rs k [] kl)

  pub added_last : (m : ℕ) (new : Pages L B) (f : ℕ) (ys : List L) (place after : Place) (legs : List L) (pages : ℕ → List ℕ) (leaves' : ℕ) → All (λ y. feature y ≡ f) ys → 0 < place.legs % suc m → after ≡ record place { legs = place.legs + length ys } → leaves' ≡ length (leaves feature (suc m) legs)
      → PlaceStands feature legs (marks feature (leaves feature (suc m) legs) (pages 0)) f place → (r : LastRun feature (suc m) legs f ys place.last_index)
      → TreeStands s feature inner levels root new (set (leaves feature (suc m) legs) place.last_index ((r.x ∷ r.xs) ++ ys)) pages → Added s feature inner (suc m) levels root leaves' new legs pages f ys after
  added_last m new f ys place after legs pages leaves' all h e lv at r tree =
      let n = suc m in
      let rs = leaves feature n legs in
      let ps = pages 0 in
      let ms = marks feature rs ps in
      let some = above_zero m place.legs h in
      let li = at.last_index some in
      let mk : marks feature (leaves feature n (legs ++ ys)) ps ≡ ms = ap (λ rs. marks feature rs ps) r.becomes ∙ marks_grown feature rs place.last_index r.x r.xs ys ps r.is in
      let mine : count_by (λ l. feature l == f) (legs ++ ys) ≡ count_by (λ l. feature l == f) legs + length ys = count_append feature m f legs ys ∙ ap (λ k. count_by (λ l. feature l == f) legs + k) (count_all_same feature m f ys all) in
      let theirs : (g : ℕ) → g ≢ f → count_by (λ l. feature l == g) (legs ++ ys) ≡ count_by (λ l. feature l == g) legs = λ g u.
      count_append feature m g legs ys ∙ ap (λ k. count_by (λ l. feature l == g) legs + k) (count_all_other feature m f g ys (λ e. u (sym e)) all) ∙ omega arith in
      record {
        pages = pages;
        tree = subst (λ rs. TreeStands s feature inner levels root new rs pages) (sym r.becomes) tree;
        leaves_are = lv ∙ sym (ap length r.becomes ∙ length-set rs place.last_index _);
        placed = subst (λ ms. PlaceStands feature (legs ++ ys) ms f after) (sym mk) (subst (λ p. PlaceStands feature (legs ++ ys) ms f p) (sym e)
            (record { first = at.first; last = at.last; legs_are = ap (λ c. c + length ys) at.legs_are ∙ sym mine; last_index = λ _. li; none = λ z. absurd (omega (arith, z, some)) }));
        others = λ g other ne p. subst (λ ms. PlaceStands feature (legs ++ ys) ms g other) (sym mk)
            (record { first = p.first; last = p.last; legs_are = p.legs_are ∙ sym (theirs g ne); last_index = p.last_index; none = p.none });
      }

  -- a leaf of the feature is begun, and its page is hung
  pub added_begun : (m levels' root' count f : ℕ) (old new : Pages L B) (y : L) (ys : List L) (place after : Place) (legs : List L) (pages : ℕ → List ℕ) → All (λ z. feature z ≡ f) (y ∷ ys) → length (y ∷ ys) ≤ suc m → place.legs % suc m ≡ 0
      → TreeStands s feature inner levels root old (leaves feature (suc m) legs) pages → PlaceStands feature legs (marks feature (leaves feature (suc m) legs) (pages 0)) f place
      → (place.last ≡ 0 → after.first ≡ count) → (0 < place.last → after.first ≡ place.first) → after.last ≡ count → after.last_index ≡ length (leaves feature (suc m) legs) → after.legs ≡ place.legs + length (y ∷ ys)
      → Hung s feature inner levels' root' new (leaves feature (suc m) legs) (y ∷ ys) (pages 0) count → Added s feature inner (suc m) levels' root' (length (leaves feature (suc m) legs) + 1) new legs pages f (y ∷ ys) after
  added_begun m levels' root' count f old new y ys place after legs pages all few h tree at f0 f1 la ia ga hung =
      let n = suc m in
      let own : feature y ≡ f = all 0 y (omega arith) in
      let same : All (λ z. feature z ≡ feature y) ys = λ j d l. all (suc j) d (omega (arith, l)) ∙ sym own in
      let rs = leaves feature n legs in
      let ps = pages 0 in
      let ms = marks feature rs ps in
      let lp : length ps ≡ length rs = as_many inner levels root old.count rs pages tree.numbers in
      let lm : length ms ≡ length rs = length-marks feature rs ps lp in
      let yes : begins feature n legs y ≡ true = eq-eqb _ 0 (ap (λ g. count_by (λ z. feature z == g) legs % n) own ∙ ap (λ c. c % n) (sym at.legs_are) ∙ h) in
      let eq : leaves feature n (legs ++ y ∷ ys) ≡ rs ++ (y ∷ ys) ∷ [] = runs_made feature m legs y ys yes same few in
      let mk : marks feature (leaves feature n (legs ++ y ∷ ys)) (hung.pages 0) ≡ ms ++ (f, count) ∷ [] = (λ i. marks feature (eq i) (hung.leaves_are i)) ∙ marks_begun feature rs ps (y ∷ ys) count lp ∙ ap (λ g. ms ++ (g, count) ∷ []) own in
      let above : (i : ℕ) (m : ℕ × ℕ) → slice_get ms i ≡ Some m → 0 < m.1 = λ i m a. (tree.numbers.within 0 i (m.1) (zip-second (map (owner feature) rs) ps i m a)).0 in
      let mine : pages_of f (ms ++ (f, count) ∷ []) ≡ pages_of f ms ++ count ∷ [] = pages_of-push f ms (f, count) ∙ ap (λ b. pages_of f ms ++ cond b (count ∷ []) []) (eq-eqb f f refl) in
      let past : (ms' : List (ℕ × ℕ)) → ms' ≡ ms ++ (f, count) ∷ [] → PlaceStands feature (legs ++ y ∷ ys) ms' f after = λ ms' u. subst (λ ms. PlaceStands feature (legs ++ y ∷ ys) ms f after) (sym u) (record {
        first = ⊎_elim
            (λ (z : pages_of f ms ≡ []). f0 (at.last ∙ ap (last_or 0) z) ∙ sym (ap head_or_zero (mine ∙ ap (λ l. l ++ count ∷ []) z)))
            (λ (z : 0 < last_or 0 (pages_of f ms)). f1 (let w = at.last in omega (arith, w, z)) ∙ at.first ∙ sym (ap head_or_zero mine ∙ head-push count (pages_of f ms) z))
            (none_or_above f ms above);
        last = la ∙ sym (ap (last_or 0) mine ∙ last_or-push 0 count (pages_of f ms));
        legs_are = ga ∙ ap (λ c. c + length (y ∷ ys)) at.legs_are ∙ sym (count_append feature m f legs (y ∷ ys) ∙ ap (λ k. count_by (λ l. feature l == f) legs + k) (count_all_same feature m f (y ∷ ys) all));
        last_index = λ _. (
          get-push_last ms (f, count) after.last_index (ia ∙ sym lm) ∙ (λ i. Some (f, sym la i)),
          ap (pages_of f) (drop_all (suc after.last_index) (ms ++ (f, count) ∷ []) (let u = length_push ms (f, count) in omega (arith, u, ia, lm))),
        );
        none = λ z. absurd (omega (arith, z, ga));
      }) in
      record {
        pages = hung.pages;
        tree = subst (λ rs. TreeStands s feature inner levels' root' new rs hung.pages) (sym eq) hung.tree;
        leaves_are = sym (ap length eq ∙ length_push rs (y ∷ ys));
        placed = past _ mk;
        others = λ g other ne p.
            let theirs : (xs : List (ℕ × ℕ)) → pages_of g (xs ++ (f, count) ∷ []) ≡ pages_of g xs = λ xs. pages_of-push g xs (f, count) ∙ ap (λ b. pages_of g xs ++ cond b (count ∷ []) []) (neq-eqb f g (λ u. ne (sym u))) ∙ append-nil (pages_of g xs) in
            subst (λ ms. PlaceStands feature (legs ++ y ∷ ys) ms g other) (sym mk) (record {
              first = p.first ∙ sym (ap head_or_zero (theirs ms));
              last = p.last ∙ sym (ap (last_or 0) (theirs ms));
              legs_are = p.legs_are ∙ sym (count_append feature m g legs (y ∷ ys) ∙ ap (λ k. count_by (λ l. feature l == g) legs + k) (count_all_other feature m f g (y ∷ ys) (λ e. ne (sym e)) all) ∙ omega arith);
              last_index = λ l.
                  let w = p.last_index l in
                  let i = other.last_index in
                  let il : i < length ms = slice_get_within ms i _ w.0 in (
                    get-push_other ms (f, count) i (λ u. omega (arith, il, u)) ∙ w.0,
                    ap (pages_of g) (drop-append-le (suc i) ms ((f, count) ∷ []) (omega (arith, il))) ∙ theirs (drop (suc i) ms) ∙ w.1,
                  );
              none = p.none;
            });
      }
