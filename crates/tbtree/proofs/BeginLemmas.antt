-- A new leaf at the end of all leaves, linked after the last one of its feature.
use Rattle.std.proofs.Common.{ℕ, zero, suc, ◌<◌, ◌≤◌, ◌≡◌, ◌≢◌, ◌==◌, true, false, cond, List, [], ◌∷◌, ◌++◌, take, drop, map, length, refl, sym, ap, ◌∙◌, arith, eq-eqb, ⊎_elim, Option, Some, None, slice_get}
use Rattle.std.specs.List.{zip}
use Rattle.std.proofs.lemmas.Bool.{cases_eq, cases_lt}
use Rattle.std.proofs.lemmas.List.{length-map, map-append, append-nil, take-append-le, take_all, drop-append-le, drop_all, length_push}
use Rattle.std.proofs.lemmas.Option.{slice_get_within, slice_get-map}
use Rattle.tbtree.specs.Nodes.{with_next, Pages, ALeaf, LeafView, Adds, Links}
use Rattle.tbtree.specs.Stands.{owner, marks, new_leaf, leaf_of, pages_of, head_or_zero, last_or, LeavesStand}
use Rattle.legs.proofs.GroupLemmas.{some_none, some_same}
use Rattle.tbtree.proofs.RoomLemmas.{neq-eqb}
use Rattle.tbtree.proofs.Widening.{leaf_same}

module _ {X : Type 0} where
  pub get-push_last : (xs : List X) (v : X) (i : ℕ) → i ≡ length xs → slice_get (xs ++ v ∷ []) i ≡ Some v
  get-push_last [] v zero e = refl
  get-push_last [] v (suc i) e = absurd (omega (arith, e))
  get-push_last (x ∷ xs) v zero e = absurd (omega (arith, e))
  get-push_last (x ∷ xs) v (suc i) e = get-push_last xs v i (omega (arith, e))

  pub get-push_other : (xs : List X) (v : X) (i : ℕ) → i ≢ length xs → slice_get (xs ++ v ∷ []) i ≡ slice_get xs i
  get-push_other [] v zero e = absurd (e refl)
  get-push_other [] v (suc i) e = refl
  get-push_other (x ∷ xs) v zero e = refl
  get-push_other (x ∷ xs) v (suc i) e = get-push_other xs v i (λ u. e (ap suc u))

zip_push : (us bs : List ℕ) (a b : ℕ) → length us ≡ length bs → zip (us ++ a ∷ []) (bs ++ b ∷ []) ≡ zip us bs ++ (a, b) ∷ []
zip_push [] [] a b e = refl
zip_push [] (y ∷ bs) a b e = absurd (omega (arith, e))
zip_push (x ∷ us) [] a b e = absurd (omega (arith, e))
zip_push (x ∷ us) (y ∷ bs) a b e = ap (λ l. (x, y) ∷ l) (zip_push us bs a b (omega (arith, e)))

pub length-zip' : (us bs : List ℕ) → length us ≡ length bs → length (zip us bs) ≡ length bs
length-zip' [] [] e = refl
length-zip' [] (y ∷ bs) e = absurd (omega (arith, e))
length-zip' (x ∷ us) [] e = refl
length-zip' (x ∷ us) (y ∷ bs) e = ap suc (length-zip' us bs (omega (arith, e)))

pub get-zip : (us bs : List ℕ) (i a b : ℕ) → slice_get us i ≡ Some a → slice_get bs i ≡ Some b → slice_get (zip us bs) i ≡ Some (a, b)
get-zip [] bs i a b e f = absurd (some_none a (sym e))
get-zip (x ∷ us) [] i a b e f = absurd (some_none b (sym f))
get-zip (x ∷ us) (y ∷ bs) zero a b e f = λ i. Some (some_same x a e i, some_same y b f i)
get-zip (x ∷ us) (y ∷ bs) (suc i) a b e f = get-zip us bs i a b e f

pub zip-second : (us bs : List ℕ) (i : ℕ) (m : ℕ × ℕ) → slice_get (zip us bs) i ≡ Some m → slice_get bs i ≡ Some (m.1)
zip-second [] bs i m e = absurd (some_none m (sym e))
zip-second (x ∷ us) [] i m e = absurd (some_none m (sym e))
zip-second (x ∷ us) (y ∷ bs) zero m e = ap (λ (c : ℕ × ℕ). Some (c.1)) (some_same (x, y) m e)
zip-second (x ∷ us) (y ∷ bs) (suc i) m e = zip-second us bs i m e

pub pages_of-push : (g : ℕ) (ms : List (ℕ × ℕ)) (m : ℕ × ℕ) → pages_of g (ms ++ m ∷ []) ≡ pages_of g ms ++ cond (m.0 == g) (m.1 ∷ []) []
pages_of-push g [] m = refl
pages_of-push g (a ∷ ms) m =
    (elim (a.0 == g) as (λ b. cond b (a.1 ∷ pages_of g (ms ++ m ∷ [])) (pages_of g (ms ++ m ∷ [])) ≡ cond b (a.1 ∷ pages_of g ms) (pages_of g ms) ++ cond (m.0 == g) (m.1 ∷ []) []) [
      | true ↦ ap (λ l. a.1 ∷ l) (pages_of-push g ms m)
      | false ↦ pages_of-push g ms m
    ])

-- the last page of a feature, seen from one of its pages
pub last_after : (f p d : ℕ) (ms : List (ℕ × ℕ)) (i : ℕ) → slice_get ms i ≡ Some (f, p) → last_or d (pages_of f ms) ≡ last_or p (pages_of f (drop (suc i) ms))
last_after f p d [] i e = absurd (some_none (f, p) (sym e))
last_after f p d (m ∷ ms) zero e =
    let s : m ≡ (f, p) = some_same m (f, p) e in
    ap (λ (m : ℕ × ℕ). last_or d (cond (m.0 == f) (m.1 ∷ pages_of f ms) (pages_of f ms))) s
    ∙ ap (λ b. last_or d (cond b (p ∷ pages_of f ms) (pages_of f ms))) (eq-eqb f f refl)
last_after f p d (m ∷ ms) (suc i) e =
    (elim (m.0 == f) as (λ b. last_or d (cond b (m.1 ∷ pages_of f ms) (pages_of f ms)) ≡ last_or p (pages_of f (drop (suc i) ms))) [
      | true ↦ last_after f p (m.1) ms i e
      | false ↦ last_after f p d ms i e
    ])

module _ {L : Type 0} (feature : L → ℕ) where
  pub marks_begun : (runs : List (List L)) (ps : List ℕ) (ys : List L) (q : ℕ) → length ps ≡ length runs → marks feature (runs ++ ys ∷ []) (ps ++ q ∷ []) ≡ marks feature runs ps ++ (owner feature ys, q) ∷ []
  marks_begun runs ps ys q e =
      ap (λ os. zip os (ps ++ q ∷ [])) (map-append (owner feature) runs (ys ∷ []))
      ∙ zip_push (map (owner feature) runs) ps (owner feature ys) q (length-map runs (owner feature) ∙ sym e)

module _ {L B : Type 0} (feature : L → ℕ) where
  pub begin_leaf : (runs : List (List L)) (ps : List ℕ) (old mid new : Pages L B) (q last : ℕ) (ys : List L) → length ps ≡ length runs → LeavesStand old feature runs ps
      → ((i j p : ℕ) → slice_get ps i ≡ Some p → slice_get ps j ≡ Some p → i ≡ j) → ((i p : ℕ) → slice_get ps i ≡ Some p → (0 < p) × (p < old.count))
      → last < old.count → last ≡ last_or 0 (pages_of (owner feature ys) (marks feature runs ps))
      → (0 < last → (k : ℕ) × (slice_get (marks feature runs ps) k ≡ Some (owner feature ys, last)) × (pages_of (owner feature ys) (drop (suc k) (marks feature runs ps)) ≡ []))
      → Adds old (ALeaf (new_leaf feature last ys)) mid q → (last ≡ 0 → new ≡ mid) → (0 < last → Links mid last q new)
      → LeavesStand new feature (runs ++ ys ∷ []) (ps ++ q ∷ [])
  begin_leaf runs ps old mid new q last ys le v inj within lo la li add stay link i p r a b =
      let f = owner feature ys in
      let ms = marks feature runs ps in
      let ms' = marks feature (runs ++ ys ∷ []) (ps ++ q ∷ []) in
      let mp : ms' ≡ ms ++ (f, q) ∷ [] = marks_begun feature runs ps ys q le in
      let lm : length ms ≡ length ps = length-zip' (map (owner feature) runs) ps (length-map runs (owner feature) ∙ sym le) in
      let other : (p : ℕ) → p ≢ last → new.at p ≡ mid.at p = λ p u. ⊎_elim
      (λ (z : 0 < last). (link z).becomes.rest p u)
      (λ (z : last ≤ 0). ap (λ (l : Pages L B). l.at p) (stay (omega (arith, z))))
      (cases_lt 0 last) in
      ⊎_elim
      (λ (e : i ≡ length ps).
      let pq : p ≡ q = some_same p q (sym a ∙ get-push_last ps q i e) in
      let ry : r ≡ ys = some_same r ys (sym b ∙ get-push_last runs ys i (e ∙ le)) in
      let at : mid.at q ≡ Some (Some (ALeaf (new_leaf feature last ys))) = add.becomes.now in
      let ne : q ≢ last = (let n = add.number in omega (arith, n, lo)) in
      let before : last ≡ last_or 0 (pages_of f (take i ms')) = la ∙ ap (λ l. last_or 0 (pages_of f l)) (sym (ap (take i) mp ∙ take-append-le i ms ((f, q) ∷ []) (omega (arith, e, lm)) ∙ take_all i ms (omega (arith, e, lm)))) in
      let after : 0 ≡ head_or_zero (pages_of f (drop (suc i) ms')) = ap (λ l. head_or_zero (pages_of f l)) (sym (ap (drop (suc i)) mp ∙ drop_all (suc i) (ms ++ (f, q) ∷ []) (let n = length_push ms (f, q) in omega (arith, n, e, lm)))) in
      ap new.at pq ∙ other q ne ∙ at
      ∙ (λ i. Some (Some (ALeaf (record { feature = f; previous = before i; next = after i; legs = ys }))))
      ∙ ap (λ r. Some (Some (ALeaf (leaf_of (owner feature r) ms' i r)))) (sym ry))
      (λ (e : i ≢ length ps).
      let G = owner feature r in
      let a' : slice_get ps i ≡ Some p = sym (get-push_other ps q i e) ∙ a in
      let b' : slice_get runs i ≡ Some r = sym (get-push_other runs ys i (λ u. e (u ∙ sym le))) ∙ b in
      let was : old.at p ≡ Some (Some (ALeaf (leaf_of G ms i r))) = v i p r a' b' in
      let pl : p < old.count = (within i p a').1 in
      let mid_p : mid.at p ≡ old.at p = add.becomes.rest p (λ u. let n = add.number in omega (arith, pl, n, u)) in
      let il : i < length ps = slice_get_within ps i p a' in
      let mi : slice_get ms i ≡ Some (G, p) = get-zip (map (owner feature) runs) ps i G p (slice_get-map (owner feature) runs i ∙ ap (λ (o : Option (List L)). elim o as (λ _. Option ℕ) [ Some r ↦ Some (owner feature r) | None ↦ None ]) b') a' in
      let before : last_or 0 (pages_of G (take i ms)) ≡ last_or 0 (pages_of G (take i ms')) = ap (λ l. last_or 0 (pages_of G l)) (sym (ap (take i) mp ∙ take-append-le i ms ((f, q) ∷ []) (omega (arith, il, lm)))) in
      let D = pages_of G (drop (suc i) ms) in
      let after : head_or_zero (pages_of G (drop (suc i) ms')) ≡ head_or_zero (D ++ cond (f == G) (q ∷ []) []) = ap (λ l. head_or_zero (pages_of G l)) (ap (drop (suc i)) mp ∙ drop-append-le (suc i) ms ((f, q) ∷ []) (omega (arith, il, lm))) ∙ ap head_or_zero (pages_of-push G (drop (suc i) ms) (f, q)) in
      ⊎_elim
      (λ (u : p ≡ last).
      let z : 0 < last = (let w = (within i p a').0 in omega (arith, u, w)) in
      let k = li z in
      let ik : i ≡ k.0 = inj i k.0 p a' (zip-second (map (owner feature) runs) ps k.0 (f, last) k.1 ∙ ap Some (sym u)) in
      let gf : G ≡ f = ap (λ (m : ℕ × ℕ). m.0) (some_same (G, p) (f, last) (sym mi ∙ ap (slice_get ms) ik ∙ k.1)) in
      let w = link z in
      let leaf : w.leaf ≡ leaf_of G ms i r = leaf_same B _ _ (some_same _ _ (sym w.was ∙ ap mid.at (sym u) ∙ mid_p ∙ was)) in
      let none : D ≡ [] = ap (λ g. pages_of g (drop (suc i) ms)) gf ∙ ap (λ j. pages_of f (drop (suc j) ms)) ik ∙ k.2 in
      let next : head_or_zero (pages_of G (drop (suc i) ms')) ≡ q = after ∙ ap (λ l. head_or_zero (l ++ cond (f == G) (q ∷ []) [])) none ∙ ap (λ b. head_or_zero (cond b (q ∷ []) [])) (eq-eqb f G (sym gf)) in
      ap new.at u ∙ w.becomes.now
      ∙ ap (λ (l : LeafView L). Some (Some (ALeaf (with_next q l)))) leaf
      ∙ (λ j. Some (Some (ALeaf (record { feature = G; previous = before j; next = sym next j; legs = r })))))
      (λ (u : p ≢ last).
      let next : head_or_zero D ≡ head_or_zero (D ++ cond (f == G) (q ∷ []) []) = ⊎_elim
      (λ (h : f ≡ G).
      let seen : last ≡ last_or p D = la ∙ ap (λ g. last_or 0 (pages_of g ms)) h ∙ last_after G p 0 ms i mi in
      (elim D as (λ D. last ≡ last_or p D → head_or_zero D ≡ head_or_zero (D ++ cond (f == G) (q ∷ []) [])) [ [] ↦ λ s. absurd (u (sym s)) | x ∷ xs ↦ λ s. refl ]) seen)
      (λ (h : f ≢ G). ap head_or_zero (sym (append-nil D)) ∙ ap (λ b. head_or_zero (D ++ cond b (q ∷ []) [])) (sym (neq-eqb f G h)))
      (cases_eq f G) in
      other p u ∙ mid_p ∙ was ∙ (λ j. Some (Some (ALeaf (record { feature = G; previous = before j; next = (next ∙ sym after) j; legs = r })))))
      (cases_eq p last))
      (cases_eq i (length ps))
