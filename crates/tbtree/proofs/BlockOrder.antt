-- Elements in the order of blocks have the runs that they have in their own order.
use Rattle.std.proofs.Common.{ℕ, suc, ◌+◌, ◌%◌, ◌<◌, ◌≤◌, ◌≡◌, ◌≢◌, ◌==◌, true, false, cond, nat_lt, List, [], ◌∷◌, ◌++◌, take, refl, sym, ap, ◌∙◌, arith, subst, append_assoc, ⊎_elim, eq-eqb, lt-ltb, le-ltb}
use Rattle.std.specs.List.{filter, count_by}
use Rattle.std.specs.List.Sorted.{IsPermutation}
use Rattle.std.specs.Cmp.{nat_eq_equiv}
use Rattle.std.proofs.lemmas.Bool.{cases_eq, cases_lt, eqb-true}
use Rattle.std.proofs.lemmas.List.{append-nil}
use Rattle.std.proofs.lemmas.List.Elements.{filter-append}
use Rattle.std.proofs.lemmas.List.Sums.{sum_by-cons}
use Rattle.legs.specs.Blocks.{begins, same, runs_after, runs}
use Rattle.tbtree.proofs.TurnOrders.{put_in, put_all, elements, run_for, with_last, numbered, in_blocks}
use Rattle.tbtree.proofs.RoomLemmas.{neq-eqb, push_other, count_append}
use Rattle.tbtree.proofs.KeyRuns.{is, gathered}

module _ {X : Type 0} where
  -- each has P
  abbrev pub Each : (X → Type 0) → List X → Type 0
  Each P [] = Unit {0}
  Each P (x ∷ xs) = P x × Each P xs

  pub each_map : (P Q : X → Type 0) (xs : List X) → ((x : X) → P x → Q x) → Each P xs → Each Q xs
  each_map P Q [] f h = tt
  each_map P Q (x ∷ xs) f h = (f x h.0, each_map P Q xs f h.1)

module _ {X : Type 0} where
  pub each_put : (P : ℕ × X → Type 0) (p : ℕ × X) (qs : List (ℕ × X)) → P p → Each P qs → Each P (put_in p qs)
  each_put P p [] h hs = (h, tt)
  each_put P p (q ∷ qs) h hs =
      elim (nat_lt p.0 q.0) as (λ v. Each P (cond v (p ∷ q ∷ qs) (q ∷ put_in p qs))) [
        | true ↦ (h, hs)
        | false ↦ (hs.0, each_put P p qs h hs.1)
      ]

  -- the numbers do not fall, from c on
  abbrev pub IsUpFrom : ℕ → List (ℕ × X) → Type 0
  IsUpFrom c [] = Unit {0}
  IsUpFrom c (p ∷ ps) = (c ≤ p.0) × IsUpFrom (p.0) ps

  pub put_up : (c : ℕ) (p : ℕ × X) (qs : List (ℕ × X)) → c ≤ p.0 → IsUpFrom c qs → IsUpFrom c (put_in p qs)
  put_up c p [] l u = (l, tt)
  put_up c p (q ∷ qs) l u =
      ⊎_elim
      (λ (h : p.0 < q.0). subst (λ v. IsUpFrom c (cond v (p ∷ q ∷ qs) (q ∷ put_in p qs))) (sym (lt-ltb (p.0) (q.0) h)) (l, (omega (arith, h), u.1)))
      (λ (h : q.0 ≤ p.0). subst (λ v. IsUpFrom c (cond v (p ∷ q ∷ qs) (q ∷ put_in p qs))) (sym (le-ltb (p.0) (q.0) h)) (u.0, put_up (q.0) p qs h u.1))
      (cases_lt (p.0) (q.0))

module _ {X : Type 0} (key : X → ℕ) where
  abbrev counts : ℕ → List X → ℕ
  counts f xs = count_by (is key f) xs

  filter_swap : (f : ℕ) (x v : X) (s : List X) → key v ≢ key x → filter (is key f) (x ∷ v ∷ s) ≡ filter (is key f) (v ∷ x ∷ s)
  filter_swap f x v s u =
      let F = filter (is key f) s in
      (elim (is key f x) as (λ a. is key f x ≡ a → cond a (x ∷ cond (is key f v) (v ∷ F) F) (cond (is key f v) (v ∷ F) F) ≡ cond (is key f v) (v ∷ cond a (x ∷ F) F) (cond a (x ∷ F) F)) [
        | true ↦ λ e.
            let no : is key f v ≡ false = neq-eqb (key v) f (λ (w : key v ≡ f). u (w ∙ sym (eqb-true (key x) f e))) in
            ap (λ b. x ∷ cond b (v ∷ F) F) no ∙ sym (ap (λ b. cond b (v ∷ x ∷ F) (x ∷ F)) no)
        | false ↦ λ e. refl
      ]) refl

  pub filter_shift : (f : ℕ) (x : X) (vs s : List X) → Each (λ v. key v ≢ key x) vs → filter (is key f) (x ∷ (vs ++ s)) ≡ filter (is key f) (vs ++ x ∷ s)
  filter_shift f x [] s u = refl
  filter_shift f x (v ∷ vs) s u = filter_swap f x v (vs ++ s) u.0 ∙ ap (λ l. cond (is key f v) (v ∷ l) l) (filter_shift f x vs s u.1)

  pub count_differ : (x : X) (b vs : List X) → Each (λ v. key v ≢ key x) vs → counts (key x) (b ++ vs) ≡ counts (key x) b
  count_differ x b [] u = ap (counts (key x)) (append-nil b)
  count_differ x b (v ∷ vs) u =
      ap (counts (key x)) (sym (append_assoc b (v ∷ []) vs)) ∙ count_differ x (b ++ v ∷ []) vs u.1 ∙ push_other key 0 (key x) b v u.0

  put_count : (f : ℕ) (p : ℕ × X) (qs : List (ℕ × X)) → counts f (elements (put_in p qs)) ≡ counts f (p.1 ∷ elements qs)
  put_count f p [] = refl
  put_count f p (q ∷ qs) =
      elim (nat_lt p.0 q.0) as (λ v. counts f (elements (cond v (p ∷ q ∷ qs) (q ∷ put_in p qs))) ≡ counts f (p.1 ∷ q.1 ∷ elements qs)) [
        | true ↦ refl
        | false ↦
            let one : X → ℕ = λ z. cond (is key f z) 1 0 in
            let a = sum_by-cons one (q.1) (elements (put_in p qs)) in
            let on = put_count f p qs in
            let b = sum_by-cons one (p.1) (elements qs) in
            let c = sum_by-cons one (p.1) (q.1 ∷ elements qs) in
            let d = sum_by-cons one (q.1) (elements qs) in
            omega (arith, a, on, b, c, d)
      ]

module _ {X : Type 0} (key : X → ℕ) (n : ℕ) where
  -- the runs after some elements depend on how many there are of each key
  pub runs_same : (b b' zs : List X) → ((f : ℕ) → counts key f b ≡ counts key f b') → runs_after key n b zs ≡ runs_after key n b' zs
  runs_same b b' [] h = refl
  runs_same b b' (z ∷ zs) h =
      let on = runs_same (b ++ z ∷ []) (b' ++ z ∷ []) zs (λ f. count_append key 0 f b (z ∷ []) ∙ ap (λ k. k + counts key f (z ∷ [])) (h f) ∙ sym (count_append key 0 f b' (z ∷ []))) in
      let R = runs_after key n (b ++ z ∷ []) zs in
      let run = take n (z ∷ filter (same key n z) zs) in
      ap (λ k. cond (k % n == 0) (run ∷ R) R) (h (key z)) ∙ ap (λ l. cond (begins key n b' z) (run ∷ l) l) on

  -- two neighbours of two keys, the first of which begins no run
  runs_swap : (b : List X) (x y : X) (zs : List X) → key y ≢ key x → begins key n b x ≡ false → runs_after key n b (x ∷ y ∷ zs) ≡ runs_after key n b (y ∷ x ∷ zs)
  runs_swap b x y zs u goes =
      let u' : key x ≢ key y = λ e. u (sym e) in
      let F = filter (same key n y) zs in
      let U = runs_after key n ((b ++ x ∷ []) ++ y ∷ []) zs in
      let W = runs_after key n ((b ++ y ∷ []) ++ x ∷ []) zs in
      let T = runs_after key n (b ++ x ∷ []) (y ∷ zs) in
      let first : runs_after key n b (x ∷ y ∷ zs) ≡ T = ap (λ v. cond v (take n (x ∷ filter (same key n x) (y ∷ zs)) ∷ T) T) goes in
      let same_y : begins key n (b ++ x ∷ []) y ≡ begins key n b y = ap (λ k. k % n == 0) (push_other key 0 (key y) b x u') in
      let second : T ≡ cond (begins key n b y) (take n (y ∷ F) ∷ U) U = ap (λ v. cond v (take n (y ∷ F) ∷ U) U) same_y in
      let no' : begins key n (b ++ y ∷ []) x ≡ false = ap (λ k. k % n == 0) (push_other key 0 (key x) b y u) ∙ goes in
      let V = runs_after key n (b ++ y ∷ []) (x ∷ zs) in
      let last : V ≡ W = ap (λ v. cond v (take n (x ∷ filter (same key n x) zs) ∷ W) W) no' in
      let G : filter (same key n y) (x ∷ zs) ≡ F = ap (λ v. cond v (x ∷ F) F) (neq-eqb (key x) (key y) u') in
      let other : runs_after key n b (y ∷ x ∷ zs) ≡ cond (begins key n b y) (take n (y ∷ F) ∷ W) W =
      ap (λ l. cond (begins key n b y) (take n (y ∷ l) ∷ V) V) G ∙ ap (λ l. cond (begins key n b y) (take n (y ∷ F) ∷ l) l) last in
      let counted : U ≡ W = runs_same ((b ++ x ∷ []) ++ y ∷ []) ((b ++ y ∷ []) ++ x ∷ []) zs (λ f.
      let p = count_append key 0 f (b ++ x ∷ []) (y ∷ []) in
      let q = count_append key 0 f b (x ∷ []) in
      let r = count_append key 0 f (b ++ y ∷ []) (x ∷ []) in
      let s = count_append key 0 f b (y ∷ []) in
      omega (arith, p, q, r, s)) in
      first ∙ second ∙ ap (λ l. cond (begins key n b y) (take n (y ∷ F) ∷ l) l) counted ∙ sym other

  runs_cons : (b : List X) (v : X) (s t : List X) → filter (same key n v) s ≡ filter (same key n v) t → runs_after key n (b ++ v ∷ []) s ≡ runs_after key n (b ++ v ∷ []) t → runs_after key n b (v ∷ s) ≡ runs_after key n b (v ∷ t)
  runs_cons b v s t f e =
      let R = runs_after key n (b ++ v ∷ []) s in
      ap (λ l. cond (begins key n b v) (take n (v ∷ l) ∷ R) R) f ∙ ap (λ l. cond (begins key n b v) (take n (v ∷ filter (same key n v) t) ∷ l) l) e

  -- an element that begins no run passes those of other keys
  runs_shift : (b : List X) (x : X) (vs s : List X) → Each (λ v. key v ≢ key x) vs → begins key n b x ≡ false → runs_after key n b (x ∷ (vs ++ s)) ≡ runs_after key n b (vs ++ x ∷ s)
  runs_shift b x [] s u goes = refl
  runs_shift b x (v ∷ vs) s u goes =
      let no' : begins key n (b ++ v ∷ []) x ≡ false = ap (λ k. k % n == 0) (push_other key 0 (key x) b v u.0) ∙ goes in
      runs_swap b x v (vs ++ s) u.0 goes
      ∙ runs_cons b v (x ∷ (vs ++ s)) (vs ++ x ∷ s) (filter_shift key (key v) x vs s u.1) (runs_shift (b ++ v ∷ []) x vs s u.1 no')

  -- lists behind the same elements
  runs_behind : (b vs s t : List X) → ((f : ℕ) → filter (is key f) s ≡ filter (is key f) t) → runs_after key n (b ++ vs) s ≡ runs_after key n (b ++ vs) t → runs_after key n b (vs ++ s) ≡ runs_after key n b (vs ++ t)
  runs_behind b [] s t h e = subst (λ l. runs_after key n l s ≡ runs_after key n l t) (append-nil b) e
  runs_behind b (v ∷ vs) s t h e =
      runs_cons b v (vs ++ s) (vs ++ t)
      (filter-append (is key (key v)) vs s ∙ ap (λ l. filter (is key (key v)) vs ++ l) (h (key v)) ∙ sym (filter-append (is key (key v)) vs t))
      (runs_behind (b ++ v ∷ []) vs s t h (subst (λ l. runs_after key n l s ≡ runs_after key n l t) (sym (append_assoc b (v ∷ []) vs)) e))

  module _ (a : ℕ) (x : X) where
    -- x passes none of its own key
    abbrev pub PassesOthers : List (ℕ × X) → Type 0
    PassesOthers ps = Each (λ p. a < p.0 → key p.1 ≢ key x) ps

    pub ahead : (c : ℕ) (ps : List (ℕ × X)) → IsUpFrom c ps → a < c → PassesOthers ps → Each (λ v. key v ≢ key x) (elements ps)
    ahead c [] u l h = tt
    ahead c (p ∷ ps) u l h = (h.0 (omega (arith, l, u.0)), ahead (p.0) ps u.1 (omega (arith, l, u.0)) h.1)

    pub put_filter : (f c : ℕ) (ps : List (ℕ × X)) (s : List X) → IsUpFrom c ps → PassesOthers ps → filter (is key f) (elements (put_in (a, x) ps) ++ s) ≡ filter (is key f) (elements ps ++ x ∷ s)
    put_filter f c [] s u h = refl
    put_filter f c (p ∷ ps) s u h =
        ⊎_elim
        (λ (l : a < p.0).
        ap (λ v. filter (is key f) (elements (cond v ((a, x) ∷ p ∷ ps) (p ∷ put_in (a, x) ps)) ++ s)) (lt-ltb a (p.0) l)
        ∙ filter_shift key f x (elements (p ∷ ps)) s (ahead (p.0) (p ∷ ps) (omega arith, u.1) l h))
        (λ (l : p.0 ≤ a).
        ap (λ v. filter (is key f) (elements (cond v ((a, x) ∷ p ∷ ps) (p ∷ put_in (a, x) ps)) ++ s)) (le-ltb a (p.0) l)
        ∙ ap (λ r. cond (is key f (p.1)) (p.1 ∷ r) r) (put_filter f (p.0) ps s u.1 h.1))
        (cases_lt a (p.0))

    put_runs : (b : List X) (c : ℕ) (ps : List (ℕ × X)) (s : List X) → IsUpFrom c ps → PassesOthers ps → (begins key n (b ++ elements ps) x ≡ true → Each (λ (p : ℕ × X). p.0 ≤ a) ps)
        → runs_after key n b (elements (put_in (a, x) ps) ++ s) ≡ runs_after key n b (elements ps ++ x ∷ s)
    put_runs b c [] s u h last = refl
    put_runs b c (p ∷ ps) s u h last =
        ⊎_elim
        (λ (l : a < p.0).
        let differ = ahead (p.0) (p ∷ ps) (omega arith, u.1) l h in
        let counted : begins key n (b ++ elements (p ∷ ps)) x ≡ begins key n b x = ap (λ k. k % n == 0) (count_differ key x b (elements (p ∷ ps)) differ) in
        let no : begins key n b x ≡ false = (elim (begins key n b x) as (λ v. begins key n b x ≡ v → v ≡ false) [
          | true ↦ λ e. absurd (let z = (last (counted ∙ e)).0 in omega (arith, z, l))
          | false ↦ λ e. refl
        ]) refl in
        ap (λ v. runs_after key n b (elements (cond v ((a, x) ∷ p ∷ ps) (p ∷ put_in (a, x) ps)) ++ s)) (lt-ltb a (p.0) l)
        ∙ runs_shift b x (elements (p ∷ ps)) s differ no)
        (λ (l : p.0 ≤ a).
        let further : begins key n ((b ++ p.1 ∷ []) ++ elements ps) x ≡ true → Each (λ (p : ℕ × X). p.0 ≤ a) ps = λ e. (last (ap (λ l. begins key n l x) (sym (append_assoc b (p.1 ∷ []) (elements ps))) ∙ e)).1 in
        ap (λ v. runs_after key n b (elements (cond v ((a, x) ∷ p ∷ ps) (p ∷ put_in (a, x) ps)) ++ s)) (le-ltb a (p.0) l)
        ∙ runs_cons b (p.1) (elements (put_in (a, x) ps) ++ s) (elements ps ++ x ∷ s) (put_filter (key (p.1)) (p.0) ps s u.1 h.1) (put_runs (b ++ p.1 ∷ []) (p.0) ps s u.1 h.1 further))
        (cases_lt a (p.0))

  -- what was put so far
  pub record IsPut (b : List X) (out : List (ℕ × X)) (last : ℕ → ℕ) (before : List X) (made : ℕ) : Type 0 where
    pub up : IsUpFrom 0 out
    pub counted : (f : ℕ) → counts key f before ≡ counts key f (b ++ elements out)
    pub known : Each (λ (p : ℕ × X). (p.0 ≤ last (key p.1)) × (p.0 < made)) out
    pub below : (f : ℕ) → counts key f before % n ≢ 0 → last f < made

  module _ (b : List X) (out : List (ℕ × X)) (last : ℕ → ℕ) (before : List X) (made : ℕ) (x : X) (h : IsPut b out last before made) where
    abbrev a : ℕ
    a = run_for key n last before made x

    a_begun : begins key n before x ≡ true → a ≡ made
    a_begun e = ap (λ v. cond v made (last (key x))) e

    a_goes_on : begins key n before x ≡ false → a ≡ last (key x)
    a_goes_on e = ap (λ v. cond v made (last (key x))) e

    both : (P : Type 0) → (begins key n before x ≡ true → P) → (begins key n before x ≡ false → P) → P
    both P t f = (elim (begins key n before x) as (λ v. begins key n before x ≡ v → P) [ true ↦ t | false ↦ f ]) refl

    no_multiple : begins key n before x ≡ false → counts key (key x) before % n ≢ 0
    no_multiple e z = let t : begins key n before x ≡ true = eq-eqb _ 0 z in subst (λ v. cond v (Unit {0}) ⊥) (sym t ∙ e) tt

    a_low : a < suc made
    a_low = both (a < suc made) (λ e. let z = a_begun e in omega (arith, z)) (λ e. let z = a_goes_on e in let w = h.below (key x) (no_multiple e) in omega (arith, z, w))

    pub passes : PassesOthers a x out
    passes = each_map (λ (p : ℕ × X). (p.0 ≤ last (key p.1)) × (p.0 < made)) (λ p. a < p.0 → key p.1 ≢ key x) out (λ p k l e.
        both ⊥ (λ t. let z = a_begun t in omega (arith, z, l, k.1)) (λ t. let z = a_goes_on t in let y : last (key p.1) ≡ last (key x) = ap last e in omega (arith, z, l, k.0, y))) h.known

    pub begun_last : begins key n (b ++ elements out) x ≡ true → Each (λ (p : ℕ × X). p.0 ≤ a) out
    begun_last t =
        let e : begins key n before x ≡ true = ap (λ k. k % n == 0) (h.counted (key x)) ∙ t in
        let z = a_begun e in
        each_map (λ (p : ℕ × X). (p.0 ≤ last (key p.1)) × (p.0 < made)) (λ (p : ℕ × X). p.0 ≤ a) out (λ p k. omega (arith, z, k.1)) h.known

    abbrev last' : ℕ → ℕ
    last' = with_last key n last (key x) a

    last_mine : last' (key x) ≡ a
    last_mine = ap (λ v. cond v a (last (key x))) (nat_eq_equiv.refl (key x))

    last_other : (f : ℕ) → f ≢ key x → last' f ≡ last f
    last_other f u = ap (λ v. cond v a (last f)) (neq-eqb f (key x) u)

    pub next_put : IsPut b (put_in (a, x) out) last' (before ++ x ∷ []) (suc made)
    next_put = record {
      up = put_up 0 (a, x) out (omega arith) h.up;
      counted = λ f.
          let p = count_append key 0 f before (x ∷ []) in
          let q = h.counted f in
          let r = count_append key 0 f b (elements out) in
          let s = count_append key 0 f b (elements (put_in (a, x) out)) in
          let t = put_count key f (a, x) out in
          let one : X → ℕ = λ z. cond (is key f z) 1 0 in
          let v = sum_by-cons one x (elements out) in
          let w = sum_by-cons one x [] in
          omega (arith, p, q, r, s, t, v, w);
      known = each_put (λ (p : ℕ × X). (p.0 ≤ last' (key p.1)) × (p.0 < suc made)) (a, x) out
          (let z = last_mine in omega (arith, z), a_low)
          (each_map (λ (p : ℕ × X). (p.0 ≤ last (key p.1)) × (p.0 < made)) (λ (p : ℕ × X). (p.0 ≤ last' (key p.1)) × (p.0 < suc made)) out (λ p k. (
            ⊎_elim
                (λ (e : key p.1 ≡ key x).
                let z : last' (key p.1) ≡ a = ap last' e ∙ last_mine in
                let y : last (key p.1) ≡ last (key x) = ap last e in
                both (p.0 ≤ last' (key p.1)) (λ t. let w = a_begun t in omega (arith, z, w, k.1)) (λ t. let w = a_goes_on t in omega (arith, z, w, y, k.0)))
                (λ (u : key p.1 ≢ key x). let z = last_other (key p.1) u in omega (arith, z, k.0))
                (cases_eq (key p.1) (key x)),
            omega (arith, k.1),
          )) h.known);
      below = λ f z. ⊎_elim
          (λ (e : f ≡ key x). let y : last' f ≡ a = ap last' e ∙ last_mine in let l = a_low in omega (arith, y, l))
          (λ (u : f ≢ key x).
          let c : counts key f (before ++ x ∷ []) ≡ counts key f before = push_other key 0 f before x (λ e. u (sym e)) in
          let y = last_other f u in
          let l = h.below f (λ e. z (ap (λ k. k % n) c ∙ e)) in omega (arith, y, l))
          (cases_eq f (key x));
    }

  all_runs : (b : List X) (out : List (ℕ × X)) (last : ℕ → ℕ) (before : List X) (made : ℕ) (xs : List X) → IsPut b out last before made → runs_after key n b (elements (put_all out (numbered key n last before made xs))) ≡ runs_after key n b (elements out ++ xs)
  all_runs b out last before made [] h = ap (runs_after key n b) (sym (append-nil (elements out)))
  all_runs b out last before made (x ∷ xs) h =
      let v = run_for key n last before made x in
      all_runs b (put_in (v, x) out) (with_last key n last (key x) v) (before ++ x ∷ []) (suc made) xs (next_put b out last before made x h)
      ∙ put_runs v x b 0 out xs h.up (passes b out last before made x h) (begun_last b out last before made x h)

  all_filter : (f : ℕ) (b : List X) (out : List (ℕ × X)) (last : ℕ → ℕ) (before : List X) (made : ℕ) (xs : List X) → IsPut b out last before made → filter (is key f) (elements (put_all out (numbered key n last before made xs))) ≡ filter (is key f) (elements out ++ xs)
  all_filter f b out last before made [] h = ap (filter (is key f)) (sym (append-nil (elements out)))
  all_filter f b out last before made (x ∷ xs) h =
      let v = run_for key n last before made x in
      all_filter f b (put_in (v, x) out) (with_last key n last (key x) v) (before ++ x ∷ []) (suc made) xs (next_put b out last before made x h)
      ∙ put_filter v x f 0 out xs h.up (passes b out last before made x h)

  module _ (made : ℕ) (before xs : List X) (low : (f : ℕ) → counts key f before % n ≢ 0 → f < made) where
    pub start : IsPut before [] (λ f. f) before made
    start = record { up = tt; counted = λ f. ap (counts key f) (sym (append-nil before)); known = tt; below = low }

    -- each key's elements keep their order
    pub order_kept : (f : ℕ) → filter (is key f) (in_blocks key n made before xs) ≡ filter (is key f) xs
    order_kept f = all_filter f before [] (λ f. f) before made xs start

    pub order_moves : IsPermutation (in_blocks key n made before xs) xs
    order_moves = gathered key (in_blocks key n made before xs) xs order_kept

    -- and the runs are the same
    pub order_runs : runs key n (before ++ in_blocks key n made before xs) ≡ runs key n (before ++ xs)
    order_runs = runs_behind [] before (in_blocks key n made before xs) xs order_kept (all_runs before [] (λ f. f) before made xs start)
