-- The way down, a level at a time.
use Rattle.std.proofs.Common.{ℕ, zero, suc, [], ◌∷◌, ◌++◌, ◌≡◌, ◌+◌, ◌-◌, ◌<◌, ◌≤◌, List, length, sym, ap, ◌∙◌, arith, subst, Some, slice_get, All, ⊎_elim}
use Rattle.std.specs.List.{flat_map}
use Rattle.std.proofs.lemmas.Bool.{cases_lt}
use Rattle.std.proofs.lemmas.List.Elements.{All-same}
use Rattle.legs.specs.Boxes.{BoxView}
use Rattle.legs.specs.Hull.{leg_boxes}
use Rattle.legs.specs.Legs.{LegView}
use Rattle.pagecache.specs.Cache.{Cache}
use Rattle.tbtree.specs.Descent.{children_met, hits, pages_met, met_count, legs_met, HasInner}
use Rattle.tbtree.specs.Faults.{IfNamed, RefusesRead}
use Rattle.tbtree.specs.Nodes.{Pages}
use Rattle.tbtree.specs.declared.fault.TreeFault.{TreeFault}
use Rattle.tbtree.specs.declared.fault.TreeFault.TheVariants.{Malformed}
use Rattle.chains.proofs.LiveLemmas.{all_at}
use Rattle.boxsearch.specs.Way.{meets, IsOneNot, IsOnLevel, IsWay, IsOffWay}

pub malformed_is : (Q : ℕ → Type 0) (fault : TreeFault) (page : ℕ) → fault ≡ Malformed page → Q page → IfNamed Q fault
malformed_is Q fault page e h = subst (IfNamed Q) (sym e) h

pub malformed_caused : (old new : Cache) (fault : TreeFault) (page : ℕ) → fault ≡ Malformed page → RefusesRead old new fault
malformed_caused old new fault page e = subst (RefusesRead old new) (sym e) tt

-- the first page is the root
pub root_alone : (now items fresh : List ℕ) (root : ℕ) → now ≡ items → items ≡ fresh ++ root ∷ [] → fresh ≡ [] → now ≡ root ∷ []
root_alone now items fresh root e f h = e ∙ f ∙ ap (λ l. l ++ root ∷ []) h

module _ (query : BoxView) (nodes : Pages LegView BoxView) (root levels : ℕ) where
  abbrev Met : ℕ → List ℕ
  Met n = pages_met (meets query) nodes root n

  abbrev Count : ℕ → ℕ
  Count n = met_count (meets query) nodes root n

  -- the pages of the first levels are each on its level
  abbrev pub FitsTo : ℕ → Type 0
  FitsTo depth = (n k : ℕ) → n + suc k ≡ levels → n < depth → All (λ p. IsOnLevel nodes k p) (Met n)

  -- the pages of the next level
  pub level_down : (n j : ℕ) (now below : List ℕ) → j ≡ suc n → now ≡ Met n → below ≡ flat_map (children_met (meets query) nodes) now → below ≡ Met j
  level_down n j now below s e h = h ∙ ap (flat_map (children_met (meets query) nodes)) e ∙ sym (ap (pages_met (meets query) nodes root) s)

  -- the legs of the last one
  pub level_legs : (n : ℕ) (now : List ℕ) (found : List LegView) → levels ≡ suc n → now ≡ Met n → found ≡ flat_map (hits leg_boxes (meets query) nodes) now → found ≡ legs_met leg_boxes (meets query) nodes root levels
  level_legs n now found s e h = h ∙ ap (flat_map (hits leg_boxes (meets query) nodes)) e ∙ sym (ap (legs_met leg_boxes (meets query) nodes root) s)

  -- an inner page of a level above the leaves is on it
  pub inner_level : (k p : ℕ) → 0 < k → HasInner nodes p k → IsOnLevel nodes k p
  inner_level zero p some h = absurd (omega (arith, some))
  inner_level (suc k) p some h = h

  pub level_inner : (k p : ℕ) → 0 < k → IsOnLevel nodes k p → HasInner nodes p k
  level_inner zero p some h = absurd (omega (arith, some))
  level_inner (suc k) p some h = h

  -- pages that were read are on their level
  pub all_fit : (P : ℕ → Type 0) (n k : ℕ) (now : List ℕ) → ((p : ℕ) → P p → IsOnLevel nodes k p) → now ≡ Met n → All P now → All (λ p. IsOnLevel nodes k p) (Met n)
  all_fit P n k now is e all = let met = All-same P _ now (sym e) all in λ i d w. is _ (met i d w)

  -- a page of a level that is not on it, or with which more are met than there are
  pub one_off_way : (P : ℕ → Type 0) (n k p : ℕ) (now : List ℕ) → n + suc k ≡ levels → now ≡ Met n → ((q : ℕ) → IsOnLevel nodes k q → P q) → IsOneNot P now p → IsOffWay query nodes root levels p
  one_off_way P n k p now l e is off = record { n = n; k = k; level_is = l; off = (off.0, ap (λ xs. slice_get xs off.0) (sym e) ∙ off.1, λ h. off.2 (is p h.0)) }

  pub many_off_way : (n k i p : ℕ) (now : List ℕ) → n + suc k ≡ levels → now ≡ Met n → slice_get now i ≡ Some p → nodes.count < Count n + length now → IsOffWay query nodes root levels p
  many_off_way n k i p now l e at many = record {
    n = n;
    k = k;
    level_is = l;
    off = (i, ap (λ xs. slice_get xs i) (sym e) ∙ at, λ h. let few = h.1 in let same = ap (λ (xs : List ℕ). length xs) e in omega (arith, few, many, same));
  }

  -- where the way is whole, no page is off it
  pub way_off : IsWay query nodes root levels → (p : ℕ) → IsOffWay query nodes root levels p → ⊥
  way_off way p off =
      let n = off.n in
      let l = off.level_is in
      off.off.2 (all_at (λ q. IsOnLevel nodes off.k q) (Met n) off.off.0 p (way.fit n off.k l) off.off.1, way.few (suc n) (omega (arith, l)))

  -- so many are met with those of one level more
  pub counted : (n j : ℕ) (now : List ℕ) → j ≡ suc n → now ≡ Met n → Count j ≡ Count n + length now
  counted n j now s e = ap (met_count (meets query) nodes root) s ∙ ap (λ (xs : List ℕ). Count n + length xs) (sym e)

  -- no level is above the first
  pub fits_none : FitsTo 0
  fits_none n k l w = absurd (omega (arith, w))

  -- where the pages of the first levels are each on its level, and those of one level more
  pub fits_more : (n k m : ℕ) → n + suc k ≡ levels → m ≡ suc n → All (λ p. IsOnLevel nodes k p) (Met n) → FitsTo n → FitsTo m
  fits_more n k m l s all above x y e w =
      ⊎_elim
      (λ (h : x < n). above x y e h)
      (λ (h : n ≤ x).
      let here : n ≡ x = omega (arith, h, w, s) in
      let deep : k ≡ y = omega (arith, here, l, e) in
      subst (λ v. All (λ p. IsOnLevel nodes y p) (Met v)) here
      (subst (λ v. All (λ p. IsOnLevel nodes v p) (Met n)) deep all))
      (cases_lt x n)

  -- no fewer pages are met on more levels
  pub met_rises : (n d m : ℕ) → n + d ≡ m → Count n ≤ Count m
  met_rises n zero m e =
      let same : n ≡ m = omega (arith, e) in
      let met = ap (met_count (meets query) nodes root) same in
      omega (arith, met)
  met_rises n (suc d) zero e = absurd (omega (arith, e))
  met_rises n (suc d) (suc m) e =
      let fewer = met_rises n d m (omega (arith, e)) in
      omega (arith, fewer)

  -- where each level fits, and some or no pages are left, the way is whole
  pub way_whole : (left m : ℕ) → m ≡ levels → FitsTo levels → left + Count m ≡ nodes.count → IsWay query nodes root levels
  way_whole left m s fits all = record {
    fit = λ n k l. fits n k l (omega (arith, l));
    few = λ n h.
        let rises = met_rises n (m - n) m (omega (arith, h, s)) in
        omega (arith, rises, all);
  }

  -- and so it is where there are no levels
  pub way_none : levels ≡ 0 → IsWay query nodes root levels
  way_none e = record {
    fit = λ n k l. absurd (omega (arith, l, e));
    few = λ n h.
        let rises = met_rises n 0 0 (omega (arith, h, e)) in
        omega (arith, rises);
  }
