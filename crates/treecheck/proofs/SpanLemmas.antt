-- How many leaves a page of each level stands above.
use Rattle.std.proofs.Common.{ℕ, suc, ◌+◌, ◌-◌, ◌/◌, ◌^◌, ◌<◌, ◌≡◌, List, sym, ap, ◌∙◌, arith, subst}
use Rattle.std.proofs.Math.Nat.{pow-suc, one-le-pow, mul-div_cancel}
use Rattle.legs.specs.Boxes.{BoxView}
use Rattle.legs.specs.Legs.{LegView}
use Rattle.tbtree.specs.Nodes.{Pages}
use Rattle.treecheck.specs.Levels.{named_below}

pub pow_above : (inner k : ℕ) → 0 < inner → 0 < inner ^ k
pow_above inner k h = let p = one-le-pow k inner h in omega (arith, p)

-- one level further down
pub span_down : (inner height level span : ℕ) → 0 < inner → level < height → span ≡ inner ^ (height - level) → span / inner ≡ inner ^ (height - (level + 1))
span_down inner height level span h l e =
    let k = height - (level + 1) in
    let s : height - level ≡ suc k = omega (arith, l) in
    ap (λ n. n / inner) (e ∙ ap (λ n. inner ^ n) s ∙ pow-suc inner k) ∙ mul-div_cancel (inner ^ k) h

pub width_above : (inner height level span : ℕ) → 0 < inner → level < height → span ≡ inner ^ (height - level) → 0 < span / inner
width_above inner height level span h l e = subst (λ n. 0 < n) (sym (span_down inner height level span h l e)) (pow_above inner (height - (level + 1)) h)

-- the pages of a level: how high they are, how many leaves an entry of each stands above, and how many each, and which they are
pub record Level : Type 0 where
  pub height : ℕ
  pub width : ℕ
  pub span : ℕ
  pub pages : List ℕ

abbrev pub level_at : (height width span : ℕ) → List ℕ → Level
level_at height width span pages = record { height = height; width = width; span = span; pages = pages }

-- the level that is read is the one that n and k say
pub level_is : (nodes : Pages LegView BoxView) (inner height level span root : ℕ) (pages : List ℕ) (k n : ℕ) → 0 < inner → n + suc k ≡ height → n ≡ level → span ≡ inner ^ (height - level) → pages ≡ named_below nodes root level
    → level_at (height - level) (span / inner) span pages ≡ level_at (suc k) (inner ^ k) (inner ^ suc k) (named_below nodes root n)
level_is nodes inner height level span root pages k n h e s p q =
    let a : height - level ≡ suc k = omega (arith, e, s) in
    let b : height - (level + 1) ≡ k = omega (arith, e, s) in
    let l : level < height = omega (arith, e, s) in
    let w : span / inner ≡ inner ^ k = span_down inner height level span h l p ∙ ap (λ n. inner ^ n) b in
    let v : span ≡ inner ^ suc k = p ∙ ap (λ n. inner ^ n) a in
    let xs : pages ≡ named_below nodes root n = q ∙ ap (named_below nodes root) (sym s) in
    λ i. level_at (a i) (w i) (v i) (xs i)
