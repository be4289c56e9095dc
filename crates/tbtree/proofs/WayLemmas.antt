-- The way down, step by step.
use Rattle.std.proofs.Common.{ℕ, suc, ◌+◌, ◌/◌, ◌%◌, ◌^◌, ◌<◌, ◌≤◌, ◌≡◌, ◌≢◌, List, get_or, length, refl, sym, ap, ◌∙◌, arith, subst, ⊎_elim, Some, slice_get}
use Rattle.std.specs.Prelude.{Result, Ok, Err, IfOk, IfErr}
use Rattle.std.proofs.lemmas.Option.{slice_get_within, slice_get-get_or}
use Rattle.std.proofs.lemmas.Bool.{cases_eq, cases_lt}
use Rattle.std.proofs.Math.Nat.{div-div-eq-div-mul, pow-suc}
use Rattle.legs.specs.Blocks.{groups, block}
use Rattle.legs.specs.Hull.{Boxes}
use Rattle.std.proofs.lemmas.List.{length-map}
use Rattle.tbtree.specs.Nodes.{Pages, InnerView, EntryView, children, Widens, HasEntry}
use Rattle.tbtree.specs.Stands.{page_at, NumbersStand, LevelStands}
use Rattle.tbtree.specs.Faults.{MayRefuseWrite}
use Rattle.tbtree.specs.Way.{Wider, IsWidened, Going, IsOnWay}
use Rattle.tbtree.specs.declared.fault.TreeFault.{TreeFault}
use Rattle.legs.proofs.GroupLemmas.{some_none, some_same, get-block}
use Rattle.tbtree.proofs.Widening.{inner_same}
use Rattle.tbtree.proofs.WiderLemmas.{becomes_held, keep_inner, widen_level}

-- the block above block j
pub parent_of : (inner i j K : ℕ) → j ≡ i / inner ^ K → j / inner ≡ i / inner ^ suc K
parent_of inner i j K e = ap (λ n. n / inner) e ∙ div-div-eq-div-mul i (inner ^ K) inner ∙ ap (λ n. i / n) (sym (pow-suc inner K))

-- a page of level k + 1 is in no other level
pub one_level : {L : Type 0} (inner levels root count : ℕ) (runs : List (List L)) (pages : ℕ → List ℕ) → NumbersStand inner levels root count runs pages → (K k j p : ℕ) → page_at pages k j ≡ Some p → k ≤ K → (k' j' : ℕ) → page_at pages (suc k') j' ≡ Some p → k' < K
one_level inner levels root count runs pages n K k j p a l k' j' b = (let e = (n.apart (suc k') j' k j p b a).0 in omega (arith, e, l))

module _ {L B : Type 0} (s : Boxes L B) (inner levels root : ℕ) where
  pub way_start : (nodes : Pages L B) (K j : ℕ) (box : B) → suc K ≡ levels → IsOnWay s inner levels root nodes nodes K j box (Ok root)
  way_start nodes K j box e runs after pages count i g =
      let n = g.numbers in
      let x = g.wider K (omega arith) in
      let l : i / inner ^ K < length (groups (inner ^ K) runs) = slice_get_within (groups (inner ^ K) runs) (i / inner ^ K) x.was x.found in
      let t = n.top K e in
      let z : j ≡ 0 = (let a = g.block in omega (arith, l, t.0, a)) in
      record {
        found = ap (page_at pages K) z ∙ t.1;
        kept = record { as_many = refl; held = λ p e. e; same = λ p h. refl };
        above = λ k l j q a. absurd (some_none q (sym a ∙ ap (λ x. slice_get x j) (n.no_more (suc k) (omega (arith, e, l)))));
      }

  -- from a block to the one above it
  going_up : (old : Pages L B) (K j : ℕ) (box : B) (runs after : List (List L)) (pages : ℕ → List ℕ) (count i : ℕ) → Going s inner levels root old K j box runs after pages count i → Going s inner levels root old (suc K) (j / inner) box runs after pages count i
  going_up old K j box runs after pages count i g = record {
    block = parent_of inner i j K g.block;
    wider = λ k l. g.wider k (omega (arith, l));
    numbers = g.numbers;
    above = λ k l. g.above k (omega (arith, l));
  }

  -- the page above a block, after the levels above it have been widened
  parent_stands : (old mid : Pages L B) (K j p : ℕ) (box : B) (runs after : List (List L)) (pages : ℕ → List ℕ) (count i : ℕ) → Going s inner levels root old K j box runs after pages count i → IsWidened s inner old mid after pages (suc K) (j / inner) p → LevelStands s mid inner runs pages K
  parent_stands old mid K j p box runs after pages count k g o i q b = keep_inner s old mid q (suc K) _ _ (o.kept.same q (one_level inner levels root count runs pages g.numbers (suc K) (suc K) i q b (omega arith))) (g.above K (omega arith) i q b)

  way_step : (old mid new : Pages L B) (K j p c : ℕ) (box : B) → 0 < inner → Widens s mid p (suc K) (j % inner) box new c → (runs after : List (List L)) (pages : ℕ → List ℕ) (count i : ℕ)
      → Going s inner levels root old K j box runs after pages count i → IsWidened s inner old mid after pages (suc K) (j / inner) p → IsWidened s inner old new after pages K j c
  way_step old mid new K j p c box h w runs after pages count i going o =
      let n = going.numbers in
      let x' : Wider s (inner ^ K) runs after j box = subst (λ z. Wider s (inner ^ K) runs after z box) (sym going.block) (going.wider K (omega arith)) in
      let v' = parent_stands old mid K j p box runs after pages count i going o in
      let g = v' (j / inner) p o.found in
      let same : g.page ≡ w.page = inner_same L g.page w.page (some_same _ _ (sym g.is ∙ w.was)) in
      let ch : slice_get (pages K) j ≡ Some c = sym (get-block inner (pages K) j h) ∙ ap (λ l. slice_get l (j % inner)) (sym g.children_are ∙ ap (λ (x : InnerView B). children x) same) ∙ w.child in
      let other : (q : ℕ) → q ≢ p → new.at q ≡ mid.at q = λ q u. w.becomes.rest q u in
      record {
        found = ch;
        kept = record {
          as_many = w.counted ∙ o.kept.as_many;
          held = λ q e. o.kept.held q (becomes_held mid new p q _ w.becomes e).0;
          same = λ q f. other q (λ u. (let l = f K (j / inner) (o.found ∙ ap Some (sym u)) in omega (arith, l))) ∙ o.kept.same q (λ k i b. (let l = f k i b in omega (arith, l)));
        };
        above = λ k l. ⊎_elim
            (λ (e : k ≡ K). subst (λ z. LevelStands s new inner after pages z) (sym e) (widen_level s inner levels root count pages runs after mid new p (suc K) j box c K h w n o.found x' v'))
            (λ (e : k ≢ K). λ i q b.
            let u : q ≢ p = λ u. e (let z = (n.apart (suc k) i (suc K) (j / inner) p (b ∙ ap Some u) o.found).0 in omega (arith, z)) in
            keep_inner s mid new q (suc k) _ _ (other q u) (o.above k (omega (arith, l, e)) i q b))
            (cases_eq k K);
      }

  -- the page above has the block's entry
  way_entry : (old mid : Pages L B) (K j p : ℕ) (box : B) → 0 < inner → (runs after : List (List L)) (pages : ℕ → List ℕ) (count i : ℕ)
      → Going s inner levels root old K j box runs after pages count i → IsWidened s inner old mid after pages (suc K) (j / inner) p → HasEntry mid p (suc K) (j % inner)
  way_entry old mid K j p box h runs after pages count i going o =
      let n = going.numbers in
      let g = parent_stands old mid K j p box runs after pages count i going o (j / inner) p o.found in
      let below : suc K < levels = ⊎_elim (λ (l : suc K < levels). l) (λ (l : levels ≤ suc K). absurd (some_none p (sym o.found ∙ ap (λ x. slice_get x (j / inner)) (n.no_more (suc K) l)))) (cases_lt (suc K) levels) in
      let x = going.wider K (omega arith) in
      let l : i / inner ^ K < length (groups (inner ^ K) runs) = slice_get_within (groups (inner ^ K) runs) (i / inner ^ K) x.was x.found in
      let jl : j < length (pages K) = (let a = going.block in let c = n.one_each K (omega (arith, below)) in omega (arith, a, c, l)) in
      let at : slice_get (block inner (j / inner) (pages K)) (j % inner) ≡ Some (get_or (pages K) j 0) = get-block inner (pages K) j h ∙ slice_get-get_or (pages K) j 0 jl in
      record { above = (n.within (suc K) (j / inner) p o.found).0; page = g.page; is = g.is; height_is = g.height_is; within = (let m = slice_get_within (children g.page) (j % inner) _ (ap (λ l. slice_get l (j % inner)) g.children_are ∙ at) in omega (arith, m, length-map g.page.entries (λ (e : EntryView B). e.child))) }

  pub way_steps : (old mid new : Pages L B) (K j p : ℕ) (box : B) → 0 < inner → IsOnWay s inner levels root old mid (K + 1) (j / inner) box (Ok p)
      → (res : Result ℕ TreeFault) → IfOk res (λ c. Widens s mid p (K + 1) (j % inner) box new c) → (HasEntry mid p (K + 1) (j % inner) → IfErr res MayRefuseWrite) → IsOnWay s inner levels root old new K j box res
  way_steps old mid new K j p box h on (Ok c) w only runs after pages count i g =
      let e : K + 1 ≡ suc K = omega arith in
      let on' : IsOnWay s inner levels root old mid (suc K) (j / inner) box (Ok p) = subst (λ n. IsOnWay s inner levels root old mid n (j / inner) box (Ok p)) e on in
      way_step old mid new K j p c box h (subst (λ n. Widens s mid p n (j % inner) box new c) e w) runs after pages count i g (on' runs after pages count i (going_up old K j box runs after pages count i g))
  way_steps old mid new K j p box h on (Err x) w only runs after pages count i g =
      let e : K + 1 ≡ suc K = omega arith in
      let on' : IsOnWay s inner levels root old mid (suc K) (j / inner) box (Ok p) = subst (λ n. IsOnWay s inner levels root old mid n (j / inner) box (Ok p)) e on in
      only (subst (λ n. HasEntry mid p n (j % inner)) (sym e) (way_entry old mid K j p box h runs after pages count i g (on' runs after pages count i (going_up old K j box runs after pages count i g))))

  pub way_refused : (old mid new : Pages L B) (K j : ℕ) (box : B) (x : TreeFault) → IsOnWay s inner levels root old mid (K + 1) (j / inner) box (Err x) → IsOnWay s inner levels root old new K j box (Err x)
  way_refused old mid new K j box x on runs after pages count i g =
      let e : K + 1 ≡ suc K = omega arith in
      let on' : IsOnWay s inner levels root old mid (suc K) (j / inner) box (Err x) = subst (λ n. IsOnWay s inner levels root old mid n (j / inner) box (Err x)) e on in
      on' runs after pages count i (going_up old K j box runs after pages count i g)
