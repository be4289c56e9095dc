-- One leaf of a walk back along a chain.
use Rattle.std.proofs.Common.{ℕ, suc, ◌+◌, ◌-◌, ◌^◌, ◌≡◌, ◌<◌, Bool, true, false, cond, List, [], ◌++◌, refl, sym, ap, subst, ◌∙◌, arith, append_assoc, Option, Some, None, IsTrue}
use Rattle.std.specs.Prelude.{min, if◌then◌else◌, option_map}
use Rattle.std.specs.List.{filter}
use Rattle.timebase.specs.Period.{PeriodView}
use Rattle.legs.specs.Legs.{LegView}
use Rattle.legs.specs.declared.sieve.Sieve.{Sieve}
use Rattle.legs.specs.Boxes.{BoxView}
use Rattle.pagecache.specs.Cache.{Cache}
use Rattle.tbnode.specs.Form.{node_of}
use Rattle.tbtree.specs.Descent.{legs_in}
use Rattle.tbtree.specs.Nodes.{Pages, pages_of_cache, LeafView, ALeaf}
use Rattle.chains.specs.Chains.{walk, walked, previous_of}
use Rattle.chains.specs.Links.{is_kept, is_end, IsUnlinked}
use Rattle.chains.specs.Reads.{OnlyReads}
use Rattle.chains.specs.Taking.{HasTaken}
use Rattle.chains.specs.declared.leaves.Link.{Link}
use Rattle.chains.specs.declared.leaves.Spot.{Spot}
use Rattle.legs.proofs.GroupLemmas.{some_none, some_same}
use Rattle.chains.proofs.SieveLemmas.{then_taken}

-- what is only read has the same pages
pub same_at : (old mid : Cache) → OnlyReads old mid → IsTrue old.store.is_faithful → (n : ℕ) → (pages_of_cache mid).at n ≡ (pages_of_cache old).at n
same_at old mid r f n = ap (option_map node_of) (r.payloads f n)

pub true_false : true ≡ false → ⊥
true_false e = cc

-- where the walk goes on, there is a link back
pub goes_on : (b : Bool) (back link : Link) → Some back ≡ (if b then None else Some link) → (b ≡ false) × (back ≡ link)
goes_on true back link e = absurd (some_none back e)
goes_on false back link e = (refl, some_same back link e)

pub ends : (b : Bool) (link : Link) → None ≡ (if b then None else Some link) → b ≡ true
ends true link e = refl
ends false link e = absurd (some_none link (sym e))

-- of all that a walk gives, what it gives beside the n leaves from page p back has been taken
abbrev pub IsFound : Pages LegView BoxView → Option PeriodView → Sieve → (n p : ℕ) → (whole items : List LegView) → Type 0
IsFound nodes period s n p whole items = (done : List LegView) × HasTaken period s done [] items × (walk nodes period n p ++ done ≡ whole)

pub found_all : (nodes : Pages LegView BoxView) (period : Option PeriodView) (s : Sieve) (n p : ℕ) (whole items : List LegView) → n ≡ 0
    → IsFound nodes period s n p whole items → HasTaken period s whole [] items
found_all nodes period s n p whole items z w =
    subst (λ l. HasTaken period s l [] items) (sym (ap (λ n. walk nodes period n p ++ w.0) z) ∙ w.2) w.1

module _ (nodes : Pages LegView BoxView) (period : Option PeriodView) (link : Link) (leaf : LeafView LegView) (is : nodes.at link.page ≡ Some (Some (ALeaf leaf))) (rest n : ℕ) (e : n ≡ suc rest) where
  -- the walk, at this leaf
  walk_here : walk nodes period n link.page ≡ cond (is_end period leaf.legs) (filter (is_kept period) leaf.legs) (walk nodes period rest leaf.previous ++ filter (is_kept period) leaf.legs)
  walk_here =
      ap (λ n. walk nodes period n link.page) e
      ∙ ap (λ o. cond (is_end period (legs_in o)) (filter (is_kept period) (legs_in o)) (walk nodes period rest (previous_of o) ++ filter (is_kept period) (legs_in o))) is

  walked_here : walked nodes period n link.page ≡ 1 + cond (is_end period leaf.legs) 0 (walked nodes period rest leaf.previous)
  walked_here =
      ap (λ n. walked nodes period n link.page) e
      ∙ ap (λ o. 1 + cond (is_end period (legs_in o)) 0 (walked nodes period rest (previous_of o))) is

  pub found_on : (s : Sieve) (items items' whole : List LegView) → is_end period leaf.legs ≡ false → HasTaken period s (filter (is_kept period) leaf.legs) items items'
      → IsFound nodes period s n link.page whole items → IsFound nodes period s rest leaf.previous whole items'
  found_on s items items' whole z a w =
      let kept = filter (is_kept period) leaf.legs in
      let before = walk nodes period rest leaf.previous in
      let all : walk nodes period n link.page ≡ before ++ kept = walk_here ∙ ap (λ v. cond v kept (before ++ kept)) z in (
        kept ++ w.0,
        then_taken period s kept w.0 [] items items' w.1 a,
        sym (append_assoc before kept w.0) ∙ ap (λ l. l ++ w.0) (sym all) ∙ w.2,
      )

  pub found_end : (s : Sieve) (items items' whole : List LegView) → is_end period leaf.legs ≡ true → HasTaken period s (filter (is_kept period) leaf.legs) items items'
      → IsFound nodes period s n link.page whole items → HasTaken period s whole [] items'
  found_end s items items' whole z a w =
      let kept = filter (is_kept period) leaf.legs in
      let before = walk nodes period rest leaf.previous in
      let all : walk nodes period n link.page ≡ kept = walk_here ∙ ap (λ v. cond v kept (before ++ kept)) z in
      subst (λ l. HasTaken period s l [] items') (ap (λ l. l ++ w.0) (sym all) ∙ w.2) (then_taken period s kept w.0 [] items items' w.1 a)

  pub asked_on : is_end period leaf.legs ≡ false → walked nodes period n link.page ≡ 1 + walked nodes period rest leaf.previous
  asked_on z = walked_here ∙ ap (λ v. 1 + cond v 0 (walked nodes period rest leaf.previous)) z

  pub asked_end : is_end period leaf.legs ≡ true → walked nodes period n link.page ≡ 1
  asked_end z = walked_here ∙ ap (λ v. 1 + cond v 0 (walked nodes period rest leaf.previous)) z

-- one page more was asked for, below the greatest number that is counted
pub one_more : (a b : ℕ) → b ≡ min (a + 1) (2 ^ 64 - 1) → b < 2 ^ 64 - 1 → (a < 2 ^ 64 - 1) × (b ≡ a + 1)
one_more a b e l = (omega (arith, e, l), omega (arith, e, l))

-- over what is only read a page that is unlinked was so before
pub unlinked_before : (old mid : Cache) (link : Link) (spot : Spot) (page : ℕ) → OnlyReads old mid → IsTrue old.store.is_faithful → IsUnlinked (pages_of_cache mid) link spot page → IsUnlinked (pages_of_cache old) link spot page
unlinked_before old mid link spot page r f h = (h.0, λ leaf l. h.1 leaf (record { above = l.above; is = same_at old mid r f link.page ∙ l.is; fits = l.fits }))
