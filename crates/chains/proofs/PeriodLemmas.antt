-- A walk back from a feature's place, up to a leaf that starts before a period.
use Rattle.std.proofs.Common.{ℕ, zero, suc, ◌+◌, ◌≡◌, ◌<◌, ◌≤◌, Bool, true, false, cond, List, [], ◌∷◌, length, refl, sym, ap, ◌∙◌, arith, subst, Option, Some, None, All}
use Rattle.std.specs.Int.{div_ceil}
use Rattle.std.specs.List.{filter, count_by}
use Rattle.std.proofs.lemmas.List.Elements.{All-append, All-nil, All-same}
use Rattle.std.proofs.lemmas.List.Sums.{sum_by-cons}
use Rattle.timebase.specs.Period.{PeriodView}
use Rattle.legs.specs.Blocks.{groups, joined}
use Rattle.legs.specs.Boxes.{BoxView}
use Rattle.legs.specs.Costs.{RisesAtMost, RisesBy, ShapeView, reaches, track_in_bound}
use Rattle.legs.specs.Index.{legs_of, live_legs_of}
use Rattle.legs.specs.Legs.{LegView, is_live}
use Rattle.legs.specs.Sieves.{IsSieved}
use Rattle.legs.specs.declared.sieve.Sieve.{Sieve}
use Rattle.pagecache.specs.Cache.{Cache}
use Rattle.tbtree.specs.Nodes.{Pages, pages_of_cache}
use Rattle.tbtree.specs.declared.tree.Place.{Place}
use Rattle.tbtree.specs.Descent.{legs_in}
use Rattle.chains.specs.Chains.{chain_cost, walk, walked, previous_of}
use Rattle.chains.specs.Links.{is_end}
use Rattle.chains.specs.Taking.{IsTaken}
use Rattle.chains.specs.Trajectory.{AsksFor, HasFeature, kept_of}
use Rattle.chains.proofs.BackLemmas.{IsBack, onto, unwound, unwound_onto, length_onto, count_onto, walk_blocks}
use Rattle.legs.proofs.GroupSteps.{joined_groups, filled_groups}
use Rattle.chains.proofs.PlaceLemmas.{place_back, block_count, legs_count, walked_all, whole_cost, whole_walk}
use Rattle.chains.proofs.RiseLemmas.{Rises, page_rises}
use Rattle.chains.proofs.TimeLemmas.{InOrder, EachReaches, in_order, stops_right, each_reaches}

-- the legs of the leaves walked back do not end before they start
rising_back : (c : Cache) (f first next p : ℕ) (rs : List (List LegView)) → IsBack (pages_of_cache c) f first next p rs → All Rises (unwound rs)
rising_back c f first next p [] b = All-nil Rises
rising_back c f first next p (r ∷ rs) b =
    All-append Rises (unwound rs) r (rising_back c f first p b.0.previous rs b.2) (All-same Rises r b.0.legs (sym b.1.legs_are) (page_rises c p b.0 b.1.is))

module _ (nodes : Pages LegView BoxView) where
  -- no more leaves are read than the chain has
  pub walked_most : (period : Option PeriodView) (n p : ℕ) → walked nodes period n p ≤ n
  walked_most period zero p = omega arith
  walked_most period (suc n) p =
      let on = walked_most period n (previous_of (nodes.at p)) in
      elim (is_end period (legs_in (nodes.at p))) as (λ v. 1 + cond v 0 (walked nodes period n (previous_of (nodes.at p))) ≤ suc n) [
        | true ↦ omega arith
        | false ↦ omega (arith, on)
      ]

  -- and at most one more than reach the period's start
  walked_few : (period : PeriodView) (f first next p : ℕ) (rs : List (List LegView)) → IsBack nodes f first next p rs → EachReaches period rs
      → walked nodes (Some period) (length rs) p ≤ 1 + count_by (reaches period) rs
  walked_few period f first next p [] b h = omega arith
  walked_few period f first next p (r ∷ rs) b h =
      let legs : legs_in (nodes.at p) ≡ r = ap legs_in b.1.is ∙ b.1.legs_are in
      let back : previous_of (nodes.at p) ≡ b.0.previous = ap previous_of b.1.is in
      let rest = walked nodes (Some period) (length rs) b.0.previous in
      let here : walked nodes (Some period) (suc (length rs)) p ≡ 1 + cond (is_end (Some period) r) 0 rest =
      ap (λ l. 1 + cond (is_end (Some period) l) 0 (walked nodes (Some period) (length rs) (previous_of (nodes.at p)))) legs
      ∙ ap (λ q. 1 + cond (is_end (Some period) r) 0 (walked nodes (Some period) (length rs) q)) back in
      let c = sum_by-cons (λ x. cond (reaches period x) 1 0) r rs in
      let on = walked_few period f first p b.0.previous rs b.2 h.1 in
      (elim (is_end (Some period) r) as (λ v. is_end (Some period) r ≡ v → walked nodes (Some period) (suc (length rs)) p ≡ 1 + cond v 0 rest
      → walked nodes (Some period) (suc (length rs)) p ≤ 1 + count_by (reaches period) (r ∷ rs)) [
        | true ↦ λ e here. omega (arith, here)
        | false ↦ λ e here. let y = ap (λ (v : Bool). let n : ℕ = cond v 1 0 in n) (h.0 e) in omega (arith, here, c, y, on)
      ]) refl here

module _ (c : Cache) (shape : ShapeView) (place : Place) (f : ℕ) (legs : List LegView) (l : 0 < shape.leaf) (h : HasFeature (pages_of_cache c) shape place f legs) where
  -- the feature's legs do not end before they start
  track_rises : All Rises (legs_of f legs)
  track_rises =
      let gs = groups shape.leaf (legs_of f legs) in
      let back = place_back (pages_of_cache c) shape place f legs l h in
      All-same Rises (legs_of f legs) (unwound (onto gs [])) (sym (unwound_onto gs [] ∙ joined_groups shape.leaf (legs_of f legs) l)) (rising_back c f place.first 0 place.last (onto gs []) back)

  track_in_order : InOrder [] (joined (groups shape.leaf (legs_of f legs)))
  track_in_order = subst (λ xs. InOrder [] xs) (sym (joined_groups shape.leaf (legs_of f legs) l)) (in_order f [] legs h.stands.in_turn refl track_rises)

  -- what is kept are exactly the live legs
  pub live_walk : (period : PeriodView) → walk (pages_of_cache c) (Some period) (div_ceil place.legs shape.leaf) place.last ≡ live_legs_of f period legs
  live_walk period =
      let nodes = pages_of_cache c in
      let gs = groups shape.leaf (legs_of f legs) in
      ap (λ n. walk nodes (Some period) n place.last) (sym (block_count nodes shape place f legs l h))
      ∙ walk_blocks nodes (Some period) f place.first 0 place.last gs (place_back nodes shape place f legs l h) (stops_right nodes period gs [] track_in_order tt)
      ∙ ap (filter (is_live period)) (joined_groups shape.leaf (legs_of f legs) l)

  -- in no more leaves than the bound says
  pub few_walked : (period : PeriodView) → walked (pages_of_cache c) (Some period) (div_ceil place.legs shape.leaf) place.last ≤ track_in_bound f period (Some shape) legs
  unfolding track_in_bound
  few_walked period =
      let nodes = pages_of_cache c in
      let gs = groups shape.leaf (legs_of f legs) in
      let back = place_back nodes shape place f legs l h in
      let most = walked_most nodes (Some period) (div_ceil place.legs shape.leaf) place.last in
      let counted = ap (λ n. div_ceil n shape.leaf) (legs_count nodes shape place f legs l h) in
      let blocks = block_count nodes shape place f legs l h in
      let w = ap (λ n. walked nodes (Some period) n place.last) (sym blocks) in
      let n = ap (λ n. walked nodes (Some period) n place.last) (let k = length_onto gs [] in let z : length gs ≡ length (onto gs []) = omega (arith, k) in z) in
      let rising = All-same Rises (joined gs) (legs_of f legs) (joined_groups shape.leaf (legs_of f legs) l) track_rises in
      let few = walked_few nodes period f place.first 0 place.last (onto gs []) back (each_reaches period gs [] rising (filled_groups shape.leaf (legs_of f legs) l) tt) in
      let same = count_onto (reaches period) gs [] in
      omega (arith, most, counted, w, n, few, same)

  -- without a period or with one
  pub kept_walk : (period : Option PeriodView) → walk (pages_of_cache c) period (div_ceil place.legs shape.leaf) place.last ≡ kept_of f period legs
  kept_walk None = whole_walk (pages_of_cache c) shape place f legs l h
  kept_walk (Some period) = live_walk period

  pub asks_for : (period : Option PeriodView) (old new : ℕ) → (period ≡ None → RisesBy old new (chain_cost (pages_of_cache c) period shape place)) → RisesAtMost old new (chain_cost (pages_of_cache c) period shape place)
      → AsksFor f period shape legs old new
  asks_for None old new asked within = λ below.
      let by = asked refl below in
      let all = walked_all (pages_of_cache c) (div_ceil place.legs shape.leaf) place.last in
      let cost = whole_cost (pages_of_cache c) shape place f legs l h in
      omega (arith, by, all, cost)
  asks_for (Some period) old new asked within = let few = few_walked period in omega (arith, within, few)

-- the same lists by other names
pub kept_by : (period : Option PeriodView) (s : Sieve) (all all' some some' : List LegView) → all ≡ all' → some' ≡ some → IsTaken period s all some → IsTaken period s all' some'
kept_by None s all all' some some' e f h = f ∙ h ∙ e
kept_by (Some period) s all all' some some' e f h = subst (λ a. IsSieved s period a some') e (subst (λ x. IsSieved s period all x) (sym f) h)
