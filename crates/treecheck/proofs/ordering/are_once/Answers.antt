use Rattle.std.proofs.Common.{ℕ, ◌≡◌, List, length, sym, ap, ◌∙◌, subst, arith}
use Rattle.std.specs.List.{range_with_len}
use Rattle.std.specs.List.Sorted.{IsPermutation}
use Rattle.std.proofs.lemmas.List.Sorted.{IsPermutation-trans, IsPermutation-sym, IsNonDecreasingBy-from_sort, length_permutation}
use Rattle.tbtree.proofs.RisingLists.{in_order_once}
use Rattle.treecheck.proofs.OrderLemmas.{rising_range}
use Rattle.treecheck.proofs.ordering.are_once.Goals as goal

pub returns : goal.returns
returns c =
    let old = c.args.ordinals.now.items in
    let new = c.sort_unstable.new.self.items in
    let value = c.as_slice.ensures.value in
    let p = c.sort_unstable.ensures.permutation in
    let long : length new ≡ length old = (let l = length_permutation old new p in omega (arith, l)) in
    let all : List ℕ = range_with_len 0 (length old) in
    let range : range_with_len 0 (length c.as_slice.result.now) ≡ all = ap (λ (l : List ℕ). range_with_len 0 (length l)) value ∙ ap (range_with_len 0) long in (
      λ t. subst (IsPermutation old) (sym value ∙ c.is_range.ensures.0 t ∙ range) p,
      λ once.
          let moved = IsPermutation-trans all old new (IsPermutation-sym old all once) p in
          c.is_range.ensures.1 (value ∙ in_order_once (λ n. n) all new (rising_range 0 (length old)) moved (IsNonDecreasingBy-from_sort (λ n. n) new c.sort_unstable.ensures.sorted) ∙ sym range),
    )
