use Rattle.std.proofs.Common.{◌≡◌, length, sym, ◌∙◌, arith, subst}
use Rattle.std.specs.List.{range_with_len}
use Rattle.std.specs.List.Sorted.{IsPermutation}
use Rattle.std.proofs.lemmas.Bool.{true≢false}
use Rattle.std.proofs.lemmas.List.Sorted.{length_permutation}
use Rattle.tbtree.specs.Turn.{IsRising}
use Rattle.treecheck.proofs.OrderLemmas.{length_range}
use Rattle.treecheck.proofs.checking.is_whole.Goals.{After-are_once}
use Rattle.treecheck.proofs.checking.is_whole.Goals as goal

-- there are as many ordinals as there are to be
total_is : (c : After-are_once) → c.args.total ≡ length c.args.survey.now.ordinals.items
total_is c = let n = c.args.survey.now.ordinals.ok.0 in let e = c.len.ensures in omega (arith, n, e, c.if-len-total.false)

pub returns-then-len-total-clause-whole : goal.returns-then-len-total-clause-whole
returns-then-len-total-clause-whole c = (
  λ t. absurd (true≢false (sym t)),
  λ whole. let items = c.args.survey.now.ordinals.items in
      let l = length_permutation items (range_with_len 0 c.args.total) whole.once in
      let r = length_range 0 c.args.total in
      let n = c.args.survey.now.ordinals.ok.0 in
      let e = c.len.ensures in
      absurd (c.if-len-total.true (omega (arith, l, r, n, e))),
)

pub returns-then-not-are_once-clause-whole : goal.returns-then-not-are_once-clause-whole
returns-then-not-are_once-clause-whole c =
    let items = c.args.survey.now.ordinals.items in
    let total = total_is (goal.at.returns-then-not-are_once-clause-whole c).After-are_once in (
      λ t. absurd (true≢false (sym t)),
      λ whole. absurd (true≢false (sym (c.are_once.ensures.1 (subst (λ n. IsPermutation items (range_with_len 0 n)) total whole.once)) ∙ c.if-not-are_once.true)),
    )

pub returns-clause-whole : goal.returns-clause-whole
returns-clause-whole c =
    let items = c.args.survey.now.ordinals.items in
    let total = total_is (goal.at.returns-clause-whole c).After-are_once in
    let value = c.as_slice.ensures.value in (
      λ t. record {
        some = c.have_legs.ensures.0 c.if-not-have_legs.false;
        once = subst (λ n. IsPermutation items (range_with_len 0 n)) (sym total) (c.are_once.ensures.0 c.if-not-are_once.false);
        firsts = subst (IsRising (λ n. n)) value (c.rise.ensures.0 t);
      },
      λ whole. c.rise.ensures.1 (subst (IsRising (λ n. n)) (sym value) whole.firsts),
    )
