use Rattle.std.proofs.Common.{List, ℕ, ◌≡◌, All, length, Some, refl, subst, sym, ap, ◌∙◌, arith}
use Rattle.std.specs.Prelude.{slice_get}
use Rattle.std.proofs.lemmas.List.{take_all}
use Rattle.std.proofs.lemmas.List.Elements.{All-more}
use Rattle.std.proofs.lemmas.Option.{get_or_from_slice_get, slice_get_within}
use Rattle.rows.proofs.rows.Rows.have.Goals as goal

pub loop-i-preserved : goal.loop-i-preserved
loop-i-preserved c =
    let rows : List (List (List ℕ)) = c.args.self.now in
    let row : List (List ℕ) = c.in-Some.row in
    let i = c.loop-i.i in
    let found : slice_get rows i ≡ Some row = sym c.in-Some.ensures in
    All-more (λ (r : List (List ℕ)). length r ≡ c.args.count) rows i row (slice_get_within rows i row found) c.loop-i.invariant
    (ap length (get_or_from_slice_get rows i row row found) ∙ sym c.len.ensures ∙ c.if-len-count.false)

pub returns-then-len-count : goal.returns-then-len-count
returns-then-len-count c =
    let rows : List (List (List ℕ)) = c.args.self.now in
    let row : List (List ℕ) = c.in-Some.row in
    let i = c.loop-i.i in
    let found : slice_get rows i ≡ Some row = sym c.in-Some.ensures in (
      λ t. cc t,
      λ all. absurd (c.if-len-count.true
          (c.len.ensures ∙ sym (ap length (get_or_from_slice_get rows i row row found)) ∙ all i row (slice_get_within rows i row found))),
    )

pub returns : goal.returns
returns c =
    let rows : List (List (List ℕ)) = c.args.self.now in (
      λ t. subst (λ rs. All (λ (r : List (List ℕ)). length r ≡ c.args.count) rs) (take_all c.loop-i.i rows (omega (arith, c.loop-i-test.false, c.len-i-end.ensures))) c.loop-i.invariant,
      λ h. refl,
    )
