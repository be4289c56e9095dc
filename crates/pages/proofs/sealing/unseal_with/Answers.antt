use Rattle.std.proofs.Common.{arith, ◌∙◌, sym, ◌≡◌, true, ◌+◌, length}
use Rattle.std.proofs.lemmas.Bool.{false≢true}
use Rattle.std.proofs.lemmas.Slice.Eq.{slice_eq-Decides}
use Rattle.std.proofs.lemmas.Bool.Decides.{Decides-eqb}
use Rattle.pages.proofs.SealedLemmas.{code_at, body_at, sealed_same, resealed, signed_same}
use Rattle.pages.proofs.UnsealedLemmas.{answer-none, answer-some}
use Rattle.pages.proofs.sealing.unseal_with.Goals as goal

pub returns-in_default-clause-damaged : goal.returns-in_default-clause-damaged
returns-in_default-clause-damaged c = λ payload e.
    let size : 4064 + 32 ≡ length c.args.page.now = omega (arith, c.split_at.ensures.front_len, c.split_at.ensures.back_len) in
    let code = code_at c.args.page.now _ _ c.args.number 4064 payload size c.split_at.ensures.front c.split_at-2.ensures.front e in
    c.in_default.not-Some payload.kind ((c.of.ensures payload.kind).1 (sym code))

pub returns-in_default-clause-value : goal.returns-in_default-clause-value
returns-in_default-clause-value c = answer-none c.args.number c.args.page.now _ (returns-in_default-clause-damaged c)

pub returns-else-eq-clause-damaged : goal.returns-else-eq-clause-damaged
returns-else-eq-clause-damaged c = λ payload e.
    let size : 4064 + 32 ≡ length c.args.page.now = omega (arith, c.split_at.ensures.front_len, c.split_at.ensures.back_len) in
    let code = code_at c.args.page.now _ _ c.args.number 4064 payload size c.split_at.ensures.front c.split_at-2.ensures.front e in
    let body = body_at c.args.page.now _ _ c.args.number 4064 payload size c.split_at.ensures.front (c.copy_from_slice.ensures.after ∙ c.split_at-2.ensures.back) e in
    let alike = sealed_same c.args.number _ payload ((c.in-Some.ensures payload.kind).1 (sym code)) body in
    let same = c.page_with.ensures.whole ∙ signed_same c.args.page.now c.args.number 4064 _ c.args.digest.now size c.requires (e ∙ sym alike) in
    let equal : c.eq.result ≡ true = (slice_eq-Decides Decides-eqb _ _ _ c.eq.ensures).1 same in
    false≢true (sym c.if-eq.false ∙ equal)

pub returns-else-eq-clause-value : goal.returns-else-eq-clause-value
returns-else-eq-clause-value c = answer-none c.args.number c.args.page.now _ (returns-else-eq-clause-damaged c)

pub returns-then-eq-clause-sealed : goal.returns-then-eq-clause-sealed
returns-then-eq-clause-sealed c =
    let size : 4064 + 32 ≡ length c.args.page.now = omega (arith, c.split_at.ensures.front_len, c.split_at.ensures.back_len) in
    resealed c.args.page.now c.args.number 4064 _ c.args.digest.now size c.requires (sym c.page_with.ensures.whole ∙ (slice_eq-Decides Decides-eqb _ _ _ c.eq.ensures).0 c.if-eq.true)

pub returns-then-eq-clause-value : goal.returns-then-eq-clause-value
returns-then-eq-clause-value c = answer-some c.args.number c.args.page.now _ _ (returns-then-eq-clause-sealed c)
