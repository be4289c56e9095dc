use Rattle.std.proofs.Common.{rules, arith, ◌∙◌, ℕ, [], Bor, refl}
use Rattle.digests.proofs.PageLemmas.{below_eight}
use Rattle.pages.specs.Sealed.{sealed}
use Rattle.pages.specs.declared.payload.Kind.TheVariants.{Header}
use Rattle.pages.specs.declared.payload.Payload.{Payload}
use Rattle.pages.proofs.EightLemmas.{all_eight}
use Rattle.pages.proofs.SealedLemmas.{sealed_front}
use Rattle.pages.proofs.eights.seal_eight.Goals as goal

pub returns : goal.returns
returns c =
    let none : ℕ × Bor Payload = (0, record { ref_ptr = (0, 0); now = record { kind = Header; bytes = [] } }) in
    let e = c.digests.ensures in
    all_eight (λ (one : ℕ × Bor Payload). sealed one.0 one.1.now) c.args.payloads.now none [] _ (search rules) refl
    (below_eight _ (c.put_digest.ensures ∙ sealed_front _ _ 4064 _ _ c.unsigned.ensures (e 0 (omega arith)))
    (c.put_digest-2.ensures ∙ sealed_front _ _ 4064 _ _ c.unsigned-2.ensures (e 1 (omega arith)))
    (c.put_digest-3.ensures ∙ sealed_front _ _ 4064 _ _ c.unsigned-3.ensures (e 2 (omega arith)))
    (c.put_digest-4.ensures ∙ sealed_front _ _ 4064 _ _ c.unsigned-4.ensures (e 3 (omega arith)))
    (c.put_digest-5.ensures ∙ sealed_front _ _ 4064 _ _ c.unsigned-5.ensures (e 4 (omega arith)))
    (c.put_digest-6.ensures ∙ sealed_front _ _ 4064 _ _ c.unsigned-6.ensures (e 5 (omega arith)))
    (c.put_digest-7.ensures ∙ sealed_front _ _ 4064 _ _ c.unsigned-7.ensures (e 6 (omega arith)))
    (c.put_digest-8.ensures ∙ sealed_front _ _ 4064 _ _ c.unsigned-8.ensures (e 7 (omega arith))))
