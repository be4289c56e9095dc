use Rattle.std.proofs.Common.{rules, ℕ, List, [], Bor, Err, refl}
use Rattle.std.specs.Option.{ok_or}
use Rattle.digests.proofs.PageLemmas.{below_eight}
use Rattle.pages.specs.Unsealed.{unsealed}
use Rattle.pages.specs.declared.payload.PageFault.TheVariants.{Damaged}
use Rattle.pages.proofs.EightLemmas.{all_eight}
use Rattle.pages.proofs.eights.unseal_eight.Goals as goal

pub returns : goal.returns
returns c =
    let none : ℕ × Bor (List ℕ) = (0, record { ref_ptr = (0, 0); now = [] }) in
    all_eight (λ (one : ℕ × Bor (List ℕ)). ok_or (unsealed one.0 one.1.now) (Damaged one.0)) c.args.pages.now none (Err (Damaged 0)) _ (search rules) refl
    (below_eight _ c.unseal_with.ensures.value c.unseal_with-2.ensures.value c.unseal_with-3.ensures.value c.unseal_with-4.ensures.value
    c.unseal_with-5.ensures.value c.unseal_with-6.ensures.value c.unseal_with-7.ensures.value c.unseal_with-8.ensures.value)
