use Rattle.std.proofs.Common.{◌≡◌, ◌*◌, length, map, take}
use Rattle.digests.specs.Pages.{digest_of}
use Rattle.digests.proofs.batches.digest_all.Given as goal

abbrev pub invariant-eights : goal.invariant-eights
invariant-eights l = (length l.out ≡ length l.pages) × (take (8 * l.group) l.out ≡ map (λ p. digest_of p.now) (take (8 * l.group) l.pages))

abbrev pub invariant-rest : goal.invariant-rest
invariant-rest l = (length l.out ≡ length l.pages) × (take l.index l.out ≡ map (λ p. digest_of p.now) (take l.index l.pages))
