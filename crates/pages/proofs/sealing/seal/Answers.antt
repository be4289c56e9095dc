use Rattle.std.proofs.Common.{◌≡◌, ap, ◌∙◌}
use Rattle.pages.specs.Sealed.{sealed}
use Rattle.pages.specs.Unsealed.{unsealed}
use Rattle.pages.proofs.UnsealedLemmas.{unsealed-sealed}
use Rattle.pages.proofs.sealing.seal.Goals as goal

pub returns : goal.returns
unfolding sealed
returns c =
    let front = c.put_front.ensures in
    let digest = c.copy_from_slice.ensures in
    let of_start = c.digest-of_start.ensures in
    let value : _ ≡ sealed c.args.number c.args.payload.now = cc in
    record { value = value; reads_back = ap (unsealed c.args.number) value ∙ unsealed-sealed c.args.number c.args.payload.now }
