use Rattle.std.proofs.Common.{◌≡◌, ◌≤◌, [], drop, length}
use Rattle.std.specs.Prelude.{filter}
use Rattle.legs.specs.Legs.{is_live}
use Rattle.tbnode.specs.Form.{OfLeaf}
use Rattle.chains.proofs.kept.last_live.Given as goal

abbrev pub decreases-legs : goal.decreases-legs
decreases-legs l = l.i

-- none of the legs from i on is live
abbrev pub invariant-legs : goal.invariant-legs
invariant-legs l = OfLeaf l.leaf (λ view. (l.i ≤ length view.legs) × (filter (is_live l.period) (drop l.i view.legs) ≡ []))
