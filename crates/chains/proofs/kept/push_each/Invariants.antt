use Rattle.std.proofs.Common.{◌≡◌, ◌≤◌, ◌++◌, drop, length}
use Rattle.std.specs.Prelude.{reverse}
use Rattle.tbnode.specs.Form.{OfLeaf}
use Rattle.chains.proofs.kept.push_each.Given as goal

abbrev pub decreases-legs : goal.decreases-legs
decreases-legs l = l.i

-- the legs from i on
abbrev pub invariant-legs : goal.invariant-legs
invariant-legs l = OfLeaf l.leaf (λ view. (l.i ≤ length view.legs) × (l.found.items ≡ l.initial.found.items ++ reverse (drop l.i view.legs)))
