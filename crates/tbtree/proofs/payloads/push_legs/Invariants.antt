use Rattle.std.proofs.Common.{◌≡◌, drop, option_map}
use Rattle.tbnode.specs.Form.{node_of}
use Rattle.tbnode.specs.Nodes.{as_leaf}
use Rattle.tbtree.specs.Payloads.{Takes, leaf_with_legs}
use Rattle.tbtree.proofs.payloads.push_legs.Given as goal

-- what is left is to be taken, and makes of the leaf what all make of it
abbrev pub invariant-loop-leg : goal.invariant-loop-leg
invariant-loop-leg l = record {
  takes : Takes (node_of l.payload) 50 (drop l.leg-index l.legs);
  makes : option_map (leaf_with_legs (drop l.leg-index l.legs)) (as_leaf (node_of l.payload)) ≡ option_map (leaf_with_legs l.legs) (as_leaf (node_of l.fn.payload));
}
