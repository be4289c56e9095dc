use Rattle.std.proofs.Common.{arith}
use Rattle.tbnode.proofs.LeafLemmas.{is_taken}
use Rattle.tbnode.proofs.RestLemmas.{leg_edited}
use Rattle.tbnode.proofs.edit.push_leg.Goals as goal

pub append_leg-requires-clause-room : goal.append_leg-requires-clause-room
append_leg-requires-clause-room c = (is_taken c.args.payload.now c.args.leg.now c.requires.leaf c.requires.takes).small

pub returns : goal.returns
returns c =
    let p = c.args.payload.now in
    let l = c.args.leg.now in
    leg_edited p l _ (is_taken p l c.requires.leaf c.requires.takes) c.append_leg.ensures.pushed (omega arith) c.append_leg.ensures.reads_back
