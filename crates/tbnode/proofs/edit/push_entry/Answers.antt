use Rattle.std.proofs.Common.{arith}
use Rattle.tbnode.proofs.InnerLemmas.{has_room}
use Rattle.tbnode.proofs.RestLemmas.{entry_edited}
use Rattle.tbnode.proofs.edit.push_entry.Goals as goal

pub append_entry-requires-clause-room : goal.append_entry-requires-clause-room
append_entry-requires-clause-room c = (has_room c.args.payload.now c.requires.inner c.requires.room).small

pub returns : goal.returns
returns c =
    let p = c.args.payload.now in
    entry_edited p c.args.entry.now _ (has_room p c.requires.inner c.requires.room) c.append_entry.ensures.pushed (omega arith) c.append_entry.ensures.reads_back
