use Rattle.std.proofs.Common.{arith, sym, ◌∙◌}
use Rattle.tbnode.proofs.KindLemmas.{a_leaf, held}
use Rattle.tbnode.proofs.LeafLemmas.{next_set}
use Rattle.tbnode.proofs.RestLemmas.{leaf_rest, next_rest}
use Rattle.tbnode.proofs.edit.set_next.Goals as goal

pub returns-clause-node : goal.returns-clause-node
returns-clause-node c =
    let p = c.args.payload.now in
    next_set p c.args.next _ c.put_u32.ensures (omega arith) (omega arith) (held a_leaf p c.requires)

pub returns-clause-rest : goal.returns-clause-rest
returns-clause-rest c =
    let p = c.args.payload.now in
    let h = held a_leaf p c.requires in
    next_rest _ p.bytes c.args.next h.kind c.put_u32.ensures (omega arith) ∙ sym (leaf_rest p h.kind)
