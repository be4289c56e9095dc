use Rattle.std.proofs.Common.{sym, ◌∙◌}
use Rattle.treecheck.proofs.WalkLemmas.{takes_leaf, takes_none}
use Rattle.version1.specs.OldForm.{old_node_of}
use Rattle.version1.proofs.old_legs.take_old_payload.Goals as goal

pub returns-in-Some : goal.returns-in-Some
returns-in-Some c =
    takes_leaf c.args.most c.args.rows (old_node_of c.args.payload.now) c.args.walk.now c.take_next.new.walk c.args.survey.now c.take_next.new.survey c.in-Some.leaf c.take_next.result (sym c.old_leaf.ensures ∙ c.in-Some.is) c.take_next.ensures

pub returns-in-None : goal.returns-in-None
returns-in-None c = takes_none c.args.most c.args.rows (old_node_of c.args.payload.now) c.args.walk.now c.args.walk.now c.args.survey.now c.args.survey.now (sym c.in-None.is ∙ c.old_leaf.ensures)
