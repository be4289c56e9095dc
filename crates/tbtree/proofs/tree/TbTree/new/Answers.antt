use Rattle.std.proofs.Common.{refl}
use Rattle.tbtree.specs.Stands.{empty_tree}
use Rattle.tbtree.proofs.EmptyLemmas.{empty_stands, empty_place}
use Rattle.tbtree.proofs.tree.TbTree.new.Goals as goal

pub returns-clause-stands : goal.returns-clause-stands
returns-clause-stands c = λ pages some sealed. empty_stands pages (empty_tree c.args.shape) refl refl refl some sealed

pub returns-clause-places : goal.returns-clause-places
returns-clause-places c = λ feature. empty_place (empty_tree c.args.shape) feature
