use Rattle.trajdb.proofs.LineLemmas.{lines_cut}
use Rattle.trajdb.proofs.script.first_piece.Goals as goal

pub returns-clause-pieces : goal.returns-clause-pieces
returns-clause-pieces c = lines_cut c.args.text.now _ _ c.requires c.cut_piece.ensures.piece c.cut_piece.ensures.rest
