use Rattle.words.proofs.CutLemmas.{cut_line_is}
use Rattle.words.proofs.cut.Goals as goal

pub returns : goal.returns
returns c = cut_line_is c.args.bytes.now c.blanks_in_front.result c.blanks_at_end.result c.blanks_in_front.ensures.value c.blanks_at_end.ensures.value
