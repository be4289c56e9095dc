use Rattle.std.proofs.Common.{◌+◌, ◌*◌, ◌-◌, ◌∙◌, arith}
use Rattle.digests.proofs.LoadLemmas.{sliced_word}
use Rattle.digests.proofs.load.four_of.Goals as goal

pub returns : goal.returns
returns c = λ i lt. c.words_of.ensures i lt ∙ sliced_word c.args.bytes.now c.args.at (c.args.at + 16 - c.args.at) (4 * i) (omega arith) (omega arith)
