use Rattle.std.proofs.Common.{arith}
use Rattle.digests.proofs.LoadLemmas.{sixteen_words}
use Rattle.digests.specs.Pages.{page}
use Rattle.digests.proofs.load.block_words.Goals as goal

pub returns : goal.returns
returns c = λ j k lt below.
    sixteen_words (page j c.args.pages.now) c.args.at _ _ _ _ _ _ _ _ _ _ _ _ _ _ _ _
    (c.four_words.ensures 0 j (omega arith) lt)
    (c.four_words.ensures 1 j (omega arith) lt)
    (c.four_words.ensures 2 j (omega arith) lt)
    (c.four_words.ensures 3 j (omega arith) lt)
    (c.four_words-2.ensures 0 j (omega arith) lt)
    (c.four_words-2.ensures 1 j (omega arith) lt)
    (c.four_words-2.ensures 2 j (omega arith) lt)
    (c.four_words-2.ensures 3 j (omega arith) lt)
    (c.four_words-3.ensures 0 j (omega arith) lt)
    (c.four_words-3.ensures 1 j (omega arith) lt)
    (c.four_words-3.ensures 2 j (omega arith) lt)
    (c.four_words-3.ensures 3 j (omega arith) lt)
    (c.four_words-4.ensures 0 j (omega arith) lt)
    (c.four_words-4.ensures 1 j (omega arith) lt)
    (c.four_words-4.ensures 2 j (omega arith) lt)
    (c.four_words-4.ensures 3 j (omega arith) lt)
    k below
