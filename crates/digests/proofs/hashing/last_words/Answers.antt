use Rattle.digests.proofs.PageLemmas.{last_block_words}
use Rattle.digests.specs.Pages.{page}
use Rattle.digests.proofs.hashing.last_words.Goals as goal

pub returns : goal.returns
returns c = record {
  long = c.words_at.ensures.long;
  word = λ j k lt below.
      let p = page j c.args.pages.now in
      last_block_words p (c.words_at.ensures.long j lt) _ _ _ _ _ _ _ _ _ _ _ _ _ _ _ _
      (c.words_at.ensures.word j lt)
      (c.words_at-2.ensures.word j lt)
      (c.words_at-3.ensures.word j lt)
      (c.words_at-4.ensures.word j lt)
      (c.words_at-5.ensures.word j lt)
      (c.words_at-6.ensures.word j lt)
      (c.words_at-7.ensures.word j lt)
      (c.words_at-8.ensures.word j lt)
      (c.splat.ensures j lt)
      (c.splat-2.ensures j lt)
      (c.splat-3.ensures j lt)
      (c.splat-4.ensures j lt)
      (c.splat-5.ensures j lt)
      (c.splat-6.ensures j lt)
      (c.splat-7.ensures j lt)
      (c.splat-8.ensures j lt)
      k below;
}
