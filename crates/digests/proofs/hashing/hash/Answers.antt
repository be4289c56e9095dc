use Rattle.std.proofs.Common.{◌≡◌, ◌+◌, ◌*◌, ◌∙◌, take, drop, arith, ap, sym, refl}
use Rattle.sha2.specs.Sha256.{compress, hash_after, initial_hash_256, padded_message}
use Rattle.sha2.proofs.Absorbing256.{hash_after_next}
use Rattle.digests.proofs.PageLemmas.{padded_blocks, page_word, word_block}
use Rattle.digests.specs.Pages.{page}
use Rattle.digests.proofs.hashing.hash.Goals as goal

pub blocks-2-init : goal.blocks-2-init
unfolding hash_after
blocks-2-init c j lt len =
    rw (
      c.splat.ensures j lt,
      c.splat-2.ensures j lt,
      c.splat-3.ensures j lt,
      c.splat-4.ensures j lt,
      c.splat-5.ensures j lt,
      c.splat-6.ensures j lt,
      c.splat-7.ensures j lt,
      c.splat-8.ensures j lt,
    ) refl

pub blocks-2-preserved : goal.blocks-2-preserved
blocks-2-preserved c j lt len =
    let n = c.blocks-2.number in
    let p = page j c.args.pages.now in
    let whole = padded_message (take 4064 p) in
    let block = take 64 (drop (n * 64) whole) in
    c.compress.ensures block j lt (λ k below.
    c.block_words.ensures j k lt below ∙ page_word p (64 * n + 4 * k) (omega arith) len
    ∙ sym (word_block (n * 64) (4 * k) (64 * n + 4 * k) whole (omega arith) (omega arith)))
    ∙ ap (λ h. compress h block) (c.blocks-2.invariant j lt len)
    ∙ sym (hash_after_next initial_hash_256 whole n)

pub returns : goal.returns
returns c j lt =
    let p = page j c.args.pages.now in
    let len = c.last_words.ensures.long j lt in
    let whole = padded_message (take 4064 p) in
    let block = take 64 (drop (63 * 64) whole) in
    let done : c.blocks-2.number ≡ 63 = omega arith in
    c.compress-2.ensures block j lt (λ k below.
    c.last_words.ensures.word j k lt below
    ∙ sym (word_block (63 * 64) (4 * k) (4032 + 4 * k) whole (omega arith) (omega arith)))
    ∙ ap (λ h. compress h block) (c.blocks-2.invariant j lt len ∙ ap (hash_after initial_hash_256 whole) done)
    ∙ sym (hash_after_next initial_hash_256 whole 63)
    ∙ ap (hash_after initial_hash_256 whole) (sym (padded_blocks p len))
