use Rattle.std.proofs.Common.{◌∙◌, ◌≡◌, ap}
use Rattle.words.specs.Words.{separates, word_len}
use Rattle.words.proofs.CutLemmas.{boundary_before, separates_ascii}
use Rattle.words.proofs.split_word.Goals as goal

pub range-requires-clause-end_boundary : goal.range-requires-clause-end_boundary
range-requires-clause-end_boundary c =
    let p = separates c.args.between in
    let end : c.word_len-end.result ≡ word_len p c.args.text.now = c.word_len-end.ensures.value ∙ ap (word_len p) c.as_bytes.ensures.value in
    rw end (boundary_before p (separates_ascii c.args.between) c.args.text.now)

pub range_from-requires : goal.range_from-requires
range_from-requires c =
    let p = separates c.args.between in
    let end : c.word_len-end.result ≡ word_len p c.args.text.now = c.word_len-end.ensures.value ∙ ap (word_len p) c.as_bytes.ensures.value in
    λ _. rw end (boundary_before p (separates_ascii c.args.between) c.args.text.now)
