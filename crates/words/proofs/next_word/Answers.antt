use Rattle.std.proofs.Common.{◌∙◌, ◌<◌, ap, length, drop, arith, refl}
use Rattle.std.proofs.lemmas.Bool.Decides.{nat_tests}
use Rattle.std.specs.List.{prefix_len}
use Rattle.words.specs.Words.{behind_word, separates, word_len}
use Rattle.words.proofs.CutLemmas.{boundary_after, separates_ascii}
use Rattle.words.proofs.WordLemmas.{words-next, words-none}
use Rattle.words.proofs.next_word.Goals as goal

pub range_from-rest-requires : goal.range_from-rest-requires
range_from-rest-requires c =
    let p = separates c.args.between in
    let start = c.separators_in_front-start.ensures.value ∙ ap (prefix_len p) c.as_bytes.ensures.value in
    λ _. boundary_after p (separates_ascii c.args.between) c.args.text.now c.separators_in_front-start.result c.utf8.text (omega arith)

pub returns-then-is_empty-clause-found : goal.returns-then-is_empty-clause-found
returns-then-is_empty-clause-found c =
    let p = separates c.args.between in
    words-none p c.args.text.now c.range_from-rest.result.now c.separators_in_front-start.result (c.separators_in_front-start.ensures.value ∙ ap (prefix_len p) c.as_bytes.ensures.value) c.range_from-rest.ensures.value (grind (arith, nat_tests))

pub returns-clause-found : goal.returns-clause-found
returns-clause-found c =
    let p = separates c.args.between in
    let some : 0 < length c.range_from-rest.result.now = grind (arith, nat_tests) in
    let start = c.separators_in_front-start.ensures.value ∙ ap (prefix_len p) c.as_bytes.ensures.value in
    let next = words-next p c.args.text.now c.range_from-rest.result.now c.separators_in_front-start.result (word_len p c.range_from-rest.result.now) start c.range_from-rest.ensures.value refl some in
    rw (c.split_word.ensures.word, c.split_word.ensures.rest) next

pub returns-clause-behind : goal.returns-clause-behind
returns-clause-behind c =
    let p = separates c.args.between in
    let start = c.separators_in_front-start.ensures.value ∙ ap (prefix_len p) c.as_bytes.ensures.value in
    let rest = c.range_from-rest.ensures.value ∙ ap (λ n. drop n c.args.text.now) start in
    c.split_word.ensures.rest ∙ ap (behind_word p) rest
