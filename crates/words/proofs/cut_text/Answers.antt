use Rattle.std.proofs.Common.{◌∙◌, arith, ap}
use Rattle.std.specs.List.{prefix_len, suffix_len}
use Rattle.words.proofs.CutLemmas.{boundary_after, boundary_at_end, blank_ascii, cut_is}
use Rattle.words.specs.Words.{is_blank}
use Rattle.words.proofs.cut_text.Goals as goal

pub range_from-rest-requires : goal.range_from-rest-requires
range_from-rest-requires c =
    let start = c.blanks_in_front-start.ensures.value ∙ ap (prefix_len is_blank) c.as_bytes.ensures.value in
    λ _. boundary_after is_blank blank_ascii c.args.text.now c.blanks_in_front-start.result c.utf8.text (omega arith)

pub range-requires-clause-end_boundary : goal.range-requires-clause-end_boundary
range-requires-clause-end_boundary c =
    boundary_at_end is_blank blank_ascii c.range_from-rest.result.now c.blanks_at_end.result (c.blanks_at_end.ensures.value ∙ ap (suffix_len is_blank) c.as_bytes-2.ensures.value)

pub returns : goal.returns
returns c =
    c.range.ensures.value ∙ cut_is c.args.text.now c.range_from-rest.result.now c.blanks_in_front-start.result c.blanks_at_end.result
    (c.blanks_in_front-start.ensures.value ∙ ap (prefix_len is_blank) c.as_bytes.ensures.value) c.range_from-rest.ensures.value (c.blanks_at_end.ensures.value ∙ ap (suffix_len is_blank) c.as_bytes-2.ensures.value)
