use Rattle.std.proofs.Common.{◌≤◌, ◌∙◌, [], ap, arith, length}
use Rattle.std.specs.List.{flat_map}
use Rattle.std.proofs.lemmas.List.{take_all}
use Rattle.register.specs.Text.{short_text, IsShortText}
use Rattle.register.proofs.EncodingLemmas.{all_more, all_taken, extended, pushed_more}
use Rattle.register.proofs.encoding.push_row.Goals as goal

pub values-preserved : goal.values-preserved
values-preserved c =
    let i = c.values.i in
    record {
      pushed = pushed_more short_text c.args.writer.now c.values.writer c.push_text.new.writer c.args.row.now c.value.result.now [] i (omega (arith, c.values-test.true, c.len-i-end.ensures)) c.value.ensures c.values.invariant.pushed c.in_ok-push_text.ensures.pushed;
      whole = all_more IsShortText c.args.row.now c.value.result.now [] i (omega (arith, c.values-test.true, c.len-i-end.ensures)) c.value.ensures c.values.invariant.whole c.in_ok-push_text.ensures.whole;
    }

pub returns : goal.returns
returns c =
    let row = c.args.row.now in
    let all : length row ≤ c.values.i = omega (arith, c.values-test.false, c.len-i-end.ensures) in
    record {
      pushed = c.values.invariant.pushed ∙ ap (λ l. extended c.args.writer.now (flat_map short_text l)) (take_all c.values.i row all);
      whole = all_taken IsShortText row c.values.i all c.values.invariant.whole;
    }
