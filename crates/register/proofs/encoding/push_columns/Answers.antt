use Rattle.std.proofs.Common.{◌<◌, ◌≤◌, ◌^◌, All, List, length, arith, rules, subst}
use Rattle.mfcsv.specs.declared.Column.{Column}
use Rattle.register.specs.Text.{column_text, AreCounted, IsColumn}
use Rattle.register.proofs.EncodingLemmas.{all_more, all_taken, pushed_counted, pushed_more}
use Rattle.register.proofs.encoding.push_columns.Goals as goal

pub loop-column-preserved : goal.loop-column-preserved
loop-column-preserved c =
    record {
      pushed = pushed_more column_text c.push_u64.new.writer c.loop-column.writer c.push_column.new.writer c.as_slice-columns.result.now c.column-item.result _ c.loop-column.column-index c.loop-column-test.true c.column-item.is c.loop-column.invariant.pushed c.in_ok-push_column.ensures.pushed;
      whole = all_more IsColumn c.as_slice-columns.result.now c.column-item.result _ c.loop-column.column-index c.loop-column-test.true c.column-item.is c.loop-column.invariant.whole c.in_ok-push_column.ensures.whole;
    }

pub returns : goal.returns
returns c =
    let columns : List Column = c.as_slice-columns.result.now in
    let all : length columns ≤ c.loop-column.column-index = omega (arith, c.loop-column.auto.column-index-end, c.loop-column-test.false) in
    let each : All IsColumn columns = all_taken IsColumn columns c.loop-column.column-index all c.loop-column.invariant.whole in
    let few : length columns < 2 ^ 64 = search rules in
    record { pushed = pushed_counted column_text c.args.writer.now c.push_u64.new.writer _ columns _ _ c.loop-column.column-index c.in_ok-push_u64.ensures (search rules) c.loop-column.invariant.pushed all c.as_slice-columns.ensures; whole = subst (AreCounted IsColumn 64) c.as_slice-columns.ensures (record { each = each; few = few }) }
