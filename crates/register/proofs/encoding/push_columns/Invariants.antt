use Rattle.std.proofs.Common.{◌≡◌, ◌++◌, take, All}
use Rattle.std.specs.List.{flat_map}
use Rattle.register.specs.Text.{column_text, IsColumn}
use Rattle.register.proofs.encoding.push_columns.Given as goal

-- the columns so far
abbrev pub invariant-loop-column : goal.invariant-loop-column
invariant-loop-column l = record {
  pushed : l.writer ≡ record l.initial.writer { text = l.initial.writer.text ++ flat_map column_text (take l.column-index l.columns) };
  whole : All IsColumn (take l.column-index l.columns);
}
