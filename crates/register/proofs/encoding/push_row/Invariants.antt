use Rattle.std.proofs.Common.{◌≡◌, ◌++◌, take, All}
use Rattle.register.specs.Text.{row_text, IsShortText}
use Rattle.register.proofs.encoding.push_row.Given as goal

-- the values so far
abbrev pub invariant-values : goal.invariant-values
invariant-values l = record {
  pushed : l.writer ≡ record l.initial.writer { text = l.initial.writer.text ++ row_text (take l.i l.row) };
  whole : All IsShortText (take l.i l.row);
}
