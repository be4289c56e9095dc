use Rattle.std.proofs.Common.{◌++◌, Ok, All, take}
use Rattle.std.specs.List.{flat_map}
use Rattle.byteorder.specs.Endian.{big_bytes}
use Rattle.register.specs.Saving.{Puts}
use Rattle.register.specs.Text.{row_text, IsShortText}
use Rattle.register.proofs.saving.write_rows.Given as goal

-- the number, and the rows so far
abbrev pub invariant-loop-i : goal.invariant-loop-i
invariant-loop-i g l =
    let rows = take l.i l.fn.rows in
    Puts (big_bytes 4 l.fn.count ++ flat_map row_text rows) (Unit {0}) (All (All IsShortText) rows) l.fn.cache l.cache l.fn.writer l.writer (Ok tt)
