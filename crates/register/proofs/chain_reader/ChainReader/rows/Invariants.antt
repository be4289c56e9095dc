use Rattle.std.proofs.Common.{◌≡◌, []}
use Rattle.register.specs.Text.{row_text, IsRow}
use Rattle.register.proofs.SequenceLemmas.{HasRead}
use Rattle.register.proofs.chain_reader.ChainReader.rows.Given as goal

-- those that were read, and no row is begun
abbrev pub invariant-loop : goal.invariant-loop
invariant-loop g l = record {
  read : HasRead l.initial.cache l.cache l.initial.self l.self row_text (IsRow l.fn.columns) l.rows.rows l.counter;
  ended : l.rows.row ≡ [];
}
