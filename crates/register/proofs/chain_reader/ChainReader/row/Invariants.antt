use Rattle.std.proofs.Common.{◌≡◌}
use Rattle.register.specs.Text.{short_text, IsShortText}
use Rattle.register.proofs.SequenceLemmas.{HasRead}
use Rattle.register.proofs.chain_reader.ChainReader.row.Given as goal

-- those that were read are the row that is begun
abbrev pub invariant-loop : goal.invariant-loop
invariant-loop g l = record {
  read : HasRead l.initial.cache l.cache l.initial.self l.self short_text IsShortText l.rows.row l.counter;
  others : l.rows.rows ≡ l.initial.rows.rows;
}
