use Rattle.register.specs.Text.{column_text, IsColumn}
use Rattle.register.proofs.SequenceLemmas.{HasRead}
use Rattle.register.proofs.chain_reader.ChainReader.columns.Given as goal

-- those that were read
abbrev pub invariant-loop : goal.invariant-loop
invariant-loop g l = HasRead l.initial.cache l.cache l.initial.self l.self column_text IsColumn l.columns.items l.counter
