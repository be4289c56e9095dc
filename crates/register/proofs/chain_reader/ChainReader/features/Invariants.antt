use Rattle.register.specs.Text.{feature_text, IsFeature}
use Rattle.register.proofs.SequenceLemmas.{HasRead}
use Rattle.register.proofs.chain_reader.ChainReader.features.Given as goal

-- those that were read
abbrev pub invariant-loop : goal.invariant-loop
invariant-loop g l = HasRead l.initial.cache l.cache l.initial.self l.self feature_text IsFeature l.features.items l.counter
