use Rattle.std.proofs.Common.{rules}
use Rattle.register.proofs.SpareLemmas.{stays_spares}
use Rattle.register.proofs.chain_writer.reused.Goals as goal

pub returns-clause-takes : goal.returns-clause-takes
returns-clause-takes g c = record { passes = search rules; length = search rules; tree = stays_spares _ _ c.following.ensures.rests.stays; only = search rules; caused = search rules }
