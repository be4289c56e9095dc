use Rattle.pagecache.proofs.CacheLemmas.{writes-trans}
use Rattle.pagecache.proofs.slots.Slots.write_leaving.Goals as goal

pub returns-in-Ok-write_back-clause-writes : goal.returns-in-Ok-write_back-clause-writes
returns-in-Ok-write_back-clause-writes g c = writes-trans _ _ _ _ c.write_cold.ensures.steps c.write_cold.ensures.keys c.in-Ok-write_back.ensures.writes

pub returns-in-Err-write_back-clause-writes : goal.returns-in-Err-write_back-clause-writes
returns-in-Err-write_back-clause-writes g c = writes-trans _ _ _ _ c.write_cold.ensures.steps c.write_cold.ensures.keys c.in-Err-write_back.ensures.writes
