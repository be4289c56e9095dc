use Rattle.pagecache.proofs.CacheLemmas.{writes_none}
use Rattle.pagecache.proofs.slots.Slots.write_back.Goals as goal

pub returns-else-is_changed-clause-writes : goal.returns-else-is_changed-clause-writes
returns-else-is_changed-clause-writes g c = writes_none _ c.requires
