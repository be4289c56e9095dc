use Rattle.pagecache.proofs.CacheLemmas.{writes_none}
use Rattle.pagecache.proofs.slots.Slots.write_cold.Goals as goal

pub returns-then-cold-lt-FEW : goal.returns-then-cold-lt-FEW
returns-then-cold-lt-FEW g c = writes_none _ c.requires
