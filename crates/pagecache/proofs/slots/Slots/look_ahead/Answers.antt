use Rattle.pagecache.proofs.CacheLemmas.{rests}
use Rattle.pagecache.proofs.slots.Slots.look_ahead.Goals as goal

pub returns-then-is_empty : goal.returns-then-is_empty
returns-then-is_empty g c = rests _ c.requires
