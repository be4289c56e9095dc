use Rattle.std.proofs.Common.{sym}
use Rattle.pagecache.proofs.CacheLemmas.{is_changed-none, is_changed-some}
use Rattle.pagecache.proofs.slots.Slots.is_changed.Goals as goal

pub returns-in-Some : goal.returns-in-Some
returns-in-Some g c = sym (is_changed-some _ c.args.number c.in-Some.held.now (sym c.in-Some.ensures))

pub returns-in-None : goal.returns-in-None
returns-in-None g c = sym (is_changed-none _ c.args.number (sym c.in-None.ensures))
