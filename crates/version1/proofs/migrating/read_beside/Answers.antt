use Rattle.std.proofs.Common.{subst}
use Rattle.pagecache.specs.Cache.{Cache}
use Rattle.version1.specs.Migrating.{IsReadOld}
use Rattle.version1.proofs.migrating.read_beside.Goals as goal

pub returns-in-Ok-read-clause-read : goal.returns-in-Ok-read-clause-read
returns-in-Ok-read-clause-read g c =
    subst (λ (k : Cache). IsReadOld (g.S.PageStore.seen c.args.old.now) k.store c.in-Ok-read.restored.catalogue c.in-Ok-read.restored.leaf c.in-Ok-read.restored.shape c.in-Ok-read.restored.places.items) c.in-Ok.ensures.fresh c.in-Ok-read.ensures.read
