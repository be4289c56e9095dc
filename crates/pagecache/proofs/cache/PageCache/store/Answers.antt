use Rattle.std.proofs.Common.{subst}
use Rattle.pagecache.specs.Cache.{IsSettled}
use Rattle.pagecache.specs.Slots.{seen_of}
use Rattle.pagecache.proofs.CacheLemmas.{settled}
use Rattle.pagecache.proofs.cache.PageCache.store.Goals as goal

pub returns-clause-settled : goal.returns-clause-settled
returns-clause-settled g c = subst (λ v. IsSettled v) c.self.view_is (settled (seen_of g.S.PageStore.seen c.self.inside.slots) c.self.invariant)
