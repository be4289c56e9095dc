use Rattle.std.proofs.Common.{ap, nat_eq, ℕ}
use Rattle.std.specs.Map.{lookup}
use Rattle.lru.specs.LruCache.{LruCache}
use Rattle.pagecache.specs.declared.slots.Held.{Held}
use Rattle.pagecache.proofs.CacheLemmas.{empty_written}
use Rattle.pagecache.proofs.slots.Slots.new.Goals as goal

pub returns-in-Ok-clause-written : goal.returns-in-Ok-clause-written
returns-in-Ok-clause-written g c =
    empty_written _ (g.met.S.PageStore.lawful c.args.store) c.len-count.ensures (λ n. ap (λ (h : LruCache ℕ Held). lookup (nat_eq n) h.entries) c.in-Ok.ensures)
