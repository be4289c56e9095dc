-- What an index ends as, once its cache comes back.
use Rattle.std.specs.Prelude.{[]}
use Rattle.std.specs.Borrow.{Lends, MutBor, Fml, RattleType}
use Rattle.pages.specs.declared.store.PageStore as store
use Rattle.pagecache.specs.Cache.{Cache}
use Rattle.pagecache.specs.contracts.cache.PageCache as pagecache
use Rattle.boxsearch.specs.Index.{IndexView}
use Rattle.boxsearch.specs.Beside.{with_cache}
use Rattle.boxsearch.specs.contracts.tree_index.TreeIndex.{the_row}

-- the index with the cache that is left behind the reference, of whose leaves nothing is known
abbrev pub LendsCache : (S : RattleType) → store.Ghosts S.Denot → MutBor IndexView → MutBor Cache
    → Fml
LendsCache S g index r =
    Lends (the_row S g) (pagecache.the_row S g) index r (λ cache. with_cache index.now cache [])
