-- An index whose cache was lent, with its places given away meanwhile.
use Rattle.std.proofs.Common.{◌≡◌, [], sym, subst}
use Rattle.pagecache.specs.Cache.{Cache}
use Rattle.boxsearch.specs.Beside.{with_cache}
use Rattle.boxsearch.specs.Index.{IndexView}

-- what is so of the cache that was lent is so of that of the index
pub lent : (P : Cache → Cache → Type 0) (i j : IndexView) (b d : Cache) → b ≡ i.cache → j ≡ with_cache i d [] → P b d → P i.cache j.cache
lent P i j b d same is h = subst (λ (x : IndexView). P i.cache x.cache) (sym is) (subst (λ x. P x d) same h)
