-- What is written beside the tree of an index.
use Rattle.std.specs.Prelude.{List}
use Rattle.pagecache.specs.Cache.{Cache}
use Rattle.chains.specs.declared.spans.LeafSpan.{LeafSpan}
use Rattle.boxsearch.specs.Index.{IndexView}

-- an index over another cache, of whose leaves that is known
abbrev pub with_cache : IndexView → Cache → List (List LeafSpan) → IndexView
with_cache index cache known = record index { cache = cache; known = known }
