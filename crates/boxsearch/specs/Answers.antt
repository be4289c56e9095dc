-- How an index over pages answers what its parts answer.
use Rattle.std.specs.Prelude.{Result, Ok, Err}
use Rattle.legs.specs.declared.index.IndexFault.{IndexFault}
use Rattle.legs.specs.declared.index.IndexFault.TheVariants as index
use Rattle.pagecache.specs.declared.fault.CacheFault.{CacheFault}
use Rattle.pagecache.specs.declared.fault.CacheFault.TheVariants as cache
use Rattle.tbtree.specs.declared.fault.TreeFault.{TreeFault}
use Rattle.tbtree.specs.declared.fault.TreeFault.TheVariants as tree

-- a page that is not what it should be is damaged
abbrev pub of_cache : CacheFault → IndexFault
of_cache cache.NoPage = index.Damaged 0
of_cache cache.Store = index.Store
of_cache (cache.Damaged n) = index.Damaged n
of_cache cache.StoreFull = index.StoreFull
of_cache cache.Memory = index.Memory

-- how an index reports a fault of its tree: a malformed page is damaged
abbrev pub of_tree : TreeFault → IndexFault
of_tree (tree.Cache fault) = of_cache fault
of_tree (tree.Malformed n) = index.Damaged n
of_tree tree.Spent = index.Spent

-- an answer, or a fault as the index says it
abbrev pub answered : {A F : Type 0} → (F → IndexFault) → Result A F → Result A IndexFault
answered say (Ok value) = Ok value
answered say (Err fault) = Err (say fault)
