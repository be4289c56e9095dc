-- The leaves of pages that are whole, in the order of their first legs.
use Rattle.std.proofs.Common.{ℕ, List}
use Rattle.std.specs.List.Sorted.{IsPermutation}
use Rattle.legs.specs.Tracks.{TracksView}
use Rattle.pagecache.specs.Cache.{Cache}
use Rattle.tbtree.specs.Nodes.{pages_of_cache}
use Rattle.tbtree.specs.declared.tree.Place.{Place}
use Rattle.tbtree.specs.declared.tree.TbTree.{TbTree}
use Rattle.treecheck.specs.Check.{first_on, AreChains, IsChecked}
use Rattle.legs.specs.Blocks.{joined}
use Rattle.tbtree.specs.Turn.{IsRising}

-- the leaves of each feature, in the order of their first legs
pub record IsOrder (cache : Cache) (tree : TbTree) (rows : ℕ) (places : List Place) (tracks : TracksView) (order : List ℕ) : Type 0 where
  pub chains : List (List ℕ)
  pub are_chains : AreChains (pages_of_cache cache) tree.shape.leaf rows 0 places tracks.tracks chains
  pub ordered : IsPermutation (joined chains) order
  pub rises : IsRising (first_on (pages_of_cache cache)) order

-- the order of pages that are whole
pub order_of : (c : Cache) (tree : TbTree) (rows total : ℕ) (places : List Place) (tracks : TracksView) (k : IsChecked (pages_of_cache c) tree rows total places tracks.tracks) → IsOrder c tree rows places tracks k.order
order_of c tree rows total places tracks k = record { chains = k.chains; are_chains = k.are_chains; ordered = k.ordered; rises = k.rises }
