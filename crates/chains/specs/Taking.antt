-- What is taken of the legs of a leaf, of one page of a chain, or of a chain.
use Rattle.std.specs.Prelude.{ℕ, suc, ◌≡◌, ◌<◌, ◌++◌, Bool, true, false, if◌then◌else◌, List, [], Option, Some, None, drop, filter, reverse, slice_get, take}
use Rattle.timebase.specs.Period.{PeriodView}
use Rattle.legs.specs.Boxes.{BoxView, is_near}
use Rattle.legs.specs.Legs.{LegView, is_live}
use Rattle.legs.specs.Sieves.{IsSieved, LeavesOut, MayGo}
use Rattle.legs.specs.declared.sieve.Sieve.{Sieve}
use Rattle.legs.specs.declared.sieve.Sieve.TheVariants as sieve
use Rattle.pagecache.specs.declared.fault.CacheFault.TheVariants as cache
use Rattle.tbtree.specs.Nodes.{Node, LeafView, ALeaf}
use Rattle.tbtree.specs.declared.fault.TreeFault.{TreeFault}
use Rattle.tbtree.specs.declared.fault.TreeFault.TheVariants.{Cache as OfCache, Malformed}
use Rattle.chains.specs.Links.{FitsLeaf, is_end, is_kept, link_back}
use Rattle.chains.specs.Spans.{Learns}
use Rattle.chains.specs.declared.leaves.Link.{Link}
use Rattle.chains.specs.declared.leaves.Spot.{Spot}
use Rattle.chains.specs.declared.spans.LeafSpan.{LeafSpan}

-- of the kept legs of a chain those that are taken: all, or where there is a period those that the sieve wants
abbrev pub IsTaken : Option PeriodView → Sieve → (kept taken : List LegView) → Type 0
IsTaken None sieve kept taken = taken ≡ kept
IsTaken (Some period) sieve kept taken = IsSieved sieve period kept taken

-- they have been put behind others, the last one first
abbrev pub HasTaken : Option PeriodView → Sieve → (kept old new : List LegView) → Type 0
HasTaken period sieve kept old new =
    (taken : List LegView) × (new ≡ old ++ reverse taken) × IsTaken period sieve kept taken

-- a leg is wanted, be it the first or the last one or not
abbrev pub is_wanted : Sieve → LegView → Bool
is_wanted sieve.All leg = true
is_wanted sieve.Ends leg = false
is_wanted (sieve.Near rect) leg = is_near rect leg

-- legs have been put behind others, the last one first, but for some that may be left out
abbrev pub PutsSome : Sieve → PeriodView → (legs old new : List LegView) → Type 0
PutsSome sieve period legs old new =
    (taken : List LegView) × (new ≡ old ++ reverse taken)
    × LeavesOut (MayGo sieve period) legs taken

-- the leg of that number is live, and so are none before it, or none behind it; no leg is
pub record IsLiveAt (period : PeriodView) (legs : List LegView) (i : ℕ) : Type 0 where
  pub leg : LegView
  pub is : slice_get legs i ≡ Some leg
  pub live : is_live period leg ≡ true

-- the first leg that is live in a period has that number, or no leg is live
abbrev pub IsFirstLive : PeriodView → List LegView → Option ℕ → Type 0
IsFirstLive period legs None = filter (is_live period) legs ≡ []
IsFirstLive period legs (Some i) =
    IsLiveAt period legs i × (filter (is_live period) (take i legs) ≡ [])

-- the last leg that is live in a period has that number, or no leg is live
abbrev pub IsLastLive : PeriodView → List LegView → Option ℕ → Type 0
IsLastLive period legs None = filter (is_live period) legs ≡ []
IsLastLive period legs (Some i) =
    IsLiveAt period legs i × (filter (is_live period) (drop (suc i) legs) ≡ [])

-- what is learned of a leaf: the spans before and after it, and how many leaves were passed
pub record Lesson : Type 0 where
  pub old : List LeafSpan
  pub new : List LeafSpan
  pub passed : ℕ

-- the leaf is the one of the link, what is wanted of its kept legs has been put behind the others, the last one first, and
-- this is the link from it, if any
pub record TakesLeaf (leaf : LeafView LegView) (link : Link) (spot : Spot)
    (period : Option PeriodView)
    (sieve : Sieve) (old new : List LegView) (result : Option Link) : Type 0 where
  pub fits : FitsLeaf leaf link spot
  pub legs : HasTaken period sieve (filter (is_kept period) leaf.legs) old new
  pub link_is : result
      ≡ (if is_end period leaf.legs then None else Some (link_back link.page leaf))

-- what the page of the link has is such a leaf, and it is learned
pub record TakesPage (at : Option (Option (Node LegView BoxView))) (link : Link) (spot : Spot)
    (period : Option PeriodView)
    (sieve : Sieve) (old new : List LegView) (lesson : Lesson) (result : Option Link) : Type 0 where
  pub leaf : LeafView LegView
  pub above : 0 < link.page
  pub is : at ≡ Some (Some (ALeaf leaf))
  pub takes : TakesLeaf leaf link spot period sieve old new result
  pub learns : Learns lesson.old lesson.new lesson.passed link.page leaf

-- a payload that is refused is malformed, and unfit, or memory was wanted
abbrev pub IsNodeFault : (unfit : Type 0) → (page : ℕ) → TreeFault → Type 0
IsNodeFault unfit page (Malformed n) = (n ≡ page) × unfit
IsNodeFault unfit page (OfCache cache.Memory) = Unit {0}
IsNodeFault unfit page _ = ⊥
