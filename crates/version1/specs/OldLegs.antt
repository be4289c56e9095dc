-- A store of version 1.
use Rattle.std.specs.Prelude.{ℕ, ◌≡◌, ◌≤◌, ◌<◌, List, [], map, nat_eq, slice_get, Some, IsSome, option_map}
use Rattle.std.specs.Map.{lookup}
use Rattle.std.specs.List.{All, range_with_len}
use Rattle.std.specs.List.Sorted.{IsPermutation, IsNonDecreasingBy}
use Rattle.legs.specs.Blocks.{joined}
use Rattle.legs.specs.Boxes.{BoxView}
use Rattle.legs.specs.Index.{CanFollowInTurn}
use Rattle.legs.specs.Legs.{LegView}
use Rattle.pages.specs.Store.{Store}
use Rattle.pages.specs.declared.payload.PageFault.{PageFault}
use Rattle.pages.specs.declared.payload.PageFault.TheVariants.{Damaged}
use Rattle.pagecache.specs.Cache.{stored_payload}
use Rattle.pagecache.specs.declared.fault.CacheFault.TheVariants as cache
use Rattle.version1.specs.OldForm.{old_node_of}
use Rattle.legs.specs.declared.tracks.Track.{Track}
use Rattle.treecheck.specs.Check.{legs_on, AreChains}
use Rattle.tbtree.specs.Turn.{first_ordinal, IsRising}
use Rattle.tbtree.specs.Descent.{legs_in}
use Rattle.tbtree.specs.Nodes.{Pages, LeafView, ALeaf}
use Rattle.tbtree.specs.declared.fault.TreeFault.{TreeFault}
use Rattle.tbtree.specs.declared.fault.TreeFault.TheVariants.{Cache as OfCache}
use Rattle.tbtree.specs.declared.tree.Place.{Place}
use Rattle.treecheck.specs.Ordering.{HaveLegs}
use Rattle.treecheck.specs.Walking.{IsMet}
use Rattle.treecheck.specs.declared.walking.Met.{Met}

-- the pages of a store of version 1
abbrev pub pages_of_old : Store → Pages LegView BoxView
pages_of_old s = record { at = λ p. option_map old_node_of (stored_payload s p); count = s.count }

-- why a page is not unsealed
abbrev pub unsealing : PageFault → TreeFault
unsealing (Damaged page) = OfCache (cache.Damaged page)

-- the chains of the features are whole, and these are their leaves, in the order of their first legs
pub record AreSurveyed (nodes : Pages LegView BoxView) (most rows total : ℕ) (places : List Place)
    (tracks : List Track) (leaves : List Met) : Type 0 where
  pub chains : List (List ℕ)
  pub are_chains : AreChains nodes most rows 0 places tracks chains
  pub some : HaveLegs places
  pub once : IsPermutation (map (λ leg. leg.ordinal) (legs_on nodes (joined chains)))
      (range_with_len 0 total)
  pub firsts : IsRising (λ pages. first_ordinal (legs_on nodes pages)) chains
  pub ordered : IsPermutation (joined chains) (map (λ (m : Met). m.page) leaves)
  pub are_met : All (λ (m : Met). IsMet (nodes.at m.page) m) leaves
  pub rises : IsNonDecreasingBy (λ (m : Met). m.first) leaves

-- a leg is one of the list
abbrev pub IsOneOf : List LegView → LegView → Type 0
IsOneOf legs leg = (i : ℕ) × (slice_get legs i ≡ Some leg)

-- each of some legs is one of the list
abbrev pub AreAmong : List LegView → List LegView → Type 0
AreAmong some legs = (i : ℕ) (leg : LegView) → slice_get some i ≡ Some leg → IsOneOf legs leg

-- the legs that stand at ordinals are those of the list
abbrev pub StandByOrdinal : List LegView → List (ℕ × LegView) → Type 0
StandByOrdinal legs opened =
    (o : ℕ) (leg : LegView) → lookup (nat_eq o) opened ≡ Some leg
    → (leg.ordinal ≡ o) × IsOneOf legs leg

-- the legs of the leaves are among those of the list
abbrev pub HaveLegsOf : Pages LegView BoxView → List Met → List LegView → Type 0
HaveLegsOf nodes leaves legs =
    (k : ℕ) (m : Met) → slice_get leaves k ≡ Some m → AreAmong (legs_in (nodes.at m.page)) legs

-- the list may be put into an index without legs, and its ordinals are its places
pub record IsNumbered (total : ℕ) (legs : List LegView) : Type 0 where
  pub in_turn : CanFollowInTurn [] legs
  pub numbers : map (λ leg. leg.ordinal) legs ≡ range_with_len 0 total

-- the page is there, and is a leaf
pub record IsReadable (nodes : Pages LegView BoxView) (page : ℕ) : Type 0 where
  pub within : page < nodes.count
  pub leaf : LeafView LegView
  pub is : nodes.at page ≡ Some (Some (ALeaf leaf))

-- the page of each leaf is there, and is a leaf
abbrev pub AreReadable : Pages LegView BoxView → List Met → Type 0
AreReadable nodes leaves = (k : ℕ) (m : Met) → slice_get leaves k ≡ Some m → IsReadable nodes m.page

-- the leg is on one of the leaves, and that one begins with it or an earlier one
pub record IsOnOne (nodes : Pages LegView BoxView) (leaves : List Met)
    (leg : LegView) : Type 0 where
  pub place : ℕ
  pub met : Met
  pub at : slice_get leaves place ≡ Some met
  pub begun : met.first ≤ leg.ordinal
  pub has : IsOneOf (legs_in (nodes.at met.page)) leg

-- the leaves can be read, no two begin with the same leg, and each leg of the list is on one of them
pub record HaveEachOf (nodes : Pages LegView BoxView) (leaves : List Met)
    (legs : List LegView) : Type 0 where
  pub readable : AreReadable nodes leaves
  pub rises : IsRising (λ (m : Met). m.first) leaves
  pub each : (leg : LegView) → IsOneOf legs leg → IsOnOne nodes leaves leg

-- a leg of that ordinal is opened
abbrev pub IsOpened : List (ℕ × LegView) → ℕ → Type 0
IsOpened opened o = IsSome (lookup (nat_eq o) opened)

-- each of the legs is opened, and what was opened still is
pub record Opens (legs : List LegView) (old new : List (ℕ × LegView)) : Type 0 where
  pub kept : (o : ℕ) → IsOpened old o → IsOpened new o
  pub each : (leg : LegView) → IsOneOf legs leg → IsOpened new leg.ordinal

-- of the leaves before `next` each leg from an ordinal on is opened, and those from `next` on begin with `first` or later
pub record AreOpened (nodes : Pages LegView BoxView) (leaves : List Met) (next ordinal first : ℕ)
    (opened : List (ℕ × LegView)) : Type 0 where
  pub done : (k : ℕ) (m : Met) → slice_get leaves k ≡ Some m → k < next
      → (leg : LegView) → IsOneOf (legs_in (nodes.at m.page)) leg → ordinal ≤ leg.ordinal
      → IsOpened opened leg.ordinal
  pub left : (k : ℕ) (m : Met) → slice_get leaves k ≡ Some m → next ≤ k → first ≤ m.first
