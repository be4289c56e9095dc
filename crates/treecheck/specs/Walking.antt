-- Helpers of private functions: the way along the chain of a feature.
use Rattle.std.specs.Prelude.{ℕ, ◌≡◌, ◌-◌, ◌++◌, ◌∷◌, min, [], Bool, List, map, length, Option, Result, Some, option_map}
use Rattle.std.specs.List.{All}
use Rattle.std.specs.declared.alloc.AllocError.{AllocError}
use Rattle.legs.specs.Boxes.{BoxView}
use Rattle.legs.specs.Hull.{hull, leg_boxes}
use Rattle.legs.specs.Legs.{LegView}
use Rattle.legs.specs.Blocks.{joined}
use Rattle.legs.specs.declared.tracks.Track.{Track}
use Rattle.pages.specs.declared.payload.Payload.{Payload}
use Rattle.pagecache.specs.Cache.{Cache, payload_of}
use Rattle.treecheck.specs.Check.{next_in, legs_on, IsLeafOf, AreLeavesOf, AreChains}
use Rattle.tbtree.specs.Turn.{last_leg, first_ordinal, ComeInTurn}
use Rattle.tbtree.specs.Descent.{legs_in}
use Rattle.tbtree.specs.Nodes.{Pages, Node, LeafView, ALeaf}
use Rattle.tbtree.specs.declared.tree.Place.{Place}
use Rattle.treecheck.specs.Finding.{TakesIf}
use Rattle.treecheck.specs.declared.walking.Met.{Met}
use Rattle.treecheck.specs.declared.walking.Survey.{Survey}
use Rattle.treecheck.specs.declared.walking.Walk.{Walk}

-- the pages of a cache, by the node that a payload says
abbrev pub pages_by : (Payload → Option (Node LegView BoxView)) → Cache → Pages LegView BoxView
pages_by node cache = record { at = λ p. option_map node (payload_of cache p); count = cache.count }

-- the node is the next leaf of the way
pub record IsNextNode (most : ℕ) (walk : Walk) (node : Option (Node LegView BoxView)) : Type 0 where
  pub leaf : LeafView LegView
  pub is : node ≡ Some (ALeaf leaf)
  pub feature_is : leaf.feature ≡ walk.feature
  pub previous_is : leaf.previous ≡ walk.previous
  pub count_is : length leaf.legs ≡ min most walk.left

-- the way after a page that has this
abbrev pub after : ℕ → Walk → Option (Option (Node LegView BoxView)) → Walk
after most walk at = record walk {
  previous = walk.page;
  page = next_in at;
  left = walk.left - most;
  last = last_leg walk.last (legs_in at);
}

-- the leaf was met on a page that has this
pub record IsMet (at : Option (Option (Node LegView BoxView))) (met : Met) : Type 0 where
  pub first : met.first ≡ first_ordinal (legs_in at)
  pub bounds : hull leg_boxes (legs_in at) ≡ Some met.bounds

-- its legs and the leaf itself are put to what was found
pub record Notes (at : Option (Option (Node LegView BoxView))) (page : ℕ)
    (old new : Survey) : Type 0 where
  pub met : Met
  pub page_is : met.page ≡ page
  pub is_met : IsMet at met
  pub ordinals : new.ordinals.items ≡ old.ordinals.items ++ map (λ leg. leg.ordinal) (legs_in at)
  pub leaves : new.leaves.items ≡ old.leaves.items ++ met ∷ []
  pub firsts : new.firsts ≡ old.firsts

-- the node is taken where it is the next leaf of the way, and its legs come in order after those before them: the way
-- goes on to the page that the leaf names as next, and the leaf and its ordinals are put to what was found
abbrev pub TakesNext : (most rows : ℕ) → Option (Node LegView BoxView) → (walk next : Walk)
    → (old new : Survey) → Result Bool AllocError → Type 0
TakesNext most rows node walk next old new result =
    TakesIf
    (IsNextNode most walk node × ComeInTurn walk.feature rows walk.last (legs_in (Some node)))
    ((next ≡ after most walk (Some node)) × Notes (Some node) walk.page old new) result

-- the page of the way is its next leaf, and is taken
pub record TakesLeaf (nodes : Pages LegView BoxView) (most rows : ℕ) (walk next : Walk)
    (old new : Survey) : Type 0 where
  pub leaf : IsLeafOf nodes most walk.feature walk.previous walk.left walk.page
  pub turn : ComeInTurn walk.feature rows walk.last (legs_in (nodes.at walk.page))
  pub next_is : next ≡ after most walk (nodes.at walk.page)
  pub notes : Notes (nodes.at walk.page) walk.page old new

-- the pages of some leaves are put to what was found
pub record NotesAll (nodes : Pages LegView BoxView) (pages : List ℕ)
    (old new : Survey) : Type 0 where
  pub mets : List Met
  pub pages_are : map (λ (m : Met). m.page) mets ≡ pages
  pub are_met : All (λ (m : Met). IsMet (nodes.at m.page) m) mets
  pub ordinals : new.ordinals.items
      ≡ old.ordinals.items ++ map (λ leg. leg.ordinal) (legs_on nodes pages)
  pub leaves : new.leaves.items ≡ old.leaves.items ++ mets
  pub firsts : new.firsts ≡ old.firsts

-- the way has come to the end of the chain
pub record IsAtEnd (walk : Walk) (place : Place) (track : Track) : Type 0 where
  pub page : walk.page ≡ 0
  pub last : walk.previous ≡ place.last
  pub legs : track.legs ≡ place.legs
  pub end : (leg : LegView) → walk.last ≡ Some leg → leg.t1 ≡ track.end

-- the leaves of a feature were met
pub record Walks (nodes : Pages LegView BoxView) (most rows feature : ℕ) (place : Place)
    (track : Track) (old new : Survey) : Type 0 where
  pub pages : List ℕ
  pub leaves : AreLeavesOf nodes most rows feature place track pages
  pub notes : NotesAll nodes pages old new

-- the leaves of each feature were met: those of the chains, with their legs
pub record Surveys (nodes : Pages LegView BoxView) (most rows : ℕ) (places : List Place)
    (tracks : List Track) (survey : Survey) : Type 0 where
  pub chains : List (List ℕ)
  pub are_chains : AreChains nodes most rows 0 places tracks chains
  pub ordinals : survey.ordinals.items ≡ map (λ leg. leg.ordinal) (legs_on nodes (joined chains))
  pub pages_are : map (λ (m : Met). m.page) survey.leaves.items ≡ joined chains
  pub are_met : All (λ (m : Met). IsMet (nodes.at m.page) m) survey.leaves.items
  pub firsts : survey.firsts.items ≡ map (λ pages. first_ordinal (legs_on nodes pages)) chains
