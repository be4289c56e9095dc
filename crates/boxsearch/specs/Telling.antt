-- What the pages of an index, whoever wrote them, say to a question.
use Rattle.std.specs.Prelude.{ℕ, ◌≡◌, List, [], Option, Some, None, slice_get}
use Rattle.timebase.specs.Period.{PeriodView}
use Rattle.legs.specs.Boxes.{BoxView}
use Rattle.legs.specs.Costs.{ShapeView}
use Rattle.legs.specs.Hull.{leg_boxes}
use Rattle.legs.specs.Legs.{LegView}
use Rattle.legs.specs.Questions.{Question, InBox, OfFeature}
use Rattle.chains.specs.Chains.{IsPlaceChain, IsOffPlaceChain, chain_legs}
use Rattle.tbtree.specs.Descent.{legs_met, IsInOrder}
use Rattle.tbtree.specs.Nodes.{Pages}
use Rattle.tbtree.specs.declared.tree.Place.{Place}
use Rattle.tbtree.specs.declared.tree.TbTree.{TbTree}
use Rattle.boxsearch.specs.Way.{meets, IsWay, IsOffWay}

-- each page that a search meets is the one that the tree expects there, and these are the legs that it meets, in order
pub record TellsBox (nodes : Pages LegView BoxView) (tree : TbTree) (query : BoxView)
    (legs : List LegView) : Type 0 where
  pub way : IsWay query nodes tree.root tree.levels
  pub met : IsInOrder (legs_met leg_boxes (meets query) nodes tree.root tree.levels) legs

-- the pages are the chain of a feature's place, as far as it is read, and these are the legs that are kept of it; where
-- there is no place there is no leg
abbrev pub TellsTrack : Pages LegView BoxView → ShapeView → Option PeriodView → (feature : ℕ)
    → Option Place → List LegView → Type 0
TellsTrack nodes shape period feature (Some place) legs =
    IsPlaceChain nodes period shape feature place
    × (legs ≡ chain_legs nodes period shape place)
TellsTrack nodes shape period feature None legs = legs ≡ []

-- the page is met on the way back along the chain of a feature's place, and is not the chain's
abbrev pub DeniesTrack : Pages LegView BoxView → ShapeView → Option PeriodView → (feature : ℕ)
    → Option Place → ℕ → Type 0
DeniesTrack nodes shape period feature (Some place) page =
    IsOffPlaceChain nodes period shape feature place page
DeniesTrack nodes shape period feature None page = ⊥

-- what pages say to a question, by a tree and the places of its features
abbrev pub Tells : Pages LegView BoxView → TbTree → List Place → Question → List LegView → Type 0
Tells nodes tree places (InBox query) legs = TellsBox nodes tree query legs
Tells nodes tree places (OfFeature feature period) legs =
    TellsTrack nodes tree.shape period feature (slice_get places feature) legs

-- the page is met and is not what it is to be there, or more are met than there are
abbrev pub Denies : Pages LegView BoxView → TbTree → List Place → Question → ℕ → Type 0
Denies nodes tree places (InBox query) page = IsOffWay query nodes tree.root tree.levels page
Denies nodes tree places (OfFeature feature period) page =
    DeniesTrack nodes tree.shape period feature (slice_get places feature) page
