-- How many pages a question of an index asks for, computed from the list of legs alone.
use Rattle.std.specs.Prelude.{ℕ, zero, suc, ◌+◌, ◌-◌, ◌*◌, ◌<◌, ◌≡◌, ◌≤◌, ◌^◌, ◌&&◌, min, Bool, false, cond, if◌then◌else◌, nat_lt, List, [], ◌∷◌, ◌++◌, length, count_by, Option, Some, None, int_le}
use Rattle.std.specs.Int.{div_ceil}
use Rattle.std.specs.List.{list_any, range_with_len}
use Rattle.timebase.specs.Period.{PeriodView}
use Rattle.legs.specs.Legs.{LegView}
use Rattle.legs.specs.Boxes.{BoxView, boxes_meet}
use Rattle.legs.specs.Blocks.{groups, leaves, level}
use Rattle.legs.specs.Hull.{Boxes, hull_of, leg_boxes}
use Rattle.legs.specs.Index.{legs_of}

-- the shape of a tree: how many legs a leaf has at most, and how many entries an inner page
pub record ShapeView : Type 0 where
  pub leaf : ℕ
  pub inner : ℕ

-- the feature of a leg, by which legs are put into leaves
abbrev pub leg_feature : LegView → ℕ
leg_feature leg = leg.feature

-- the leaves of a list of legs
abbrev pub leaves_of : ShapeView → List LegView → List (List LegView)
leaves_of shape legs = leaves leg_feature shape.leaf legs

module _ {L B : Type 0} (s : Boxes L B) (meets : B → Bool) where
  -- there is a box, and it meets
  abbrev pub some_meets : Option B → Bool
  some_meets None = false
  some_meets (Some b) = meets b

  -- the least box of a block's legs meets
  abbrev pub block_meets : List (List L) → Bool
  block_meets block = some_meets (hull_of s block)

module _ {L B : Type 0} (s : Boxes L B) (meets : B → Bool) (inner : ℕ) (runs : List (List L)) where
  -- the blocks of level k whose boxes meet, if it is below the root: it has more than one block
  abbrev pub met_at : ℕ → ℕ
  met_at k = cond (nat_lt 1 (length (level inner k runs)))
      (count_by (block_meets s meets) (level inner k runs)) 0

  -- those of the first n levels
  abbrev pub met : ℕ → ℕ
  met zero = 0
  met (suc k) = met k + met_at k

-- one page for the root, and one for each other block of any level whose box meets; a level past the number of
-- leaves has no more than one block
abbrev pub cost : {L B : Type 0} → Boxes L B → (B → Bool) → ℕ → List (List L) → ℕ
cost s meets inner [] = 0
cost s meets inner (r ∷ rs) = 1 + met s meets inner (r ∷ rs) (length (r ∷ rs))

-- what a search asks for; an index without a shape keeps a list, and asks for nothing
unfoldable pub search_cost : BoxView → Option ShapeView → List LegView → ℕ
search_cost query None legs = 0
search_cost query (Some shape) legs =
    cost leg_boxes (λ b. boxes_meet b query) shape.inner (leaves_of shape legs)

-- a page for each leaf of the feature
unfoldable pub track_cost : ℕ → Option ShapeView → List LegView → ℕ
track_cost feature None legs = 0
track_cost feature (Some shape) legs = div_ceil (length (legs_of feature legs)) shape.leaf

-- a leg of the run ends at or after the period's start
abbrev pub reaches : PeriodView → List LegView → Bool
reaches period run = list_any (λ leg. int_le period.start leg.t1) run

-- at most all leaves of the feature, and at most one more than those with a leg that ends at or after the
-- period's start
unfoldable pub track_in_bound : ℕ → PeriodView → Option ShapeView → List LegView → ℕ
track_in_bound feature period None legs = 0
track_in_bound feature period (Some shape) legs =
    min (div_ceil (length (legs_of feature legs)) shape.leaf)
    (1 + count_by (reaches period) (groups shape.leaf (legs_of feature legs)))

-- the height of the root above the leaves: how many levels have more than one block
abbrev pub height : {L : Type 0} → ℕ → List (List L) → ℕ
height inner runs =
    count_by (λ k. nat_lt 1 (length (level inner k runs))) (range_with_len 0 (length runs))

-- a leg more, with which the list is this one: twice the root's height after it, and four
unfoldable pub add_bound : Option ShapeView → List LegView → ℕ
add_bound None legs = 0
add_bound (Some shape) legs = 2 * height shape.inner (leaves_of shape legs) + 4

-- a counter rose by that many; the greatest number that is counted stands for any greater one
abbrev pub RisesBy : ℕ → ℕ → ℕ → Type 0
RisesBy old new cost = new < 2 ^ 64 - 1 → new ≡ old + cost

-- a counter rose by at most that many
abbrev pub RisesAtMost : ℕ → ℕ → ℕ → Type 0
RisesAtMost old new bound = new ≤ old + bound
