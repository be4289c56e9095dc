-- What is known of the leaves of a chain that were read: a memory of its last leaves.
use Rattle.std.specs.Prelude.{ℕ, ℤ, zero, suc, ◌≡◌, ◌≢◌, ◌+◌, ◌<◌, ◌++◌, ◌≤ℤ◌, List, [], ◌∷◌, length, if◌then◌else◌, int_lt, int_le, Option, Some, None, All, Any}
use Rattle.std.specs.Int.{div_ceil}
use Rattle.timebase.specs.Period.{PeriodView}
use Rattle.legs.specs.Boxes.{BoxView}
use Rattle.legs.specs.Costs.{ShapeView}
use Rattle.legs.specs.Legs.{LegView}
use Rattle.tbtree.specs.Nodes.{Pages, LeafView}
use Rattle.tbtree.specs.declared.tree.Place.{Place}
use Rattle.chains.specs.Chains.{last_link}
use Rattle.chains.specs.Links.{IsLinked, link_back, spot_of}
use Rattle.chains.specs.declared.leaves.Link.{Link}
use Rattle.chains.specs.declared.spans.LeafSpan.{LeafSpan}
use Rattle.chains.specs.declared.spans.Passing.{Passing}
use Rattle.chains.specs.declared.spans.Passing.TheVariants.{Into, Over, End}

-- a leg, which does not end before it starts, is within a span of time
pub record IsWithin (start end : ℤ) (leg : LegView) : Type 0 where
  pub starts : start ≤ℤ leg.t0
  pub rises : leg.t0 ≤ℤ leg.t1
  pub ends : leg.t1 ≤ℤ end

-- it is the least span of the leaf on that page: the leaf has legs, all of them are within it, one starts where it
-- starts, and one ends where it ends
pub record IsSpanOf (span : LeafSpan) (page : ℕ) (leaf : LeafView LegView) : Type 0 where
  pub page_is : span.page ≡ page
  pub feature_is : span.feature ≡ leaf.feature
  pub some : 0 < length leaf.legs
  pub each : All (IsWithin span.start span.end) leaf.legs
  pub starts : Any (λ (leg : LegView). leg.t0 ≡ span.start) leaf.legs
  pub ends : Any (λ (leg : LegView). leg.t1 ≡ span.end) leaf.legs

-- on the way back along n leaves of a chain of so many legs these are the spans of the leaves that are met, one after
-- another, as far as they are known
abbrev pub AreSpans : Pages LegView BoxView → (most legs first : ℕ) → List LeafSpan → ℕ → Link
    → Type 0
AreSpans nodes most legs first [] n link = Unit {0}
AreSpans nodes most legs first (span ∷ spans) zero link = ⊥
AreSpans nodes most legs first (span ∷ spans) (suc n) link =
    (leaf : LeafView LegView) × IsLinked nodes link (spot_of most legs first n) leaf
    × IsSpanOf span link.page leaf
    × AreSpans nodes most legs first spans n (link_back link.page leaf)

-- these are the spans of the last leaves of the feature's chain, from the last one back
abbrev pub IsKnown : Pages LegView BoxView → ShapeView → (feature : ℕ) → Place → List LeafSpan
    → Type 0
IsKnown nodes shape feature place spans =
    AreSpans nodes shape.leaf place.legs place.first spans (div_ceil place.legs shape.leaf)
    (last_link feature place)

-- the link from a known leaf to the one before it
abbrev pub link_over : LeafSpan → ℕ → Link
link_over span before = record { page = before; next = span.page; feature = span.feature }

-- a known leaf after the period is passed where the page before it is known too, or where there is none
abbrev pub over : LeafSpan → Option LeafSpan → ℕ → Passing
over span (Some before) left = Over (link_over span before.page)
over span None zero = Over (link_over span 0)
over span None (suc left) = Into

-- what a walk does at a leaf with that span, if it is known, the span of the leaf before it, if it is, and so many
-- leaves before it
abbrev pub pass_at : Option LeafSpan → Option LeafSpan → ℕ → Option PeriodView → Passing
pass_at None before left period = Into
pass_at (Some span) before left None = Into
pass_at (Some span) before left (Some period) =
    if int_lt span.end period.start then End else if int_le span.start period.end then Into
    else over span before left

-- the span of a leaf has been put behind those that are known, where it is the next one
pub record Learns (old new : List LeafSpan) (passed page : ℕ)
    (leaf : LeafView LegView) : Type 0 where
  pub same : passed ≢ length old → new ≡ old
  pub next : passed ≡ length old
      → (span : LeafSpan) × IsSpanOf span page leaf × (new ≡ old ++ span ∷ [])
