use Rattle.std.proofs.Common.{ℕ, ◌≡◌, ◌∙◌, ◌<◌, List, length, get_or, ap, subst, sym}
use Rattle.zones.specs.Places.{Corner}
use Rattle.zone_windows.specs.Near.{AgreeIn}
use Rattle.zone_windows.specs.Parts.{IsPartOf}
use Rattle.zone_windows.specs.declared.part.Part.{Part}
use Rattle.zone_windows.proofs.PartLemmas.{part_agrees}
use Rattle.zone_windows.proofs.windows.Windows.rings_in.Goals as goal

pub returns-in-Some : goal.returns-in-Some
returns-in-Some c =
    let look = c.in-Some.ensures.lookup in
    let window = c.args.window in
    let whole : List (List Corner) = c.self.inside.whole.items in
    let parts : List Part = c.self.inside.parts.items in
    let place : ℕ = c.place_of.result in
    let part : Part = c.in-Some.part.now in
    let below : place < length parts = subst (λ (l : List Part). place < length l) c.deref.ensures.value look.3.0 in
    let found : part ≡ get_or parts place part = look.1 ∙ ap (λ (l : List Part). get_or l place part) c.deref.ensures.value in
    let is : IsPartOf whole part = subst (IsPartOf whole) (sym found) (c.self.invariant place part below) in
    let agrees : AgreeIn window part.rings.items whole = part_agrees whole part window is (c.holds.ensures c.if-holds.true) in
    subst (λ (l : List (List Corner)). AgreeIn window l c.args.self.now) (sym c.deref-in-Some.ensures.value)
    (subst (λ (l : List (List Corner)). AgreeIn window part.rings.items l) c.self.view_is agrees)
