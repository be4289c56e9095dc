use Rattle.std.proofs.Common.{ℕ, ◌<◌, List, Option, arith, length, subst, sym}
use Rattle.zones.specs.Places.{Corner}
use Rattle.zone_windows.specs.Parts.{AnyCutOf, ArePartsOf, IsCutOf, IsPartOf}
use Rattle.zone_windows.specs.declared.part.Cut.{Cut}
use Rattle.zone_windows.specs.declared.part.Part.{Part}
use Rattle.zone_windows.proofs.PartLemmas.{cut_more}
use Rattle.zone_windows.proofs.windows.Windows.of.Goals as goal
use Rattle.zone_windows.proofs.windows.Windows.of.Goals.{in-Some+in_ok-push-in-Some+in_ok-push_cut-in-Some, in-None+in_ok-push-in-None}

pub loop-place-preserved : goal.loop-place-preserved
loop-place-preserved c =
    let rings : List (List Corner) = c.args.rings.items in
    let parts : List Part = c.loop-place.parts.items in
    let part : Part = c.index.result.now in
    let place : ℕ = c.loop-place.place in
    let over = c.if-place-len.false in
    let count = c.len.ensures in
    let below : place < length parts = omega (arith, over, count) in
    let is : IsPartOf rings part = subst (IsPartOf rings) (sym c.index.ensures) (c.loop-place.invariant place part below) in
    elim c.match-branch-4.branch [
      | in-Some+in_ok-push-in-Some+in_ok-push_cut-in-Some w ↦
          let cut : Cut = w.in-Some.cut in
          let of : IsCutOf part cut = subst (λ (o : Option Cut). AnyCutOf part o) w.in-Some.is c.in_ok-cut.ensures in
          rw w.parts-is (subst (ArePartsOf rings) (sym w.in_ok-push_cut-in-Some.ensures) (cut_more rings parts part cut c.loop-place.invariant is of))
      | in-None+in_ok-push-in-None w ↦ rw w.parts-is c.loop-place.invariant
    ]
