use Rattle.std.proofs.Common.{List, subst}
use Rattle.zones.specs.Places.{Corner}
use Rattle.zone_windows.specs.Near.{AgreeIn}
use Rattle.zone_windows.proofs.PartLemmas.{within}
use Rattle.zone_windows.proofs.part.Part.within.Goals as goal

pub returns : goal.returns
returns c =
    let near = c.in_ok-rings.rings.items in
    within c.args.self.now c.new.result c.args.window near c.new.ensures.window c.new.ensures.rings c.requires
    (subst (λ (l : List (List Corner)). AgreeIn c.args.window near l) c.deref.ensures.value c.in_ok-rings.ensures)
