use Rattle.std.proofs.Common.{List, subst}
use Rattle.std.proofs.lemmas.Result.{IfOk-weaker}
use Rattle.legs.specs.Legs.{LegView}
use Rattle.zones.specs.Places.{Corner, CourseView}
use Rattle.zone_windows.specs.Near.{AgreeOn}
use Rattle.zoning.specs.Stays.{AreStays, course_of}
use Rattle.zoning.proofs.WindowLemmas.{stays_in_whole}
use Rattle.zoning.proofs.site.Site.stays_of.Goals as goal

pub returns : goal.returns
returns c =
    let leg : LegView = c.args.leg.now in
    let period = c.args.period.now in
    let whole : List (List Corner) = c.args.self.now in
    let near : List (List Corner) = c.in_ok-rings.rings.items in
    let agree : AgreeOn (course_of leg) near whole =
    subst (λ (w : CourseView). AgreeOn w near whole) c.way_of.ensures.course (subst (λ (l : List (List Corner)). AgreeOn c.way_of.result near l) c.self.view_is c.in_ok-rings.ensures) in
    IfOk-weaker c.stays_of.result _ _
    (λ stays h. stays_in_whole leg period c.way_of.ensures.rises near whole agree stays.items (subst (λ (l : List (List Corner)). AreStays l leg period stays.items) c.deref.ensures.value h))
    c.stays_of.ensures
