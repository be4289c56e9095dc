use Rattle.std.proofs.Common.{List, subst, sym}
use Rattle.zones.specs.declared.cuts.Cut.{Cut}
use Rattle.zoning.specs.Stays.{AllInside, AreOver}
use Rattle.zoning.proofs.ApartLemmas.{both_ok}
use Rattle.zoning.proofs.HeldLemmas.{are_stays, asked_inside}
use Rattle.zoning.proofs.stay.stays_of.Goals as goal

pub stays_in-requires : goal.stays_in-requires
stays_in-requires c =
    let asked = c.in-Some.asked in
    let is = c.in_ok-cuts-in-Some.ensures in
    subst AllInside (sym c.deref.ensures.value) (asked_inside c.args.leg.now c.args.period.now asked.course asked.first asked.last c.in-Some.ensures c.in_ok-cuts-in-Some.cuts.items is.between)

pub returns-in_ok-cuts-in-Some : goal.returns-in_ok-cuts-in-Some
returns-in_ok-cuts-in-Some c =
    let asked = c.in-Some.asked in
    let leg = c.args.leg.now in
    let cuts = c.in_ok-cuts-in-Some.cuts.items in
    let is = c.in_ok-cuts-in-Some.ensures in
    both_ok c.stays_in.result _ _ _
    (λ stays h each.
    are_stays leg c.args.period.now asked.course asked.first asked.last c.in-Some.ensures c.args.rings.now cuts stays.items is
    (subst (λ (l : List Cut). AreOver leg l stays.items) c.deref.ensures.value h) each) c.stays_in.ensures.over c.stays_in.ensures.each
