use Rattle.std.proofs.Common.{List, subst, sym}
use Rattle.zoning.specs.Stays.{AreStays}
use Rattle.zoning.specs.declared.stay.Stay.{Stay}
use Rattle.zoning.proofs.site.Site.course_of.Goals as goal

pub returns : goal.returns
returns c =
    c.course_of_stays.ensures c.args.self.now
    (subst (λ (l : List Stay). AreStays c.args.self.now c.args.leg.now c.args.period.now l) (sym c.deref.ensures.value) c.in_ok-stays.ensures)
