use Rattle.std.proofs.Common.{List, sym, subst}
use Rattle.legs.specs.Legs.{LegView}
use Rattle.predicates.specs.declared.Predicate.TheVariants.{Ever}
use Rattle.trajdb.specs.Answers.{HoldsOfLeg}
use Rattle.trajdb.specs.Picks.{Picks}
use Rattle.moments.specs.Stays.{AreStays}
use Rattle.moments.proofs.EverLemmas.{legs_of_stays, stays_of_all}
use Rattle.moments.proofs.asking.stays.Goals as goal

pub returns-clause-found : goal.returns-clause-found
returns-clause-found g c = λ s.
    let rect = c.args.rect.now in
    let period = c.args.period.now in
    let near = c.in_ok-legs.legs.items in
    let stays = c.in_ok-stays_of.field-0.items in
    let are = subst (λ (l : List LegView). AreStays rect period l stays) c.as_slice.ensures.value c.in_ok-stays_of.ensures.stays in
    stays_of_all rect period c.args.db.now.book.legs near stays (c.in_ok-legs.ensures.found s) are

pub returns-clause-ever : goal.returns-clause-ever
returns-clause-ever g c = λ s.
    let rect = c.args.rect.now in
    let period = c.args.period.now in
    let near = c.in_ok-legs.legs.items in
    let stays = c.in_ok-stays_of.field-0.items in
    let are = subst (λ (l : List LegView). AreStays rect period l stays) c.as_slice.ensures.value c.in_ok-stays_of.ensures.stays in
    let picks = c.in_ok-legs.ensures.found s in
    subst (λ (l : List LegView). Picks (HoldsOfLeg Ever rect period) c.args.db.now.book.legs l) (sym (legs_of_stays rect period c.args.db.now.book.legs near stays picks are)) picks

pub returns-clause-says : goal.returns-clause-says
returns-clause-says g c =
    let rect = c.args.rect.now in
    let period = c.args.period.now in
    let near = c.in_ok-legs.legs.items in
    let stays = c.in_ok-stays_of.field-0.items in
    let are = subst (λ (l : List LegView). AreStays rect period l stays) c.as_slice.ensures.value c.in_ok-stays_of.ensures.stays in
    let told = c.in_ok-legs.ensures.says in
    (told.0, told.1, stays_of_all rect period told.0 near stays told.2 are)
