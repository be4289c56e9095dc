use Rattle.std.proofs.Common.{◌<◌, ℕ, List, All, length, subst, arith}
use Rattle.std.proofs.lemmas.List.{take_all}
use Rattle.std.proofs.lemmas.List.Elements.{All-more}
use Rattle.moments.specs.declared.visits.Visit.{Visit}
use Rattle.trajdb.specs.Calls.{IsText}
use Rattle.reports.specs.StayTexts.{times_text, visit_text}
use Rattle.reports.proofs.TextLemmas.{kept_fault, text_of_all, texts_all, texts_with, visit_of_parts}
use Rattle.reports.proofs.moments_text.push_visits.Goals as goal

pub loop-visit-preserved : goal.loop-visit-preserved
unfolding visit_text
loop-visit-preserved g c =
    let book = c.args.database.now.book in
    let P : Visit → Type 0 = λ visit. visit.feature < length book.names in
    let f : Visit → List ℕ = visit_text book c.args.frame.now in
    let within : c.loop-visit.visit-index < length c.args.visits.now = omega (arith, c.loop-visit-test.true) in
    record {
      there = All-more P c.args.visits.now c.loop-visit.visit-index c.visit-item.result within c.loop-visit.invariant.there (subst P c.visit-item.is c.in_ok-push_labelled.ensures.there);
      text = texts_with f _ c.args.visits.now c.loop-visit.visit-index c.visit-item.result _ _ within c.visit-item.is c.loop-visit.invariant.text
          (visit_of_parts c.loop-visit.text.items _ _ _ _ (times_text c.args.frame.now.base c.visit-item.result.enters c.visit-item.result.leaves) _ _ _ _ _ c.in_ok-push_labelled.ensures.text c.in_ok-push_visit_rest.ensures.text);
    }

pub returns-clause-there : goal.returns-clause-there
returns-clause-there g c =
    let P : Visit → Type 0 = λ visit. visit.feature < length c.args.database.now.book.names in
    subst (λ (xs : List Visit). All P xs) (take_all c.loop-visit.visit-index c.args.visits.now (omega (arith, c.loop-visit-test.false))) c.loop-visit.invariant.there

pub returns-clause-text : goal.returns-clause-text
returns-clause-text g c =
    texts_all (visit_text c.args.database.now.book c.args.frame.now) c.args.text.now.items c.args.visits.now c.loop-visit.visit-index _ (omega (arith, c.loop-visit-test.false)) c.loop-visit.invariant.text

pub returns-in_err-push_labelled-clause-fault : goal.returns-in_err-push_labelled-clause-fault
returns-in_err-push_labelled-clause-fault g c =
    let P : Visit → Type 0 = λ visit. visit.feature < length c.args.database.now.book.names in
    kept_fault (IsText (All P c.args.visits.now)) c.from_residual.result c.in_err-push_labelled.field-0.0 c.from_residual.ensures.1
    (text_of_all P c.args.visits.now c.loop-visit.visit-index c.visit-item.result c.in_err-push_labelled.field-0.0 (omega (arith, c.loop-visit-test.true)) c.visit-item.is c.in_err-push_labelled.ensures.fault)
