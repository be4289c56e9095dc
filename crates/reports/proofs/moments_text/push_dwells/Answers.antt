use Rattle.std.proofs.Common.{◌<◌, ℕ, List, All, length, subst, arith}
use Rattle.std.proofs.lemmas.List.{take_all}
use Rattle.std.proofs.lemmas.List.Elements.{All-more}
use Rattle.visiting.specs.declared.dwells.Dwell.{Dwell}
use Rattle.trajdb.specs.Calls.{IsText}
use Rattle.reports.specs.StayTexts.{dwell_text}
use Rattle.reports.proofs.TextLemmas.{dwell_of_parts, kept_fault, text_of_place, texts_all, texts_more}
use Rattle.reports.proofs.moments_text.push_dwells.Goals as goal

pub loop-dwell-preserved : goal.loop-dwell-preserved
unfolding dwell_text
loop-dwell-preserved g c =
    let book = c.args.database.now.book in
    let P : Dwell → Type 0 = λ dwell. dwell.feature < length book.names in
    let f : Dwell → List ℕ = dwell_text book c.args.label.now in
    let within : c.loop-dwell.dwell-index < length c.args.dwells.now = omega (arith, c.loop-dwell-test.true) in
    record {
      there = All-more P c.args.dwells.now c.loop-dwell.dwell-index (record { feature = 0; visits = 0; least = 0; most = 0 }) within c.loop-dwell.invariant.there c.in_ok-push_labelled.ensures.there;
      text = texts_more f _ c.args.dwells.now c.loop-dwell.dwell-index (record { feature = 0; visits = 0; least = 0; most = 0 }) _ _ within c.loop-dwell.invariant.text
          (dwell_of_parts c.loop-dwell.text.items _ _ _ _ _ _ _ _ c.in_ok-push_labelled.ensures.text c.in_ok-push_dwell_rest.ensures.text);
    }

pub returns-clause-there : goal.returns-clause-there
returns-clause-there g c =
    let P : Dwell → Type 0 = λ dwell. dwell.feature < length c.args.database.now.book.names in
    subst (λ (xs : List Dwell). All P xs) (take_all c.loop-dwell.dwell-index c.args.dwells.now (omega (arith, c.loop-dwell-test.false))) c.loop-dwell.invariant.there

pub returns-clause-text : goal.returns-clause-text
returns-clause-text g c =
    texts_all (dwell_text c.args.database.now.book c.args.label.now) c.args.text.now.items c.args.dwells.now c.loop-dwell.dwell-index _ (omega (arith, c.loop-dwell-test.false)) c.loop-dwell.invariant.text

pub returns-in_err-push_labelled-clause-fault : goal.returns-in_err-push_labelled-clause-fault
returns-in_err-push_labelled-clause-fault g c =
    let P : Dwell → Type 0 = λ dwell. dwell.feature < length c.args.database.now.book.names in
    kept_fault (IsText (All P c.args.dwells.now)) c.from_residual.result c.in_err-push_labelled.field-0.0 c.from_residual.ensures.1
    (text_of_place P c.args.dwells.now c.loop-dwell.dwell-index (record { feature = 0; visits = 0; least = 0; most = 0 }) c.in_err-push_labelled.field-0.0 (omega (arith, c.loop-dwell-test.true)) c.in_err-push_labelled.ensures.fault)
