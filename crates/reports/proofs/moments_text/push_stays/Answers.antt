use Rattle.std.proofs.Common.{◌≡◌, ◌++◌, ◌<◌, ℕ, List, All, length, subst, arith}
use Rattle.std.proofs.lemmas.List.{take_all}
use Rattle.std.proofs.lemmas.List.Elements.{All-more}
use Rattle.moments.specs.declared.stay.Stay.{Stay}
use Rattle.trajdb.specs.Calls.{IsText}
use Rattle.reports.specs.StayTexts.{name_text, stay_text, times_text}
use Rattle.reports.proofs.TextLemmas.{kept_fault, stay_of_parts, text_of_all, texts_all, texts_with}
use Rattle.reports.proofs.moments_text.push_stays.Goals as goal

pub loop-stay-preserved : goal.loop-stay-preserved
unfolding stay_text
loop-stay-preserved g c =
    let book = c.args.database.now.book in
    let P : Stay → Type 0 = λ stay. stay.leg.feature < length book.names in
    let f : Stay → List ℕ = stay_text book c.args.frame.now in
    let within : c.loop-stay.stay-index < length c.args.stays.now = omega (arith, c.loop-stay-test.true) in
    let stands : P c.stay-item.result = rw (← c.stay.view_is) c.in_ok-push_labelled.ensures.there in
    let named : c.push_labelled.new.text.items ≡ c.loop-stay.text.items ++ c.args.frame.now.label.now ++ name_text book c.stay-item.result.leg.feature = rw (← c.stay.view_is) c.in_ok-push_labelled.ensures.text in
    let more : c.push.new.self.items ≡ c.loop-stay.text.items ++ stay_text book c.args.frame.now c.stay-item.result =
    stay_of_parts c.loop-stay.text.items _ _ _ _ _ (times_text c.args.frame.now.base c.stay-item.result.enters c.stay-item.result.leaves) _ _ _ _ named c.in_ok-push_stay_rest.ensures.text c.in_ok-push.ensures.items in
    record {
      there = All-more P c.args.stays.now c.loop-stay.stay-index c.stay-item.result within c.loop-stay.invariant.there (subst P c.stay-item.is stands);
      text = texts_with f _ c.args.stays.now c.loop-stay.stay-index c.stay-item.result _ _ within c.stay-item.is c.loop-stay.invariant.text more;
    }

pub returns-clause-there : goal.returns-clause-there
returns-clause-there g c =
    let P : Stay → Type 0 = λ stay. stay.leg.feature < length c.args.database.now.book.names in
    subst (λ (xs : List Stay). All P xs) (take_all c.loop-stay.stay-index c.args.stays.now (omega (arith, c.loop-stay-test.false))) c.loop-stay.invariant.there

pub returns-clause-text : goal.returns-clause-text
returns-clause-text g c =
    texts_all (stay_text c.args.database.now.book c.args.frame.now) c.args.text.now.items c.args.stays.now c.loop-stay.stay-index _ (omega (arith, c.loop-stay-test.false)) c.loop-stay.invariant.text

pub returns-in_err-push_labelled-clause-fault : goal.returns-in_err-push_labelled-clause-fault
returns-in_err-push_labelled-clause-fault g c =
    let P : Stay → Type 0 = λ stay. stay.leg.feature < length c.args.database.now.book.names in
    let told : IsText (P c.stay-item.result) c.in_err-push_labelled.field-0.0 = rw (← c.stay.view_is) c.in_err-push_labelled.ensures.fault in
    kept_fault (IsText (All P c.args.stays.now)) c.from_residual.result c.in_err-push_labelled.field-0.0 c.from_residual.ensures.1
    (text_of_all P c.args.stays.now c.loop-stay.stay-index c.stay-item.result c.in_err-push_labelled.field-0.0 (omega (arith, c.loop-stay-test.true)) c.stay-item.is told)
