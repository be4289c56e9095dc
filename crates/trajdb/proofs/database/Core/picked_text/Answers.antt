use Rattle.std.proofs.Common.{◌∙◌, Err, ap}
use Rattle.std.proofs.lemmas.Result.{err_from_is_err_and}
use Rattle.legs.specs.Questions.{InBox}
use Rattle.predicates.specs.Near.{box_near}
use Rattle.trajdb.specs.Answers.{HoldsOfLeg}
use Rattle.trajdb.proofs.FaultLemmas.{there_picked}
use Rattle.trajdb.proofs.TellingLemmas.{denied_names, legs_names, refused_call, shown_legs_call}
use Rattle.trajdb.proofs.database.Core.picked_text.Goals as goal

pub returns : goal.returns
returns g c =
    let old = c.args.self.now in
    let query = box_near c.args.predicate c.args.rect.now c.args.period.now in
    let same = c.as_slice.ensures.value in
    shown_legs_call g.I.Listed old c.legs_for.new.self c.in_ok-legs.legs c.as_slice.result.now c.legs_text.result _ _ _ _ _ _ _ c.in_ok-legs.ensures c.legs_text.ensures same
    (λ text e right. (c.in_ok-legs.legs.items, right, e)) (λ text shows told. (c.in_ok-legs.legs.items, told, shows)) (λ fault text. legs_names g.I.Listed old _ (InBox query) fault text)
    (λ sound right. there_picked old.book c.legs_for.new.self.book (HoldsOfLeg c.args.predicate c.args.rect.now c.args.period.now) c.as_slice.result.now c.in_ok-legs.legs.items
    sound.law.ordered.there c.in_ok-legs.ensures.leaves.book same right)

pub returns-in_err-legs : goal.returns-in_err-legs
returns-in_err-legs g c =
    let p = err_from_is_err_and c.from_residual.result c.from_residual.ensures.1 in
    refused_call g.I.Listed c.args.self.now c.legs_for.new.self c.from_residual.result _ _ _ _ _ _ _ _ _ (p.1 ∙ ap Err p.2) c.in_err-legs.ensures
    (λ h. denied_names g.I.Listed c.args.self.now (InBox (box_near c.args.predicate c.args.rect.now c.args.period.now)) _ h)
