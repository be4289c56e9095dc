use Rattle.std.proofs.Common.{◌∙◌, Err, ap}
use Rattle.std.proofs.lemmas.Result.{err_from_is_err_and}
use Rattle.legs.specs.Boxes.{box_of, box_over, boxes_meet}
use Rattle.legs.specs.Questions.{InBox}
use Rattle.trajdb.specs.Answers.{legs_text}
use Rattle.trajdb.proofs.FaultLemmas.{there_among}
use Rattle.trajdb.proofs.TellingLemmas.{denied_names, legs_names, refused_call, shown_legs_call}
use Rattle.trajdb.proofs.database.Core.box_text.Goals as goal

pub returns : goal.returns
returns g c =
    let old = c.args.self.now in
    let query = box_over c.args.rect.now c.args.period.now in
    let same = c.as_slice.ensures.value in
    shown_legs_call g.I.Listed old c.legs_in.new.self c.in_ok-legs.legs c.as_slice.result.now c.legs_text.result _ _ _ _ _ _ _ c.in_ok-legs.ensures c.legs_text.ensures same
    (λ text e right. e ∙ ap (legs_text old.book) right) (λ text shows told. (c.in_ok-legs.legs.items, told, shows)) (λ fault text. legs_names g.I.Listed old _ (InBox query) fault text)
    (λ sound right. there_among old.book c.legs_in.new.self.book (λ leg. boxes_meet (box_of leg) query) c.as_slice.result.now sound.law.ordered.there c.in_ok-legs.ensures.leaves.book (same ∙ right))

pub returns-in_err-legs : goal.returns-in_err-legs
returns-in_err-legs g c =
    let p = err_from_is_err_and c.from_residual.result c.from_residual.ensures.1 in
    refused_call g.I.Listed c.args.self.now c.legs_in.new.self c.from_residual.result _ _ _ _ _ _ _ _ _ (p.1 ∙ ap Err p.2) c.in_err-legs.ensures
    (λ h. denied_names g.I.Listed c.args.self.now (InBox (box_over c.args.rect.now c.args.period.now)) _ h)
