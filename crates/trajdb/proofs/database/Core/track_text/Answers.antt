use Rattle.std.proofs.Common.{◌∙◌, ap}
use Rattle.legs.specs.Book.{feature_named}
use Rattle.trajdb.specs.Answers.{legs_text}
use Rattle.trajdb.proofs.FaultLemmas.{there_track}
use Rattle.trajdb.proofs.TellingLemmas.{named_names, shown_legs_call}
use Rattle.trajdb.proofs.database.Core.track_text.Goals as goal

pub returns : goal.returns
returns g c =
    let old = c.args.self.now in
    let same = c.as_slice.ensures.value in
    shown_legs_call g.I.Listed old c.legs_of.new.self c.in_ok-legs.legs c.as_slice.result.now c.legs_text.result _ _ _ _ _ _ _ c.in_ok-legs.ensures c.legs_text.ensures same
    (λ text e right. e ∙ ap (legs_text old.book) right) (λ text shows told few. (c.in_ok-legs.legs.items, told few, shows)) (λ fault text. named_names g.I.Listed old _ c.args.name.now fault text)
    (λ sound right. there_track old.book c.legs_of.new.self.book (feature_named old.book.names c.args.name.now) c.as_slice.result.now sound.law.ordered.there c.in_ok-legs.ensures.leaves.book (same ∙ right))
