use Rattle.std.proofs.Common.{◌<◌, ◌≡◌, ◌∙◌, All, length, ℕ}
use Rattle.std.specs.Global.{Vec}
use Rattle.trajdb.specs.Answers.{HoldsOfFeature, names_text}
use Rattle.trajdb.proofs.FaultLemmas.{features_there}
use Rattle.trajdb.proofs.TellingLemmas.{shown_call, shown_names, some_names}
use Rattle.trajdb.proofs.database.Core.features_text.Goals as goal

pub returns : goal.returns
returns g c =
    let old = c.args.self.now in
    let now = c.features_for.new.self in
    let features = c.in_ok-features.features.items in
    let book = c.in_ok-features.ensures.leaves.book in
    let same = c.as_slice.ensures.value in
    let text_is = shown_names old.book now.book c.as_slice.result.now features book same in
    shown_call g.I.Listed old now c.in_ok-features.features c.names_text.result (λ (text : Vec ℕ). text.items ≡ names_text now.book c.as_slice.result.now)
    (All (λ feature. feature < length now.book.names) c.as_slice.result.now) _ _ _ _ _ _ _ c.in_ok-features.ensures c.names_text.ensures (λ text made right. (features, right, made ∙ text_is)) (λ text made there told few. (features, told few, made ∙ text_is))
    (λ fault text. some_names g.I.Listed old _ c.args.period.now fault text)
    (λ sound right. features_there old.book now.book (HoldsOfFeature c.args.predicate c.args.rect.now c.args.period.now old.book.legs) c.as_slice.result.now features book same right)
