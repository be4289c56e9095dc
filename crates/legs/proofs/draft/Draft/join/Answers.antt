use Rattle.std.proofs.Common.{◌∙◌, ap, sym}
use Rattle.mfcsv.specs.Views.{RecordView}
use Rattle.legs.specs.Book.{Book, feature_named}
use Rattle.legs.specs.Drafts.{IsDraft, latest_of}
use Rattle.legs.proofs.draft.Draft.join.Goals as goal

pub returns-in_ok-add-in-None-clause-takes : goal.returns-in_ok-add-in-None-clause-takes
returns-in_ok-add-in-None-clause-takes c =
    let named = c.as_str-2.ensures ∙ ap (λ (r : RecordView). r.mfidref) c.record.view_is in
    let first = c.as_str.ensures ∙ ap (λ (r : RecordView). r.mfidref) c.record.view_is in
    let at = c.find-place.ensures.value ∙ ap (feature_named c.args.self.now.names.names) (first ∙ sym named) in
    let is = λ (book : Book) (draft : IsDraft c.args.self.now book). c.latest-latest.ensures at draft.few_names ∙ draft.known c.as_str-2.result.now ∙ ap (latest_of book) named in
    let added = c.in_ok-add-in-None.ensures in
    record {
      book = λ book draft _. added.book book draft (is book draft);
      legs = λ book draft _. added.legs book draft (is book draft);
      names = added.names;
      rows = added.rows;
      tracks = added.tracks;
      few_rows = added.few_rows;
    }
