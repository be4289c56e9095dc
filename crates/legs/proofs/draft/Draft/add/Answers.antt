use Rattle.std.proofs.Common.{ap, refl, rules, ◌∙◌, ◌++◌, List}
use Rattle.mfcsv.specs.Views.{RecordView}
use Rattle.legs.specs.Legs.{LegView}
use Rattle.legs.proofs.DraftLemmas.{added, appended, names_put, new_count-is}
use Rattle.legs.proofs.draft.Draft.add.Goals as goal

pub returns : goal.returns
returns c = record {
  book = λ book draft latest.
      added c.args.self.now _ book c.args.record.now c.as_str.result.now c.args.place c.args.latest c.feature_or_next-feature.result c.record.inside.t1 c.from.result c.leg_count.result c.leg_count.ensures.record draft latest refl
      (c.as_str.ensures ∙ ap (λ (r : RecordView). r.mfidref) c.record.view_is) c.requires.place c.in_ok-put.ensures
      c.feature_or_next-feature.ensures (ap (λ (r : RecordView). r.t1) c.record.view_is) (new_count-is c.args.latest c.is_none.result c.from.result c.is_none.ensures c.from.ensures) c.leg_count.ensures.count
      refl refl refl c.requires.few_legs c.requires.few_features;
  legs = λ book draft latest.
      c.in_ok-push_legs.ensures ∙ ap (λ (xs : List LegView). c.args.legs.now.items ++ xs) (appended c.args.self.now book c.args.record.now c.args.latest c.feature_or_next-feature.result draft latest c.feature_or_next-feature.ensures);
  names =
      names_put c.args.self.now.names _ c.args.place c.args.record.now.mfidref c.as_str.result.now _ c.in_ok-put.ensures (c.as_str.ensures ∙ ap (λ (r : RecordView). r.mfidref) c.record.view_is) c.requires.place;
  rows = refl;
  tracks = refl;
  few_rows = search rules;
}
