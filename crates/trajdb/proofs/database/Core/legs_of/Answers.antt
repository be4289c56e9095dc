use Rattle.std.proofs.Common.{◌≡◌, ◌≤◌, ◌∙◌, sym, arith, inl, length, rules, Some, None}
use Rattle.std.proofs.lemmas.Result.{err_from_is_err_and}
use Rattle.legs.specs.Asking.{Denies}
use Rattle.legs.specs.Book.{feature_named}
use Rattle.legs.specs.Limits.{greatest_limit}
use Rattle.legs.specs.Questions.{OfFeature}
use Rattle.trajdb.specs.Telling.{DeniesNamed}
use Rattle.trajdb.proofs.TellingLemmas.{denied_of, told_none, told_of}
use Rattle.trajdb.proofs.database.Core.legs_of.Goals as goal

pub returns-in_ok-track-in-Some : goal.returns-in_ok-track-in-Some
returns-in_ok-track-in-Some g c =
    let names = c.args.self.now.book.names in
    let there : length c.args.self.now.book.names ≤ greatest_limit → feature_named c.args.self.now.book.names c.args.name.now ≡ Some c.in-Some.feature =
    rw (← c.self.view_is) (λ few. sym (c.feature.ensures (omega (arith, few))) ∙ c.in-Some.is) in
    let told : g.I.Listed.tells c.args.self.now.index (OfFeature c.in-Some.feature None) c.in_ok-track-in-Some.field-0.items = rw (← c.self.view_is) c.in_ok-track-in-Some.ensures.told in
    record {
      found = search rules;
      says = told_of g.I.Listed c.args.self.now (length names ≤ greatest_limit) (feature_named names c.args.name.now) c.in-Some.feature there c.in_ok-track-in-Some.field-0.items told;
      named = tt;
      asks = search rules;
      leaves = search rules;
      refused = tt;
    }

pub returns-in_err-track-in-Some : goal.returns-in_err-track-in-Some
returns-in_err-track-in-Some g c =
    let denied : Denies g.I.Listed c.args.self.now.index (OfFeature c.in-Some.feature None) c.in_err-track-in-Some.field-0.0 = rw (← c.self.view_is) c.in_err-track-in-Some.ensures.told in
    let there : length c.args.self.now.book.names ≤ greatest_limit → feature_named c.args.self.now.book.names c.args.name.now ≡ Some c.in-Some.feature =
    rw (← c.self.view_is) (λ few. sym (c.feature.ensures (omega (arith, few))) ∙ c.in-Some.is) in
    let p = err_from_is_err_and c.from_residual.result c.from_residual.ensures.1 in
    record {
      found = search rules;
      says = search rules;
      named = rw (p.1, p.2) (denied_of g.I.Listed c.args.self.now (OfFeature c.in-Some.feature None) (DeniesNamed g.I.Listed c.args.self.now c.args.name.now) c.in_err-track-in-Some.field-0.0 (λ page h. inl (c.in-Some.feature, there, h)) denied);
      asks = search rules;
      leaves = search rules;
      refused = search rules;
    }

pub returns-in-None : goal.returns-in-None
returns-in-None g c =
    let names = c.args.self.now.book.names in
    let there : length c.args.self.now.book.names ≤ greatest_limit → feature_named c.args.self.now.book.names c.args.name.now ≡ None =
    rw (← c.self.view_is) (λ few. sym (c.feature.ensures (omega (arith, few))) ∙ c.in-None.is) in
    record {
      found = search rules;
      says = λ few. told_none g.I.Listed c.args.self.now (feature_named names c.args.name.now) c.new.result.items (there few) c.new.ensures.items;
      named = tt;
      asks = search rules;
      leaves = search rules;
      refused = tt;
    }
