use Rattle.std.proofs.Common.{◌∙◌, Some, rules, sym}
use Rattle.std.proofs.lemmas.Result.{err_from_is_err_and}
use Rattle.legs.specs.Asking.{Denies}
use Rattle.legs.specs.Book.{Book}
use Rattle.legs.specs.Questions.{OfFeature}
use Rattle.trajdb.proofs.TellingLemmas.{denied_of}
use Rattle.trajdb.proofs.database.Core.live_legs.Goals as goal
use Rattle.legs.proofs.SieveLaws.{sieved_same}

pub returns-then-is_over : goal.returns-then-is_over
returns-then-is_over g c = record {
  found = rw (← c.self.view_is) (λ s.
      let book : Book = record { head = c.self.inside.head; names = c.self.inside.tracks.names; legs = g.I.Listed.content c.self.inside.index; rows = c.self.inside.rows } in
      sieved_same c.args.sieve.now c.args.period.now _ c.new.result.items
      (c.new.ensures.items ∙ sym (c.is_over.ensures.none c.if-is_over.true c.self.inside.limits book s.tracks s.law (g.met.I.LegIndex.lawful c.self.inside.index s.index))));
  says = search rules;
  named = tt;
  asks = search rules;
  leaves = search rules;
  refused = tt;
}

pub returns-in_err-track_in : goal.returns-in_err-track_in
returns-in_err-track_in g c =
    let denied : Denies g.I.Listed c.args.self.now.index (OfFeature c.args.feature (Some c.args.period.now)) c.in_err-track_in.field-0.0 = rw (← c.self.view_is) c.in_err-track_in.ensures.told in
    let p = err_from_is_err_and c.from_residual.result c.from_residual.ensures.1 in
    record {
      found = search rules;
      says = search rules;
      named = rw (p.1, p.2) (denied_of g.I.Listed c.args.self.now (OfFeature c.args.feature (Some c.args.period.now)) _ c.in_err-track_in.field-0.0 (λ page h. h) denied);
      asks = search rules;
      leaves = search rules;
      refused = search rules;
    }
