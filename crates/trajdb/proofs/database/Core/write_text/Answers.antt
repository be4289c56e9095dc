use Rattle.std.proofs.Common.{◌∙◌, ap, rules, sym, All}
use Rattle.std.proofs.lemmas.Result.{IfErr-weaker, IfOk-weaker}
use Rattle.legs.specs.Book.{Book}
use Rattle.legs.specs.Law.{IsThere}
use Rattle.trajdb.specs.Database.{CoreView}
use Rattle.trajdb.proofs.AnswerLemmas.{write_text-is}
use Rattle.trajdb.proofs.FaultLemmas.{text_refused, there_all}
use Rattle.trajdb.proofs.database.Core.write_text.Goals as goal

pub returns-in-Some : goal.returns-in-Some
returns-in-Some g c =
    let old = c.args.self.now in
    let same = c.in_ok-legs.ensures.leaves.book in
    let value = c.as_slice.ensures.value in
    record {
      found = IfOk-weaker c.file_text.result _ _ (λ text h s.
          let head = ap (λ (b : Book). b.head) (sym same) ∙ sym (ap (λ (v : CoreView g.row.I.Denot). v.book.head) c.self-2.view_is) ∙ c.in-Some.is in
          h ∙ write_text-is old.book _ c.in-Some.head c.as_slice.result.now head same (value ∙ c.in_ok-legs.ensures.found s)) c.file_text.ensures.made;
      says = search rules;
      named = search rules;
      asks = search rules;
      leaves = search rules;
      refused = IfErr-weaker c.file_text.result _ _ (λ fault text.
          text_refused g.I.Listed old c.all_legs.new.self (All (IsThere c.all_legs.new.self.book) c.as_slice.result.now) fault text (λ sound.
          there_all old.book c.all_legs.new.self.book c.as_slice.result.now sound.law.ordered.there same (value ∙ c.in_ok-legs.ensures.found sound))) c.file_text.ensures.fault;
    }
