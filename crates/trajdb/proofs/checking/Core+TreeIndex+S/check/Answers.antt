use Rattle.std.proofs.Common.{rules, ◌≡◌, ◌∙◌, Err, ap, inr, sym, subst, length, false}
use Rattle.std.proofs.lemmas.Bool.{true≢false}
use Rattle.std.proofs.lemmas.Result.{err_from_is_err_and}
use Rattle.pagecache.specs.Cache.{IsSettled}
use Rattle.boxsearch.specs.Index.{words}
use Rattle.boxsearch.proofs.FlushLemmas.{in_turn, marked_of}
use Rattle.catalogue.proofs.StateLemmas.{marked_state, rest_state}
use Rattle.trajdb.specs.Db.{DbView}
use Rattle.trajdb.specs.Faults.{run_fault_of}
use Rattle.trajdb.specs.declared.RunFault.TheVariants.{Failed}
use Rattle.trajdb.proofs.FaultLemmas.{leaves-trans}
use Rattle.trajdb.proofs.PageLemmas.{clash, keeps_leaves}
use Rattle.trajdb.proofs.SoundLemmas.{failed_spent, has_pages_of, law_of, question_fault, says_of, says_still, sound_of, tracks_of}
use Rattle.trajdb.proofs.checking.Core+TreeIndex+S.check.Goals as goal

pub returns-then-self : goal.returns-then-self
returns-then-self g c = record {
  sound = search rules;
  has_pages = search rules;
  report = search rules;
  lives = search rules;
  only = search rules;
  works = search rules;
  leaves = search rules;
  payloads = search rules;
  written = search rules;
  pages = search rules;
  store = search rules;
  was_failed = search rules;
}

pub returns-in_err-flush : goal.returns-in_err-flush
returns-in_err-flush g c =
    let p = err_from_is_err_and c.from_residual.result c.from_residual.ensures.1 in
    let lives : c.args.self.now.failed ≡ false = sym (ap (λ (d : DbView). d.failed) c.self.view_is) ∙ c.if-self.false in
    record {
      sound = search rules;
      has_pages = search rules;
      report = search rules;
      lives = search rules;
      only = rw (p.1, p.2) (λ sound pages idle l. question_fault c.in_err-flush.field-0.0 (c.in_err-flush.ensures.refusals.sound sound.index));
      works = search rules;
      leaves = c.flush.ensures.leaves;
      payloads = search rules;
      written = search rules;
      pages = keeps_leaves words c.args.self.now c.flush.new.self c.flush.ensures.leaves;
      store = search rules;
      was_failed = λ f. absurd (clash c.args.self.now.failed f lives);
    }

pub returns-in_err-check_index : goal.returns-in_err-check_index
returns-in_err-check_index g c =
    let p = err_from_is_err_and c.from_residual-in_err-check_index.result c.from_residual-in_err-check_index.ensures.1 in
    let old = c.args.self.now in
    let mid = c.flush.new.self in
    let lives : old.failed ≡ false = sym (ap (λ (d : DbView). d.failed) c.self.view_is) ∙ c.if-self.false in
    let leaves = leaves-trans words old mid c.check_index.new.self c.flush.ensures.leaves c.check_index.ensures.leaves in
    record {
      sound = search rules;
      has_pages = search rules;
      report = search rules;
      lives = search rules;
      only = rw (p.1, p.2) (λ sound pages idle l.
          let s = c.flush.ensures.leaves.sound sound in
          let settled = subst (λ (d : DbView). IsSettled d.index.cache) c.self.view_is c.page_count.ensures.settled in
          let says = says_of old rest_state marked_state settled sound pages idle lives in
          question_fault c.in_err-check_index.field-0.0 (c.in_err-check_index.ensures.only s.index (tracks_of mid s.tracks.names c.flush.ensures.legs s) (says_still old mid c.flush.ensures.leaves.begun (c.flush.ensures.payloads sound.index.faithful 0) says)));
      works = rw (p.1, p.2) (λ failed.
          let same : run_fault_of c.in_err-check_index.field-0.0 ≡ Failed = cc in
          let spent = failed_spent c.in_err-check_index.field-0.0 same in
          inr (sym c.flush.ensures.leaves.index.spent ∙ c.in_err-check_index.ensures.works (ap Err spent)));
      leaves = leaves;
      payloads = search rules;
      written = search rules;
      pages = keeps_leaves words old c.check_index.new.self leaves;
      store = search rules;
      was_failed = λ f. absurd (clash old.failed f lives);
    }

pub returns-then-not-keeps_law : goal.returns-then-not-keeps_law
returns-then-not-keeps_law g c =
    let old = c.args.self.now in
    let new = c.check_index.new.self in
    let lives : old.failed ≡ false = sym (ap (λ (d : DbView). d.failed) c.self.view_is) ∙ c.if-self.false in
    let leaves = leaves-trans words old c.flush.new.self new c.flush.ensures.leaves c.check_index.ensures.leaves in
    record {
      sound = search rules;
      has_pages = search rules;
      report = search rules;
      lives = search rules;
      only = λ sound pages idle l.
          let s = leaves.sound sound in
          absurd (true≢false (sym (c.keeps_law.ensures.1 (law_of new c.check_index.ensures.names c.check_index.ensures.legs s)) ∙ c.if-not-keeps_law.true));
      works = search rules;
      leaves = leaves;
      payloads = search rules;
      written = search rules;
      pages = keeps_leaves words old new leaves;
      store = search rules;
      was_failed = λ f. absurd (clash old.failed f lives);
    }

pub returns : goal.returns
returns g c =
    let old = c.args.self.now in
    let new = c.check_index.new.self in
    let e = c.in_ok-check_index.ensures in
    let lives : old.failed ≡ false = sym (ap (λ (d : DbView). d.failed) c.self.view_is) ∙ c.if-self.false in
    let leaves = leaves-trans words old c.flush.new.self new c.flush.ensures.leaves c.check_index.ensures.leaves in
    record {
      sound = λ fa.
          let mid = c.flush.ensures.leaves.index.later.faithful fa in
          sound_of new e.names e.legs (in_turn new.index (e.sound mid)) e.limits (e.sound mid) (e.tracks mid) (c.keeps_law.ensures.0 c.if-not-keeps_law.false);
      has_pages = λ fa.
          let mid = c.flush.ensures.leaves.index.later.faithful fa in
          let settled = subst (λ (d : DbView). IsSettled d.index.cache) c.self-2.view_is c.page_count-2.ensures.settled in
          let clean = e.leaves.index.clean c.in_ok-flush.ensures.written in
          has_pages_of new (marked_of new.index (e.sound mid) settled clean) clean (e.says mid);
      report = λ fa.
          let mid = c.flush.ensures.leaves.index.later.faithful fa in
          let tracks = e.tracks mid in
          let is = c.self-2.view_is in
          record {
            pages = c.page_count-2.ensures.value ∙ ap (λ (d : DbView). d.index.cache.count) is ∙ (e.sound mid).count;
            legs = c.leg_count.ensures ∙ ap (λ (d : DbView). d.tracks.legs) is ∙ tracks.legs_are ∙ ap length e.legs;
            features = c.feature_count.ensures ∙ ap (λ (d : DbView). length d.tracks.names) is ∙ ap length e.names;
          };
      lives = leaves.failed ∙ lives;
      only = search rules;
      works = search rules;
      leaves = leaves;
      payloads = search rules;
      written = search rules;
      pages = keeps_leaves words old new leaves;
      store = search rules;
      was_failed = λ f. absurd (clash old.failed f lives);
    }
