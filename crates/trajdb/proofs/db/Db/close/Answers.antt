use Rattle.std.proofs.Common.{rules, ◌≡◌, ◌∙◌, ap, sym, subst, true, false}
use Rattle.std.specs.Prelude.{◌⊎◌, IfErr, OnErr, OnOk}
use Rattle.legs.specs.Book.{Book}
use Rattle.std.proofs.lemmas.Bool.{false≢true}
use Rattle.pages.specs.Store.{Keeps, Store, IsLawful, IsSynced, IsSyncedButFirst}
use Rattle.pagecache.specs.Cache.{IsSettled}
use Rattle.boxsearch.specs.Index.{content, IndexView, IsMarked, IsSoundIndex}
use Rattle.catalogue.specs.Closing.{IsNoStoreFault}
use Rattle.catalogue.specs.Closing as closing
use Rattle.catalogue.specs.Holding.{HoldsBook, HoldsButFirst, IsOfBook, IsUnfinishedStore}
use Rattle.register.specs.Saved.{CatalogueView}
use Rattle.register.specs.Saving.{IsSavingStop}
use Rattle.trajdb.specs.Db.{DbView, IsSoundDb}
use Rattle.trajdb.specs.Faults.{closed_answer}
use Rattle.trajdb.specs.Promises.{CloseCall}
use Rattle.trajdb.specs.Lasting.{IsIdle, IsSafe}
use Rattle.trajdb.proofs.LastingLemmas.{rest_book, closed_caused, closed_holds, closed_only, closed_ordered, closed_refused, closed_then, closed_unfinished}
use Rattle.catalogue.proofs.RestLemmas.{rest_holds}
use Rattle.trajdb.proofs.SafeLemmas.{left_safe}
use Rattle.trajdb.proofs.db.Db.close.Goals as goal

pub returns-then-failed : goal.returns-then-failed
returns-then-failed g c = record {
  holds = search rules;
  synced = search rules;
  only = search rules;
  unfinished = search rules;
  refused = search rules;
  ordered = λ lives.
      let failed : c.self.inside.core.failed ≡ true = sym (λ i. (c.self-inside.view_is i).core.failed) ∙ c.if-failed.true in
      absurd (false≢true (sym lives ∙ sym (ap (λ (d : DbView). d.failed) c.self.view_is) ∙ failed));
  idle = search rules;
  failed = search rules;
  keeps = search rules;
  safe = λ failed was safe.
      let index = c.into_parts-catalogue.ensures.index in
      let lawful = subst (λ (x : IndexView). IsLawful x.cache.store) index c.rest.ensures.lawful in
      let store = c.rest.ensures.store ∙ ap (λ (x : IndexView). x.cache.store) index in
      left_safe was c.self.inside.core (g.S.PageStore.seen c.rest.result) store lawful (subst (IsSafe was) (sym c.self.view_is) safe);
  caused = search rules;
}

pub returns-then-not-begun : goal.returns-then-not-begun
returns-then-not-begun g c = record {
  holds = λ sound pages idle.
      let core = c.self.inside.core in
      let is = c.self.view_is in
      let index = c.into_parts-catalogue.ensures.index in
      let begun : core.begun ≡ false = sym (λ i. (c.self-inside.view_is i).core.begun) ∙ c.if-not-begun.true in
      let lives : core.failed ≡ false = sym (λ i. (c.self-inside.view_is i).core.failed) ∙ c.if-failed.false in
      let lawful = subst (λ (x : IndexView). IsLawful x.cache.store) index c.rest-then-not-begun.ensures.lawful in
      let settled = subst (λ (x : IndexView). IsSettled x.cache) index c.rest-then-not-begun.ensures.settled in
      let store = c.rest-then-not-begun.ensures.store ∙ ap (λ (x : IndexView). x.cache.store) index in
      subst (λ (d : DbView). HoldsBook (g.S.PageStore.seen c.rest-then-not-begun.result) d.index.tree.shape d.limits d.book) is
      (subst (λ (s : Store). HoldsBook s core.index.tree.shape core.limits core.book) (sym store)
      (rest_book rest_holds core c.into_parts-catalogue.ensures.legs lawful settled (subst IsSoundDb (sym is) sound) (subst IsIdle (sym is) idle) begun lives));
  synced = λ begun.
      let rests : c.self.inside.core.begun ≡ false = sym (λ i. (c.self-inside.view_is i).core.begun) ∙ c.if-not-begun.true in
      absurd (false≢true (sym rests ∙ ap (λ (d : DbView). d.begun) c.self.view_is ∙ begun));
  only = search rules;
  unfinished = search rules;
  refused = search rules;
  ordered = search rules;
  idle = search rules;
  failed = search rules;
  keeps = search rules;
  safe = search rules;
  caused = search rules;
}

pub returns : goal.returns
returns g c =
    let core = c.self.inside.core in
    let answer = c.close-store.result.1 in
    let s = g.S.PageStore.seen c.close-store.result.0 in
    let parts = c.into_parts-catalogue.result.0 in
    let of = c.into_parts-catalogue.ensures in
    let begun : core.begun ≡ true = sym (λ i. (c.self-inside.view_is i).core.begun) ∙ c.if-not-begun.false in
    let lives : core.failed ≡ false = sym (λ i. (c.self-inside.view_is i).core.failed) ∙ c.if-failed.false in
    let closes : CloseCall core s (closed_answer answer) = record {
      holds =
          let first = subst (λ (x : IndexView). OnOk answer (IsSoundIndex x → IsMarked x.cache → (book : Book) → IsOfBook parts.limits book parts → content x ≡ book.legs → HoldsBook s x.tree.shape parts.limits book)) of.index c.close-store.ensures.call.holds in
          let second = subst (λ (k : CatalogueView). OnOk answer (IsSoundIndex core.index → IsMarked core.index.cache → (book : Book) → IsOfBook k.limits book k → content core.index ≡ book.legs → HoldsBook s core.index.tree.shape k.limits book)) of.catalogue first in
          closed_holds core s answer of.legs second begun;
      synced = closed_then (core.begun ≡ true) (IsSynced s) answer c.close-store.ensures.call.synced;
      only =
          let first = subst (λ (x : IndexView). IfErr answer (λ fault. IsSoundIndex x → (book : Book) → IsOfBook parts.limits book parts → content x ≡ book.legs → IsSavingStop fault)) of.index c.close-store.ensures.call.only in
          let second = subst (λ (k : CatalogueView). IfErr answer (λ fault. IsSoundIndex core.index → (book : Book) → IsOfBook k.limits book k → content core.index ≡ book.legs → IsSavingStop fault)) of.catalogue first in
          closed_only core answer of.legs second;
      unfinished =
          let first = subst (λ (x : IndexView). IfErr answer (λ fault. IsNoStoreFault fault → IsMarked x.cache → IsUnfinishedStore s)) of.index c.close-store.ensures.call.unfinished in
          closed_unfinished core s answer first begun;
      refused =
          let first = subst (λ (x : IndexView). OnErr answer (IsSoundIndex x → IsMarked x.cache → (book : Book) → IsOfBook parts.limits book parts → content x ≡ book.legs → IsUnfinishedStore s ⊎ HoldsButFirst s x.tree.shape parts.limits book)) of.index c.close-store.ensures.call.refused in
          let second = subst (λ (k : CatalogueView). OnErr answer (IsSoundIndex core.index → IsMarked core.index.cache → (book : Book) → IsOfBook k.limits book k → content core.index ≡ book.legs → IsUnfinishedStore s ⊎ HoldsButFirst s core.index.tree.shape k.limits book)) of.catalogue first in
          closed_refused core s answer of.legs second begun;
      ordered =
          let first = subst (λ (x : IndexView). OnErr answer (IsMarked x.cache → IsUnfinishedStore s ⊎ IsSyncedButFirst s)) of.index c.close-store.ensures.call.ordered in
          closed_ordered core s answer first;
      idle = λ _ rests. absurd (false≢true (sym rests ∙ begun));
      failed = λ failed. absurd (false≢true (sym lives ∙ failed));
      keeps = subst (λ (x : IndexView). Keeps x.cache.store s) of.index c.close-store.ensures.call.keeps;
      safe = λ failed. absurd (false≢true (sym lives ∙ failed));
      caused =
          let first = subst (λ (x : IndexView). IfErr answer (closing.IsClosingFault x.cache.store s)) of.index c.close-store.ensures.call.caused in
          closed_caused core s answer first;
    } in
    subst (λ r. CloseCall c.args.self s r) (sym c.closed.ensures) (subst (λ (d : DbView). CloseCall d s (closed_answer answer)) c.self.view_is closes)
