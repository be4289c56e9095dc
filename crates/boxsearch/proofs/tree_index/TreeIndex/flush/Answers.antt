use Rattle.std.proofs.Common.{◌≡◌, subst, sym, false, OnOk, map}
use Rattle.std.specs.Prelude.{IfErr}
use Rattle.legs.specs.Index.{MayRefuse}
use Rattle.legs.specs.Asking.{Refusals}
use Rattle.pagecache.specs.Cache.{IsWritten}
use Rattle.pages.specs.Store.{IsSynced}
use Rattle.chains.specs.Reads.{OnlyReads}
use Rattle.boxsearch.specs.Answers.{of_cache}
use Rattle.boxsearch.specs.Index.{IndexView, words}
use Rattle.boxsearch.proofs.AnswerLemmas.{each_value}
use Rattle.boxsearch.proofs.FlushLemmas.{flush_reads, flush_refusals, flush_works, given_works}
use Rattle.boxsearch.specs.Beside.{with_cache}
use Rattle.boxsearch.proofs.AskedLemmas.{asked_leaves}
use Rattle.boxsearch.proofs.ResultLemmas.{of_same, seen_of}
use Rattle.boxsearch.proofs.tree_index.TreeIndex.flush.Goals as goal

pub returns-clause-written : goal.returns-clause-written
returns-clause-written g c =
    let new = c.flush.new.self in
    subst (λ r. OnOk r (IsWritten new)) (sym c.of_pages.ensures)
    (each_value (λ fault. of_cache fault) (λ _. IsWritten new) c.flush.result c.flush.ensures.written)

pub returns-clause-synced : goal.returns-clause-synced
returns-clause-synced g c =
    let new = c.flush.new.self in
    subst (λ r. OnOk r (IsSynced new.store)) (sym c.of_pages.ensures)
    (each_value (λ fault. of_cache fault) (λ _. IsSynced new.store) c.flush.result c.flush.ensures.synced)

pub returns-clause-reads : goal.returns-clause-reads
returns-clause-reads g c =
    let new = c.flush.new.self in
    subst (λ (i : IndexView). OnlyReads i.cache new) c.self.view_is (flush_reads c.self.inside.cache new c.flush.ensures.stays c.flush.ensures.unsynced c.flush.ensures.length c.flush.ensures.asked)

pub returns-clause-leaves : goal.returns-clause-leaves
returns-clause-leaves g c =
    let reads = flush_reads c.self.inside.cache c.flush.new.self c.flush.ensures.stays c.flush.ensures.unsynced c.flush.ensures.length c.flush.ensures.asked in
    asked_leaves c.self.view_is c.flush.new.self (map (λ spans. spans.items) c.new.result.items) reads

pub returns-clause-refusals : goal.returns-clause-refusals
returns-clause-refusals g c =
    let seen = seen_of c.self.view_is in
    let known = map (λ spans. spans.items) c.new.result.items in
    of_same (λ i r. Refusals words i (with_cache seen c.flush.new.self known) r) c.self.view_is c.of_pages.ensures (flush_refusals seen c.flush.new.self known c.flush.result c.if-self.false c.flush.ensures.cause)

pub returns-clause-works : goal.returns-clause-works
returns-clause-works g c =
    let w = subst (λ r. IfErr r MayRefuse) (sym c.of_pages.ensures) (flush_works (seen_of c.self.view_is) c.flush.new.self c.flush.result c.flush.ensures.cause) in
    given_works c.of_pages.result (c.args.self.now.tree.spent ≡ false) w
