use Rattle.std.proofs.Common.{◌≡◌, false, ap, subst, sym, ◌∙◌}
use Rattle.std.specs.Result.{is_ok}
use Rattle.std.proofs.lemmas.Bool.{true≢false}
use Rattle.pagecache.specs.Cache.{is_changed, Rests, IsRefused}
use Rattle.header.specs.Front.{IsUnfinished}
use Rattle.boxsearch.proofs.MarkLemmas.{already_marked, rests_marks, marks_trans, flushed_marks, is_marked, others_written, was_marked}
use Rattle.header.proofs.FrontLemmas.{marked_is}
use Rattle.boxsearch.proofs.ResultLemmas.{on_ok, on_fault, the_error}
use Rattle.boxsearch.proofs.marking.mark_page.Goals.{else-is_unfinished-via-then-is_unfinished+else-not-is_changed, else-is_unfinished-via-else-is_unfinished}
use Rattle.boxsearch.proofs.marking.mark_page.Given as given
use Rattle.boxsearch.proofs.marking.mark_page.Goals as goal

pub returns-in_err-page-clause-marks : goal.returns-in_err-page-clause-marks
returns-in_err-page-clause-marks g c = rests_marks _ _ c.page.follows.holds-at-none.0

pub returns-then-not-is_changed-clause-marks : goal.returns-then-not-is_changed-clause-marks
returns-then-not-is_changed-clause-marks g c = rests_marks _ _ c.page.follows.holds-at-none.0

pub returns-in_err-page_mut-clause-marks : goal.returns-in_err-page_mut-clause-marks
returns-in_err-page_mut-clause-marks g c =
    let b = c.page.follows.lender-at-none in
    let d = c.page_mut.follows.lender-at-none in
    marks_trans _ b d (rests_marks _ b c.page.follows.holds-at-none.0) (rests_marks b d (the_error (λ e. Rests b d × IsRefused 0 e b d) c.page_mut.result c.in_err-page_mut.field-0.0 c.in_err-page_mut.was c.page_mut.follows.holds-at-none).0)

-- where page 0 is marked anew it was not, or it has changed
not_marked : (g : given.Over) (c : goal.After-flush g) → IsUnfinished c.in_ok-page.field-0.now → is_changed c.args.cache.now 0 ≡ false → ⊥
not_marked g c = elim c.else-is_unfinished.branch [
  | else-is_unfinished-via-then-is_unfinished+else-not-is_changed w ↦ λ u same. true≢false (sym w.if-not-is_changed.false ∙ c.is_changed-is_changed.ensures ∙ same)
  | else-is_unfinished-via-else-is_unfinished w ↦ λ u same. true≢false (sym (c.is_unfinished.ensures.1 u) ∙ w.if-is_unfinished.false)
]

pub returns-clause-marks : goal.returns-clause-marks
returns-clause-marks g c =
    flushed_marks c.args.cache.now c.page.follows.lender-at-none (c.page_mut.follows.lender c.set_unfinished.new.payload) c.flush.new.self c.in_ok-page.field-0.now c.set_unfinished.new.payload c.page.follows.holds-at-none.0 c.in_ok-page.ensures.value (not_marked g c)
    (c.page_mut.follows.holds c.set_unfinished.new.payload (ap is_ok c.in_ok-page_mut.was)) c.flush.ensures.stays c.flush.ensures.length c.flush.ensures.asked c.in_ok-page_mut.field-0.now c.in_ok-page_mut.ensures.value c.set_unfinished.ensures

pub returns-clause-marked : goal.returns-clause-marked
returns-clause-marked g c =
    let unfinished : IsUnfinished c.set_unfinished.new.payload = subst (λ q. IsUnfinished q) (sym c.set_unfinished.ensures) (marked_is c.in_ok-page_mut.field-0.now) in
    on_ok c.flush.result (λ written f.
    is_marked c.args.cache.now c.page.follows.lender-at-none (c.page_mut.follows.lender c.set_unfinished.new.payload) c.flush.new.self c.in_ok-page.field-0.now c.set_unfinished.new.payload c.page.follows.holds-at-none.0 c.in_ok-page.ensures.value (not_marked g c)
    (c.page_mut.follows.holds c.set_unfinished.new.payload (ap is_ok c.in_ok-page_mut.was)) c.flush.ensures.stays c.flush.ensures.length c.flush.ensures.asked f c.in_ok-page.ensures.below unfinished written) c.flush.ensures.written

pub returns-clause-others : goal.returns-clause-others
returns-clause-others g c =
    on_fault c.flush.result (λ f clean.
    others_written c.args.cache.now c.page.follows.lender-at-none (c.page_mut.follows.lender c.set_unfinished.new.payload) c.flush.new.self c.in_ok-page.field-0.now c.set_unfinished.new.payload c.page.follows.holds-at-none.0 c.in_ok-page.ensures.value (not_marked g c)
    (c.page_mut.follows.holds c.set_unfinished.new.payload (ap is_ok c.in_ok-page_mut.was)) c.flush.ensures.stays c.flush.ensures.length c.flush.ensures.asked f clean)

pub returns-then-not-is_changed-clause-marked : goal.returns-then-not-is_changed-clause-marked
returns-then-not-is_changed-clause-marked g c = λ f.
    already_marked _ _ c.in_ok-page.field-0.now c.page.follows.holds-at-none.0 c.in_ok-page.ensures.value (c.is_unfinished.ensures.0 c.if-is_unfinished.true) f c.in_ok-page.ensures.below (c.page.follows.holds-at-none.0.stays.changed 0 (sym c.is_changed-is_changed.ensures ∙ c.if-not-is_changed.true))

pub returns-then-not-is_changed-clause-unmarked : goal.returns-then-not-is_changed-clause-unmarked
returns-then-not-is_changed-clause-unmarked g c = λ f not_marked.
    absurd (not_marked (was_marked _ _ c.in_ok-page.field-0.now c.page.follows.holds-at-none.0 c.in_ok-page.ensures.value (c.is_unfinished.ensures.0 c.if-is_unfinished.true) f c.in_ok-page.ensures.below (sym c.is_changed-is_changed.ensures ∙ c.if-not-is_changed.true)))

pub returns-clause-unmarked : goal.returns-clause-unmarked
returns-clause-unmarked g c = on_ok c.flush.result (λ synced f not_marked. synced) c.flush.ensures.synced
