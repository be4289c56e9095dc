use Rattle.std.proofs.lemmas.Result.{err_from_is_err_and}
use Rattle.std.proofs.Common.{rules, ◌<◌, ◌≡◌, ◌≤◌, ◌∙◌, ap, arith, option_map, sym, subst, ⊎_elim}
use Rattle.std.proofs.lemmas.Bool.{cases_lt}
use Rattle.tbnode.specs.Form.{node_of}
use Rattle.tbtree.specs.Nodes.{pages_of_cache}
use Rattle.chains.specs.Reads.{OnlyReads}
use Rattle.chains.proofs.ReadLemmas.{reads_trans}
use Rattle.treecheck.proofs.FindLemmas.{fails, gives}
use Rattle.treecheck.proofs.checking.read_pages.Goals as goal

pub returns-in_err-read_page : goal.returns-in_err-read_page
returns-in_err-read_page g c =
    let p = err_from_is_err_and c.from_residual.result c.from_residual.ensures.1 in
    let was = c.loop-page.invariant in
    rw (p.1, p.2) (fails c.args.cache.now c.loop-page.cache c.read_page.new.cache _ was.reads
    (λ fa are none. are.2 c.loop-page.page (omega (arith, c.loop-page-test.true, c.count-count.ensures.value)) (ap (option_map node_of) (sym (was.reads.payloads fa c.loop-page.page)) ∙ none)) c.in_err-read_page.ensures)

pub loop-page-preserved : goal.loop-page-preserved
loop-page-preserved g c =
    let now = c.loop-page.cache in
    let page = c.loop-page.page in
    let was = c.loop-page.invariant in
    record {
      reads = reads_trans _ _ _ was.reads c.read_page.ensures.reads.only;
      held = λ fa p lt none.
          ⊎_elim (λ (h : p < page). was.held fa p h none)
          (λ (h : page ≤ p).
          let same : p ≡ page = omega (arith, lt, h) in
          c.in_ok-read_page.ensures.found (was.reads.store.faithful ∙ fa) (ap (λ n. (pages_of_cache now).at n) (sym same) ∙ ap (option_map node_of) (was.reads.payloads fa p) ∙ none))
          (cases_lt p page);
    }

pub returns : goal.returns
returns g c =
    gives c.args.cache.now c.note_places.new.cache _ (subst (λ now. OnlyReads c.args.cache.now now) (sym c.note_places.ensures) c.loop-page.invariant.reads)
    (λ fa. (search rules, search rules, search rules))
