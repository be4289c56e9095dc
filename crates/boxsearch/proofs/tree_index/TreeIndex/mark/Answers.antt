use Rattle.std.proofs.Common.{map}
use Rattle.legs.specs.Asking.{Refusals, Starts}
use Rattle.boxsearch.specs.Index.{words}
use Rattle.boxsearch.specs.Beside.{with_cache}
use Rattle.boxsearch.proofs.ResultLemmas.{of_same, seen_of}
use Rattle.boxsearch.proofs.StartLemmas.{starts, mark_refusals}
use Rattle.boxsearch.proofs.tree_index.TreeIndex.mark.Goals as goal

pub returns-clause-starts : goal.returns-clause-starts
returns-clause-starts g c =
    let seen = seen_of c.self.view_is in
    let known = map (λ spans. spans.items) c.new.result.items in
    of_same (λ i r. Starts words i (with_cache seen c.mark_page.new.cache known) r) c.self.view_is c.of_pages.ensures
    (starts seen c.mark_page.new.cache known c.mark_page.ensures.marks c.mark_page.result c.mark_page.ensures.marked c.mark_page.ensures.others c.mark_page.ensures.first c.mark_page.ensures.unmarked c.mark_page.ensures.caused)

pub returns-clause-refusals : goal.returns-clause-refusals
returns-clause-refusals g c =
    let seen = seen_of c.self.view_is in
    let known = map (λ spans. spans.items) c.new.result.items in
    of_same (λ i r. Refusals words i (with_cache seen c.mark_page.new.cache known) r) c.self.view_is c.of_pages.ensures (mark_refusals seen c.mark_page.new.cache known c.mark_page.result c.if-self.false c.mark_page.ensures.caused)
