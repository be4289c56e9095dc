use Rattle.std.proofs.Common.{◌≡◌, ◌-◌, ◌^◌, ◌∙◌, min, sym, Some}
use Rattle.std.specs.Prelude.{IfOk, MatchResult, OnOk}
use Rattle.legs.specs.Asking.{Denies, Refusals}
use Rattle.legs.specs.Questions.{InBox}
use Rattle.legs.specs.Costs.{RisesBy, search_cost}
use Rattle.legs.specs.Index.{legs_in_box}
use Rattle.boxsearch.specs.Answers.{answered, of_tree}
use Rattle.chains.proofs.SpanLemmas.{known_lasts}
use Rattle.boxsearch.specs.Index.{words, content, tells, IsSoundIndex}
use Rattle.boxsearch.specs.Beside.{with_cache}
use Rattle.boxsearch.proofs.AskedLemmas.{asked_leaves}
use Rattle.boxsearch.proofs.TellLemmas.{search_told}
use Rattle.boxsearch.proofs.QuestionLemmas.{search_asked, search_found, search_refusals}
use Rattle.boxsearch.proofs.ResultLemmas.{of_same, on_ok, seen_of}
use Rattle.boxsearch.proofs.TrackLemmas.{rises_capped}
use Rattle.boxsearch.proofs.listed.TreeIndexLegIndex.search.Goals as goal

pub returns-clause-found : goal.returns-clause-found
returns-clause-found g c =
    let q = c.args.query.now in
    of_same (λ i r. IfOk r (λ legs. IsSoundIndex i → legs.items ≡ legs_in_box q (content i))) c.self.view_is c.answer.ensures
    (search_found (seen_of c.self.view_is) c.search.new.cache c.search.result (λ legs v. v.items ≡ legs_in_box q legs) c.search.ensures.found)

pub returns-clause-asks : goal.returns-clause-asks
returns-clause-asks g c =
    let seen = seen_of c.self.view_is in
    let q = c.args.query.now in
    let new = c.search.new.cache.asked in
    of_same (λ i r. OnOk r (IsSoundIndex i → RisesBy (min i.cache.asked (2 ^ 64 - 1)) (min new (2 ^ 64 - 1)) (search_cost q (Some i.tree.shape) (content i)))) c.self.view_is c.answer.ensures
    (on_ok (answered (λ fault. of_tree fault) c.search.result) (λ rises s. rises_capped seen.cache.asked new (search_cost q (Some seen.tree.shape) (content seen)) (rises s))
    (search_asked seen c.search.new.cache c.search.result (λ legs. RisesBy seen.cache.asked new (search_cost q (Some seen.tree.shape) legs)) c.search.ensures.asked))

pub returns-clause-leaves : goal.returns-clause-leaves
returns-clause-leaves g c =
    asked_leaves c.self.view_is c.search.new.cache (seen_of c.self.view_is).known c.search.ensures.searches.reads

pub returns-clause-refusals : goal.returns-clause-refusals
returns-clause-refusals g c =
    let seen = seen_of c.self.view_is in
    of_same (λ i r. Refusals words i (with_cache seen c.search.new.cache seen.known) r) c.self.view_is c.answer.ensures
    (search_refusals seen c.search.new.cache c.search.result (λ legs v. v.items ≡ legs_in_box c.args.query.now legs) c.search.ensures.found c.search.ensures.spent c.search.ensures.searches.caused)

pub returns-clause-told : goal.returns-clause-told
returns-clause-told g c =
    let q = c.args.query.now in
    of_same (λ i r. MatchResult r (λ legs. tells i (InBox q) legs.items) (λ fault. Denies words i (InBox q) fault)) c.self.view_is c.answer.ensures
    (search_told (seen_of c.self.view_is) c.search.new.cache q (λ legs. legs.items) c.search.result c.search.ensures.searches c.search.ensures.spent)

pub invariant_of-self : goal.invariant_of-self
invariant_of-self g c = λ fa f place spans at known.
    let reads = c.search.ensures.searches.reads in
    let was = sym reads.store.faithful ∙ fa in
    known_lasts c.self.inside.cache c.search.new.cache c.self.inside.tree.shape f place spans reads was (c.self.invariant was f place spans at known)
