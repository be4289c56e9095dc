use Rattle.std.proofs.Common.{◌<◌, suc, length, slice_get, sym, ◌∙◌, ap, arith, subst}
use Rattle.std.specs.Prelude.{IfErr}
use Rattle.std.proofs.lemmas.Result.{IfOk-weaker}
use Rattle.tbtree.specs.Faults.{IfNamed}
use Rattle.tbtree.specs.Nodes.{pages_of_cache}
use Rattle.chains.specs.Links.{spot_of, IsUnlinked}
use Rattle.chains.specs.Spans.{pass_at}
use Rattle.chains.specs.Taking.{TakesLeaf, TakesPage}
use Rattle.chains.proofs.SpanLemmas.{ends_at, passes_over}
use Rattle.chains.proofs.WalkLemmas.{known_at, steps_again, steps_end, steps_over}
use Rattle.legs.proofs.GroupLemmas.{some_none}
use Rattle.chains.proofs.retrieval.step.Goals as goal

pub returns-in-End-clause-taken : goal.returns-in-End-clause-taken
returns-in-End-clause-taken g c = λ fa.
    steps_end (pages_of_cache c.args.cache.now) c.args.most c.args.place.now.legs c.args.place.now.first c.args.at.now.passed c.args.at.now.left c.args.spans.now.items c.args.at.now.link (c.requires.known fa) c.args.found.now.items c.args.want.now.sieve c.args.want.now.period (sym c.in-End.is ∙ c.pass.ensures.value ∙ ap (λ l. pass_at (slice_get l c.args.at.now.passed) (slice_get l (suc c.args.at.now.passed)) c.args.at.now.left c.args.want.now.period) c.as_slice.ensures.value)

pub returns-in-Over-clause-taken : goal.returns-in-Over-clause-taken
returns-in-Over-clause-taken g c = λ fa.
    steps_over (pages_of_cache c.args.cache.now) c.args.most c.args.place.now.legs c.args.place.now.first c.args.at.now.passed c.args.at.now.left c.args.spans.now.items c.args.at.now.link (c.requires.known fa) c.args.found.now.items c.args.want.now.sieve c.args.want.now.period c.in-Over.back c.pass.ensures.ordered (sym c.in-Over.is ∙ c.pass.ensures.value ∙ ap (λ l. pass_at (slice_get l c.args.at.now.passed) (slice_get l (suc c.args.at.now.passed)) c.args.at.now.left c.args.want.now.period) c.as_slice.ensures.value)

pub returns-then-at-len-clause-taken : goal.returns-then-at-len-clause-taken
returns-then-at-len-clause-taken g c = λ fa.
    let nodes = pages_of_cache c.args.cache.now in
    let at = c.args.at.now in
    let spot = spot_of c.args.most c.args.place.now.legs c.args.place.now.first at.left in
    let spans = c.args.spans.now.items in
    let old = c.args.found.now.items in
    let new = c.take_again.new.found.items in
    let period = c.args.want.now.period in
    let sieve = c.args.want.now.sieve in
    let inside : at.passed < length spans = omega (arith, c.if-at-len.true, c.len.ensures) in
    let leaf = (known_at nodes c.args.most c.args.place.now.legs c.args.place.now.first at.passed at.left spans at.link (c.requires.known fa) old sieve inside).1 in
    IfOk-weaker c.take_again.result (TakesLeaf leaf.leaf at.link c.spot_of-spot.result period sieve old new) (TakesPage (nodes.at at.link.page) at.link spot period sieve old new (record { old = spans; new = spans; passed = at.passed }))
    (λ back t. steps_again nodes c.args.most c.args.place.now.legs c.args.place.now.first at.passed at.left spans at.link (c.requires.known fa) old sieve period new back inside
    (subst (λ s. TakesLeaf leaf.leaf at.link s period sieve old new back) c.spot_of-spot.ensures t))
    (c.take_again.ensures.taken fa leaf.leaf leaf.linked.is)

pub returns-then-at-len-clause-named : goal.returns-then-at-len-clause-named
returns-then-at-len-clause-named g c = λ fa.
    let nodes = pages_of_cache c.args.cache.now in
    let at = c.args.at.now in
    let spans = c.args.spans.now.items in
    let inside : at.passed < length spans = omega (arith, c.if-at-len.true, c.len.ensures) in
    let leaf = (known_at nodes c.args.most c.args.place.now.legs c.args.place.now.first at.passed at.left spans at.link (c.requires.known fa) c.args.found.now.items c.args.want.now.sieve inside).1 in
    subst (λ s. IfErr c.take_again.result (IfNamed (IsUnlinked nodes at.link s))) c.spot_of-spot.ensures (c.take_again.ensures.named fa leaf.leaf leaf.linked.is)

pub returns-in-End-clause-asked : goal.returns-in-End-clause-asked
returns-in-End-clause-asked g c = λ none.
    let at = c.args.at.now in
    let spans = c.args.spans.now.items in
    let e = ends_at (slice_get spans at.passed) (slice_get spans (suc at.passed)) at.left c.args.want.now.period (sym c.in-End.is ∙ c.pass.ensures.value ∙ ap (λ l. pass_at (slice_get l at.passed) (slice_get l (suc at.passed)) at.left c.args.want.now.period) c.as_slice.ensures.value) in
    absurd (some_none e.2.at (sym e.2.is ∙ none))

pub returns-in-Over-clause-asked : goal.returns-in-Over-clause-asked
returns-in-Over-clause-asked g c = λ none.
    let at = c.args.at.now in
    let spans = c.args.spans.now.items in
    let e = passes_over (slice_get spans at.passed) (slice_get spans (suc at.passed)) at.left c.args.want.now.period c.in-Over.back (sym c.in-Over.is ∙ c.pass.ensures.value ∙ ap (λ l. pass_at (slice_get l at.passed) (slice_get l (suc at.passed)) at.left c.args.want.now.period) c.as_slice.ensures.value) in
    absurd (some_none e.2.at (sym e.2.is ∙ none))
