use Rattle.std.proofs.Common.{◌≡◌, ◌∙◌, Some, slice_get, sym, ap, arith}
use Rattle.std.proofs.lemmas.Option.{slice_get-get_or, slice_get_within}
use Rattle.std.proofs.lemmas.Result.{err_from_is_err_and}
use Rattle.pagecache.specs.Cache.{fresh}
use Rattle.version1.specs.OldForm.{old_node_of}
use Rattle.treecheck.specs.Walking.{pages_by}
use Rattle.treecheck.specs.declared.walking.Met.{Met}
use Rattle.version1.proofs.OpenedLemmas.{opened_more, opened_on}
use Rattle.treecheck.proofs.WalkLemmas.{same_some}
use Rattle.version1.proofs.old_legs.open_next.Goals as goal

pub returns-in_ok-open_leaf-in-Some-clause-opened :
    goal.returns-in_ok-open_leaf-in-Some-clause-opened
returns-in_ok-open_leaf-in-Some-clause-opened g c = λ fa legs stand have.
    let l = c.in-Some.ensures.lookup in
    let leaf = c.in-Some.leaf.now in
    let at : slice_get c.args.leaves.now c.args.next ≡ Some leaf = slice_get-get_or c.args.leaves.now c.args.next leaf l.3.0 ∙ ap (λ m. Some m) (sym l.1) in
    c.in_ok-open_leaf-in-Some.ensures.opened fa legs stand (have c.args.next leaf at)

pub returns-in_err-open_leaf-in-Some-clause-only :
    goal.returns-in_err-open_leaf-in-Some-clause-only
returns-in_err-open_leaf-in-Some-clause-only g c =
    let p = err_from_is_err_and c.from_residual.result c.from_residual.ensures.1 in
    rw (p.1, p.2) (λ fa readable.
    let l = c.in-Some.ensures.lookup in
    let leaf = c.in-Some.leaf.now in
    let at : slice_get c.args.leaves.now c.args.next ≡ Some leaf = slice_get-get_or c.args.leaves.now c.args.next leaf l.3.0 ∙ ap (λ m. Some m) (sym l.1) in
    c.in_err-open_leaf-in-Some.ensures.only fa (readable c.args.next leaf at))

pub returns-in_ok-open_leaf-in-Some-clause-on : goal.returns-in_ok-open_leaf-in-Some-clause-on
returns-in_ok-open_leaf-in-Some-clause-on g c = λ fa rises here.
    let l = c.in-Some.ensures.lookup in
    let leaf = c.in-Some.leaf.now in
    let at : slice_get c.args.leaves.now c.args.next ≡ Some leaf = slice_get-get_or c.args.leaves.now c.args.next leaf l.3.0 ∙ ap (λ m. Some m) (sym l.1) in
    opened_more (pages_by old_node_of (fresh (g.S.PageStore.seen c.args.store.now) 1)) c.args.leaves.now c.args.next c.args.ordinal leaf c.args.opened.now.entries c.open_leaf.new.opened.entries rises at c.if-leaf-ordinal.false
    (c.in_ok-open_leaf-in-Some.ensures.opens fa) here

pub returns-then-leaf-ordinal-clause-on : goal.returns-then-leaf-ordinal-clause-on
returns-then-leaf-ordinal-clause-on g c = λ fa rises.
    let l = c.in-Some.ensures.lookup in
    let leaf = c.in-Some.leaf.now in
    let at : slice_get c.args.leaves.now c.args.next ≡ Some leaf = slice_get-get_or c.args.leaves.now c.args.next leaf l.3.0 ∙ ap (λ m. Some m) (sym l.1) in
    opened_on (pages_by old_node_of (fresh (g.S.PageStore.seen c.args.store.now) 1)) c.args.leaves.now c.args.next c.args.ordinal c.args.opened.now.entries rises
    (λ m e s. c.if-leaf-ordinal.true (ap (λ (m : Met). m.first) (same_some leaf m (sym at ∙ e)) ∙ s))

pub returns-in-None-clause-on : goal.returns-in-None-clause-on
returns-in-None-clause-on g c = λ fa rises.
    opened_on (pages_by old_node_of (fresh (g.S.PageStore.seen c.args.store.now) 1)) c.args.leaves.now c.args.next c.args.ordinal c.args.opened.now.entries rises
    (λ m e. absurd (let l = slice_get_within c.args.leaves.now c.args.next m e in let p = c.in-None.ensures.lookup.3 in omega (arith, l, p)))
