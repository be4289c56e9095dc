use Rattle.std.proofs.Common.{refl}
use Rattle.std.proofs.lemmas.Result.{err_from_is_err_and}
use Rattle.boxsearch.specs.Way.{meets}
use Rattle.tbtree.specs.Descent.{children_met, HasInner}
use Rattle.boxsearch.proofs.LevelLemmas.{level_read, page_read, page_refused}
use Rattle.boxsearch.proofs.descent.next_level.Goals as goal

pub loop-i-preserved : goal.loop-i-preserved
loop-i-preserved g c =
    page_read (λ nodes p. HasInner nodes p c.args.level) (λ nodes p. children_met (meets c.args.query.now) nodes p) c.args.pages.now c.args.cache.now c.loop-i.i c.loop-i.cache c.loop-i.below.items c.loop-i.invariant c.loop-i-test.true c.push_children.new.cache c.push_children.new.found.items _ c.in_ok-push_children.ensures

pub returns-in_err-push_children : goal.returns-in_err-push_children
returns-in_err-push_children g c =
    let p = err_from_is_err_and c.from_residual.result c.from_residual.ensures.1 in
    rw (p.1, p.2) (page_refused (λ nodes p. HasInner nodes p c.args.level) (λ nodes p. children_met (meets c.args.query.now) nodes p) c.args.pages.now c.args.cache.now c.loop-i.i c.loop-i.cache c.loop-i.below.items c.loop-i.invariant c.loop-i-test.true c.push_children.new.cache c.push_children.new.found.items (λ v. v.items) _ c.in_err-push_children.ensures)

pub returns : goal.returns
returns g c =
    level_read (λ nodes p. HasInner nodes p c.args.level) (λ nodes p. children_met (meets c.args.query.now) nodes p) c.args.pages.now c.args.cache.now c.loop-i.i c.loop-i.cache c.loop-i.below.items c.loop-i.invariant (λ v. v.items) _ c.loop-i-test.false refl
