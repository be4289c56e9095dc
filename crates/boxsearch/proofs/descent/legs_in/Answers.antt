use Rattle.std.proofs.Common.{refl}
use Rattle.std.proofs.lemmas.Result.{err_from_is_err_and}
use Rattle.boxsearch.specs.Way.{meets}
use Rattle.legs.specs.Hull.{leg_boxes}
use Rattle.tbtree.specs.Descent.{hits}
use Rattle.tbtree.specs.Nodes.{HasLeaf}
use Rattle.boxsearch.proofs.LevelLemmas.{level_read, page_read, page_refused}
use Rattle.boxsearch.proofs.descent.legs_in.Goals as goal

pub loop-i-preserved : goal.loop-i-preserved
loop-i-preserved g c =
    page_read (λ nodes p. HasLeaf nodes p) (λ nodes p. hits leg_boxes (meets c.args.query.now) nodes p) c.args.pages.now c.args.cache.now c.loop-i.i c.loop-i.cache c.loop-i.found.items c.loop-i.invariant c.loop-i-test.true c.push_legs.new.cache c.push_legs.new.found.items _ c.in_ok-push_legs.ensures

pub returns-in_err-push_legs : goal.returns-in_err-push_legs
returns-in_err-push_legs g c =
    let p = err_from_is_err_and c.from_residual.result c.from_residual.ensures.1 in
    rw (p.1, p.2) (page_refused (λ nodes p. HasLeaf nodes p) (λ nodes p. hits leg_boxes (meets c.args.query.now) nodes p) c.args.pages.now c.args.cache.now c.loop-i.i c.loop-i.cache c.loop-i.found.items c.loop-i.invariant c.loop-i-test.true c.push_legs.new.cache c.push_legs.new.found.items (λ v. v.items) _ c.in_err-push_legs.ensures)

pub returns : goal.returns
returns g c =
    level_read (λ nodes p. HasLeaf nodes p) (λ nodes p. hits leg_boxes (meets c.args.query.now) nodes p) c.args.pages.now c.args.cache.now c.loop-i.i c.loop-i.cache c.loop-i.found.items c.loop-i.invariant (λ v. v.items) _ c.loop-i-test.false refl
