use Rattle.std.proofs.Common.{◌≡◌, sym, ap, subst, arith}
use Rattle.std.proofs.lemmas.Option.{slice_get_within}
use Rattle.version1.specs.OldLegs.{IsOpened}
use Rattle.version1.proofs.OpenedLemmas.{put_keeps, put_is}
use Rattle.treecheck.proofs.OrderLemmas.{below_more}
use Rattle.version1.proofs.TakingLemmas.{stand_put}
use Rattle.version1.proofs.old_legs.put_legs.Goals as goal

pub loop-i-preserved : goal.loop-i-preserved
loop-i-preserved c =
    let inv = c.loop-i.invariant in
    let old = c.loop-i.opened.entries in
    let new = c.insert.new.self.entries in
    let leg = c.leg-leg.result in
    let same : c.leg.inside.ordinal ≡ leg.ordinal = ap (λ leg. leg.ordinal) c.leg.view_is in
    let step = c.in_ok-insert.ensures.updates.0 in
    let keeps = put_keeps old new c.leg.inside.ordinal leg step in
    record {
      stand = λ legs stand among. stand_put legs old new c.leg.inside.ordinal leg (inv.stand legs stand among) (among c.loop-i.i leg c.leg-leg.ensures.value) (sym same) step;
      kept = λ o there. keeps o (inv.kept o there);
      each = below_more (λ j leg. IsOpened new leg.ordinal) c.args.leaf.now.legs c.loop-i.i leg c.leg-leg.ensures.value (subst (IsOpened new) same (put_is old new c.leg.inside.ordinal leg step)) (λ j x l e. keeps x.ordinal (inv.each j x l e));
    }

pub returns-clause-opens : goal.returns-clause-opens
returns-clause-opens c = record {
  kept = c.loop-i.invariant.kept;
  each = λ leg one. c.loop-i.invariant.each one.0 leg (let l = slice_get_within c.args.leaf.now.legs one.0 leg one.1 in omega (arith, l, c.loop-i-test.false)) one.1;
}
