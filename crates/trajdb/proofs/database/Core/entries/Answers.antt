use Rattle.std.proofs.Common.{subst, arith}
use Rattle.std.proofs.lemmas.List.Elements.{All-more}
use Rattle.legs.specs.Law.{IsThere}
use Rattle.trajdb.specs.Answers.{named_leg_of}
use Rattle.trajdb.proofs.TellingLemmas.{map_more}
use Rattle.trajdb.proofs.database.Core.entries.Goals as goal

pub loop-leg-preserved : goal.loop-leg-preserved
loop-leg-preserved g c =
    let book = c.args.self.now.book in
    let legs = c.args.legs.now in
    let i = c.loop-leg.leg-index in
    let leg = c.leg-item.result in
    let t = c.loop-leg-test.true in
    record {
      entries = map_more (named_leg_of book) legs i leg c.in_ok-entry.field-0 c.loop-leg.entries.items c.push.new.self.items (omega (arith, t)) c.leg-item.is c.loop-leg.invariant.entries c.in_ok-push.ensures.items c.in_ok-entry.ensures.made;
      there = All-more (IsThere book) legs i leg (omega (arith, t)) c.loop-leg.invariant.there (subst (IsThere book) c.leg-item.is c.in_ok-entry.ensures.there);
    }
