use Rattle.std.proofs.Common.{refl}
use Rattle.pagecache.specs.Slots.{seen_of}
use Rattle.pagecache.proofs.BringLemmas.{just_read}
use Rattle.pagecache.proofs.CacheLemmas.{reordered_step, rests}
use Rattle.pagecache.proofs.slots.Slots.read_absent.Goals as goal

pub returns-then-not-is_absent-clause-steps : goal.returns-then-not-is_absent-clause-steps
returns-then-not-is_absent-clause-steps g c = rests _ c.requires

pub returns-in_err-read-clause-steps : goal.returns-in_err-read-clause-steps
returns-in_err-read-clause-steps g c = reordered_step _ _ c.requires c.read.ensures.stays (λ _. refl) refl refl refl

pub returns-clause-steps : goal.returns-clause-steps
returns-clause-steps g c = reordered_step _ _ c.requires c.read.ensures.stays (λ _. refl) refl refl refl

pub returns-clause-read : goal.returns-clause-read
returns-clause-read g c = λ _.
    let there = c.if-not-is_absent.false in
    just_read (seen_of g.S.PageStore.seen c.args.self.now) _ c.args.number c.read.new.page c.read.ensures.stays refl (c.is_absent.ensures.below there) (c.is_absent.ensures.absent there) c.in_ok-read.ensures.read
