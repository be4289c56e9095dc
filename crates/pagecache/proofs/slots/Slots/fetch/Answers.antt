use Rattle.std.proofs.Common.{refl, sym, ◌∙◌}
use Rattle.pagecache.specs.Slots.{seen_of}
use Rattle.pagecache.proofs.CacheLemmas.{reordered_step, steps-trans, still_room, payload_of-none, sealed_still, sealed_read, answered-ok, answered-err}
use Rattle.pagecache.proofs.slots.Slots.fetch.Goals as goal

pub returns-in_err-read-clause-steps : goal.returns-in_err-read-clause-steps
returns-in_err-read-clause-steps g c = reordered_step _ _ c.requires.sound c.read.ensures.stays (λ _. refl) refl refl refl

pub keep-requires-clause-sound : goal.keep-requires-clause-sound
keep-requires-clause-sound g c = (reordered_step _ _ c.requires.sound c.read.ensures.stays (λ _. refl) refl refl refl).sound

pub keep-requires-clause-room : goal.keep-requires-clause-room
keep-requires-clause-room g c = still_room _ _ refl refl c.requires.room

pub keep-requires-clause-same : goal.keep-requires-clause-same
keep-requires-clause-same g c = λ f.
    let t = c.read.ensures.stays in
    sealed_still (seen_of g.S.PageStore.seen c.args.self.now) _ c.args.number t refl f ∙ sealed_read _ c.args.number c.read.new.page c.requires.below (c.in_ok-read.ensures.read (sym t.keeps.faithful ∙ f)) ∙ answered-ok _ _ _ c.in-Ok.ensures.value

pub returns-in-Ok-clause-steps : goal.returns-in-Ok-clause-steps
returns-in-Ok-clause-steps g c = steps-trans _ _ _ (reordered_step _ _ c.requires.sound c.read.ensures.stays (λ _. refl) refl refl refl) c.keep.ensures.steps

pub returns-in-Err-clause-steps : goal.returns-in-Err-clause-steps
returns-in-Err-clause-steps g c = reordered_step _ _ c.requires.sound c.read.ensures.stays (λ _. refl) refl refl refl

pub returns-in-Err-clause-cause : goal.returns-in-Err-clause-cause
returns-in-Err-clause-cause g c =
    (refl, λ f. payload_of-none _ c.args.number c.requires.absent ∙ sealed_read _ c.args.number c.read.new.page c.requires.below (c.in_ok-read.ensures.read f) ∙ answered-err _ _ _ c.in-Err.ensures.value)
