use Rattle.std.proofs.Common.{arith, refl, sym, ◌∙◌}
use Rattle.std.proofs.lemmas.Bool.{true≢false}
use Rattle.std.proofs.lemmas.Grind.{common_steps}
use Rattle.pagecache.proofs.CacheLemmas.{asking, failed_not_added, payload_of-above, stopped_not_added}
use Rattle.pagecache.proofs.CallerLemmas.{adds-after, stays-trans}
use Rattle.pagecache.specs.Slots.{seen_of}
use Rattle.pagecache.proofs.slots.Slots.add_changed.Goals as goal

pub returns-then-is_full-clause-sound : goal.returns-then-is_full-clause-sound
returns-then-is_full-clause-sound g c = (asking _ _ c.requires).0

pub returns-then-is_full-clause-page : goal.returns-then-is_full-clause-page
returns-then-is_full-clause-page g c = record {
  adds = tt;
  number = tt;
  none_before = λ n above. payload_of-above (seen_of g.S.PageStore.seen c.args.self.now) n c.requires above;
  length = tt;
  refused = (asking _ _ c.requires).1;
  asks = grind (arith, common_steps);
  cause = omega (arith, c.is_full.ensures.0 c.if-is_full.true, c.requires.within, (g.met.S.PageStore.lawful c.args.self.now.store).within);
  full = λ _. refl;
}

pub make_room-requires : goal.make_room-requires
make_room-requires g c = (asking _ _ c.requires).0

pub returns-in-Err-clause-page : goal.returns-in-Err-clause-page
returns-in-Err-clause-page g c =
    let w = c.in-Err.ensures.writes in
    record {
      adds = tt;
      number = tt;
      none_before = λ n above. payload_of-above (seen_of g.S.PageStore.seen c.args.self.now) n c.requires above;
      length = tt;
      refused = stays-trans _ _ _ (asking _ _ c.requires).1 w.steps.stays;
      asks = grind (arith, common_steps);
      cause = failed_not_added _ _ c.in-Err.fault w.cause;
      full = λ e. absurd (true≢false (sym (c.is_full.ensures.1 (omega (arith, e))) ∙ c.if-is_full.false));
    }

pub returns-in-Ok-enter-clause-page : goal.returns-in-Ok-enter-clause-page
returns-in-Ok-enter-clause-page g c =
    let s = c.make_room.ensures.writes.steps in
    record {
      adds = adds-after _ _ _ c.args.payload (stays-trans _ _ _ (asking _ _ c.requires).1 s.stays) c.in-Ok-enter.ensures.appends.adds;
      number = c.in-Ok-enter.ensures.appends.number ∙ s.stays.count;
      none_before = λ n above. payload_of-above (seen_of g.S.PageStore.seen c.args.self.now) n c.requires above;
      length = λ e. c.in-Ok-enter.ensures.appends.length (let a = s.stays.count in let b = s.length in omega (arith, e, a, b));
      refused = tt;
      asks = grind (arith, common_steps);
      cause = tt;
      full = λ e. absurd (true≢false (sym (c.is_full.ensures.1 (omega (arith, e))) ∙ c.if-is_full.false));
    }

pub returns-in-Err-enter-clause-page : goal.returns-in-Err-enter-clause-page
returns-in-Err-enter-clause-page g c =
    let seen = seen_of g.S.PageStore.seen in
    let s = c.make_room.ensures.writes.steps in
    record {
      adds = tt;
      number = tt;
      none_before = λ n above. payload_of-above (seen_of g.S.PageStore.seen c.args.self.now) n c.requires above;
      length = tt;
      refused = stays-trans _ _ _ (stays-trans _ _ _ (asking _ _ c.requires).1 s.stays) c.in-Err-enter.ensures.appends.stays;
      asks = grind (arith, common_steps);
      cause = stopped_not_added (seen c.args.self.now) (seen c.make_room.new.self) (seen c.enter.new.self) c.in-Err-enter.fault s.stays.keeps.store c.in-Err-enter.ensures.cause;
      full = λ e. absurd (true≢false (sym (c.is_full.ensures.1 (omega (arith, e))) ∙ c.if-is_full.false));
    }
