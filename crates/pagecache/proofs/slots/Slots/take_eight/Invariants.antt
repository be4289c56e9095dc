use Rattle.pagecache.specs.Slots.{Steps, seen_of}
use Rattle.pagecache.proofs.slots.Slots.take_eight.Given as goal

abbrev pub invariant-places : goal.invariant-places
invariant-places g l = record {
  steps : Steps (seen_of g.S.PageStore.seen l.fn.self) (seen_of g.S.PageStore.seen l.self);
}
