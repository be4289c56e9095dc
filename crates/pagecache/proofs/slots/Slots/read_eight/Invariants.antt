use Rattle.std.proofs.Common.{◌≡◌, length}
use Rattle.pagecache.specs.Slots.{AreRead, Steps, seen_of}
use Rattle.pagecache.proofs.slots.Slots.read_eight.Given as goal

abbrev pub invariant-places : goal.invariant-places
invariant-places g l = record {
  steps : Steps (seen_of g.S.PageStore.seen l.fn.self) (seen_of g.S.PageStore.seen l.self);
  found : length l.found ≡ 8;
  buffers : length l.pages ≡ 8;
  read : AreRead (seen_of g.S.PageStore.seen l.self) l.numbers l.found l.pages l.place;
}
