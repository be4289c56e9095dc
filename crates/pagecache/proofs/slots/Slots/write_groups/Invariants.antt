use Rattle.std.proofs.Common.{◌≡◌}
use Rattle.std.specs.Map.{keys_of}
use Rattle.pagecache.specs.Slots.{Steps, seen_of}
use Rattle.pagecache.proofs.slots.Slots.write_groups.Given as goal

abbrev pub invariant-groups : goal.invariant-groups
invariant-groups g l = record {
  steps : Steps (seen_of g.S.PageStore.seen l.fn.self) (seen_of g.S.PageStore.seen l.self);
  keys : keys_of l.self.held.entries ≡ keys_of l.fn.self.held.entries;
}
