use Rattle.std.proofs.Common.{◌≤◌, ◌+◌, ◌-◌, length}
use Rattle.std.specs.List.{range_with_len}
use Rattle.trajdb.specs.Answers.{HoldsOfFeature}
use Rattle.trajdb.specs.Database.{IsSound}
use Rattle.trajdb.specs.Calls.{LeavesBook, features_bound}
use Rattle.legs.specs.Limits.{greatest_limit}
use Rattle.trajdb.proofs.PickLemmas.{IsPicking}
use Rattle.trajdb.proofs.TellingLemmas.{IsPickingLive}
use Rattle.trajdb.proofs.database.Core.features_for.Given as goal

-- the database is as it was; what is picked so far, and how many pages were asked for
abbrev pub invariant-loop-feature : goal.invariant-loop-feature
invariant-loop-feature g l = record {
  leaves : LeavesBook g.I.Listed l.initial.self l.self;
  asks : IsSound g.I.Listed l.initial.self
      → g.I.Listed.asked l.self.index
      ≤ g.I.Listed.asked l.initial.self.index + features_bound (range_with_len 0 l.feature) l.period (g.I.Listed.plan l.initial.self.index) l.initial.self.book.legs;
  picked : IsSound g.I.Listed l.initial.self
      → IsPicking (HoldsOfFeature l.predicate l.rect l.period l.initial.self.book.legs) (range_with_len 0 (length l.initial.self.book.names))
      (range_with_len l.feature (length l.initial.self.book.names - l.feature)) l.features.items;
  live : length l.initial.self.book.names ≤ greatest_limit
      → IsPickingLive g.I.Listed l.initial.self l.predicate l.rect l.period (range_with_len 0 (length l.initial.self.book.names))
      (range_with_len l.feature (length l.initial.self.book.names - l.feature)) l.features.items;
}
