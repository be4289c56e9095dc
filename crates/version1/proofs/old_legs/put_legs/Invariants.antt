use Rattle.std.specs.Prelude.{ℕ, ◌≡◌, ◌<◌, List, Some, slice_get}
use Rattle.legs.specs.Legs.{LegView}
use Rattle.version1.specs.OldLegs.{AreAmong, IsOpened, StandByOrdinal}
use Rattle.version1.proofs.old_legs.put_legs.Given as goal

abbrev pub invariant-loop-i : goal.invariant-loop-i
invariant-loop-i l = record {
  stand : (legs : List LegView) → StandByOrdinal legs l.initial.opened.entries → AreAmong l.leaf.legs legs → StandByOrdinal legs l.opened.entries;
  kept : (o : ℕ) → IsOpened l.initial.opened.entries o → IsOpened l.opened.entries o;
  each : (j : ℕ) (leg : LegView) → j < l.i → slice_get l.leaf.legs j ≡ Some leg → IsOpened l.opened.entries leg.ordinal;
}
