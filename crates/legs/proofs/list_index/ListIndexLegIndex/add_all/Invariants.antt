use Rattle.std.proofs.Common.{drop}
use Rattle.legs.specs.Asking.{IsLater}
use Rattle.legs.proofs.GrowLemmas.{IsGrowing, list_words}
use Rattle.legs.proofs.list_index.ListIndexLegIndex.add_all.Given as goal

-- what is left may follow
abbrev pub invariant-loop-leg : goal.invariant-loop-leg
invariant-loop-leg l = record {
  growing : IsGrowing list_words l.fn.self l.self l.legs (drop l.leg-index l.legs);
  later : IsLater list_words l.fn.self l.self;
}
