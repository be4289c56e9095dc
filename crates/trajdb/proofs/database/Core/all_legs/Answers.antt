use Rattle.std.proofs.Common.{◌∙◌, rules}
use Rattle.legs.specs.Legs.{IsLeg}
use Rattle.legs.specs.Boxes.{box_of, boxes_meet}
use Rattle.trajdb.proofs.PickLemmas.{filter_all}
use Rattle.trajdb.proofs.database.Core.all_legs.Goals as goal

pub returns : goal.returns
returns g c = record {
  found = rw (← c.self.view_is) (λ s.
      c.in_ok-search.ensures.found s.index
      ∙ filter_all IsLeg (λ leg. boxes_meet (box_of leg) c.everything.result) (g.I.Listed.content c.self.inside.index) (g.met.I.LegIndex.lawful c.self.inside.index s.index) c.everything.ensures.meets);
  says = search rules;
  named = tt;
  asks = search rules;
  leaves = search rules;
  refused = tt;
}
