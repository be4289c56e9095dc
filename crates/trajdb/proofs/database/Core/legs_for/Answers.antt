use Rattle.std.proofs.Common.{◌∙◌, List, rules, subst}
use Rattle.legs.specs.Legs.{LegView, IsLeg}
use Rattle.legs.specs.Boxes.{box_of, boxes_meet}
use Rattle.trajdb.specs.Answers.{HoldsOfLeg}
use Rattle.legs.specs.Questions.{InBox}
use Rattle.trajdb.specs.Picks.{Picks}
use Rattle.trajdb.proofs.PickLemmas.{picks-within}
use Rattle.trajdb.proofs.database.Core.legs_for.Goals as goal

pub returns : goal.returns
returns g c =
    let P : LegView → Type 0 = HoldsOfLeg c.args.predicate c.args.rect.now c.args.period.now in
    let near : List LegView = c.in_ok-near.near.items in
    let picked = c.in_ok-holding.field-0.items in
    record {
      found = rw (← c.self.view_is) (λ s.
          picks-within P IsLeg (λ leg. boxes_meet (box_of leg) c.search_box.result) (g.I.Listed.content c.self.inside.index) picked (g.met.I.LegIndex.lawful c.self.inside.index s.index) c.search_box.ensures.meets
          (subst (λ (l : List LegView). Picks P l picked) (c.as_slice.ensures.value ∙ c.in_ok-near.ensures.found s.index) c.in_ok-holding.ensures));
      says = rw (← c.self.view_is) (
        near,
        subst (λ q. g.I.Listed.tells c.self.inside.index (InBox q) near) c.search_box.ensures.value c.in_ok-near.ensures.told,
        subst (λ (l : List LegView). Picks P l picked) c.as_slice.ensures.value c.in_ok-holding.ensures,
      );
      named = tt;
      asks = search rules;
      leaves = search rules;
      refused = tt;
    }
