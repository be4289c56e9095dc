use Rattle.std.proofs.Common.{arith, ◌≤◌, ◌∙◌, ap}
use Rattle.legs.specs.Legs.{LegView}
use Rattle.legs.specs.Index.{feature_count}
use Rattle.legs.specs.Places.{ListView}
use Rattle.legs.proofs.PlaceLemmas.{put_places}
use Rattle.legs.proofs.list_index.ListIndex.put.Goals as goal

pub invariant_of-self-2 : goal.invariant_of-self-2
invariant_of-self-2 c = λ lasts.
    let spent = ap (λ (v : ListView). v.spent) c.self.view_is ∙ c.requires.spent in
    let feature = ap (λ (leg : LegView). leg.feature) c.leg.view_is in
    let count = ap (λ (v : ListView). feature_count v.legs) c.self.view_is in
    let below : c.args.leg.feature ≤ feature_count c.self.inside.legs.items = omega (arith, count, c.requires.feature) in
    put_places c.self.inside.legs.items c.push.new.self.items c.args.leg _ _ c.leg.inside.feature c.len.result feature (c.len.ensures ∙ c.self.inside.legs.ok.0) c.in_ok-push.ensures.items c.in_ok-push_place.ensures below (c.self.invariant spent)
