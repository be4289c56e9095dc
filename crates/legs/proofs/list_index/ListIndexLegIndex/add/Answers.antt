use Rattle.std.proofs.Common.{ℕ, ◌≡◌, ◌<◌, ◌∙◌, false, refl, sym, ap, arith, subst, Global, Vec}
use Rattle.std.proofs.lemmas.Bool.{true≢false}
use Rattle.std.proofs.lemmas.List.{length-map}
use Rattle.std.proofs.lemmas.List.Elements.{All-push}
use Rattle.legs.specs.Index.{feature_count}
use Rattle.legs.specs.Legs.{IsLeg, LegView}
use Rattle.legs.specs.Places.{ListView}
use Rattle.legs.proofs.list_index.ListIndexLegIndex.add.Goals as goal

pub returns-clause-added : goal.returns-clause-added
returns-clause-added c = λ sound follows. record {
  sound = rw c.in_ok-put.ensures.ok (refl, All-push IsLeg c.args.self.now.legs c.args.leg sound.1 (subst (λ (l : LegView). IsLeg l) c.leg.view_is c.leg.invariant));
  content = ap (λ (v : ListView). v.legs) c.in_ok-put.ensures.ok;
}

pub returns-then-leg-len-clause-refusals : goal.returns-then-leg-len-clause-refusals
returns-then-leg-len-clause-refusals c =
    let works : c.args.self.now.spent ≡ false = sym (ap (λ (v : ListView). v.spent) c.self.view_is) ∙ c.if-self.false in
    let own : c.leg.inside.feature ≡ c.args.leg.feature = ap (λ (l : LegView). l.feature) c.leg.view_is in
    let places = (c.self.invariant c.if-self.false).counted ∙ ap (λ (v : ListView). feature_count v.legs) c.self.view_is in
    let many = length-map c.self.inside.places.items (λ (row : Vec ℕ Global). row.items) in
    let len = c.len.ensures in
    let past = c.if-leg-len.true in
    let above : feature_count c.args.self.now.legs < c.args.leg.feature = omega (arith, own, places, many, len, past) in
    record {
      spent = refl;
      was_spent = λ e. absurd (true≢false (sym e ∙ works));
      sound = λ s w. (let low = w.0.feature in omega (arith, low, above));
      store = λ e. absurd cc;
      full = λ e. absurd cc;
    }
