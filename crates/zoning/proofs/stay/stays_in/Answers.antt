use Rattle.std.proofs.Common.{◌≡◌, ◌∙◌, ◌++◌, ◌∷◌, ◌+◌, [], All, List, ap, arith, drop, subst, sym}
use Rattle.std.proofs.lemmas.List.{at_drop_more, drop_all}
use Rattle.std.proofs.lemmas.List.Elements.{All-push}
use Rattle.zoning.specs.Stays.{AllInside, IsOf}
use Rattle.zoning.specs.declared.stay.Stay.{Stay}
use Rattle.zones.specs.declared.cuts.Cut.{Cut}
use Rattle.zoning.proofs.HeldLemmas.{IsGoing, going, gone}
use Rattle.zoning.proofs.stay.stays_in.Goals as goal

pub returns-clause-over : goal.returns-clause-over
returns-clause-over c =
    let over = c.loop-cut-test.false in
    let leg = c.args.leg.now in
    let cuts = c.args.cuts.now in
    let stays = c.loop-cut.stays.items in
    gone leg cuts stays (subst (λ (l : List Cut). IsGoing leg cuts l stays) (drop_all c.loop-cut.cut-index cuts (omega (arith, over))) c.loop-cut.invariant.going)

pub loop-cut-preserved : goal.loop-cut-preserved
loop-cut-preserved c =
    let leg = c.args.leg.now in
    let period = c.args.period.now in
    let cuts = c.args.cuts.now in
    let stays = c.loop-cut.stays.items in
    let i = c.loop-cut.cut-index in
    let cut = c.cut-item.result in
    let stay = c.stay_in.result in
    let test = c.loop-cut-test.true in
    let so_far = c.loop-cut.invariant in
    let is = c.stay_in.ensures in
    let left : drop i cuts ≡ cut ∷ drop (i + 1) cuts = at_drop_more (λ (l : List Cut). l) cuts i cut (omega (arith, test)) ∙ ap (λ k. k ∷ drop (i + 1) cuts) (sym c.cut-item.is) in
    let items : c.push.new.self.items ≡ stays ++ stay ∷ [] = c.in_ok-push.ensures.items in
    record {
      inside = (subst AllInside left so_far.inside).1;
      going = subst (λ (l : List Stay). IsGoing leg cuts (drop (i + 1) cuts) l) (sym items)
          (going leg cuts (drop (i + 1) cuts) stays cut stay (subst (λ (l : List Cut). IsGoing leg cuts l stays) left so_far.going) is.over);
      each = subst (All (IsOf leg period)) (sym items) (All-push (IsOf leg period) stays stay so_far.each (record { same = is.same; begun = is.begun; ended = is.ended }));
    }
