use Rattle.std.proofs.Common.{◌≡◌, ◌<◌, ◌≤◌, ◌+◌, ◌*◌, ◌-◌, ◌^◌, min, false, arith, refl, ap, subst, sym, ◌∙◌, ◌∷◌, ◌++◌, [], length, Some}
use Rattle.std.specs.Prelude.{OnOk}
use Rattle.std.proofs.lemmas.Bool.{true≢false}
use Rattle.legs.specs.Asking.{Grows, LegRefusals}
use Rattle.legs.specs.Costs.{RisesAtMost, add_bound}
use Rattle.legs.specs.Index.{CanFollowInTurn}
use Rattle.legs.specs.Legs.{LegView}
use Rattle.boxsearch.specs.Answers.{answered, of_tree}
use Rattle.boxsearch.specs.Index.{IndexView, words, content, with_place, IsSoundIndex}
use Rattle.boxsearch.specs.Putting.{PutsAll}
use Rattle.boxsearch.specs.Taking.{Taking}
use Rattle.boxsearch.proofs.AddLemmas.{made}
use Rattle.boxsearch.proofs.AllLemmas.{one_added, one_asked, one_refusals, one_taken}
use Rattle.boxsearch.proofs.PlaceLemmas.{past_made}
use Rattle.boxsearch.proofs.ResultLemmas.{from_ok}
use Rattle.boxsearch.proofs.listed.TreeIndexLegIndex.add.Given as given
use Rattle.boxsearch.proofs.listed.TreeIndexLegIndex.add.Goals as goal

-- an index that is not spent
not_spent : (g : given.Over) (c : goal.After-answer g) → c.args.self.now.tree.spent ≡ false
not_spent g c = sym (ap (λ (i : IndexView). i.tree.spent) c.self.view_is) ∙ c.if-self.false

-- what putting the leg makes of it, where it has a place for the leg's feature
has_taken : (g : given.Over) (c : goal.After-answer g) → Taking c.args.self.now c.put.new.self (c.args.leg ∷ []) (answered (λ fault. of_tree fault) c.put.result)
has_taken g c =
    let old = c.args.self.now in
    let new = c.put.new.self in
    let feature = ap (λ (l : LegView). l.feature) c.leg.view_is in
    let mid : c.make_place.new.self ≡ made old c.leg.inside.feature = from_ok c.make_place.result (sym c.is_err.ensures.value ∙ c.if-is_err.false) c.make_place.ensures.ok in
    let puts = subst (λ m. PutsAll m new c.args.leg.feature (c.args.leg ∷ []) c.put.result) (mid ∙ ap (made old) feature) c.put.ensures.puts in
    one_taken old new c.args.leg c.put.result puts (not_spent g c)

pub returns-clause-added : goal.returns-clause-added
returns-clause-added g c =
    subst (λ r. OnOk r (Grows words c.args.self.now c.put.new.self (c.args.leg ∷ []))) (sym c.answer.ensures) (one_added c.args.self.now c.put.new.self c.args.leg _ (has_taken g c))

pub returns-clause-asks : goal.returns-clause-asks
returns-clause-asks g c =
    let old = c.args.self.now in
    let new = c.put.new.self in
    let mid : c.make_place.new.self ≡ made old c.leg.inside.feature = from_ok c.make_place.result (sym c.is_err.ensures.value ∙ c.if-is_err.false) c.make_place.ensures.ok in
    let asked = subst (λ (m : IndexView). OnOk c.put.result (new.cache.asked ≤ m.cache.asked + (2 * (new.tree.levels - 1) + 4))) mid c.put.ensures.asked in
    subst (λ r. OnOk r (IsSoundIndex old → CanFollowInTurn (content old) (c.args.leg ∷ []) → RisesAtMost (min old.cache.asked (2 ^ 64 - 1)) (min new.cache.asked (2 ^ 64 - 1)) (add_bound (Some old.tree.shape) (content old ++ c.args.leg ∷ [])))) (sym c.answer.ensures)
    (one_asked old new c.args.leg c.put.result asked (has_taken g c))

pub returns-clause-refusals : goal.returns-clause-refusals
returns-clause-refusals g c =
    subst (λ r. LegRefusals words c.args.self.now c.put.new.self (c.args.leg ∷ []) r) (sym c.answer.ensures) (one_refusals c.args.self.now c.put.new.self c.args.leg _ (not_spent g c) (has_taken g c))

pub returns-clause-marked : goal.returns-clause-marked
returns-clause-marked g c = (has_taken g c).marked

pub returns-clause-later : goal.returns-clause-later
returns-clause-later g c = (has_taken g c).later

pub returns-then-feature-len-clause-refusals : goal.returns-then-feature-len-clause-refusals
returns-then-feature-len-clause-refusals g c =
    let old = c.args.self.now in
    let works : old.tree.spent ≡ false = sym (ap (λ (i : IndexView). i.tree.spent) c.self.view_is) ∙ c.if-self.false in
    let own : c.leg.inside.feature ≡ c.args.leg.feature = ap (λ (l : LegView). l.feature) c.leg.view_is in
    let mid : c.make_place.new.self ≡ made old c.leg.inside.feature = from_ok c.make_place.result (sym c.is_err.ensures.value ∙ c.if-is_err.false) c.make_place.ensures.ok in
    let many : length c.self-2.inside.places.items ≡ length (with_place old.places c.leg.inside.feature) = ap (λ (i : IndexView). length i.places) (c.self-2.view_is ∙ mid) in
    let len = c.len.ensures in
    let past = c.if-feature-len.true in
    let above : length old.places < c.args.leg.feature = subst (λ n. length old.places < n) own (past_made old.places c.leg.inside.feature (λ l. omega (arith, l, many, len, past))) in
    record {
      spent = refl;
      was_spent = λ e. absurd (true≢false (sym e ∙ works));
      sound = λ s w. (let low = w.0.feature in let n = s.features in omega (arith, low, above, n));
      store = λ e. absurd cc;
      full = λ e. absurd cc;
    }
