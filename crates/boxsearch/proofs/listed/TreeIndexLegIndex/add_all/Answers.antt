use Rattle.std.proofs.Common.{◌≡◌, ◌<◌, ◌∙◌, Err, true, false, List, length, All, ap, subst, sym, arith, refl}
use Rattle.std.proofs.lemmas.Bool.{true≢false}
use Rattle.legs.specs.Asking.{LegRefusals}
use Rattle.legs.specs.Index.{MayRefuseLeg, SkipNone}
use Rattle.legs.specs.Legs.{LegView}
use Rattle.legs.specs.declared.index.IndexFault.{IndexFault}
use Rattle.legs.specs.declared.index.IndexFault.TheVariants as index
use Rattle.boxsearch.specs.Index.{IndexView, content, words}
use Rattle.boxsearch.specs.Taking.{taken}
use Rattle.boxsearch.specs.Turns.{IsTurnFault}
use Rattle.boxsearch.specs.declared.turns.Turn.{Turn}
use Rattle.boxsearch.proofs.AllLemmas.{all_added, all_refusals}
use Rattle.boxsearch.proofs.TurnSteps.{none_skipped}
use Rattle.boxsearch.proofs.TurnOrder.{AreTurns, AreNumbered, are_numbered, are_turns, turns_within}
use Rattle.boxsearch.proofs.listed.TreeIndexLegIndex.add_all.Given as given
use Rattle.boxsearch.proofs.listed.TreeIndexLegIndex.add_all.Goals as goal

-- legs that skip no feature are not told their turns for want of memory alone
turn_allowed : (skips : Type 0) (fault : IndexFault) → IsTurnFault skips fault → (skips → ⊥) → MayRefuseLeg fault
turn_allowed skips index.Memory h none = tt
turn_allowed skips index.Store h none = absurd h
turn_allowed skips (index.Damaged n) h none = absurd h
turn_allowed skips index.StoreFull h none = absurd h
turn_allowed skips index.Spent h none = absurd (none h)

-- turns that are not told spend the index
no_turns : (old new : IndexView) (legs : List LegView) (fault : IndexFault) → old.tree.spent ≡ false → new.tree.spent ≡ true → IsTurnFault (SkipNone (length old.places) legs → ⊥) fault → LegRefusals {A = Unit {0}} words old new legs (Err fault)
no_turns old new legs fault works spent refused = record {
  spent = spent;
  was_spent = λ e. absurd (true≢false (sym e ∙ works));
  sound = λ s w. turn_allowed (SkipNone (length old.places) legs → ⊥) fault refused (λ skips. skips (none_skipped (content old) legs (length old.places) s.features w));
  store = λ e. absurd (subst (λ f. IsTurnFault (SkipNone (length old.places) legs → ⊥) f) (let same : fault ≡ index.Store = cc in same) refused);
  full = λ e. absurd (subst (λ f. IsTurnFault (SkipNone (length old.places) legs → ⊥) f) (let same : fault ≡ index.StoreFull = cc in same) refused);
}

pub returns-in-Err-clause-refusals : goal.returns-in-Err-clause-refusals
returns-in-Err-clause-refusals g c =
    let old = c.args.self.now in
    let works : old.tree.spent ≡ false = sym (ap (λ (i : IndexView). i.tree.spent) c.self.view_is) ∙ c.if-self.false in
    let places : c.as_slice.result.now ≡ old.places = c.as_slice.ensures.value ∙ ap (λ (v : IndexView). v.places) c.self.view_is in
    no_turns old _ c.args.legs.now c.in-Err.fault works refl (subst (λ ps. IsTurnFault (SkipNone (length ps) c.args.legs.now → ⊥) c.in-Err.fault) places c.in-Err.ensures.refused)

pub join_all-requires-clause-within : goal.join_all-requires-clause-within
join_all-requires-clause-within g c =
    let legs = c.args.legs.now in
    subst (λ (ts : List Turn). All (λ (t : Turn). t.place < length legs) ts) (sym c.as_slice-2.ensures.value) (turns_within _ _ _ legs c.in-Ok.turns.items c.in-Ok.ensures.permutation)

-- the turns that are told have the numbers of those of the index
the_numbers : (g : given.Over) (c : goal.After-drop-turns g) → AreNumbered c.args.self.now.places c.args.self.now.tree.shape.leaf c.args.legs.now c.as_slice-2.result.now
the_numbers g c =
    let legs = c.args.legs.now in
    let made = c.in-Ok.turns.items in
    let e = c.from-most.ensures ∙ c.leaf.ensures.value in
    let least = c.leaf.ensures.range.least_leaf in
    let most = c.leaf.ensures.range.most_leaf in
    let plain : AreNumbered c.as_slice.result.now c.from-most.result legs made = are_numbered c.as_slice.result.now c.from-most.result legs made (omega (arith, e, least)) (omega (arith, e, most)) c.in-Ok.ensures.few c.in-Ok.ensures.permutation c.in-Ok.ensures.rises in
    subst (λ (i : IndexView). AreNumbered i.places i.tree.shape.leaf legs c.as_slice-2.result.now) c.self.view_is
    (subst (λ ps. AreNumbered ps c.self.inside.tree.shape.leaf legs c.as_slice-2.result.now) c.as_slice.ensures.value (subst (λ n. AreNumbered c.as_slice.result.now n legs c.as_slice-2.result.now) e (subst (λ ts. AreNumbered c.as_slice.result.now c.from-most.result legs ts) (sym c.as_slice-2.ensures.value) plain)))

-- and so they are turns of the index
the_turns : (g : given.Over) (c : goal.After-drop-turns g) → AreTurns c.args.self.now.places c.args.self.now.tree.shape.leaf c.args.legs.now c.as_slice-2.result.now
the_turns g c = are_turns c.args.self.now.places c.args.self.now.tree.shape.leaf c.args.legs.now c.as_slice-2.result.now (the_numbers g c)

pub returns-clause-added : goal.returns-clause-added
returns-clause-added g c =
    all_added c.args.self.now c.join_all.new.index c.args.legs.now (taken c.args.legs.now c.as_slice-2.result.now) (the_turns g c) c.join_all.result c.join_all.ensures

pub returns-clause-refusals : goal.returns-clause-refusals
returns-clause-refusals g c =
    let works = sym (ap (λ (i : IndexView). i.tree.spent) c.self.view_is) ∙ c.if-self.false in
    all_refusals c.args.self.now c.join_all.new.index c.args.legs.now (taken c.args.legs.now c.as_slice-2.result.now) (the_turns g c) c.join_all.result works c.join_all.ensures
