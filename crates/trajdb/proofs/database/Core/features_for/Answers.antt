use Rattle.std.proofs.Common.{ℕ, ◌≡◌, ◌∙◌, ◌+◌, ◌-◌, ◌<◌, ◌≤◌, List, [], sym, subst, ap, length, arith, refl, rules, false, IsTrue}
use Rattle.std.specs.List.{range_with_len}
use Rattle.legs.specs.Legs.{LegView}
use Rattle.legs.specs.Book.{Book}
use Rattle.trajdb.specs.Answers.{HoldsOfFeature}
use Rattle.trajdb.proofs.FaultLemmas.{leaves-refl, leaves-trans, bound_more}
use Rattle.trajdb.specs.Calls.{feature_bound}
use Rattle.trajdb.proofs.PickLemmas.{IsPicking, picking-start, picking-yes, picking-no, picking-end, range_more, range_none, range_all}
use Rattle.std.proofs.lemmas.Result.{err_from_is_err_and}
use Rattle.trajdb.proofs.TellingLemmas.{IsPickingLive, live_before, live_end, live_no, live_yes, names_before}
use Rattle.trajdb.proofs.database.Core.features_for.Goals as goal
use Rattle.trajdb.proofs.database.Core.features_for.Goals.{then-branch+in_ok-push, else-branch}

pub loop-feature-init : goal.loop-feature-init
loop-feature-init g c = record {
  leaves = leaves-refl g.I.Listed c.args.self.now;
  asks = λ s. omega arith;
  picked = λ s.
      let book = c.args.self.now.book in
      let P : ℕ → Type 0 = HoldsOfFeature c.args.predicate c.args.rect.now c.args.period.now book.legs in
      subst (λ (l : List ℕ). IsPicking P (range_with_len 0 (length book.names)) l c.new-features.result.items) (sym (range_all (length book.names)))
      (subst (λ (l : List ℕ). IsPicking P (range_with_len 0 (length book.names)) (range_with_len 0 (length book.names)) l) (sym c.new-features.ensures.items) (picking-start P (range_with_len 0 (length book.names))));
  live = λ few.
      let book = c.args.self.now.book in
      let L = IsPickingLive g.I.Listed c.args.self.now c.args.predicate c.args.rect.now c.args.period.now (range_with_len 0 (length book.names)) in
      subst (λ (l : List ℕ). L l c.new-features.result.items) (sym (range_all (length book.names)))
      (subst (λ (l : List ℕ). L (range_with_len 0 (length book.names)) l) (sym c.new-features.ensures.items) (λ rest h. h));
}

pub loop-feature-preserved : goal.loop-feature-preserved
loop-feature-preserved g c = record {
  leaves = leaves-trans g.I.Listed c.args.self.now c.loop-feature.self c.holds_for.new.self c.loop-feature.invariant.leaves c.in_ok-holds_for.ensures.leaves;
  asks = λ s.
      let so_far = c.loop-feature.invariant.asks s in
      let names = c.args.self.now.book.names in
      let few : length names ≤ 2147483648 = s.tracks.lawful.few_names in
      let count = c.feature_count-feature-end.ensures few in
      let test = c.loop-feature-test.true in
      let as_many : length c.loop-feature.self.book.names ≡ length names = ap (λ (b : Book). length b.names) c.loop-feature.invariant.leaves.book in
      let less : c.loop-feature.feature < length c.loop-feature.self.book.names = omega (arith, count, test, as_many) in
      let now = c.in_ok-holds_for.ensures.asks less (c.loop-feature.invariant.leaves.sound s) in
      let cost = feature_bound c.loop-feature.feature c.args.period.now in
      let same : cost (g.I.Listed.plan c.loop-feature.self.index) c.loop-feature.self.book.legs ≡ cost (g.I.Listed.plan c.args.self.now.index) c.args.self.now.book.legs = rw (c.loop-feature.invariant.leaves.index.later.plan, c.loop-feature.invariant.leaves.book) refl in
      let more = bound_more c.loop-feature.feature c.args.period.now (g.I.Listed.plan c.args.self.now.index) c.args.self.now.book.legs in
      omega (arith, so_far, now, same, more);
  picked = λ s.
      let book = c.args.self.now.book in
      let n : ℕ = length book.names in
      let all : List ℕ = range_with_len 0 (length book.names) in
      let P : ℕ → Type 0 = HoldsOfFeature c.args.predicate c.args.rect.now c.args.period.now book.legs in
      let few : length book.names ≤ 2147483648 = s.tracks.lawful.few_names in
      let count = c.feature_count-feature-end.ensures few in
      let test = c.loop-feature-test.true in
      let less : c.loop-feature.feature < length book.names = omega (arith, count, test) in
      let others : List ℕ = range_with_len (c.loop-feature.feature + 1) (length book.names - (c.loop-feature.feature + 1)) in
      let so_far = subst (λ (l : List ℕ). IsPicking P all l c.loop-feature.features.items) (range_more c.loop-feature.feature (length book.names) less) (c.loop-feature.invariant.picked s) in
      let holds = subst (λ (legs : List LegView). (IsTrue c.in_ok-holds_for.field-0 → HoldsOfFeature c.args.predicate c.args.rect.now c.args.period.now legs c.loop-feature.feature)
      × (HoldsOfFeature c.args.predicate c.args.rect.now c.args.period.now legs c.loop-feature.feature → IsTrue c.in_ok-holds_for.field-0))
      (ap (λ (b : Book). b.legs) c.loop-feature.invariant.leaves.book) (c.in_ok-holds_for.ensures.found (c.loop-feature.invariant.leaves.sound s)) in
      elim c.if-branch.branch [
        | then-branch+in_ok-push w ↦
            subst (λ (l : List ℕ). IsPicking P all others l) (sym (ap (λ v. v.items) w.features-is ∙ w.in_ok-push.ensures.items)) (picking-yes P all others c.loop-feature.features.items c.loop-feature.feature so_far (holds.0 w.if-branch.true))
        | else-branch w ↦
            subst (λ (l : List ℕ). IsPicking P all others l) (sym (ap (λ v. v.items) w.features-is))
            (picking-no P all others c.loop-feature.features.items c.loop-feature.feature so_far (λ h. absurd (let t : IsTrue false = sym w.if-branch.false ∙ holds.1 h in cc)))
      ];
  live = λ few.
      let old = c.args.self.now in
      let n : ℕ = length old.book.names in
      let all : List ℕ = range_with_len 0 (length old.book.names) in
      let L = IsPickingLive g.I.Listed old c.args.predicate c.args.rect.now c.args.period.now all in
      let same : length c.loop-feature.self.book.names ≡ length old.book.names = ap (λ (b : Book). length b.names) c.loop-feature.invariant.leaves.book in
      let count = c.feature_count-feature-end.ensures few in
      let test = c.loop-feature-test.true in
      let less : c.loop-feature.feature < length old.book.names = omega (arith, count, test) in
      let others : List ℕ = range_with_len (c.loop-feature.feature + 1) (length old.book.names - (c.loop-feature.feature + 1)) in
      let so_far = subst (λ (l : List ℕ). L l c.loop-feature.features.items) (range_more c.loop-feature.feature (length old.book.names) less) (c.loop-feature.invariant.live few) in
      let told = c.in_ok-holds_for.ensures.says in
      let live = live_before g.I.Listed old c.loop-feature.self c.loop-feature.invariant.leaves c.args.period.now c.loop-feature.feature told.0 told.1 in
      elim c.if-branch.branch [
        | then-branch+in_ok-push w ↦
            subst (λ (l : List ℕ). L others l) (sym (ap (λ v. v.items) w.features-is ∙ w.in_ok-push.ensures.items))
            (live_yes g.I.Listed old c.args.predicate c.args.rect.now c.args.period.now all others c.loop-feature.features.items c.loop-feature.feature told.0 so_far live (told.2.0 w.if-branch.true))
        | else-branch w ↦
            subst (λ (l : List ℕ). L others l) (sym (ap (λ v. v.items) w.features-is))
            (live_no g.I.Listed old c.args.predicate c.args.rect.now c.args.period.now all others c.loop-feature.features.items c.loop-feature.feature told.0 so_far live
            (λ h. absurd (let t : IsTrue false = sym w.if-branch.false ∙ told.2.1 h in cc)))
      ];
}

pub returns : goal.returns
returns g c =
    let old = c.args.self.now in
    let book = old.book in
    let all : List ℕ = range_with_len 0 (length book.names) in
    let P : ℕ → Type 0 = HoldsOfFeature c.args.predicate c.args.rect.now c.args.period.now book.legs in
    let L = IsPickingLive g.I.Listed old c.args.predicate c.args.rect.now c.args.period.now all in
    let over = c.loop-feature-test.false in
    let none : length book.names ≤ 2147483648 → range_with_len c.loop-feature.feature (length book.names - c.loop-feature.feature) ≡ [] =
    λ few. let count = c.feature_count-feature-end.ensures few in range_none c.loop-feature.feature (length book.names) (omega (arith, count, over)) in
    record {
      found = λ s.
          picking-end P all c.loop-feature.features.items (subst (λ (l : List ℕ). IsPicking P all l c.loop-feature.features.items) (none s.tracks.lawful.few_names) (c.loop-feature.invariant.picked s));
      says = λ few.
          live_end g.I.Listed old c.args.predicate c.args.rect.now c.args.period.now all c.loop-feature.features.items
          (subst (λ (l : List ℕ). L l c.loop-feature.features.items) (none few) (c.loop-feature.invariant.live few));
      named = tt;
      asks = search rules;
      leaves = c.loop-feature.invariant.leaves;
      refused = tt;
    }

pub returns-in_err-holds_for : goal.returns-in_err-holds_for
returns-in_err-holds_for g c =
    let p = err_from_is_err_and c.from_residual.result c.from_residual.ensures.1 in
    let leaves = c.loop-feature.invariant.leaves in
    let test = c.loop-feature-test.true in
    let there : length c.args.self.now.book.names ≤ 2147483648 → c.loop-feature.feature < length c.args.self.now.book.names =
    λ few. let count = c.feature_count-feature-end.ensures few in omega (arith, count, test) in
    record {
      found = search rules;
      says = search rules;
      named = rw (p.1, p.2) (names_before g.I.Listed c.args.self.now c.loop-feature.self leaves c.args.period.now c.loop-feature.feature there _ c.in_err-holds_for.ensures.named);
      asks = search rules;
      leaves = leaves-trans g.I.Listed c.args.self.now c.loop-feature.self c.holds_for.new.self leaves c.in_err-holds_for.ensures.leaves;
      refused = search rules;
    }
