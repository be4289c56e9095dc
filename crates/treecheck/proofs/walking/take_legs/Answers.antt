use Rattle.std.proofs.Common.{refl, arith, ◌≡◌, ◌+◌, ◌∷◌, [], ◌++◌, drop, map, sym, ap, ◌∙◌, subst, append_assoc}
use Rattle.std.proofs.lemmas.Bool.{true≢false}
use Rattle.std.proofs.lemmas.List.{append-nil, drop_all}
use Rattle.tbtree.specs.Turn.{last_leg, ComeInTurn}
use Rattle.treecheck.proofs.WalkLemmas.{drop_at, turn_next, turn_first, turn_rest}
use Rattle.treecheck.proofs.walking.take_legs.Goals as goal

pub returns-then-not-is_next_leg : goal.returns-then-not-is_next_leg
returns-then-not-is_next_leg g c = record {
  taken = λ t. absurd (true≢false (sym t));
  whole = λ h.
      let legs = (g.L.AnyLeaf.says c.args.leaf.now).legs in
      let leg = c.leg-leg.result in
      let d = drop_at legs c.loop-i.i leg c.leg-leg.ensures in
      let rest = subst (ComeInTurn c.args.feature c.args.rows c.loop-i.last) d (c.loop-i.invariant.back h) in
      let fits = turn_first c.args.feature c.args.rows c.loop-i.last leg (drop (c.loop-i.i + 1) legs) rest in
      sym c.if-not-is_next_leg.true ∙ c.is_next_leg.ensures.1 fits;
}

pub returns : goal.returns
returns g c =
    let legs = (g.L.AnyLeaf.says c.args.leaf.now).legs in
    let last = c.loop-i.last in
    let items = c.loop-i.ordinals.items in
    let inv = c.loop-i.invariant in
    let end : drop c.loop-i.i legs ≡ [] = drop_all c.loop-i.i legs (omega (arith, c.loop-i-test.false, c.len-i-end.ensures.value)) in
    record {
      taken = λ t. (
        inv.on (subst (ComeInTurn c.args.feature c.args.rows last) (sym end) tt),
        (ap (last_leg last) (sym end) ∙ inv.last, sym (append-nil items) ∙ ap (λ l. items ++ map (λ leg. leg.ordinal) l) (sym end) ∙ inv.ordinals),
      );
      whole = λ h. refl;
    }

pub loop-i-preserved : goal.loop-i-preserved
loop-i-preserved g c =
    let legs = (g.L.AnyLeaf.says c.args.leaf.now).legs in
    let f = c.args.feature in
    let rows = c.args.rows in
    let i = c.loop-i.i in
    let last = c.loop-i.last in
    let leg = c.leg-leg.result in
    let inv = c.loop-i.invariant in
    let d : drop i legs ≡ leg ∷ drop (i + 1) legs = drop_at legs i leg c.leg-leg.ensures in
    let one : ComeInTurn f rows last (leg ∷ []) = c.is_next_leg.ensures.0 c.if-not-is_next_leg.false in
    record {
      on = λ h. inv.on (subst (ComeInTurn f rows last) (sym d) (turn_next f rows last leg (drop (i + 1) legs) one h));
      back = λ h. turn_rest f rows last leg (drop (i + 1) legs) (subst (ComeInTurn f rows last) d (inv.back h));
      last = ap (last_leg last) (sym d) ∙ inv.last;
      ordinals = ap (λ l. l ++ map (λ leg. leg.ordinal) (drop (i + 1) legs)) c.in_ok-push.ensures.items
          ∙ ap (λ n. (c.loop-i.ordinals.items ++ n ∷ []) ++ map (λ leg. leg.ordinal) (drop (i + 1) legs)) (ap (λ leg. leg.ordinal) c.leg.view_is)
          ∙ append_assoc c.loop-i.ordinals.items (leg.ordinal ∷ []) (map (λ leg. leg.ordinal) (drop (i + 1) legs))
          ∙ ap (λ l. c.loop-i.ordinals.items ++ map (λ leg. leg.ordinal) l) (sym d) ∙ inv.ordinals;
    }
