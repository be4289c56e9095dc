use Rattle.std.proofs.Common.{arith, refl, sym, subst, ◌∙◌, ◌≡◌, ◌-◌, suc, drop, take}
use Rattle.std.specs.Prelude.{filter}
use Rattle.std.proofs.lemmas.Bool.{true≢false}
use Rattle.legs.specs.Legs.{IsLeg, is_live}
use Rattle.tbnode.proofs.LawLemmas.{legs_are_lawful}
use Rattle.chains.specs.Taking.{PutsSome}
use Rattle.chains.proofs.AgainLemmas.{there_at}
use Rattle.chains.proofs.LiveLemmas.{all_at}
use Rattle.chains.proofs.SieveLemmas.{puts_by, puts_first, puts_on}
use Rattle.chains.proofs.kept.push_wanted.Goals as goal

pub legs-init : goal.legs-init
legs-init c = record {
  from = c.requires;
  to = omega arith;
  put = λ view e h. puts_first c.args.sieve.now c.args.period.now view.legs c.args.found.now.items c.args.ends.1;
}

pub returns-then-not-branch : goal.returns-then-not-branch
returns-then-not-branch c = λ view e h.
    let inv = c.legs.invariant in
    let t = there_at view.legs (c.legs.i - 1) (omega (arith, c.legs-test.true, inv.to, h)) in
    absurd (true≢false (sym (c.in_ok-push_leg.ensures view e t.0 t.1).0 ∙ c.if-not-branch.true))

pub legs-preserved-else-not-branch : goal.legs-preserved-else-not-branch
legs-preserved-else-not-branch c =
    let inv = c.legs.invariant in
    let i = c.legs.i - 1 in
    let period = c.args.period.now in
    let before = c.args.found.now.items in
    record {
      from = omega (arith, c.legs-test.true);
      to = omega (arith, inv.to);
      put = λ view e h.
          let t = there_at view.legs i (omega (arith, c.legs-test.true, inv.to, h)) in
          let next : c.legs.i ≡ suc i = omega (arith, c.legs-test.true) in
          puts_on c.args.sieve.now period view.legs i c.args.ends.1 t.0 before c.legs.found.items c.push_leg.new.found.items (omega (arith, c.legs-test.true, inv.to)) t.1
          (sym (c.is_wanted.ensures view e t.0 t.1) ∙ c.if-is_wanted.true)
          (c.in_ok-push_leg.ensures view e t.0 t.1).1
          (subst (λ j. PutsSome c.args.sieve.now period (filter (is_live period) (drop j (take c.args.ends.1 view.legs))) before c.legs.found.items) next (inv.put view e h));
    }

pub legs-preserved : goal.legs-preserved
legs-preserved c =
    let inv = c.legs.invariant in
    let i = c.legs.i - 1 in
    let period = c.args.period.now in
    let before = c.args.found.now.items in
    record {
      from = omega (arith, c.legs-test.true);
      to = omega (arith, inv.to);
      put = λ view e h.
          let t = there_at view.legs i (omega (arith, c.legs-test.true, inv.to, h)) in
          let next : c.legs.i ≡ suc i = omega (arith, c.legs-test.true) in
          let lawful = all_at IsLeg view.legs i t.0 (legs_are_lawful c.args.leaf.now view e) t.1 in
          puts_by c.args.sieve.now period view.legs i c.args.ends.1 t.0 before c.legs.found.items lawful.rises (omega (arith, c.legs-test.true, inv.to)) t.1
          (sym (c.is_wanted.ensures view e t.0 t.1) ∙ c.if-is_wanted.false)
          (subst (λ j. PutsSome c.args.sieve.now period (filter (is_live period) (drop j (take c.args.ends.1 view.legs))) before c.legs.found.items) next (inv.put view e h));
    }

pub returns : goal.returns
returns c = λ view e h.
    let inv = c.legs.invariant in
    let end : c.legs.i ≡ suc c.args.ends.0 = omega (arith, c.legs-test.false, inv.from) in
    (refl, subst (λ j. PutsSome c.args.sieve.now c.args.period.now (filter (is_live c.args.period.now) (drop j (take c.args.ends.1 view.legs))) c.args.found.now.items c.legs.found.items) end (inv.put view e h))
