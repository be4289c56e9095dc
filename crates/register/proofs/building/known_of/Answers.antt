use Rattle.std.proofs.Common.{◌≡◌, ◌∙◌, ◌++◌, ◌∷◌, [], ap, sym, subst}
use Rattle.std.specs.Vec.Iter.{into_iter_items}
use Rattle.std.proofs.lemmas.List.{append_assoc}
use Rattle.register.specs.Restoring.{AreLawful}
use Rattle.register.proofs.ReaderLemmas.{makes_refused}
use Rattle.register.proofs.BuildLemmas.{known_more, known_not}
use Rattle.register.proofs.building.known_of.Goals as goal

pub loop-feature-preserved : goal.loop-feature-preserved
loop-feature-preserved c =
    let steps : into_iter_items c.loop-feature.feature-iterator ≡ c.in-Some.feature ∷ into_iter_items c.next.new.self = c.in-Some.ensures.steps.0 in
    record {
      known = known_more c.args.count c.loop-feature.yielded c.in-Some.feature c.loop-feature.known c.add_feature.new.known c.loop-feature.invariant.known c.in_ok-add_feature.ensures.is;
      all = c.loop-feature.invariant.all ∙ ap (λ l. c.loop-feature.yielded ++ l) steps ∙ sym (append_assoc c.loop-feature.yielded (c.in-Some.feature ∷ []) (into_iter_items c.next.new.self));
    }

pub returns-in_err-add_feature : goal.returns-in_err-add_feature
returns-in_err-add_feature c =
    let steps : into_iter_items c.loop-feature.feature-iterator ≡ c.in-Some.feature ∷ into_iter_items c.next.new.self = c.in-Some.ensures.steps.0 in
    makes_refused c.in_err-add_feature.field-0.0 c.from_residual-in_err-add_feature.ensures.1
    (λ b lawful. known_not c.args.count c.loop-feature.yielded (into_iter_items c.next.new.self) c.in-Some.feature c.loop-feature.known c.loop-feature.invariant.known
    (c.in_err-add_feature.ensures.broken b)
    (subst (λ l. AreLawful c.args.count l) (c.loop-feature.invariant.all ∙ ap (λ l. c.loop-feature.yielded ++ l) steps) lawful))
    c.in_err-add_feature.ensures.fault
