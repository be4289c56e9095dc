use Rattle.std.proofs.Common.{◌∙◌, sym, ap, subst}
use Rattle.std.specs.Option.{option_map}
use Rattle.version1.specs.OldForm.{old_node_of}
use Rattle.tbtree.specs.Descent.{legs_in}
use Rattle.version1.specs.OldLegs.{AreAmong, Opens}
use Rattle.version1.proofs.TakingLemmas.{leaf_legs}
use Rattle.version1.proofs.old_legs.open_leaf.Goals as goal

pub returns-in_ok-put_legs-in-Some-clause-opened :
    goal.returns-in_ok-put_legs-in-Some-clause-opened
returns-in_ok-put_legs-in-Some-clause-opened g c = λ fa legs stand among.
    c.in_ok-put_legs-in-Some.ensures.stand legs stand
    (subst (λ ls. AreAmong ls legs) (ap (λ o. legs_in (option_map old_node_of o)) (c.in-Ok.ensures.value fa) ∙ leaf_legs (old_node_of c.in-Ok.payload) c.in-Some.leaf (sym c.old_leaf.ensures ∙ c.in-Some.is)) among)

pub returns-in_ok-put_legs-in-Some-clause-opens :
    goal.returns-in_ok-put_legs-in-Some-clause-opens
returns-in_ok-put_legs-in-Some-clause-opens g c = λ fa.
    subst (λ ls. Opens ls c.args.opened.now.entries c.put_legs.new.opened.entries)
    (sym (ap (λ o. legs_in (option_map old_node_of o)) (c.in-Ok.ensures.value fa) ∙ leaf_legs (old_node_of c.in-Ok.payload) c.in-Some.leaf (sym c.old_leaf.ensures ∙ c.in-Some.is)))
    c.in_ok-put_legs-in-Some.ensures.opens
