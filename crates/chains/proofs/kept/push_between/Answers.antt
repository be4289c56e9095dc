use Rattle.std.proofs.Common.{refl, subst, sym, suc, drop, take}
use Rattle.std.specs.Prelude.{filter}
use Rattle.legs.specs.Legs.{is_live}
use Rattle.chains.specs.Taking.{PutsSome}
use Rattle.chains.proofs.SieveLemmas.{puts_none}
use Rattle.chains.proofs.kept.push_between.Goals as goal

pub returns-in-Ends : goal.returns-in-Ends
returns-in-Ends c = λ view e h. (
  refl,
  subst (λ s. PutsSome s c.args.period.now (filter (is_live c.args.period.now) (drop (suc c.args.ends.0) (take c.args.ends.1 view.legs))) c.args.found.now.items c.args.found.now.items) (sym c.in-Ends.is)
      (puts_none c.args.period.now (filter (is_live c.args.period.now) (drop (suc c.args.ends.0) (take c.args.ends.1 view.legs))) c.args.found.now.items),
)
