use Rattle.std.proofs.Common.{ap}
use Rattle.std.specs.Option.{option_copied}
use Rattle.legs.proofs.JoinLemmas.{other_space}
use Rattle.legs.proofs.joining.check_head.Goals as goal

pub returns-then-not-same_space-clause-refused : goal.returns-then-not-same_space-clause-refused
returns-then-not-same_space-clause-refused c =
    other_space _ c.in-Some.first.now c.args.head.now c.same_space.result (ap option_copied c.in-Some.is) c.same_space.ensures c.if-not-same_space.true
