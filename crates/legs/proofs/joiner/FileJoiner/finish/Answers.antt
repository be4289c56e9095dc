use Rattle.std.specs.Option.{option_copied}
use Rattle.legs.specs.Joining.{JoiningView}
use Rattle.legs.proofs.JoinLemmas.{all_counted, all_joined}
use Rattle.legs.proofs.joiner.FileJoiner.finish.Goals as goal

pub returns-clause-joined : goal.returns-clause-joined
returns-clause-joined c = λ limits book records is same.
    let view : JoiningView = record { draft = c.self.inside.draft; legs = c.self.inside.legs.items; limits = c.self.inside.limits; fault = c.self.inside.fault } in
    all_joined limits book c.args.head.now records view (option_copied c.args.first) c.row_count.result c.saturating_sub-records.result (rw (← c.self.view_is) at is) c.in_default.is same c.in_ok-check_head.ensures.ok
    c.row_count.ensures.value c.saturating_sub-records.ensures

pub returns-clause-counted : goal.returns-clause-counted
returns-clause-counted c = λ records is.
    let view : JoiningView = record { draft = c.self.inside.draft; legs = c.self.inside.legs.items; limits = c.self.inside.limits; fault = c.self.inside.fault } in
    all_counted records view c.row_count.result c.saturating_sub-records.result c.in_default.is c.row_count.ensures.value c.saturating_sub-records.ensures (rw (← c.self.view_is) at is)
