use Rattle.std.proofs.Common.{[], ◌∷◌, ◌++◌, ◌∙◌, ap, is_some, refl, sym, Some}
use Rattle.legs.specs.Joining.{JoiningView}
use Rattle.legs.proofs.JoinLemmas.{counted_met, counted_more, joining_met, joining_more, joining_stays}
use Rattle.legs.proofs.joiner.FileJoiner.join.Goals as goal

pub returns-then-is_some-clause-joining : goal.returns-then-is_some-clause-joining
returns-then-is_some-clause-joining c = λ limits book records is.
    joining_stays limits book records c.args.next.now c.args.self.now (ap (λ (v : JoiningView). is_some v.fault) (sym c.self.view_is) ∙ sym c.is_some.ensures ∙ c.if-is_some.true) is

pub returns-in-Ok-clause-joining : goal.returns-in-Ok-clause-joining
returns-in-Ok-clause-joining c = λ limits book records is.
    let old : JoiningView = record { draft = c.self.inside.draft; legs = c.self.inside.legs.items; limits = c.self.inside.limits; fault = c.self.inside.fault } in
    joining_more limits book records c.args.next.now old (record { draft = c.join.new.self; legs = c.join.new.legs.items; limits = c.self.inside.limits; fault = c.self.inside.fault }) (sym c.is_some.ensures ∙ c.if-is_some.false)
    (rw (← c.self.view_is) at is) refl refl (ap (λ t. t.now) c.in-Ok.ensures.takes.tracks) c.in-Ok.ensures.record c.in-Ok.ensures.faultless (λ book draft. c.in-Ok.ensures.takes.book book draft tt) (λ book draft. c.in-Ok.ensures.takes.legs book draft tt) c.in-Ok.ensures.takes.names

pub returns-in-Err-clause-joining : goal.returns-in-Err-clause-joining
returns-in-Err-clause-joining c = λ limits book records is.
    let old : JoiningView = record { draft = c.self.inside.draft; legs = c.self.inside.legs.items; limits = c.self.inside.limits; fault = c.self.inside.fault } in
    joining_met limits book records c.args.next.now old (record { draft = c.join.new.self; legs = c.join.new.legs.items; limits = c.self.inside.limits; fault = Some c.in-Err.fault }) c.in-Err.fault (sym c.is_some.ensures ∙ c.if-is_some.false)
    (rw (← c.self.view_is) at is) refl refl (ap (λ t. t.now) c.in-Err.ensures.takes.tracks) (rw c.in-Err.fault-is at c.in-Err.ensures.refused)

pub returns-then-is_some-clause-counted : goal.returns-then-is_some-clause-counted
returns-then-is_some-clause-counted c = λ records is.
    counted_met (records ++ c.args.next.now ∷ []) c.args.self.now (ap (λ (v : JoiningView). is_some v.fault) (sym c.self.view_is) ∙ sym c.is_some.ensures ∙ c.if-is_some.true)

pub returns-in-Ok-clause-counted : goal.returns-in-Ok-clause-counted
returns-in-Ok-clause-counted c = λ records is.
    let old : JoiningView = record { draft = c.self.inside.draft; legs = c.self.inside.legs.items; limits = c.self.inside.limits; fault = c.self.inside.fault } in
    counted_more records c.args.next.now old (record { draft = c.join.new.self; legs = c.join.new.legs.items; limits = c.self.inside.limits; fault = c.self.inside.fault }) refl
    c.in-Ok.ensures.takes.names c.in-Ok.ensures.takes.rows (ap (λ t. t.now) c.in-Ok.ensures.takes.tracks) (rw (← c.self.view_is) at is)

pub returns-in-Err-clause-counted : goal.returns-in-Err-clause-counted
returns-in-Err-clause-counted c = λ records is.
    counted_met (records ++ c.args.next.now ∷ []) (record { draft = c.join.new.self; legs = c.join.new.legs.items; limits = c.self.inside.limits; fault = Some c.in-Err.fault }) refl
