use Rattle.std.proofs.Common.{◌∙◌}
use Rattle.zoning.proofs.MomentLemmas.{code_down, code_up, up_more, up_whole}
use Rattle.zoning.proofs.moment.Moment.micros_up.Goals as goal

pub returns-then-self-down-clause-value : goal.returns-then-self-down-clause-value
returns-then-self-down-clause-value c =
    let moment = c.args.self.now in
    let t = c.thousandths-down.result in
    let is = c.thousandths-down.ensures in
    code_down c.millis.result moment.whole t c.millis.ensures.value c.millis.ensures.moment is.few
    ∙ up_whole moment.whole moment.rest moment.den t moment.proper is.whole is.next c.if-self-down.true

pub returns-else-self-down-clause-value : goal.returns-else-self-down-clause-value
returns-else-self-down-clause-value c =
    let moment = c.args.self.now in
    let t = c.thousandths-down.result in
    let is = c.thousandths-down.ensures in
    code_up c.millis.result moment.whole t c.millis.ensures.value c.millis.ensures.moment is.few
    ∙ up_more moment.whole moment.rest moment.den t moment.proper is.whole is.next c.if-self-down.false
