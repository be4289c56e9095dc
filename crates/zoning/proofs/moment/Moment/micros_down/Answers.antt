use Rattle.std.proofs.Common.{◌∙◌}
use Rattle.zoning.proofs.MomentLemmas.{code_down, down_is}
use Rattle.zoning.proofs.moment.Moment.micros_down.Goals as goal

pub returns-clause-value : goal.returns-clause-value
returns-clause-value c =
    let moment = c.args.self.now in
    let t = c.thousandths.result in
    let is = c.thousandths.ensures in
    code_down c.millis.result moment.whole t c.millis.ensures.value c.millis.ensures.moment is.few ∙ down_is moment.whole moment.rest moment.den t moment.proper is.whole is.next
