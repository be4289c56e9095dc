use Rattle.std.proofs.Common.{◌∙◌, sym}
use Rattle.std.proofs.lemmas.Bool.{false≢true}
use Rattle.std.proofs.lemmas.Bool.Decides.{Decides-int_eq}
use Rattle.zoning.proofs.MomentLemmas.{milli_only}
use Rattle.zoning.proofs.moment.Moment.is_at.Goals as goal

pub returns-else-eq : goal.returns-else-eq
returns-else-eq c =
    let moment = c.args.self.now in
    let at = c.args.at in
    (λ t. absurd (false≢true (sym c.if-eq.false ∙ t)), λ milli. c.eq.ensures ∙ (Decides-int_eq moment.whole at).1 (milli_only moment.whole at moment.rest moment.den moment.proper milli).0)
