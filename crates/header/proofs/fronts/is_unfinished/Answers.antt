use Rattle.std.proofs.Common.{◌∙◌}
use Rattle.header.proofs.FrontLemmas.{reads_unfinished, unfinished_says}
use Rattle.header.proofs.fronts.is_unfinished.Goals as goal

pub returns-in-Some : goal.returns-in-Some
returns-in-Some c = reads_unfinished c.args.payload.now c.in-Some.front c.eq.result c.in-Some.ensures.value c.in-Some.ensures.bytes c.eq.ensures

pub returns-in-None : goal.returns-in-None
returns-in-None c = (λ f. absurd cc, λ u. let n = c.in-None.ensures.value ∙ unfinished_says c.args.payload.now u in absurd cc)
