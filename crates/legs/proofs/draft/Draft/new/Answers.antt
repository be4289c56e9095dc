use Rattle.legs.proofs.DraftLemmas.{draft_start}
use Rattle.legs.proofs.draft.Draft.new.Goals as goal

pub returns-clause-book : goal.returns-clause-book
returns-clause-book c = λ book stands. draft_start _ book c.new.ensures c.feature_count.ensures c.leg_count.ensures c.row_count.ensures.value stands
