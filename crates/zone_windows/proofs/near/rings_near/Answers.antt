use Rattle.std.proofs.lemmas.Result.{IfOk-weaker}
use Rattle.zone_windows.proofs.NearLemmas.{on_still}
use Rattle.zone_windows.proofs.near.rings_near.Goals as goal

pub returns : goal.returns
returns c = IfOk-weaker c.rings_along.result _ _ (λ near h p within. h p within (on_still p)) c.rings_along.ensures
