use Rattle.visiting.proofs.EndLemmas.{end_of}
use Rattle.zoning.specs.Ends.{IsMilli}
use Rattle.zoning.proofs.ends.end_by.Goals as goal

pub returns : goal.returns
returns c =
    let moment = c.args.moment.now in
    end_of (IsMilli moment c.args.leg) (IsMilli moment c.args.period) c.is_at.result c.is_at-2.result c.by.result c.is_at.ensures c.is_at-2.ensures c.by.ensures
