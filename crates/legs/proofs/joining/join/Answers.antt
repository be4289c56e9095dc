use Rattle.std.proofs.Common.{◌∙◌, ◌++◌, ◌∷◌, [], take, ap, arith, subst, sym}
use Rattle.std.proofs.lemmas.List.{take_more}
use Rattle.mfcsv.specs.Views.{RecordView}
use Rattle.legs.specs.Joining.{IsJoining}
use Rattle.legs.proofs.JoinLemmas.{all_taken, if_ok}
use Rattle.legs.proofs.joining.join.Goals as goal

pub loop-record-preserved : goal.loop-record-preserved
loop-record-preserved c = λ book stands.
    let records = c.as_slice-records.result.now in
    let k = c.loop-record.record-index in
    let r = c.record-item.result in
    let next = take_more records k r c.loop-record-test.true ∙ ap (λ (x : RecordView). take k records ++ x ∷ []) (sym c.record-item.is) in
    subst (λ done. IsJoining c.args.limits.now c.join.new.self book done) (sym next) (c.in_ok-join.ensures.joining c.args.limits.now book (take k records) (c.loop-record.invariant book stands))

pub returns-clause-joined : goal.returns-clause-joined
returns-clause-joined c =
    if_ok c.finish.result _ _ (λ by p book stands same. p c.args.limits.now book c.args.file.now.records
    (all_taken c.args.limits.now book c.loop-record.joiner c.as_slice-records.result.now c.args.file.now.records c.loop-record.record-index c.as_slice-records.ensures (omega arith) (c.loop-record.invariant book stands)) same) c.finish.ensures.joined
