use Rattle.std.proofs.Common.{[], ◌∷◌, ◌++◌, ◌∙◌, ap, sym, List, ℕ}
use Rattle.mfcsv.specs.Rows.{Row}
use Rattle.mfcsv.specs.Unread.{cells}
use Rattle.mfcsv.specs.DataRecord.{attributes_of}
use Rattle.mfcsv.proofs.RowLemmas.{attributes_of-more, attributes_of-none}
use Rattle.mfcsv.proofs.data_record.copy_values.Goals as goal

pub loop-i-init : goal.loop-i-init
loop-i-init c = c.in_ok-values.ensures.items ∙ sym (attributes_of-none (cells c.args.row.now))

pub loop-i-preserved : goal.loop-i-preserved
loop-i-preserved c =
    let row : Row = cells c.args.row.now in
    c.in_ok-push.ensures.items ∙ ap (λ (values : List (List ℕ)). values ++ (c.in_ok-value.value ∷ [])) c.loop-i.invariant
    ∙ ap (λ (value : List ℕ). attributes_of c.loop-i.i row ++ (value ∷ [])) c.in_ok-value.ensures ∙ sym (attributes_of-more row c.loop-i.i)
