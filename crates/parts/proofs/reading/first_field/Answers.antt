use Rattle.std.proofs.Common.{◌∙◌, ap, sym, List, ℕ, [], unwrap_or, Option}
use Rattle.csv.specs.Records.{fields_of}
use Rattle.mfcsv.specs.Rows.{cut}
use Rattle.mfcsv.proofs.TextLemmas.{field-cut}
use Rattle.parts.proofs.reading.first_field.Goals as goal

pub returns-in-Some : goal.returns-in-Some
returns-in-Some c = c.cut.ensures ∙ ap (λ (o : Option (List ℕ)). cut (unwrap_or o [])) c.in-Some.ensures.value ∙ sym (field-cut (fields_of c.args.row.now) 0)

pub returns-in-None : goal.returns-in-None
unfolding cut
returns-in-None c = ap (λ (o : Option (List ℕ)). cut (unwrap_or o [])) c.in-None.ensures.value ∙ sym (field-cut (fields_of c.args.row.now) 0)
