-- What the exit of a `?` answers.
use Rattle.std.proofs.Common.{◌≡◌, ◌∙◌, sym, subst, Ok, Err, Option, Result}
use Rattle.mfcsv.specs.Answer.{Judges, RowFaultIs}
use Rattle.mfcsv.specs.declared.Code.{Code}
use Rattle.mfcsv.specs.declared.rows.RowFault.{RowFault}

-- the same fault, and a value of which more is known
pub judges_same : {T : Type 0} (r : Result T RowFault) (whole step : Option Code) (P Q : T → Type 0) → whole ≡ step → ((x : T) → P x → Q x) → Judges r step P → Judges r whole Q
judges_same (Ok x) whole step P Q w more j = (w ∙ j.0, more x j.1)
judges_same (Err e) whole step P Q w more j = subst (λ o. RowFaultIs e o) (sym w) j
