use Rattle.std.proofs.Common.{ℕ, List, ◌≡◌, ◌++◌, flat_map, take}
use Rattle.reports.specs.StayTexts.{next_field, shown_value}
use Rattle.reports.proofs.values_text.push_row.Given as goal

-- the values so far are appended
abbrev pub invariant-values : goal.invariant-values
invariant-values l = l.text.items ≡ l.initial.text.items ++ flat_map (λ (value : List ℕ). next_field (shown_value value)) (take l.i l.values)
