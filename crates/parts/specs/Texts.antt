-- The texts of several parts, as far as they were written.
use Rattle.std.specs.Prelude.{ℕ, ◌++◌, ◌∷◌, List, [], Bool, false}
use Rattle.parts.specs.Part.{text_part}

-- the text of a part so far, and whether a record was refused
pub record PartView : Type 0 where
  pub part : ℕ
  pub text : List ℕ
  pub refused : Bool

-- a line end alone
abbrev pub begun : ℕ → PartView
begun k = record { part = k; text = 10 ∷ []; refused = false }

-- with what stands in the place of a record, by its fields
abbrev pub with_fields : ℕ → List (List ℕ) → PartView → PartView
with_fields n fields a =
    record { part = a.part; text = a.text ++ text_part a.part n fields; refused = false }
