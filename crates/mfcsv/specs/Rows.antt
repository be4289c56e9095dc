-- The records of a file, and their fields.
use Rattle.std.specs.Prelude.{ℕ, nat_le, slice_index, ◌&&◌, Bool, if◌then◌else◌, List, [], ◌∷◌, map, length, slice_index_or, bytes_eq}
use Rattle.std.specs.Char.{to_ascii_lowercase}
use Rattle.csv.specs.Reading.{records, default_config, is_bom}
unfoldable pub use Rattle.words.specs.Words.{cut}
pub use Rattle.words.specs.Words.{is_empty}
use Rattle.words.specs.Words.{is_separator, words_between}

-- a record: its fields, cut
abbrev pub Row : Type 0
Row = List (List ℕ)

-- a text that begins with a byte order mark, EF BB BF
abbrev pub has_mark : List ℕ → Bool
has_mark bytes =
    nat_le 3 (length bytes)
    && is_bom (slice_index bytes 0) (slice_index bytes 1) (slice_index bytes 2)

-- a text without the byte order marks at its very start
unfoldable pub without_marks : List ℕ → List ℕ
without_marks [] = []
without_marks (a ∷ []) = a ∷ []
without_marks (a ∷ b ∷ []) = a ∷ b ∷ []
without_marks (a ∷ b ∷ c ∷ rest) = if is_bom a b c then without_marks rest else a ∷ b ∷ c ∷ rest

-- the records of a file, as csv reads them behind the byte order marks: comma, double quote, no header
-- row, any number of fields; each field cut
abbrev pub rows_of : List ℕ → List Row
rows_of bytes = map (map cut) (records default_config (without_marks bytes))

-- the field at a place, from 0; a field that is missing is blank
abbrev pub field : Row → ℕ → List ℕ
field row place = slice_index_or row place []

-- the same text, but for the case of ASCII letters
abbrev pub same_word : List ℕ → List ℕ → Bool
same_word a b = bytes_eq (map to_ascii_lowercase a) (map to_ascii_lowercase b)

-- what stands between runs of spaces, tabs, CR and LF
abbrev pub words : List ℕ → List (List ℕ)
words text = words_between is_separator text
