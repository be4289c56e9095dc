-- The lines of a script, and the named files that it may load.
use Rattle.std.specs.Prelude.{ℕ, ◌-◌, ◌==◌, ◌++◌, Bool, if◌then◌else◌, List, [], ◌∷◌, map, take, length, slice_index, Option, Some, None, is_some, bytes_eq}

-- the byte is LF, which ends a line
abbrev pub is_line_end : ℕ → Bool
is_line_end c = c == 10

-- a byte in front of the first piece
abbrev pub onto_first : ℕ → List (List ℕ) → List (List ℕ)
onto_first c [] = (c ∷ []) ∷ []
onto_first c (line ∷ lines) = (c ∷ line) ∷ lines

-- the pieces that LF cuts a script into; a last piece that is empty is none
unfoldable pub pieces_of : List ℕ → List (List ℕ)
pieces_of [] = []
pieces_of (c ∷ cs) = if is_line_end c then [] ∷ pieces_of cs else onto_first c (pieces_of cs)

-- a piece without the CR at its end, where it has one
unfoldable pub without_return : List ℕ → List ℕ
without_return piece =
    if slice_index piece (length piece - 1) == 13 then take (length piece - 1) piece else piece

-- the lines of a script
abbrev pub lines_of : List ℕ → List (List ℕ)
lines_of script = map without_return (pieces_of script)

-- the bytes of the first file of that name
abbrev pub file_named : List (List ℕ × List ℕ) → List ℕ → Option (List ℕ)
file_named [] name = None
file_named (file ∷ files) name = if bytes_eq name file.0 then Some file.1 else file_named files name

-- the files with one more; of a name that is there the first counts
abbrev pub files_with : List (List ℕ × List ℕ) → List ℕ → List ℕ → List (List ℕ × List ℕ)
files_with files name bytes =
    if is_some (file_named files name) then files else files ++ (name, bytes) ∷ []
