-- What a script answers over a whole and over its parts, line by line.
use Rattle.std.specs.Prelude.{ℕ, ◌≡◌, ◌<◌, ◌⊎◌, ◌++◌, ◌∷◌, List, [], Some}
use Rattle.legs.specs.Book.{Book}
use Rattle.legs.specs.Limits.{LimitsView}
use Rattle.querylang.specs.Line.{line_command}
use Rattle.parts.specs.Names.{part_of}
use Rattle.trajdb.specs.Answers.{AcceptsLine, line_book}
use Rattle.trajdb.specs.Script.{file_named}
use Rattle.trajdb.specs.Run.{AnswersLine, DoesAll}
use Rattle.together.specs.Laws.{SayTogether}
use Rattle.together.specs.Loading.{IsPartText}
use Rattle.together.specs.Parts.{ArePartsOf}

-- each part has, under the name of each file of the whole, its part of that file
abbrev pub HaveParts : ℕ → List (List ℕ × List ℕ) → (ℕ → List (List ℕ × List ℕ)) → Type 0
HaveParts n files own_files =
    (name bytes : List ℕ) → file_named files name ≡ Some bytes → (k : ℕ) → k < n
    → (own : List ℕ) × (file_named (own_files k) name ≡ Some own) × IsPartText k n bytes own

module _ (n : ℕ) (limits : LimitsView) (own_limits : ℕ → LimitsView)
    (files : List (List ℕ × List ℕ)) (own_files : ℕ → List (List ℕ × List ℕ)) where
  -- a line is a `load` that the whole and all parts accept, or it is one of none of them
  abbrev pub AllOrNone : Book → (ℕ → Book) → List ℕ → Type 0
  AllOrNone whole parts line =
      (AcceptsLine limits files whole line
      × ((k : ℕ) → k < n → AcceptsLine (own_limits k) (own_files k) (parts k) line))
      ⊎ ((AcceptsLine limits files whole line → ⊥)
      × ((k : ℕ) → k < n → AcceptsLine (own_limits k) (own_files k) (parts k) line → ⊥))

  -- so is each line of a script
  abbrev pub LoadTogether : Book → (ℕ → Book) → List (List ℕ) → Type 0
  LoadTogether whole parts [] = Unit {0}
  LoadTogether whole parts (line ∷ lines) =
      AllOrNone whole parts line
      × LoadTogether (line_book limits files whole line)
      (λ k. line_book (own_limits k) (own_files k) (parts k) line) lines

  -- the texts are answers to one line after another, which the whole and the parts answer together
  abbrev pub RunTogether : Book → (ℕ → Book) → List (List ℕ) → List ℕ → (ℕ → List ℕ) → Type 0
  RunTogether whole parts [] text own = (text ≡ []) × ((k : ℕ) → k < n → own k ≡ [])
  RunTogether whole parts (line ∷ lines) text own =
      (first : List ℕ) × (others : List ℕ) × (own_first : ℕ → List ℕ) × (own_others : ℕ → List ℕ)
      × (text ≡ first ++ others) × ((k : ℕ) → k < n → own k ≡ own_first k ++ own_others k)
      × SayTogether (part_of n) n whole.head (line_command line) first own_first
      × RunTogether (line_book limits files whole line)
      (λ k. line_book (own_limits k) (own_files k) (parts k) line) lines others own_others

-- a whole script over a whole and its parts, each within limits of its own, each file of which is accepted by all or by none: the parts answer each line as the whole does, and
-- the books after it are a whole and its parts
abbrev pub ScriptLaw : Type 0
ScriptLaw =
    (n : ℕ) (limits : LimitsView) (own_limits : ℕ → LimitsView) (files : List (List ℕ × List ℕ))
    (own_files : ℕ → List (List ℕ × List ℕ)) (whole after : Book) (parts own_after : ℕ → Book)
    (lines : List (List ℕ)) (text : List ℕ) (own : ℕ → List ℕ)
    → ArePartsOf (part_of n) n whole parts
    → HaveParts n files own_files
    → LoadTogether n limits own_limits files own_files whole parts lines
    → DoesAll (AnswersLine limits files) whole after lines text
    → ((k : ℕ) → k < n
    → DoesAll (AnswersLine (own_limits k) (own_files k)) (parts k) (own_after k) lines (own k))
    → RunTogether n limits own_limits files own_files whole parts lines text own
    × ArePartsOf (part_of n) n after own_after
