-- The lines of a script: what each asks for, or why it is refused.
use Rattle.std.specs.Prelude.{ℕ, ◌+◌, ◌==◌, ◌&&◌, ◌||◌, not, Bool, if◌then◌else◌, List, [], length, slice_index, slice_index_or, bytes_eq, codes, Option, Some, None, Result, Ok, Err, ℤ, int_le}
use Rattle.std.specs.Str.{is_utf8}
use Rattle.words.specs.Words.{behind_word, cut, first_word, is_blank, is_empty, words_between}
use Rattle.fixedpoint.specs.Number.{coord_of}
use Rattle.fixedpoint.specs.declared.NumberFault.{NumberFault}
use Rattle.timebase.specs.Instant.{moment_of}
use Rattle.timebase.specs.Period.{PeriodView}
use Rattle.timebase.specs.declared.TimeFault.{TimeFault}
use Rattle.legs.specs.Boxes.{RectView, rect_of}
use Rattle.predicates.specs.declared.Predicate.{Predicate}
use Rattle.predicates.specs.declared.Predicate.TheVariants.{Ever, Always, Enters, Leaves, Crosses, Bypasses}
use Rattle.querylang.specs.declared.LineCode.{LineCode}
use Rattle.querylang.specs.declared.LineCode.TheVariants.{Q1, Q2, Q3, Q4, Q5, Q6, Q7, Q8}
use Rattle.querylang.specs.declared.parse.Keyword.{Keyword}
use Rattle.querylang.specs.declared.parse.Keyword.TheVariants as keyword
use Rattle.querylang.specs.declared.Command.{Command}
use Rattle.querylang.specs.declared.Command.TheVariants.{Load, Count, Box, Legs, Features, Trajectory, Write}
use Rattle.querylang.specs.declared.parse.Question.{Question}

-- what stands between runs of spaces and tabs
abbrev pub line_words : List ℕ → List (List ℕ)
line_words text = words_between is_blank text

-- a rectangle of four coordinates: Q5 where one of them is not read, Q6 where a lesser one is the greater
abbrev pub rectangle : Result ℤ NumberFault → Result ℤ NumberFault → Result ℤ NumberFault
    → Result ℤ NumberFault → Result RectView LineCode
rectangle (Ok x1) (Ok y1) (Ok x2) (Ok y2) =
    if int_le x1 x2 && int_le y1 y2 then Ok (rect_of x1 y1 x2 y2) else Err Q6
rectangle (Ok x1) (Ok y1) (Ok x2) (Err e) = Err Q5
rectangle (Ok x1) (Ok y1) (Err e) y2 = Err Q5
rectangle (Ok x1) (Err e) x2 y2 = Err Q5
rectangle (Err e) y1 x2 y2 = Err Q5

-- a period of two moments: Q7 where one of them is not read, Q8 where the first is the later
abbrev pub period_between : Result ℤ TimeFault → Result ℤ TimeFault → Result PeriodView LineCode
period_between (Ok t1) (Ok t2) =
    if int_le t1 t2 then Ok (record { start = t1; end = t2 }) else Err Q8
period_between (Ok t1) (Err e) = Err Q7
period_between (Err e) t2 = Err Q7

-- the word at a place
abbrev pub word_at : List (List ℕ) → ℕ → List ℕ
word_at ws place = slice_index_or ws place []

-- X1 Y1 X2 Y2, behind so many words
unfoldable pub rect_behind : ℕ → List (List ℕ) → Result RectView LineCode
rect_behind n ws =
    rectangle (coord_of (word_at ws n)) (coord_of (word_at ws (n + 1)))
    (coord_of (word_at ws (n + 2))) (coord_of (word_at ws (n + 3)))

-- T1 T2, behind so many words
unfoldable pub period_behind : ℕ → List (List ℕ) → Result PeriodView LineCode
period_behind n ws = period_between (moment_of (word_at ws n)) (moment_of (word_at ws (n + 1)))

-- a command of a rectangle and a period
abbrev pub over : (RectView → PeriodView → Command) → Result RectView LineCode
    → Result PeriodView LineCode → Result Command LineCode
over command (Ok rect) (Ok period) = Ok (command rect period)
over command (Ok rect) (Err e) = Err e
over command (Err e) period = Err e

-- `box X1 Y1 X2 Y2 T1 T2`
abbrev pub box_command : List (List ℕ) → Result Command LineCode
box_command ws = if length ws == 7 then over Box (rect_behind 1 ws) (period_behind 5 ws) else Err Q3

-- which predicate a word is, in lower case only
unfoldable pub predicate_of : List ℕ → Option Predicate
predicate_of word =
    if bytes_eq word (codes "ever") then Some Ever
    else if bytes_eq word (codes "always") then Some Always
    else if bytes_eq word (codes "enters") then Some Enters
    else if bytes_eq word (codes "leaves") then Some Leaves
    else if bytes_eq word (codes "crosses") then Some Crosses
    else if bytes_eq word (codes "bypasses") then Some Bypasses
    else None

-- a predicate, a rectangle and a period: Q4 where the predicate is unknown, then the others' codes
abbrev pub question : Option Predicate → Result RectView LineCode → Result PeriodView LineCode
    → Result Question LineCode
question (Some predicate) (Ok rect) (Ok period) =
    Ok (record { predicate = predicate; rect = rect; period = period })
question (Some predicate) (Ok rect) (Err e) = Err e
question (Some predicate) (Err e) period = Err e
question None rect period = Err Q4

-- `PRED X1 Y1 X2 Y2 T1 T2`, behind one word
unfoldable pub question_of : List (List ℕ) → Result Question LineCode
question_of ws =
    if length ws == 8
    then question (predicate_of (word_at ws 1)) (rect_behind 2 ws) (period_behind 6 ws) else Err Q3

-- a command of a predicate, a rectangle and a period
abbrev pub tested : (Predicate → RectView → PeriodView → Command) → Result Question LineCode
    → Result Command LineCode
tested command (Ok asked_in_words) = Ok (command asked_in_words.predicate asked_in_words.rect asked_in_words.period)
tested command (Err e) = Err e

-- a command of one word
abbrev pub alone : Command → List (List ℕ) → Result Command LineCode
alone command ws = if length ws == 1 then Ok command else Err Q3

-- a name: the rest of the line, with its inner blanks kept
abbrev pub name_read : List ℕ → Result (List ℕ) LineCode
name_read rest = if is_empty (cut rest) then Err Q3 else Ok (cut rest)

-- a command of a name
abbrev pub named : (List ℕ → Command) → Result (List ℕ) LineCode → Result Command LineCode
named command (Ok name) = Ok (command name)
named command (Err e) = Err e

-- which command a first word is, in lower case only
unfoldable pub keyword_of : List ℕ → Keyword
keyword_of word =
    if bytes_eq word (codes "load") then keyword.Load
    else if bytes_eq word (codes "count") then keyword.Count
    else if bytes_eq word (codes "box") then keyword.Box
    else if bytes_eq word (codes "legs") then keyword.Legs
    else if bytes_eq word (codes "features") then keyword.Features
    else if bytes_eq word (codes "trajectory") then keyword.Trajectory
    else if bytes_eq word (codes "write") then keyword.Write
    else keyword.Unknown

-- what a text asks for whose first word is that command
abbrev pub asked_in_words : Keyword → List ℕ → Result Command LineCode
asked_in_words keyword.Load text = named Load (name_read (behind_word is_blank text))
asked_in_words keyword.Count text = alone Count (line_words text)
asked_in_words keyword.Box text = box_command (line_words text)
asked_in_words keyword.Legs text = tested Legs (question_of (line_words text))
asked_in_words keyword.Features text = tested Features (question_of (line_words text))
asked_in_words keyword.Trajectory text = named Trajectory (name_read (behind_word is_blank text))
asked_in_words keyword.Write text = alone Write (line_words text)
asked_in_words keyword.Unknown text = Err Q2

-- what a text asks for that is cut
unfoldable pub command_of : List ℕ → Result Command LineCode
command_of text = asked_in_words (keyword_of (first_word is_blank text)) text

-- a blank line, or one whose first byte is then `#`
abbrev pub is_no_command : List ℕ → Bool
is_no_command text = is_empty text || (slice_index text 0 == 35)

-- a command that was read, or its refusal
abbrev pub some_command : Result Command LineCode → Result (Option Command) LineCode
some_command (Ok command) = Ok (Some command)
some_command (Err code) = Err code

-- what a line asks for, if it is a command; or why it is refused
unfoldable pub line_command : List ℕ → Result (Option Command) LineCode
line_command line =
    let text = cut line in
    if is_no_command text then Ok None
    else if not (is_utf8 text) then Err Q1
    else some_command (command_of text)
