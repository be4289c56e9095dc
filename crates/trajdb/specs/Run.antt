-- The run of a script.
use Rattle.std.specs.Prelude.{◌≡◌, ◌≢◌, ◌⊎◌, ℕ, ◌+◌, ◌-◌, List, [], ◌∷◌, ◌++◌, drop, take, Option, Bool, true, false, ◌<◌, length, slice_index_or}
use Rattle.std.specs.Io.KnownBytes.{Appends}
use Rattle.legs.specs.Limits.{LimitsView}
use Rattle.legs.specs.Book.{Book}
use Rattle.trajdb.specs.Database.{CoreView}
use Rattle.trajdb.specs.Calls.{Speaks, LoadsBy}
use Rattle.trajdb.specs.declared.RunFault.{RunFault}
use Rattle.trajdb.specs.declared.RunFault.TheVariants.{Memory}
use Rattle.trajdb.specs.Answers.{AcceptsLine, IsLineText, line_book}

-- the first bytes are a prefix of the others
abbrev pub IsPrefixOf : List ℕ → List ℕ → Type 0
IsPrefixOf front all = (rest : List ℕ) × (all ≡ front ++ rest)

-- lines, each of which does a step: from what was before it to what it leaves, with what it answers
module _ {S : Type 0} (step : S → S → List ℕ → List ℕ → Type 0) where
  -- the text is the answers to lines, one after another, each a step from what the lines before left
  abbrev pub DoesAll : (old new : S) → List (List ℕ) → List ℕ → Type 0
  DoesAll old new [] text = (new ≡ old) × (text ≡ [])
  DoesAll old new (line ∷ lines) text =
      (mid : S) × (first : List ℕ) × (others : List ℕ) × (text ≡ first ++ others)
      × step old mid line first × DoesAll mid new lines others

  -- all lines are done, and their answers and nothing else were sent
  pub record RunsBy (sent sent' : Option (List ℕ)) (old new : S) (lines : List (List ℕ)) : Type 0
    where
      pub text : List ℕ
      pub does : DoesAll old new lines text
      pub sends : Appends sent sent' text

  -- the first k lines are done, all but the last of them and then that one; what was sent is a prefix of their answers,
  -- and all of them but the last one are whole
  pub record CutsBy (sent sent' : Option (List ℕ)) (old new : S) (lines : List (List ℕ)) : Type 0
    where
      pub k : ℕ
      pub mid : S
      pub before : List ℕ
      pub earlier : DoesAll old mid (take (k - 1) lines) before
      pub text : List ℕ
      pub last : DoesAll mid new (drop (k - 1) (take k lines)) text
      pub written : List ℕ
      pub sends : Appends sent sent' written
      pub whole : IsPrefixOf before written
      pub prefix : IsPrefixOf written (before ++ text)

-- the text is the answer to a line over a book, which becomes the book after the line
abbrev pub AnswersLine : LimitsView → List (List ℕ × List ℕ) → (old new : Book) → List ℕ → List ℕ
    → Type 0
AnswersLine limits files old new line text =
    IsLineText limits files old line text × (new ≡ line_book limits files old line)

-- some line is a `load` of a file that is there and is accepted into the book after the lines before
abbrev pub AcceptsSome : LimitsView → List (List ℕ × List ℕ) → Book → List (List ℕ) → Type 0
AcceptsSome limits files book [] = ⊥
AcceptsSome limits files book (line ∷ lines) =
    AcceptsLine limits files book line
    ⊎ AcceptsSome limits files (line_book limits files book line) lines

-- line k + 1 is there, and is not done: it is a command or a refused line; the first k lines are done, and
-- their answers, whole, and nothing else were sent; the book is the one after them, or line k + 1 is a `load`
-- of a file that is there, and the database is failed
pub record HasStopped (limits : LimitsView) (files : List (List ℕ × List ℕ))
    (sent sent' : Option (List ℕ)) (old new : Book) (failed : Bool) (lines : List (List ℕ))
    (k : ℕ) : Type 0 where
  pub within : k < length lines
  pub speaks : Speaks (slice_index_or lines k [])
  pub before : Book
  pub run : RunsBy (AnswersLine limits files) sent sent' old before (take k lines)
  pub book : failed ≡ false → new ≡ before
  pub loads : failed ≡ true → LoadsBy files (slice_index_or lines k [])

-- a line is not done, be the database sound or not: it is a command or a refused line; the database is failed
-- only where it is a `load` of a file that is there, and always then, unless memory was wanted
pub record FailsAt (files : List (List ℕ × List ℕ)) (failed : Bool) (fault : RunFault)
    (line : List ℕ) : Type 0 where
  pub speaks : Speaks line
  pub loads : failed ≡ true → LoadsBy files line
  pub fails : LoadsBy files line → fault ≢ Memory → failed ≡ true

-- some line is there, and is not done
abbrev pub StopsAt : List (List ℕ × List ℕ) → Bool → RunFault → List (List ℕ) → Type 0
StopsAt files failed fault lines =
    (k : ℕ) × (k < length lines) × FailsAt files failed fault (slice_index_or lines k [])

-- of a database: all lines are done, each over the book after the lines before
abbrev pub Runs : {I : Type 0} → List (List ℕ × List ℕ) → Option (List ℕ) → Option (List ℕ)
    → CoreView I → CoreView I → List (List ℕ) → Type 0
Runs files sent sent' old new lines =
    RunsBy (AnswersLine old.limits files) sent sent' old.book new.book lines

-- the database has begun only where it had, or where one of these lines is the load of a file that is accepted
abbrev pub BeginsIn : {I : Type 0} → List (List ℕ × List ℕ) → CoreView I → CoreView I
    → List (List ℕ) → Type 0
BeginsIn files old new lines =
    new.begun ≡ true → (old.begun ≡ true) ⊎ AcceptsSome old.limits files old.book lines

-- of a database: some line is not done, and those before it are; it is begun by none behind that line, nor by that one
-- where it is not failed
abbrev pub Stops : {I : Type 0} → List (List ℕ × List ℕ) → Option (List ℕ) → Option (List ℕ)
    → CoreView I → CoreView I → List (List ℕ) → Type 0
Stops files sent sent' old new lines =
    (k : ℕ) × HasStopped old.limits files sent sent' old.book new.book new.failed lines k
    × BeginsIn files old new (take (k + 1) lines)
    × (new.failed ≡ false → BeginsIn files old new (take k lines))

-- of a database: some lines are done, and the output failed at the last of them; it is begun by none behind that one
abbrev pub IsCut : {I : Type 0} → List (List ℕ × List ℕ) → Option (List ℕ) → Option (List ℕ)
    → CoreView I → CoreView I → List (List ℕ) → Type 0
IsCut files sent sent' old new lines =
    (cut : CutsBy (AnswersLine old.limits files) sent sent' old.book new.book lines)
    × BeginsIn files old new (take cut.k lines)
