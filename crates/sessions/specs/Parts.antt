-- What the program sends of a file that is split by feature.
use Rattle.std.specs.Prelude.{ℕ, ◌≡◌, ◌≤◌, ◌⊎◌, ◌+◌, ◌++◌, ◌∷◌, [], List, Option, Some, None, length, map, take}
use Rattle.std.specs.List.{range_with_len}
use Rattle.std.specs.Io.KnownBytes.{Appends}
use Rattle.mfcsv.specs.FileText.{file_of_bytes}
use Rattle.pages.specs.Store.{HasRisen}
use Rattle.parts.specs.Part.{part_text, said_part, whole_part}
use Rattle.trajdb.specs.Run.{IsPrefixOf}
use Rattle.trajdb.specs.declared.RunFault.{RunFault}
use Rattle.trajdb.specs.declared.RunFault.TheVariants.{Memory, Output}

-- a text says what part k of n of the file is to say
abbrev pub SaysPart : (k n : ℕ) → List ℕ → List ℕ → Type 0
SaysPart k n bytes text = file_of_bytes text ≡ said_part k n (file_of_bytes bytes)

-- the text of the part was sent; it says the part, as it follows from its definition
pub record SendsPart (k n : ℕ) (bytes : List ℕ) (sent sent' : Option (List ℕ)) : Type 0 where
  pub appended : Appends sent sent' (part_text k n bytes)
  pub says : SaysPart k n bytes (part_text k n bytes)

-- what was sent is a front of that text, or nothing; the text says the part, as above
pub record SendsSome (k n : ℕ) (bytes : List ℕ) (sent sent' : Option (List ℕ)) : Type 0 where
  pub front : List ℕ
  pub appended : Appends sent sent' front
  pub of : IsPrefixOf front (part_text k n bytes)
  pub says : SaysPart k n bytes (part_text k n bytes)

-- parts that were put into a folder, in order, with their texts
abbrev pub Puts : Type 0
Puts = List (ℕ × List ℕ)

-- what contracts see of a folder of parts: what was put into it so far, where the folder tells it, and how often it refused to
-- give a name
pub record PartsView : Type 0 where
  pub puts : Option Puts
  pub refusals : ℕ

-- with more behind them, where a folder tells it
abbrev pub more_puts : Option Puts → Puts → Option Puts
more_puts (Some before) more = Some (before ++ more)
more_puts None more = None

-- the folder with more put into it
abbrev pub with_puts : PartsView → Puts → PartsView
with_puts folder more = record folder { puts = more_puts folder.puts more }

-- why a part is not put: memory ran out, or the folder refused it, which it counts
abbrev pub IsNotPut : RunFault → PartsView → PartsView → Type 0
IsNotPut fault old new =
    ((fault ≡ Memory) × (new.refusals ≡ old.refusals))
    ⊎ ((fault ≡ Output) × HasRisen old.refusals new.refusals)

-- texts of parts from that number on
abbrev pub numbered : ℕ → List (List ℕ) → Puts
numbered part [] = []
numbered part (text ∷ texts) = (part, text) ∷ numbered (part + 1) texts

-- the parts of n of these bytes from one on, so many
abbrev pub parts_from : ℕ → ℕ → ℕ → List ℕ → Puts
parts_from first count n bytes = map (λ k. (k, whole_part k n bytes)) (range_with_len first count)

-- the first ones of these were put, and no other
abbrev pub HasFirst : ℕ → ℕ → ℕ → List ℕ → PartsView → PartsView → Type 0
HasFirst first count n bytes old new =
    (some : ℕ) × (some ≤ count)
    × (new.puts ≡ more_puts old.puts (parts_from first some n bytes))

-- the same of texts
abbrev pub HasFirstTexts : ℕ → List (List ℕ) → PartsView → PartsView → Type 0
HasFirstTexts part texts old new =
    (count : ℕ) × (count ≤ length texts)
    × (new.puts ≡ more_puts old.puts (numbered part (take count texts)))
