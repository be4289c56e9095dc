-- What a call of a database leaves, and why it stopped.
use Rattle.std.specs.Prelude.{ℕ, ◌≡◌, ◌<◌, ◌≤◌, ◌+◌, ◌-◌, ◌^◌, [], ◌∷◌, slice_index_or, true, false, List, Option, Some, None, Result, Ok, IsTrue, is_some, if◌then◌else◌, ◌⊎◌, ◌↔◌, drop, length, sum_by, map}
use Rattle.std.specs.List.{range_with_len}
use Rattle.timebase.specs.Period.{PeriodView}
use Rattle.legs.specs.declared.head.BookHead.{BookHead}
use Rattle.legs.specs.Legs.{LegView}
use Rattle.legs.specs.Boxes.{box_over, everything}
use Rattle.legs.specs.Book.{Book, feature_named}
use Rattle.legs.specs.Costs.{ShapeView, RisesBy, RisesAtMost, reaches, search_cost, track_cost, track_in_bound}
use Rattle.predicates.specs.Near.{box_near}
use Rattle.legs.specs.Index.{HasRisen, legs_of}
use Rattle.legs.specs.Asking.{IsLater as IsLaterIndex, Leaves as IndexLeaves}
use Rattle.legs.specs.declared.listed.Listed.{Ghosts}
use Rattle.querylang.specs.Line.{line_command}
use Rattle.querylang.specs.declared.LineCode.{LineCode}
use Rattle.querylang.specs.declared.Command.{Command}
use Rattle.querylang.specs.declared.Command.TheVariants.{Load, Count, Box, Legs, Features, Trajectory, Write}
use Rattle.trajdb.specs.Script.{file_named}
use Rattle.trajdb.specs.Database.{CoreView, IsSound}
use Rattle.trajdb.specs.declared.LoadFault.{LoadFault}
use Rattle.trajdb.specs.declared.LoadFault.TheVariants.{Refused, Run}
use Rattle.trajdb.specs.declared.RunFault.{RunFault}
use Rattle.trajdb.specs.declared.RunFault.TheVariants.{Memory, Store, Damaged, StoreFull, Failed, Output}

-- what a question leaves, answered or not: the book, sound where it was, begun where it was, failed where it was
pub record LeavesBook {I : Type 0} (g : Ghosts I) (old new : CoreView I) : Type 0 where
  pub book : new.book ≡ old.book
  pub tracks : new.tracks ≡ old.tracks
  pub begun : new.begun ≡ old.begun
  pub sound : IsSound g old → IsSound g new
  pub failed : new.failed ≡ old.failed
  pub limits : new.limits ≡ old.limits
  pub index : IndexLeaves g old.index new.index

-- the same database, later: its limits are the same, and its index is a later one
pub record IsLater {I : Type 0} (g : Ghosts I) (old new : CoreView I) : Type 0 where
  pub limits : new.limits ≡ old.limits
  pub index : IsLaterIndex g old.index new.index

-- no page as written has changed but page 0, and that one only where the store failed; the index is sound where
-- it was
pub record IsUnwritten {I : Type 0} (g : Ghosts I) (old new : I) : Type 0 where
  pub others : drop 1 (g.written new) ≡ drop 1 (g.written old)
  pub first : (HasRisen (g.faults old) (g.faults new) → ⊥) → g.written new ≡ g.written old
  pub sound : g.is_sound old → g.is_sound new

-- what a load leaves of the pages of an index, whatever it answers: page 0 stays marked; where no page was
-- changed, page 0 is marked, or no page as written has changed but page 0, and that one only where the store failed
pub record LeavesPages {I : Type 0} (g : Ghosts I) (old new : I) : Type 0 where
  pub marked : g.is_marked old → g.is_marked new
  pub clean : g.is_clean old → g.is_marked new ⊎ IsUnwritten g old new

-- of a database that has begun page 0 is marked; of one that has neither begun nor failed no page is changed
pub record HasIndexPages {I : Type 0} (g : Ghosts I) (core : CoreView I) : Type 0 where
  pub begun : core.begun ≡ true → g.is_marked core.index
  pub idle : core.begun ≡ false → core.failed ≡ false → g.is_clean core.index

-- what a call leaves of the pages, whatever it answers, be the database sound or not: one that has neither begun nor
-- failed is as a question leaves it
pub record KeepsPages {I : Type 0} (g : Ghosts I) (old new : CoreView I) : Type 0 where
  pub begun : old.begun ≡ true → new.begun ≡ true
  pub idle : new.begun ≡ false → new.failed ≡ false → LeavesBook g old new
  pub pages : g.is_faithful old.index → HasIndexPages g old → HasIndexPages g new
  pub written : g.is_faithful old.index → HasIndexPages g old → LeavesPages g old.index new.index

-- a sound database has begun exactly where it had, or an accepted file began it
abbrev pub Begins : {I : Type 0} → Ghosts I → CoreView I → CoreView I → Type 0 → Type 0
Begins g old new accepts = IsSound g old → (new.begun ≡ true) ↔ ((old.begun ≡ true) ⊎ accepts)

-- nothing else begins it, whatever is answered
abbrev pub BeginsOnly : {I : Type 0} → Ghosts I → CoreView I → CoreView I → Type 0 → Type 0
BeginsOnly g old new accepts = IsSound g old → new.begun ≡ true → (old.begun ≡ true) ⊎ accepts

-- a fault of a question over a sound database
abbrev pub IsQuestionFault : RunFault → Type 0
IsQuestionFault Memory = Unit {0}
IsQuestionFault Store = Unit {0}
IsQuestionFault _ = ⊥

-- a fault of a load over a sound database
abbrev pub IsLoadFault : RunFault → Type 0
IsLoadFault Memory = Unit {0}
IsLoadFault Store = Unit {0}
IsLoadFault StoreFull = Unit {0}
IsLoadFault _ = ⊥

-- a fault by which a store is called upon: its count of faults rose, or it is full
abbrev pub IsOfStore : {I : Type 0} → Ghosts I → I → I → RunFault → Type 0
IsOfStore g old new Store = HasRisen (g.faults old) (g.faults new)
IsOfStore g old new StoreFull = g.is_store_full new
IsOfStore g old new Output = ⊥
IsOfStore g old new _ = Unit {0}

-- and no store is full at a question
abbrev pub IsAsked : {I : Type 0} → Ghosts I → I → I → RunFault → Type 0
IsAsked g old new Store = HasRisen (g.faults old) (g.faults new)
IsAsked g old new StoreFull = ⊥
IsAsked g old new Output = ⊥
IsAsked g old new _ = Unit {0}

-- why a question was not answered
pub record IsRefused {I : Type 0} (g : Ghosts I) (old new : CoreView I)
    (fault : RunFault) : Type 0 where
  pub sound : IsSound g old → IsQuestionFault fault
  pub store : IsAsked g old.index new.index fault

-- why a call that may load stopped
pub record IsStopped {I : Type 0} (g : Ghosts I) (old new : CoreView I)
    (fault : RunFault) : Type 0 where
  pub sound : IsSound g old → old.failed ≡ false → IsLoadFault fault
  pub store : IsOfStore g old.index new.index fault

-- why a load was not told
abbrev pub IsLoadStop : {I : Type 0} → Ghosts I → CoreView I → CoreView I → LoadFault → Type 0
IsLoadStop g old new (Refused code number) = Unit {0}
IsLoadStop g old new (Run fault) = IsStopped g old new fault

-- a file was not joined
abbrev pub IsJoinStop : LoadFault → Type 0
IsJoinStop (Refused code number) = Unit {0}
IsJoinStop (Run fault) = fault ≡ Memory

-- why a run stopped
abbrev pub IsRunStop : {I : Type 0} → Ghosts I → CoreView I → CoreView I → RunFault → Type 0
IsRunStop g old new Store = HasRisen (g.faults old.index) (g.faults new.index)
IsRunStop g old new (Damaged page) = IsSound g old → old.failed ≡ false → ⊥
IsRunStop g old new StoreFull = g.is_store_full new.index
IsRunStop g old new Failed = IsSound g old → old.failed ≡ false → ⊥
IsRunStop g old new _ = Unit {0}

-- why a text was not made, of what is there where P holds; where something is not, page 0 is named
abbrev pub IsText : Type 0 → RunFault → Type 0
IsText P Memory = Unit {0}
IsText P (Damaged page) = (page ≡ 0) × (P → ⊥)
IsText P _ = ⊥

-- the command is a `load` of a file that is there
abbrev pub Loads : List (List ℕ × List ℕ) → Command → Type 0
Loads files (Load name) = IsTrue (is_some (file_named files name))
Loads files _ = ⊥

-- a line that was read is the `load` of a file that is there
abbrev pub LoadsIn : List (List ℕ × List ℕ) → Result (Option Command) LineCode → Type 0
LoadsIn files (Ok (Some command)) = Loads files command
LoadsIn files _ = ⊥

-- so is the line
unfoldable pub LoadsBy : List (List ℕ × List ℕ) → List ℕ → Type 0
LoadsBy files line = LoadsIn files (line_command line)

-- the line is a `load`, be its file there or not
abbrev pub IsLoadLine : List ℕ → Type 0
IsLoadLine line = (name : List ℕ) × (line_command line ≡ Ok (Some (Load name)))

-- so is some line
abbrev pub HasLoad : List (List ℕ) → Type 0
HasLoad lines = (k : ℕ) × (k < length lines) × IsLoadLine (slice_index_or lines k [])

-- the line is a command, or is refused
unfoldable pub Speaks : List ℕ → Type 0
Speaks line = line_command line ≡ Ok None → ⊥

-- how many pages `trajectory` asks for: those of the feature's leaves, none where no feature has the name
abbrev pub track_asks : Option ℕ → Option ShapeView → List LegView → ℕ
track_asks (Some feature) plan legs = track_cost feature plan legs
track_asks None plan legs = 0

-- the leaves of a feature that are asked for at most: none where all its legs end before the period
abbrev pub feature_bound : ℕ → PeriodView → Option ShapeView → List LegView → ℕ
feature_bound feature period plan legs =
    if reaches period (legs_of feature legs) then track_in_bound feature period plan legs else 0

-- the sum of the bounds over features
abbrev pub features_bound : List ℕ → PeriodView → Option ShapeView → List LegView → ℕ
features_bound features period plan legs =
    sum_by (λ bound. bound) (map (λ feature. feature_bound feature period plan legs) features)

-- `write` searches everything, where there is a head
abbrev pub write_asks : Option BookHead → Option ShapeView → List LegView → ℕ
write_asks None plan legs = 0
write_asks (Some head) plan legs = search_cost everything plan legs

-- at most how many pages a command asks for over a book, which is no `load`
abbrev pub command_cost : Book → Option ShapeView → Command → ℕ
command_cost book plan (Box rect period) = search_cost (box_over rect period) plan book.legs
command_cost book plan (Legs predicate rect period) =
    search_cost (box_near predicate rect period) plan book.legs
command_cost book plan (Features predicate rect period) =
    features_bound (range_with_len 0 (length book.names)) period plan book.legs
command_cost book plan (Trajectory name) =
    track_asks (feature_named book.names name) plan book.legs
command_cost book plan Write = write_asks book.head plan book.legs
command_cost book plan _ = 0

-- what a command adds to the count of pages asked for, over a book; of a `load` nothing is said
abbrev pub AsksFor : Book → Option ShapeView → Command → ℕ → ℕ → Type 0
AsksFor book plan (Load name) old new = Unit {0}
AsksFor book plan Count old new = new ≡ old
AsksFor book plan (Features predicate rect period) old new =
    RisesAtMost old new (command_cost book plan (Features predicate rect period))
AsksFor book plan command old new = RisesBy old new (command_cost book plan command)

-- so of a line that was read
abbrev pub said_cost : Book → Option ShapeView → Result (Option Command) LineCode → ℕ
said_cost book plan (Ok (Some command)) = command_cost book plan command
said_cost book plan _ = 0

-- so of lines, none of which is a `load`: the sum
abbrev pub lines_cost : Book → Option ShapeView → List (List ℕ) → ℕ
lines_cost book plan [] = 0
lines_cost book plan (line ∷ lines) = said_cost book plan (line_command line) + lines_cost book plan lines

-- a counter rose by at most that many, where it is below the greatest number that it counts
abbrev pub RisesWithin : ℕ → ℕ → ℕ → Type 0
RisesWithin old new bound = new < 2 ^ 64 - 1 → new ≤ old + bound

-- of a sound database a question asked for that many pages
abbrev pub Asks : {I : Type 0} → Ghosts I → CoreView I → CoreView I
    → (Option ShapeView → List LegView → ℕ) → Type 0
Asks g old new cost =
    IsSound g old
    → RisesBy (g.asked old.index) (g.asked new.index) (cost (g.plan old.index) old.book.legs)

-- and for at most that many
abbrev pub AsksAtMost : {I : Type 0} → Ghosts I → CoreView I → CoreView I
    → (Option ShapeView → List LegView → ℕ) → Type 0
AsksAtMost g old new bound =
    IsSound g old
    → RisesAtMost (g.asked old.index) (g.asked new.index) (bound (g.plan old.index) old.book.legs)

-- what a question over a sound database asked for
abbrev pub QuestionAsks : {I : Type 0} → Ghosts I → CoreView I → CoreView I → Command → Type 0
QuestionAsks g old new command =
    IsSound g old
    → AsksFor old.book (g.plan old.index) command (g.asked old.index) (g.asked new.index)
