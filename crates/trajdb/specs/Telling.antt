-- What a database answers by what the pages of its index say, be it sound or not: nothing else is answered, and a page
-- that is named is one that was met and is not what it is to be there, or page 0.
use Rattle.std.specs.Prelude.{ℕ, ◌≡◌, ◌≤◌, ◌<◌, ◌⊎◌, ◌↔◌, List, [], ◌∷◌, length, All, Option, Some, None, Result, IfOk, IfErr, OnOk, true, codes}
use Rattle.std.specs.Global.{Vec}
use Rattle.std.specs.List.{range_with_len}
use Rattle.timebase.specs.Period.{PeriodView}
use Rattle.legs.specs.Legs.{LegView}
use Rattle.legs.specs.Boxes.{RectView, box_over, everything}
use Rattle.legs.specs.Book.{feature_named}
use Rattle.legs.specs.Law.{IsThere}
use Rattle.legs.specs.Limits.{greatest_limit}
use Rattle.legs.specs.Sieves.{IsSieved}
use Rattle.legs.specs.declared.sieve.Sieve.{Sieve}
use Rattle.legs.specs.Questions.{Question, InBox, OfFeature}
use Rattle.legs.specs.Tracks.{IsOver}
use Rattle.legs.specs.declared.head.BookHead.{BookHead}
use Rattle.legs.specs.declared.listed.Listed.{Ghosts}
use Rattle.predicates.specs.Near.{box_near}
use Rattle.predicates.specs.Predicates.{Holds}
use Rattle.predicates.specs.declared.Predicate.{Predicate}
use Rattle.querylang.specs.declared.Command.{Command}
use Rattle.querylang.specs.declared.Command.TheVariants.{Load, Count, Box, Legs, Features, Trajectory, Write}
use Rattle.trajdb.specs.Answers.{HoldsOfLeg, IsAnswer, IsCountsText, IsFileRefusal, count_text, file_answer, legs_text, names_text, refusal_text}
use Rattle.trajdb.specs.Calls.{IsRefused, IsText, LeavesBook, QuestionAsks}
use Rattle.trajdb.specs.Database.{CoreView, IsSound}
use Rattle.trajdb.specs.Script.{file_named}
use Rattle.trajdb.specs.Picks.{Picks}
use Rattle.trajdb.specs.declared.RunFault.{RunFault}
use Rattle.trajdb.specs.declared.RunFault.TheVariants.{Damaged, Failed}

module _ {I : Type 0} (g : Ghosts I) (core : CoreView I) where
  -- the text shows legs, of each of which the catalogue has the name and the row of values
  abbrev pub ShowsLegs : List LegView → List ℕ → Type 0
  ShowsLegs legs text = All (IsThere core.book) legs × (text ≡ legs_text core.book legs)

  -- the answer of the legs that the index tells
  abbrev pub IsToldLegs : Question → List ℕ → Type 0
  IsToldLegs question text =
      (legs : List LegView) × g.tells core.index question legs × ShowsLegs legs text

  -- exactly those of the legs that the index tells, in order, for which, each taken alone, a predicate holds
  abbrev pub ArePickedOf : Predicate → RectView → PeriodView → List LegView → Type 0
  ArePickedOf predicate rect period picked =
      (legs : List LegView) × g.tells core.index (InBox (box_near predicate rect period)) legs
      × Picks (HoldsOfLeg predicate rect period) legs picked

  -- and their answer
  abbrev pub IsToldPicks : Predicate → RectView → PeriodView → List ℕ → Type 0
  IsToldPicks predicate rect period text =
      (picked : List LegView) × ArePickedOf predicate rect period picked × ShowsLegs picked text

  -- the legs of a feature that are live in a period: none of one whose last leg ends before it, else what the index tells
  abbrev pub AreLive : PeriodView → ℕ → List LegView → Type 0
  AreLive period feature legs =
      (IsOver core.tracks feature period × (legs ≡ []))
      ⊎ ((IsOver core.tracks feature period → ⊥)
      × g.tells core.index (OfFeature feature (Some period)) legs)

  -- what a sieve keeps of them
  abbrev pub AreSievedLive : Sieve → PeriodView → ℕ → List LegView → Type 0
  AreSievedLive sieve period feature legs =
      (all : List LegView) × AreLive period feature all × IsSieved sieve period all legs

  -- P is so exactly where a predicate holds for them
  abbrev pub HoldsLive : Predicate → RectView → PeriodView → ℕ → Type 0 → Type 0
  HoldsLive predicate rect period feature P =
      (legs : List LegView) × AreLive period feature legs × (P ↔ Holds predicate legs rect period)

  -- picked are exactly those of the features for whose live legs a predicate holds, in order
  abbrev pub PicksLive : Predicate → RectView → PeriodView → List ℕ → List ℕ → Type 0
  PicksLive predicate rect period [] picked = picked ≡ []
  PicksLive predicate rect period (feature ∷ features) picked =
      (legs : List LegView) × AreLive period feature legs
      × ((Holds predicate legs rect period × (others : List ℕ) × (picked ≡ feature ∷ others)
      × PicksLive predicate rect period features others)
      ⊎ ((Holds predicate legs rect period → ⊥) × PicksLive predicate rect period features picked))

  -- the answer of the features for whose live legs a predicate holds, as the index tells them
  abbrev pub IsToldFeatures : Predicate → RectView → PeriodView → List ℕ → Type 0
  IsToldFeatures predicate rect period text =
      (picked : List ℕ)
      × PicksLive predicate rect period (range_with_len 0 (length core.book.names)) picked
      × (text ≡ names_text core.book picked)

  -- a feature's legs, if there is one, and their answer
  abbrev pub AreToldOf : Option ℕ → List LegView → Type 0
  AreToldOf (Some feature) legs = g.tells core.index (OfFeature feature None) legs
  AreToldOf None legs = legs ≡ []

  -- the answer of the legs of a feature, as the index tells them
  abbrev pub IsToldTrack : Option ℕ → List ℕ → Type 0
  IsToldTrack feature text = (legs : List LegView) × AreToldOf feature legs × ShowsLegs legs text

  -- the answer of all legs as a file, where there is a head
  abbrev pub IsToldFile : Option BookHead → List ℕ → Type 0
  IsToldFile (Some head) text =
      (legs : List LegView) × g.tells core.index (InBox everything) legs
      × All (IsThere core.book) legs × (text ≡ file_answer core.book head legs)
  IsToldFile None text = text ≡ refusal_text (codes "Q10")

  -- counts or a refusal of a file that is there
  abbrev pub IsToldLoad : Option (List ℕ) → List ℕ → Type 0
  IsToldLoad (Some bytes) text = IsCountsText text ⊎ IsFileRefusal text
  IsToldLoad None text = text ≡ refusal_text (codes "Q9")

  -- the text is what a command answers by what is told; of features and of a name, of a database of no more features than
  -- any limit allows
  abbrev pub IsToldAnswer : List (List ℕ × List ℕ) → Command → List ℕ → Type 0
  IsToldAnswer files (Load name) text = IsToldLoad (file_named files name) text
  IsToldAnswer files Count text =
      text ≡ count_text (g.counted core.index) (length core.book.names)
  IsToldAnswer files (Box rect period) text = IsToldLegs (InBox (box_over rect period)) text
  IsToldAnswer files (Legs predicate rect period) text = IsToldPicks predicate rect period text
  IsToldAnswer files (Features predicate rect period) text =
      length core.book.names ≤ greatest_limit → IsToldFeatures predicate rect period text
  IsToldAnswer files (Trajectory name) text =
      length core.book.names ≤ greatest_limit → IsToldTrack (feature_named core.book.names name) text
  IsToldAnswer files Write text = IsToldFile core.book.head text

  -- the page is met by a question, and is not what it is to be there; or it is page 0, where the catalogue lacks a name or
  -- a row of values
  abbrev pub DeniesLegs : Question → ℕ → Type 0
  DeniesLegs question page = g.denies core.index question page ⊎ (page ≡ 0)

  -- so it is for the feature of a name, of a database of no more features than any limit allows
  abbrev pub DeniesNamed : List ℕ → ℕ → Type 0
  DeniesNamed name page =
      ((feature : ℕ)
      × (length core.book.names ≤ greatest_limit → feature_named core.book.names name ≡ Some feature)
      × g.denies core.index (OfFeature feature None) page) ⊎ (page ≡ 0)

  -- and for some feature that is there
  abbrev pub DeniesSome : PeriodView → ℕ → Type 0
  DeniesSome period page =
      ((feature : ℕ)
      × (length core.book.names ≤ greatest_limit → feature < length core.book.names)
      × g.denies core.index (OfFeature feature (Some period)) page) ⊎ (page ≡ 0)

  -- a page that is named is such a one; the database is said to be failed only where it was, or its index refused a leg
  abbrev pub Names : (ℕ → Type 0) → RunFault → Type 0
  Names P (Damaged page) = P page
  Names P Failed = (core.failed ≡ true) ⊎ (g.is_spent core.index ≡ true)
  Names P _ = Unit {0}

  -- why a command is refused: a page that a question names is one that it met; of a `load` nothing is said
  abbrev pub NamesBy : Command → RunFault → Type 0
  NamesBy (Load name) fault = Unit {0}
  NamesBy Count fault = Names (λ page. ⊥) fault
  NamesBy (Box rect period) fault = Names (DeniesLegs (InBox (box_over rect period))) fault
  NamesBy (Legs predicate rect period) fault =
      Names (DeniesLegs (InBox (box_near predicate rect period))) fault
  NamesBy (Features predicate rect period) fault = Names (DeniesSome period) fault
  NamesBy (Trajectory name) fault = Names (DeniesNamed name) fault
  NamesBy Write fault = Names (DeniesLegs (InBox everything)) fault

-- what a question promises, be it answered by legs, by features or by a text
pub record QuestionCall {I A : Type 0} (g : Ghosts I) (old new : CoreView I)
    (result : Result A RunFault) (right told : A → Type 0) (denied : RunFault → Type 0)
    (cost : Type 0) : Type 0 where
  -- over a sound database it is what the book says
  pub found : IfOk result (λ answer. IsSound g old → right answer)
  -- over any database it is what the pages that it met say
  pub says : IfOk result told
  -- a page that is named was met and is not what it has to be there, or is page 0
  pub named : IfErr result denied
  -- a sound database asks for as many pages as the list of legs gives, or at most its bound
  pub asks : OnOk result cost
  -- the book, and all else that is known, stay as they were
  pub leaves : LeavesBook g old new
  -- a sound database refuses it only if memory runs out or the store fails
  pub refused : IfErr result (IsRefused g old new)

-- what the text of a question promises, by the command that it answers, which is no `load`
abbrev pub TextCall : {I : Type 0} → Ghosts I → CoreView I → CoreView I → Command
    → Result (Vec ℕ) RunFault → Type 0
TextCall g old new command result =
    QuestionCall g old new result (λ text. IsAnswer old.limits [] old.book command text.items)
    (λ text. IsToldAnswer g old [] command text.items) (NamesBy g old command)
    (QuestionAsks g old new command)

-- what is made of what is there where P holds: exactly that, or why not
pub record MakingCall {A : Type 0} (result : Result A RunFault) (right : A → Type 0)
    (P : Type 0) : Type 0 where
  -- it is what has to be made
  pub made : IfOk result right
  -- then all of it is there
  pub there : OnOk result P
  -- else memory ran out, or something is not there
  pub fault : IfErr result (IsText P)
