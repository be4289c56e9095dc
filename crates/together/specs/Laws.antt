-- What the parts of a book answer together: of each answer of the whole, what is of part k is what part k answers; put
-- together, these are the answer of the whole.
use Rattle.std.specs.Prelude.{ℕ, ◌≡◌, ◌<◌, List, [], length, map, Option, Some, None, Result, Ok, Err, sum_by}
use Rattle.std.specs.List.{flat_map, range_with_len}
use Rattle.std.specs.List.Sorted.{IsPermutation}
use Rattle.timebase.specs.Period.{PeriodView}
use Rattle.legs.specs.declared.head.BookHead.{BookHead}
use Rattle.legs.specs.Legs.{LegView}
use Rattle.legs.specs.Boxes.{BoxView, RectView}
use Rattle.legs.specs.Index.{legs_in_box}
use Rattle.legs.specs.Book.{Book, feature_named}
use Rattle.legs.specs.Limits.{LimitsView}
use Rattle.predicates.specs.declared.Predicate.{Predicate}
use Rattle.querylang.specs.Line.{line_command}
use Rattle.querylang.specs.declared.LineCode.{LineCode}
use Rattle.querylang.specs.declared.Command.{Command}
use Rattle.querylang.specs.declared.Command.TheVariants.{Load, Count, Features, Write}
use Rattle.writer.specs.Entries.{NamedLegView}
use Rattle.trajdb.specs.Picks.{Picks}
use Rattle.trajdb.specs.Answers.{HoldsOfLeg, IsLineText, PicksFeatures, count_text, legs_text, feature_name, names_text, track_of}
use Rattle.together.specs.Told.{told, told_text, told_names_text}
use Rattle.together.specs.Parts.{IsTold, own_legs, own_names}

-- the text of an answer says what is told of its legs
abbrev pub LegsText : Type 0
LegsText = (book : Book) (legs : List LegView)
    → legs_text book legs ≡ told_text book.head (told book legs)

-- the text of an answer of features says their names
abbrev pub NamesText : Type 0
NamesText =
    (book : Book) (features : List ℕ)
    → names_text book features ≡ told_names_text (map (feature_name book) features)

-- what part k of a whole answers: what the whole does, of its own legs and names, in their order
pub record PartAnswers (f : List ℕ → ℕ) (k : ℕ) (whole part : Book) : Type 0 where
  -- `box`
  pub by_box : (query : BoxView)
      → told part (legs_in_box query part.legs)
      ≡ own_legs f k (told whole (legs_in_box query whole.legs))
  -- `legs`
  pub by_predicate : (predicate : Predicate) (rect : RectView) (period : PeriodView)
      (all own : List LegView) → Picks (HoldsOfLeg predicate rect period) whole.legs all
      → Picks (HoldsOfLeg predicate rect period) part.legs own
      → told part own ≡ own_legs f k (told whole all)
  -- `features`
  pub of_features : (predicate : Predicate) (rect : RectView) (period : PeriodView)
      (all own : List ℕ) → IsTold whole → IsTold part → PicksFeatures whole predicate rect period all
      → PicksFeatures part predicate rect period own
      → map (feature_name part) own ≡ own_names f k (map (feature_name whole) all)
  -- `trajectory`
  pub trajectory : (name : List ℕ) → IsTold whole → IsTold part
      → told part (track_of (feature_named part.names name) part.legs)
      ≡ own_legs f k (told whole (track_of (feature_named whole.names name) whole.legs))
  -- and of a name that is the part's own it is the whole's
  pub track : (name : List ℕ) → f name ≡ k → IsTold whole → IsTold part
      → told part (track_of (feature_named part.names name) part.legs)
      ≡ told whole (track_of (feature_named whole.names name) whole.legs)

-- any legs that are told, part after part
abbrev pub LegsMerge : Type 0
LegsMerge =
    (f : List ℕ → ℕ) (n : ℕ) (entries : List NamedLegView) → ((name : List ℕ) → f name < n)
    → IsPermutation entries (flat_map (λ k. own_legs f k entries) (range_with_len 0 n))

-- any names
abbrev pub NamesMerge : Type 0
NamesMerge =
    (f : List ℕ → ℕ) (n : ℕ) (names : List (List ℕ)) → ((name : List ℕ) → f name < n)
    → IsPermutation names (flat_map (λ k. own_names f k names) (range_with_len 0 n))

module _ (f : List ℕ → ℕ) (n : ℕ) where
  -- the whole answers some legs, and each part those of them that are its own, in their order
  pub record LegsTogether (head : Option BookHead) (text : List ℕ) (own : ℕ → List ℕ) : Type 0 where
    pub legs : List NamedLegView
    pub whole : text ≡ told_text head legs
    pub each : (k : ℕ) → k < n → own k ≡ told_text head (own_legs f k legs)

  -- the same of names
  pub record NamesTogether (text : List ℕ) (own : ℕ → List ℕ) : Type 0 where
    pub names : List (List ℕ)
    pub whole : text ≡ told_names_text names
    pub each : (k : ℕ) → k < n → own k ≡ told_names_text (own_names f k names)

  -- the counts of the whole are the sums of those of the parts
  pub record CountsTogether (text : List ℕ) (own : ℕ → List ℕ) : Type 0 where
    pub legs : ℕ → ℕ
    pub features : ℕ → ℕ
    pub whole : text
        ≡ count_text (sum_by legs (range_with_len 0 n)) (sum_by features (range_with_len 0 n))
    pub each : (k : ℕ) → k < n → own k ≡ count_text (legs k) (features k)

  -- what a command answers; nothing is said here of `load`, whose counts and refusals have laws of their own, and of
  -- `write`
  abbrev pub AnswerTogether : Option BookHead → Command → List ℕ → (ℕ → List ℕ) → Type 0
  AnswerTogether head (Load name) text own = Unit {0}
  AnswerTogether head Count text own = CountsTogether text own
  AnswerTogether head (Features predicate rect period) text own = NamesTogether text own
  AnswerTogether head Write text own = Unit {0}
  AnswerTogether head _ text own = LegsTogether head text own

  -- what a line answers: a line that is no command nothing, and a refused one the same to all
  abbrev pub SayTogether : Option BookHead → Result (Option Command) LineCode → List ℕ
      → (ℕ → List ℕ) → Type 0
  SayTogether head (Ok (Some command)) text own = AnswerTogether head command text own
  SayTogether head (Ok None) text own = (text ≡ []) × ((k : ℕ) → k < n → own k ≡ [])
  SayTogether head (Err code) text own = (k : ℕ) → k < n → own k ≡ text

-- what the parts of a whole answer together
pub record PartsAnswer (f : List ℕ → ℕ) (n : ℕ) (whole : Book) (parts : ℕ → Book) : Type 0 where
  -- the whole has as many legs and names as its parts together
  pub counts : (length whole.legs ≡ sum_by (λ k. length (parts k).legs) (range_with_len 0 n))
      × (length whole.names ≡ sum_by (λ k. length (parts k).names) (range_with_len 0 n))
  -- each line of a script: its legs and names by part, its counts as sums, its refusals alike
  pub lines : (limits : LimitsView) (own_limits : ℕ → LimitsView)
      (files : List (List ℕ × List ℕ)) (own_files : ℕ → List (List ℕ × List ℕ))
      (line text : List ℕ) (own : ℕ → List ℕ) → IsLineText limits files whole line text
      → ((k : ℕ) → k < n → IsLineText (own_limits k) (own_files k) (parts k) line (own k))
      → SayTogether f n whole.head (line_command line) text own
  -- the parts' answers to `box`, put together, have the legs of the whole's answer
  pub box_merge : (query : BoxView) → IsPermutation (told whole (legs_in_box query whole.legs))
      (flat_map (λ k. told (parts k) (legs_in_box query (parts k).legs)) (range_with_len 0 n))
  -- so have those to `legs`
  pub legs_answer_merge : (predicate : Predicate) (rect : RectView) (period : PeriodView)
      (all : List LegView) (own : ℕ → List LegView)
      → Picks (HoldsOfLeg predicate rect period) whole.legs all
      → ((k : ℕ) → k < n → Picks (HoldsOfLeg predicate rect period) (parts k).legs (own k))
      → IsPermutation (told whole all) (flat_map (λ k. told (parts k) (own k)) (range_with_len 0 n))
  -- and those to `features` the names
  pub features_answer_merge : (predicate : Predicate) (rect : RectView) (period : PeriodView)
      (all : List ℕ) (own : ℕ → List ℕ) → PicksFeatures whole predicate rect period all
      → ((k : ℕ) → k < n → PicksFeatures (parts k) predicate rect period (own k))
      → IsPermutation (map (feature_name whole) all)
      (flat_map (λ k. map (feature_name (parts k)) (own k)) (range_with_len 0 n))
