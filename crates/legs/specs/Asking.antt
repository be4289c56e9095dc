-- What a call of an index leaves, and why it is refused.
use Rattle.std.specs.Prelude.{ℕ, ◌⊎◌, ◌≡◌, ◌≢◌, ◌≤◌, ◌≤ℤ◌, ◌<◌, ◌+◌, ◌-◌, ◌*◌, ◌%◌, ◌^◌, ◌++◌, ◌∷◌, [], drop, true, List, Option, Some, Result, Err, IfErr, IsErrOf, OnErr, OnOk}
use Rattle.legs.specs.Legs.{LegView}
use Rattle.legs.specs.Index.{MayRefuse, MayRefuseLeg, HasRisen, CanFollowInTurn}
use Rattle.legs.specs.Costs.{ShapeView, RisesBy, RisesAtMost, add_bound}
use Rattle.legs.specs.declared.index.IndexFault.{IndexFault}
use Rattle.legs.specs.declared.index.IndexFault.TheVariants.{Memory, Store, Damaged, StoreFull, Spent}
use Rattle.legs.specs.declared.listed.Listed.{Ghosts}
use Rattle.legs.specs.Questions.{Question, OfFeature}
use Rattle.legs.specs.Sieves.{IsSieved}
use Rattle.legs.specs.declared.sieve.Sieve.{Sieve}
use Rattle.timebase.specs.Period.{PeriodView}

-- the same index, later: its shape is the same, what is counted did not fall, and its store is faithful if it was
pub record IsLater {I : Type 0} (g : Ghosts I) (old new : I) : Type 0 where
  pub plan : g.plan new ≡ g.plan old
  pub faults : g.faults old ≤ g.faults new
  pub asked : g.asked old ≤ g.asked new
  pub faithful : g.is_faithful old → g.is_faithful new

-- what a question leaves, answered or not: the list, and what its pages say, sound where it was, spent where it was, and
-- the numbers by which it finds its legs; where no page was changed, none is, and none is written
pub record Leaves {I : Type 0} (g : Ghosts I) (old new : I) : Type 0 where
  pub content : g.content new ≡ g.content old
  pub told : (question : Question) (legs : List LegView) → g.tells new question legs
      → g.tells old question legs
  pub denied : (question : Question) (page : ℕ) → g.denies new question page
      → g.denies old question page
  pub sound : g.is_sound old → g.is_sound new
  pub spent : g.is_spent new ≡ g.is_spent old
  pub found_by : g.found_by new ≡ g.found_by old
  pub later : IsLater g old new
  pub clean : g.is_clean old → g.is_clean new
  pub marked : g.is_marked old → g.is_marked new
  pub written : g.is_clean old → g.written new ≡ g.written old

-- why a question is not answered, be the index sound or not: memory ran out, a store failed, a page that is met is not
-- what it is to be there, or an `add` was refused
abbrev pub Denies : {I : Type 0} → Ghosts I → I → Question → IndexFault → Type 0
Denies g index question Memory = Unit {0}
Denies g index question Store = Unit {0}
Denies g index question (Damaged page) = g.denies index question page
Denies g index question StoreFull = ⊥
Denies g index question Spent = g.is_spent index ≡ true

-- its pages say some legs of a feature that are live in a period, and these are what a sieve keeps of them
abbrev pub TellsSieved : {I : Type 0} → Ghosts I → I → ℕ → PeriodView → Sieve → List LegView
    → Type 0
TellsSieved g index feature period sieve legs =
    (all : List LegView) × g.tells index (OfFeature feature (Some period)) all
    × IsSieved sieve period all legs

-- why a question is refused: an index that is spent always says so, and stays as it is; a sound one refuses
-- for want of memory or a store that failed alone, and the latter only where a fault was counted; none says
-- that a store is full
pub record Refusals {I A : Type 0} (g : Ghosts I) (old new : I)
    (result : Result A IndexFault) : Type 0 where
  pub was_spent : g.is_spent old ≡ true → (result ≡ Err Spent) × (new ≡ old)
  pub sound : IfErr result (λ fault. g.is_sound old → MayRefuse fault)
  pub store : IsErrOf result Store → HasRisen (g.faults old) (g.faults new)
  pub full : IsErrOf result StoreFull → ⊥

-- of a sound index a question asked for that many pages
abbrev pub Asks : {I : Type 0} → Ghosts I → I → I → (Option ShapeView → List LegView → ℕ) → Type 0
Asks g old new cost =
    g.is_sound old → RisesBy (g.asked old) (g.asked new) (cost (g.plan old) (g.content old))

-- and for at most that many
abbrev pub AsksAtMost : {I : Type 0} → Ghosts I → I → I → (Option ShapeView → List LegView → ℕ)
    → Type 0
AsksAtMost g old new bound =
    g.is_sound old → RisesAtMost (g.asked old) (g.asked new) (bound (g.plan old) (g.content old))

-- a sound index is sound, and has these legs at its end
pub record Ends {I : Type 0} (g : Ghosts I) (old new : I) (legs : List LegView) : Type 0 where
  pub sound : g.is_sound new
  pub content : g.content new ≡ g.content old ++ legs

-- what legs make of a sound index, where they may follow one another
abbrev pub Grows : {I : Type 0} → Ghosts I → I → I → List LegView → Type 0
Grows g old new legs = g.is_sound old → CanFollowInTurn (g.content old) legs → Ends g old new legs

-- of a sound index a leg that may follow asked for at most the pages of its ways through the tree
abbrev pub AddAsks : {I : Type 0} → Ghosts I → I → I → LegView → Type 0
AddAsks g old new leg =
    g.is_sound old → CanFollowInTurn (g.content old) (leg ∷ [])
    → RisesAtMost (g.asked old) (g.asked new) (add_bound (g.plan old) (g.content old ++ leg ∷ []))

-- why legs are refused, and what a refusal leaves: the index is spent, and one that was spent always says so,
-- and stays as it is; a sound one refuses legs that may follow for want of memory, a store that failed or is
-- full alone. Sound or not, a store is said to have failed or to be full only if it did or is
pub record LegRefusals {I A : Type 0} (g : Ghosts I) (old new : I) (legs : List LegView)
    (result : Result A IndexFault) : Type 0 where
  pub spent : OnErr result (g.is_spent new ≡ true)
  pub was_spent : g.is_spent old ≡ true → (result ≡ Err Spent) × (new ≡ old)
  pub sound : IfErr result
      (λ fault. g.is_sound old → CanFollowInTurn (g.content old) legs → MayRefuseLeg fault)
  pub store : IsErrOf result Store → HasRisen (g.faults old) (g.faults new)
  pub full : IsErrOf result StoreFull → g.is_store_full new

-- what the start of a file's legs leaves: the list, sound where it was, spent where it was. Once it is answered, an index over
-- a faithful store is marked, and synced where it was not; where it is refused, and the index was clean, no page as written has
-- changed but page 0, and that one only where the store failed. It says of none but a spent index that it is spent, and of no
-- store that it is full
pub record Starts {I A : Type 0} (g : Ghosts I) (old new : I)
    (result : Result A IndexFault) : Type 0 where
  pub content : g.content new ≡ g.content old
  pub sound : g.is_sound old → g.is_sound new
  pub spent : g.is_spent new ≡ g.is_spent old
  pub later : IsLater g old new
  pub marks : OnOk result (g.is_faithful old → g.is_marked new)
  pub marked : g.is_marked old → g.is_marked new
  pub synced : OnOk result (g.is_faithful old → (g.is_marked old → ⊥) → g.is_synced new)
  pub works : IsErrOf result Spent → g.is_spent old ≡ true
  pub roomy : IsErrOf result StoreFull → ⊥
  pub others : OnErr result
      (g.is_faithful old → g.is_clean old → drop 1 (g.written new) ≡ drop 1 (g.written old))
  pub first : OnErr result
      (g.is_faithful old → g.is_clean old → (HasRisen (g.faults old) (g.faults new) → ⊥)
      → g.written new ≡ g.written old)
