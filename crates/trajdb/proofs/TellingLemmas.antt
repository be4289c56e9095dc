-- What a database tells, and which page it names.
use Rattle.std.proofs.Common.{ℕ, ◌≡◌, ◌∙◌, ◌+◌, ◌<◌, ◌≤◌, ◌++◌, ◌∷◌, [], ap, map, take, get_or, List, All, Option, Some, None, Result, Ok, Err, IfOk, refl, sym, subst, inl, inr, length, true}
use Rattle.std.specs.Prelude.{◌⊎◌, IfErr, OnOk}
use Rattle.std.specs.Global.{Vec}
use Rattle.std.proofs.lemmas.List.{append_assoc, append-nil, map-append, take_more}
use Rattle.std.proofs.lemmas.Result.{IfErr-weaker, IfOk-weaker}
use Rattle.timebase.specs.Period.{PeriodView}
use Rattle.legs.specs.Asking.{Denies}
use Rattle.legs.specs.Boxes.{RectView}
use Rattle.legs.specs.Book.{Book}
use Rattle.legs.specs.Law.{IsThere}
use Rattle.legs.specs.Limits.{greatest_limit}
use Rattle.legs.specs.Legs.{LegView}
use Rattle.legs.specs.Questions.{Question, OfFeature}
use Rattle.legs.specs.Tracks.{IsOver}
use Rattle.legs.specs.declared.index.IndexFault.{IndexFault}
use Rattle.legs.specs.declared.index.IndexFault.TheVariants as index
use Rattle.legs.specs.declared.listed.Listed.{Ghosts}
use Rattle.predicates.specs.Predicates.{Holds}
use Rattle.predicates.specs.declared.Predicate.{Predicate}
use Rattle.trajdb.specs.Answers.{legs_text, names_text}
use Rattle.trajdb.specs.Calls.{IsText, LeavesBook}
use Rattle.trajdb.specs.Database.{CoreView, IsSound}
use Rattle.trajdb.specs.Faults.{run_fault_of}
use Rattle.trajdb.specs.Telling.{AreLive, AreToldOf, DeniesLegs, DeniesNamed, DeniesSome, MakingCall, Names, PicksLive, QuestionCall}
use Rattle.trajdb.proofs.FaultLemmas.{text_refused}
use Rattle.trajdb.specs.declared.RunFault.{RunFault}
use Rattle.trajdb.specs.declared.RunFault.TheVariants.{Damaged, Failed}

-- what names a page names more
names_more : {I : Type 0} (g : Ghosts I) (old now : CoreView I) (P Q : ℕ → Type 0) (fault : RunFault) → ((page : ℕ) → P page → Q page) → ((now.failed ≡ true) ⊎ (g.is_spent now.index ≡ true) → (old.failed ≡ true) ⊎ (g.is_spent old.index ≡ true))
    → Names g now P fault → Names g old Q fault
names_more g old now P Q (Damaged page) more failed h = more page h
names_more g old now P Q Failed more failed h = failed h
names_more g old now P Q _ more failed h = tt

module _ {I : Type 0} (g : Ghosts I) (core : CoreView I) where
  -- a page that the index denies is one that is named of the legs that are shown
  pub denied_names : (question : Question) (fault : RunFault) → Names g core (λ page. g.denies core.index question page) fault → Names g core (DeniesLegs g core question) fault
  denied_names question fault h = names_more g core core (λ page. g.denies core.index question page) (DeniesLegs g core question) fault (λ page denied. inl denied) (λ f. f) h

  -- a text was not made, of what is there where P holds
  text_names : (P : Type 0) (Q : ℕ → Type 0) (fault : RunFault) → IsText P fault → ((page : ℕ) → page ≡ 0 → Q page) → Names g core Q fault
  text_names P Q (Damaged page) text zero = zero page text.0
  text_names P Q Failed text zero = absurd text
  text_names P Q _ text zero = tt

  -- of legs
  pub legs_names : (P : Type 0) (question : Question) (fault : RunFault) → IsText P fault → Names g core (DeniesLegs g core question) fault
  legs_names P question fault text = text_names P (DeniesLegs g core question) fault text (λ page zero. inr zero)

  -- and of what is told of features
  pub named_names : (P : Type 0) (name : List ℕ) (fault : RunFault) → IsText P fault → Names g core (DeniesNamed g core name) fault
  named_names P name fault text = text_names P (DeniesNamed g core name) fault text (λ page zero. inr zero)

  pub some_names : (P : Type 0) (period : PeriodView) (fault : RunFault) → IsText P fault → Names g core (DeniesSome g core period) fault
  some_names P period fault text = text_names P (DeniesSome g core period) fault text (λ page zero. inr zero)

  -- what is picked of what is left completes what is picked of all
  abbrev pub IsPickingLive : Predicate → RectView → PeriodView → (all left picked : List ℕ) → Type 0
  IsPickingLive predicate rect period all left picked =
      (rest : List ℕ) → PicksLive g core predicate rect period left rest → PicksLive g core predicate rect period all (picked ++ rest)

  module _ (predicate : Predicate) (rect : RectView) (period : PeriodView) (all left picked : List ℕ) where
    pub live_yes : (x : ℕ) (legs : List LegView) → IsPickingLive predicate rect period all (x ∷ left) picked → AreLive g core period x legs → Holds predicate legs rect period
        → IsPickingLive predicate rect period all left (picked ++ x ∷ [])
    live_yes x legs so_far live held = λ rest h.
        subst (λ (l : List ℕ). PicksLive g core predicate rect period all l) (sym (append_assoc picked (x ∷ []) rest))
        (so_far (x ∷ rest) (legs, live, inl (held, rest, refl, h)))

    pub live_no : (x : ℕ) (legs : List LegView) → IsPickingLive predicate rect period all (x ∷ left) picked → AreLive g core period x legs → (Holds predicate legs rect period → ⊥)
        → IsPickingLive predicate rect period all left picked
    live_no x legs so_far live unheld = λ rest h. so_far rest (legs, live, inr (unheld, h))

  pub live_end : (predicate : Predicate) (rect : RectView) (period : PeriodView) (all picked : List ℕ) → IsPickingLive predicate rect period all [] picked → PicksLive g core predicate rect period all picked
  live_end predicate rect period all picked so_far = subst (λ (l : List ℕ). PicksLive g core predicate rect period all l) (append-nil picked) (so_far [] refl)

-- what is told after questions was told before them
module _ {I : Type 0} (g : Ghosts I) (old now : CoreView I) (leaves : LeavesBook g old now) where
  pub live_before : (period : PeriodView) (feature : ℕ) (legs : List LegView) → AreLive g now period feature legs → AreLive g old period feature legs
  live_before period feature legs (inl (over, e)) = inl (subst (λ t. IsOver t feature period) leaves.tracks over, e)
  live_before period feature legs (inr (still, told)) =
      inr ((λ over. still (subst (λ t. IsOver t feature period) (sym leaves.tracks) over)), leaves.index.told (OfFeature feature (Some period)) legs told)

  failed_before : (now.failed ≡ true) ⊎ (g.is_spent now.index ≡ true) → (old.failed ≡ true) ⊎ (g.is_spent old.index ≡ true)
  failed_before (inl f) = inl (sym leaves.failed ∙ f)
  failed_before (inr s) = inr (sym leaves.index.spent ∙ s)

  pub names_before : (period : PeriodView) (feature : ℕ) → (length old.book.names ≤ greatest_limit → feature < length old.book.names) → (fault : RunFault)
      → Names g now (λ page. g.denies now.index (OfFeature feature (Some period)) page) fault → Names g old (DeniesSome g old period) fault
  names_before period feature there fault h =
      names_more g old now (λ page. g.denies now.index (OfFeature feature (Some period)) page) (DeniesSome g old period) fault (λ page denied. inl (feature, there, leaves.index.denied (OfFeature feature (Some period)) page denied)) failed_before h

-- what is shown of a book that is the same, of legs that are the same
shown_legs : (old new : Book) (a b : List LegView) → new ≡ old → a ≡ b → legs_text new a ≡ legs_text old b
shown_legs old new a b same e = (λ i. legs_text (same i) (e i))

-- and are there
there_legs : (old new : Book) (a b : List LegView) → new ≡ old → a ≡ b → All (IsThere new) a → All (IsThere old) b
there_legs old new a b same e h =
    subst (All (IsThere old)) e (subst (λ (k : Book). All (IsThere k) a) same h)

-- one more of a list that is shown
pub map_more : {X Y : Type 0} (f : X → Y) (xs : List X) (i : ℕ) (x : X) (y : Y) (ys zs : List Y) → i < length xs → x ≡ get_or xs i x → ys ≡ map f (take i xs) → zs ≡ ys ++ y ∷ [] → y ≡ f x → zs ≡ map f (take (i + 1) xs)
map_more f xs i x y ys zs less at so_far more is =
    more ∙ ap (λ y. ys ++ y ∷ []) is ∙ ap (λ l. l ++ f x ∷ []) so_far ∙ ap (λ y. map f (take i xs) ++ f y ∷ []) at
    ∙ sym (ap (map f) (take_more xs i x less) ∙ map-append f (take i xs) (get_or xs i x ∷ []))

-- what holds where there is an answer holds beside what holds of it
ok_both : {T E : Type 0} (r : Result T E) (P : T → Type 0) (Q : Type 0) → IfOk r P → OnOk r Q → IfOk r (λ t. P t × Q)
ok_both (Ok t) P Q p q = (p, q)
ok_both (Err e) P Q p q = tt

pub shown_names : (old new : Book) (a b : List ℕ) → new ≡ old → a ≡ b → names_text new a ≡ names_text old b
shown_names old new a b same e = (λ i. names_text (same i) (e i))

-- of a feature that is there, where it is known
pub told_of : {I : Type 0} (g : Ghosts I) (core : CoreView I) (F : Type 0) (o : Option ℕ) (feature : ℕ) → (F → o ≡ Some feature) → (legs : List LegView) → g.tells core.index (OfFeature feature None) legs → F → AreToldOf g core o legs
told_of g core F o feature there legs h f = subst (λ o. AreToldOf g core o legs) (sym (there f)) h

-- of one that is not there
pub told_none : {I : Type 0} (g : Ghosts I) (core : CoreView I) (o : Option ℕ) (legs : List LegView) → o ≡ None → legs ≡ [] → AreToldOf g core o legs
told_none g core o legs e h = subst (λ o. AreToldOf g core o legs) (sym e) h

-- a page that the index denies is one that is named
pub denied_of : {I : Type 0} (g : Ghosts I) (core : CoreView I) (question : Question) (Q : ℕ → Type 0) (fault : IndexFault) → ((page : ℕ) → g.denies core.index question page → Q page) → Denies g core.index question fault
    → Names g core Q (run_fault_of fault)
denied_of g core question Q (index.Damaged page) more h = more page h
denied_of g core question Q index.Spent more h = inr h
denied_of g core question Q _ more h = tt

-- what is so is so where there is an answer
where_ok : {T E : Type 0} (r : Result T E) (P : Type 0) → P → OnOk r P
where_ok (Ok t) P p = p
where_ok (Err e) P p = tt

-- a question that was refused is refused whatever it is answered by
pub refused_call : {I A B : Type 0} (g : Ghosts I) (old now : CoreView I) (result : Result B RunFault) (fault : RunFault) (right told : A → Type 0) (denied : RunFault → Type 0) (cost : Type 0)
    (right' told' : B → Type 0) (denied' : RunFault → Type 0) (cost' : Type 0) → result ≡ Err fault → QuestionCall g old now (Err fault) right told denied cost → (denied fault → denied' fault)
    → QuestionCall g old now result right' told' denied' cost'
refused_call {I} {A} {B} g old now result fault right told denied cost right' told' denied' cost' is question more =
    subst (λ (r : Result B RunFault). QuestionCall g old now r right' told' denied' cost') (sym is)
    (record { found = tt; says = tt; named = more question.named; asks = tt; leaves = question.leaves; refused = question.refused })

-- the text of what a question found is what its command promises
pub shown_call : {I A : Type 0} (g : Ghosts I) (old now : CoreView I) (what : A) (result : Result (Vec ℕ) RunFault) (is_text : Vec ℕ → Type 0) (P : Type 0)
    (right told : A → Type 0) (denied : RunFault → Type 0) (cost : Type 0) (right' told' : Vec ℕ → Type 0) (denied' : RunFault → Type 0)
    → QuestionCall g old now (Ok what) right told denied cost → MakingCall result is_text P
    → ((text : Vec ℕ) → is_text text → right what → right' text) → ((text : Vec ℕ) → is_text text → P → told what → told' text)
    → ((fault : RunFault) → IsText P fault → denied' fault) → (IsSound g old → right what → P) → QuestionCall g old now result right' told' denied' cost
shown_call g old now what result is_text P right told denied cost right' told' denied' question making to_right to_told to_denied is_there = record {
  found = IfOk-weaker result _ _ (λ text m sound. to_right text m (question.found sound)) making.made;
  says = IfOk-weaker result _ _ (λ text h. to_told text h.0 h.1 question.says) (ok_both result _ _ making.made making.there);
  named = IfErr-weaker result _ _ to_denied making.fault;
  asks = where_ok result cost question.asks;
  leaves = question.leaves;
  refused = IfErr-weaker result _ _ (λ fault text. text_refused g old now P fault text (λ sound. is_there sound (question.found sound))) making.fault;
}

-- so is the text of legs, each with its name and its row
pub shown_legs_call : {I : Type 0} (g : Ghosts I) (old now : CoreView I) (legs : Vec LegView) (shown : List LegView) (result : Result (Vec ℕ) RunFault)
    (right told : Vec LegView → Type 0) (denied : RunFault → Type 0) (cost : Type 0) (right' told' : Vec ℕ → Type 0) (denied' : RunFault → Type 0)
    → QuestionCall g old now (Ok legs) right told denied cost → MakingCall result (λ text. text.items ≡ legs_text now.book shown) (All (IsThere now.book) shown) → shown ≡ legs.items
    → ((text : Vec ℕ) → text.items ≡ legs_text old.book legs.items → right legs → right' text)
    → ((text : Vec ℕ) → All (IsThere old.book) legs.items × (text.items ≡ legs_text old.book legs.items) → told legs → told' text)
    → ((fault : RunFault) → IsText (All (IsThere now.book) shown) fault → denied' fault) → (IsSound g old → right legs → All (IsThere now.book) shown)
    → QuestionCall g old now result right' told' denied' cost
shown_legs_call g old now legs shown result right told denied cost right' told' denied' question making same to_right to_told to_denied is_there =
    let text_is = shown_legs old.book now.book shown legs.items question.leaves.book same in
    shown_call g old now legs result (λ text. text.items ≡ legs_text now.book shown) (All (IsThere now.book) shown) right told denied cost right' told' denied'
    question making (λ text made. to_right text (made ∙ text_is))
    (λ text made there. to_told text (there_legs old.book now.book shown legs.items question.leaves.book same there, made ∙ text_is)) to_denied is_there
