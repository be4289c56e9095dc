-- What each line of a script answers over a whole and over its parts.
use Rattle.std.proofs.Common.{◌<◌, ◌≡◌, ◌∙◌, ℕ, ap, sym, length, map, List, Option, Some, None, Result, Ok, Err}
use Rattle.std.specs.Prelude.{sum_by}
use Rattle.std.specs.List.{range_with_len}
use Rattle.timebase.specs.Period.{PeriodView}
use Rattle.legs.specs.Book.{Book, feature_named}
use Rattle.legs.specs.Boxes.{RectView, box_over}
use Rattle.legs.specs.Index.{legs_in_box}
use Rattle.legs.specs.Legs.{LegView}
use Rattle.legs.specs.Limits.{LimitsView}
use Rattle.predicates.specs.declared.Predicate.{Predicate}
use Rattle.querylang.specs.Line.{line_command}
use Rattle.querylang.specs.declared.LineCode.{LineCode}
use Rattle.querylang.specs.declared.Command.{Command}
use Rattle.querylang.specs.declared.Command.TheVariants.{Count, Box, Legs, Features, Trajectory}
use Rattle.trajdb.specs.Answers.{IsAnswer, IsFeaturesAnswer, IsLegsAnswer, IsLineText, IsSaid, count_text, legs_text, feature_name, track_of}
use Rattle.together.specs.Laws.{AnswerTogether, CountsTogether, LegsTogether, NamesTogether, SayTogether}
use Rattle.together.specs.Parts.{ArePartsOf, own_legs}
use Rattle.together.specs.Told.{told, told_names_text, told_text}
use Rattle.together.proofs.CountLemmas.{count_law}
use Rattle.together.proofs.FeatureLemmas.{features_law}
use Rattle.together.proofs.NamedLemmas.{trajectory_law}
use Rattle.together.proofs.ToldLemmas.{box_law, legs_law, legs_told, names_told}

-- legs that are told alike
same_legs : (f : List ℕ → ℕ) (n : ℕ) (whole : Book) (parts : ℕ → Book) (all : List LegView) (own : ℕ → List LegView) (text : List ℕ) (own_text : ℕ → List ℕ) → ArePartsOf f n whole parts
    → text ≡ legs_text whole all → ((k : ℕ) → k < n → own_text k ≡ legs_text (parts k) (own k))
    → ((k : ℕ) → k < n → told (parts k) (own k) ≡ own_legs f k (told whole all)) → LegsTogether f n whole.head text own_text
same_legs f n whole parts all own text own_text are says own_says same = record {
  legs = told whole all;
  whole = says ∙ legs_told whole all;
  each = λ k less.
      own_says k less ∙ legs_told (parts k) (own k) ∙ ap (λ head. told_text head (told (parts k) (own k))) (are.each k less).head
      ∙ ap (told_text whole.head) (same k less);
}

box_together : (f : List ℕ → ℕ) (n : ℕ) (whole : Book) (parts : ℕ → Book) (rect : RectView) (period : PeriodView) (text : List ℕ) (own : ℕ → List ℕ) → ArePartsOf f n whole parts
    → text ≡ legs_text whole (legs_in_box (box_over rect period) whole.legs) → ((k : ℕ) → k < n → own k ≡ legs_text (parts k) (legs_in_box (box_over rect period) (parts k).legs))
    → LegsTogether f n whole.head text own
box_together f n whole parts rect period text own are says own_says =
    same_legs f n whole parts (legs_in_box (box_over rect period) whole.legs) (λ k. legs_in_box (box_over rect period) (parts k).legs) text own are says own_says
    (λ k less. box_law f k whole (parts k) (box_over rect period) (are.each k less))

legs_together : (f : List ℕ → ℕ) (n : ℕ) (whole : Book) (parts : ℕ → Book) (predicate : Predicate) (rect : RectView) (period : PeriodView) (text : List ℕ) (own : ℕ → List ℕ) → ArePartsOf f n whole parts
    → IsLegsAnswer whole predicate rect period text → ((k : ℕ) → k < n → IsLegsAnswer (parts k) predicate rect period (own k))
    → LegsTogether f n whole.head text own
legs_together f n whole parts predicate rect period text own are says own_says = record {
  legs = told whole says.0;
  whole = says.2 ∙ legs_told whole says.0;
  each = λ k less.
      let part = own_says k less in
      part.2 ∙ legs_told (parts k) part.0 ∙ ap (λ head. told_text head (told (parts k) part.0)) (are.each k less).head
      ∙ ap (told_text whole.head) (legs_law f k whole (parts k) predicate rect period says.0 part.0 (are.each k less) says.1 part.1);
}

features_together : (f : List ℕ → ℕ) (n : ℕ) (whole : Book) (parts : ℕ → Book) (predicate : Predicate) (rect : RectView) (period : PeriodView) (text : List ℕ) (own : ℕ → List ℕ) → ArePartsOf f n whole parts
    → IsFeaturesAnswer whole predicate rect period text → ((k : ℕ) → k < n → IsFeaturesAnswer (parts k) predicate rect period (own k))
    → NamesTogether f n text own
features_together f n whole parts predicate rect period text own are says own_says = record {
  names = map (feature_name whole) says.0;
  whole = says.2 ∙ names_told whole says.0;
  each = λ k less.
      let part = own_says k less in
      part.2 ∙ names_told (parts k) part.0
      ∙ ap told_names_text (features_law f k whole (parts k) predicate rect period says.0 part.0 (are.each k less) are.whole_told (are.each_told k less) says.1 part.1);
}

counts_together : (f : List ℕ → ℕ) (n : ℕ) (whole : Book) (parts : ℕ → Book) (text : List ℕ) (own : ℕ → List ℕ) → ArePartsOf f n whole parts
    → text ≡ count_text (length whole.legs) (length whole.names) → ((k : ℕ) → k < n → own k ≡ count_text (length (parts k).legs) (length (parts k).names))
    → CountsTogether f n text own
counts_together f n whole parts text own are says own_says =
    let sums = count_law f n whole parts are in
    record {
      legs = λ k. length (parts k).legs;
      features = λ k. length (parts k).names;
      whole = says ∙ ap (λ legs. count_text legs (length whole.names)) sums.0 ∙ ap (count_text (sum_by (λ k. length (parts k).legs) (range_with_len 0 n))) sums.1;
      each = own_says;
    }

answer_together : (f : List ℕ → ℕ) (n : ℕ) (whole : Book) (parts : ℕ → Book) (limits : LimitsView) (own_limits : ℕ → LimitsView) (files : List (List ℕ × List ℕ)) (own_files : ℕ → List (List ℕ × List ℕ)) (command : Command) (text : List ℕ) (own : ℕ → List ℕ) → ArePartsOf f n whole parts
    → IsAnswer limits files whole command text → ((k : ℕ) → k < n → IsAnswer (own_limits k) (own_files k) (parts k) command (own k))
    → AnswerTogether f n whole.head command text own
answer_together f n whole parts limits own_limits files own_files Count text own are says own_says = counts_together f n whole parts text own are says own_says
answer_together f n whole parts limits own_limits files own_files (Box rect period) text own are says own_says = box_together f n whole parts rect period text own are says own_says
answer_together f n whole parts limits own_limits files own_files (Legs predicate rect period) text own are says own_says = legs_together f n whole parts predicate rect period text own are says own_says
answer_together f n whole parts limits own_limits files own_files (Features predicate rect period) text own are says own_says = features_together f n whole parts predicate rect period text own are says own_says
answer_together f n whole parts limits own_limits files own_files (Trajectory name) text own are says own_says =
    same_legs f n whole parts (track_of (feature_named whole.names name) whole.legs) (λ k. track_of (feature_named (parts k).names name) (parts k).legs) text own are says own_says
    (λ k less. trajectory_law f k whole (parts k) name (are.each k less) are.whole_told (are.each_told k less))
answer_together f n whole parts limits own_limits files own_files _ text own are says own_says = tt

said_together : (f : List ℕ → ℕ) (n : ℕ) (whole : Book) (parts : ℕ → Book) (limits : LimitsView) (own_limits : ℕ → LimitsView) (files : List (List ℕ × List ℕ)) (own_files : ℕ → List (List ℕ × List ℕ)) (said : Result (Option Command) LineCode) (text : List ℕ) (own : ℕ → List ℕ) → ArePartsOf f n whole parts
    → IsSaid limits files whole said text → ((k : ℕ) → k < n → IsSaid (own_limits k) (own_files k) (parts k) said (own k))
    → SayTogether f n whole.head said text own
said_together f n whole parts limits own_limits files own_files (Ok (Some command)) text own are says own_says = answer_together f n whole parts limits own_limits files own_files command text own are says own_says
said_together f n whole parts limits own_limits files own_files (Ok None) text own are says own_says = (says, own_says)
said_together f n whole parts limits own_limits files own_files (Err code) text own are says own_says = λ k less. own_says k less ∙ sym says

pub line_law : (f : List ℕ → ℕ) (n : ℕ) (whole : Book) (parts : ℕ → Book) (limits : LimitsView) (own_limits : ℕ → LimitsView) (files : List (List ℕ × List ℕ)) (own_files : ℕ → List (List ℕ × List ℕ)) (line text : List ℕ) (own : ℕ → List ℕ) → ArePartsOf f n whole parts → IsLineText limits files whole line text
    → ((k : ℕ) → k < n → IsLineText (own_limits k) (own_files k) (parts k) line (own k)) → SayTogether f n whole.head (line_command line) text own
unfolding IsLineText
line_law f n whole parts limits own_limits files own_files line text own are says own_says =
    said_together f n whole parts limits own_limits files own_files (line_command line) text own are says own_says
