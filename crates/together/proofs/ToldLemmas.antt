-- What is told of the legs of a box and of a predicate.
use Rattle.std.proofs.Common.{[], ◌∷◌, ◌++◌, ◌≡◌, ◌∙◌, ℕ, ap, sym, refl, subst, List, filter, length, map}
use Rattle.std.proofs.lemmas.List.{length-map}
use Rattle.timebase.specs.Period.{PeriodView}
use Rattle.legs.specs.Legs.{LegView}
use Rattle.legs.specs.Boxes.{BoxView, RectView, box_of, boxes_meet}
use Rattle.legs.specs.Index.{legs_in_box}
use Rattle.legs.specs.Book.{Book}
use Rattle.predicates.specs.declared.Predicate.{Predicate}
use Rattle.predicates.specs.Predicates.{Holds}
use Rattle.writer.specs.Entries.{NamedLegView}
use Rattle.writer.specs.File.{entries_text, entry_record, features_text}
use Rattle.writer.specs.declared.entry.Frame.{Frame}
use Rattle.trajdb.specs.Picks.{Picks}
use Rattle.trajdb.specs.Answers.{HoldsOfLeg, named_leg_of, book_frame, feature_name, ok_text}
use Rattle.together.specs.Laws.{LegsText, NamesText}
use Rattle.together.specs.Parts.{IsPartOf, is_in, own_legs}
use Rattle.together.specs.Told.{all_told, told, told_leg}
use Rattle.together.proofs.ListLemmas.{filter-comm, filter-map, picks-filter, picks-map, picks-same}
use Rattle.together.proofs.BareLemmas.{holds_bare, bare_holds}

-- the text of a leg does not say its numbers
entries_told : (book : Book) (frame : Frame) (legs : List LegView) → entries_text frame (map (named_leg_of book) legs) ≡ entries_text frame (told book legs)
entries_told book frame [] = refl
entries_told book frame (leg ∷ legs) = ap (λ (t : List ℕ). entry_record frame (named_leg_of book leg) ++ t) (entries_told book frame legs)

pub legs_told : LegsText
legs_told book legs =
    ap (λ n. ok_text n ++ entries_text (book_frame book.head) (map (named_leg_of book) legs)) (sym (length-map legs (told_leg book)))
    ∙ ap (λ (t : List ℕ). ok_text (length (told book legs)) ++ t) (entries_told book (book_frame book.head) legs)

pub names_told : NamesText
names_told book features = ap (λ n. ok_text n ++ features_text (map (feature_name book) features)) (sym (length-map features (feature_name book)))

-- `box`
box_told : (book : Book) (query : BoxView) (legs : List LegView) → told book (legs_in_box query legs) ≡ filter (λ e. boxes_meet (box_of e.leg) query) (told book legs)
box_told book query legs = sym (filter-map (λ e. boxes_meet (box_of e.leg) query) (told_leg book) legs)

pub box_law : (f : List ℕ → ℕ) (k : ℕ) (whole part : Book) (query : BoxView) → IsPartOf f k whole part → told part (legs_in_box query part.legs) ≡ own_legs f k (told whole (legs_in_box query whole.legs))
box_law f k whole part query is =
    box_told part query part.legs ∙ ap (filter (λ e. boxes_meet (box_of e.leg) query)) is.legs
    ∙ filter-comm (λ (e : NamedLegView). boxes_meet (box_of e.leg) query) (λ e. is_in f k e.name) (all_told whole)
    ∙ ap (own_legs f k) (sym (box_told whole query whole.legs))

-- `legs`
abbrev HoldsOfTold : Predicate → RectView → PeriodView → NamedLegView → Type 0
HoldsOfTold predicate rect period e = Holds predicate (e.leg ∷ []) rect period

picks_told : (book : Book) (predicate : Predicate) (rect : RectView) (period : PeriodView) (legs picked : List LegView) → Picks (HoldsOfLeg predicate rect period) legs picked
    → Picks (HoldsOfTold predicate rect period) (told book legs) (told book picked)
picks_told book predicate rect period legs picked h =
    picks-map (λ leg. Unit {0}) (HoldsOfLeg predicate rect period) (HoldsOfTold predicate rect period) (told_leg book)
    (λ leg u held. holds_bare predicate (leg ∷ []) rect period held) (λ leg u held. bare_holds predicate (leg ∷ []) rect period held) legs picked (λ i d less. tt) h

pub legs_law : (f : List ℕ → ℕ) (k : ℕ) (whole part : Book) (predicate : Predicate) (rect : RectView) (period : PeriodView) (all own : List LegView) → IsPartOf f k whole part → Picks (HoldsOfLeg predicate rect period) whole.legs all → Picks (HoldsOfLeg predicate rect period) part.legs own
    → told part own ≡ own_legs f k (told whole all)
legs_law f k whole part predicate rect period all own is a b =
    let whole_told = picks-filter (HoldsOfTold predicate rect period) (λ e. is_in f k e.name) (all_told whole) (told whole all) (picks_told whole predicate rect period whole.legs all a) in
    let part_told = subst (λ (l : List NamedLegView). Picks (HoldsOfTold predicate rect period) l (told part own)) is.legs (picks_told part predicate rect period part.legs own b) in
    picks-same (HoldsOfTold predicate rect period) (own_legs f k (all_told whole)) (told part own) (own_legs f k (told whole all)) part_told whole_told
