-- Joining a file, record by record.
use Rattle.std.proofs.Common.{ℕ, ◌+◌, ◌-◌, ◌≡◌, ◌∙◌, ap, sym, refl, List, [], ◌∷◌, ◌++◌, length, map, take, Bool, false, cond, Option, Some, None, Ok, Err, Result, inl, inr, append_assoc, ◌≤◌, subst, arith, is_some, true}
use Rattle.std.specs.Prelude.{filter, IfOk}
use Rattle.std.proofs.lemmas.Grind.{fold-append}
use Rattle.std.proofs.lemmas.List.{append-nil, length-append, length-map, take_all}
use Rattle.std.proofs.lemmas.List.Elements.{All-push}
use Rattle.mfcsv.specs.declared.Head.{Head}
use Rattle.legs.specs.declared.head.BookHead.{BookHead}
use Rattle.mfcsv.specs.Views.{RecordView, IsRecord}
use Rattle.legs.specs.Legs.{LegView}
use Rattle.legs.specs.Limits.{LimitsView}
use Rattle.legs.specs.Index.{CanFollowInTurn}
use Rattle.legs.specs.Book.{Book, file_of, names_with, record_legs, records_legs, with_record, with_records, has_join_fault, join_faults_of, record_faults, head_faults, legs_or_fault, joined, same_columns, same_space}
use Rattle.legs.specs.FirstFault.{IsFirst, IsFirstOf}
use Rattle.legs.specs.Counting.{names_after}
use Rattle.legs.specs.Drafts.{IsDraft}
use Rattle.legs.specs.Joining.{AreJoined, AreJoinedOr, HasCounted, IsCounted, IsJoinedBy, IsJoining, JoiningView}
use Rattle.legs.specs.Names.{fresh_names, names_and}
use Rattle.legs.specs.Tracks.{TracksView}
use Rattle.legs.specs.declared.draft.Draft.{Draft}
use Rattle.legs.specs.declared.joining.JoinCode.{JoinCode}
use Rattle.legs.specs.declared.joining.JoinCode.TheVariants.{F9, F10, F18, F19, F20}
use Rattle.legs.specs.declared.joining.JoinFault.{JoinFault}
use Rattle.legs.specs.declared.joining.JoinFault.TheVariants.{Refused, Memory}
use Rattle.legs.proofs.NameLemmas.{cases_bool}
use Rattle.legs.proofs.RecordLemmas.{with_record-legs, with_record-names, with_record-rows, follows_record, follow_append}

-- without a fault the first test fails
pub free_of : (limits : LimitsView) (b : Book) (r : RecordView) → join_faults_of limits b r ≡ [] → has_join_fault limits b r F18 ≡ false
unfolding join_faults_of
free_of limits b r e =
    elim (cases_bool (has_join_fault limits b r F18)) [
      | inl t ↦ absurd (
          let s : F18 ∷ filter (has_join_fault limits b r) (F19 ∷ F20 ∷ []) ≡ [] = sym (ap (λ u. cond u (F18 ∷ filter (has_join_fault limits b r) (F19 ∷ F20 ∷ [])) (filter (has_join_fault limits b r) (F19 ∷ F20 ∷ []))) t) ∙ e in
          (cc)
          )
      | inr t ↦ t
    ]

pub with_records-rows : (book : Book) (records : List RecordView) → (with_records book records).rows ≡ book.rows ++ map (λ (r : RecordView). r.attributes) records
with_records-rows book [] = sym (append-nil book.rows)
with_records-rows book (r ∷ records) =
    with_records-rows (with_record book r) records ∙ ap (λ (rows : List (List (List ℕ))). rows ++ map (λ (r : RecordView). r.attributes) records) (with_record-rows book r)
    ∙ append_assoc book.rows (r.attributes ∷ []) (map (λ (r : RecordView). r.attributes) records)

pub with_records-legs : (book : Book) (records : List RecordView) → (with_records book records).legs ≡ book.legs ++ records_legs book records
with_records-legs book [] = sym (append-nil book.legs)
with_records-legs book (r ∷ records) =
    with_records-legs (with_record book r) records ∙ ap (λ (legs : List LegView). legs ++ records_legs (with_record book r) records) (with_record-legs book r)
    ∙ append_assoc book.legs (record_legs book r) (records_legs (with_record book r) records)

pub with_records-names : (book : Book) (records : List RecordView) → (with_records book records).names ≡ names_after book.names records
with_records-names book [] = refl
with_records-names book (r ∷ records) = with_records-names (with_record book r) records ∙ ap (λ names. names_after names records) (with_record-names book r)

-- records behind others
faults-append : (limits : LimitsView) (book : Book) (records more : List RecordView) → record_faults limits book (records ++ more) ≡ record_faults limits book records ++ record_faults limits (with_records book records) more
faults-append limits book [] more = refl
faults-append limits book (r ∷ records) more =
    let here : List (JoinCode × ℕ) = map (λ code. (code, r.number)) (join_faults_of limits book r) in
    ap (λ (fs : List (JoinCode × ℕ)). here ++ fs) (faults-append limits (with_record book r) records more)
    ∙ sym (append_assoc here (record_faults limits (with_record book r) records) (record_faults limits (with_records (with_record book r) records) more))

legs-append : (book : Book) (records more : List RecordView) → records_legs book (records ++ more) ≡ records_legs book records ++ records_legs (with_records book records) more
legs-append book [] more = refl
legs-append book (r ∷ records) more =
    ap (λ (legs : List LegView). record_legs book r ++ legs) (legs-append (with_record book r) records more)
    ∙ sym (append_assoc (record_legs book r) (records_legs (with_record book r) records) (records_legs (with_records (with_record book r) records) more))

-- one more is joined
pub one_joined : (limits : LimitsView) (book : Book) (records : List RecordView) (r : RecordView) (legs legs' : List LegView) (d d' : Draft) → AreJoined limits book records legs d → IsRecord r
    → join_faults_of limits (with_records book records) r ≡ [] → IsDraft d' (with_record (with_records book records) r) → legs' ≡ legs ++ record_legs (with_records book records) r → d'.names.names ≡ names_with d.names.names r.mfidref
    → AreJoined limits book (records ++ r ∷ []) legs' d'
one_joined limits book records r legs legs' d d' are is none draft more names =
    let now : Book = with_records book records in
    let end : with_records book (records ++ r ∷ []) ≡ with_record now r = fold-append with_record book records (r ∷ []) in
    let legs_now : now.legs ≡ book.legs ++ legs = with_records-legs book records ∙ ap (λ (ls : List LegView). book.legs ++ ls) are.all in
    record {
      draft_of = rw end draft;
      faultless = faults-append limits book records (r ∷ []) ∙ ap (λ (fs : List (JoinCode × ℕ)). fs ++ record_faults limits now (r ∷ [])) are.faultless
          ∙ ap (λ codes. map (λ code. (code, r.number)) codes ++ []) none;
      all = legs-append book records (r ∷ []) ∙ ap (λ (ls : List LegView). ls ++ records_legs now (r ∷ [])) are.all ∙ ap (λ (ls : List LegView). legs ++ ls) (append-nil (record_legs now r)) ∙ sym more;
      follow = rw more (follow_append book.legs legs (record_legs now r) are.follow
          (subst (λ (ls : List LegView). CanFollowInTurn ls (record_legs now r)) legs_now (follows_record now r is are.draft_of.lawful (free_of limits now r none))));
      names = names ∙ ap (λ ns. names_with ns r.mfidref) are.names ∙ sym (fold-append (λ ns (x : RecordView). names_with ns x.mfidref) [] records (r ∷ []));
      lawful = All-push IsRecord records r are.lawful is;
    }

-- a fault is met, and stays the first
pub first_met : (limits : LimitsView) (book : Book) (records : List RecordView) (r : RecordView) (fault : JoinFault) → record_faults limits book records ≡ [] → IsFirstOf fault (join_faults_of limits (with_records book records) r) r.number
    → IsFirst fault (record_faults limits book (records ++ r ∷ []))
first_met limits book records r Memory none first = tt
first_met limits book records r (Refused code number) none first =
    let now : Book = with_records book records in (
      map (λ c. (c, r.number)) first.1.0 ++ [],
      faults-append limits book records (r ∷ []) ∙ ap (λ (fs : List (JoinCode × ℕ)). fs ++ record_faults limits now (r ∷ [])) none
          ∙ ap (λ codes. map (λ c. (c, r.number)) codes ++ []) first.1.1 ∙ ap (λ n. (code, n) ∷ (map (λ c. (c, r.number)) first.1.0 ++ [])) (sym first.0),
    )

pub first_stays : (limits : LimitsView) (book : Book) (records : List RecordView) (r : RecordView) (fault : JoinFault) → IsFirst fault (record_faults limits book records) → IsFirst fault (record_faults limits book (records ++ r ∷ []))
first_stays limits book records r Memory first = tt
first_stays limits book records r (Refused code number) first =
    let more : List (JoinCode × ℕ) = record_faults limits (with_records book records) (r ∷ []) in
    (first.0 ++ more, faults-append limits book records (r ∷ []) ∙ ap (λ (fs : List (JoinCode × ℕ)). fs ++ more) first.1)

-- what is known after a record: with a fault met, joined, or with its fault
pub joining_stays : (limits : LimitsView) (book : Book) (records : List RecordView) (r : RecordView) (joiner : JoiningView) → is_some joiner.fault ≡ true → IsJoining limits joiner book records → IsJoining limits joiner book (records ++ r ∷ [])
joining_stays limits book records r joiner met is = record { limited = is.limited; stands = is.stands; joined = by joiner.fault met is.joined }
  where
    by : (fault : Option JoinFault) → is_some fault ≡ true → AreJoinedOr fault limits book records joiner.legs joiner.draft → AreJoinedOr fault limits book (records ++ r ∷ []) joiner.legs joiner.draft
    by None m j = absurd (cc)
    by (Some fault) m j = first_stays limits book records r fault j

no_fault : (limits : LimitsView) (book : Book) (records : List RecordView) (joiner : JoiningView) (fault : Option JoinFault) → is_some fault ≡ false → AreJoinedOr fault limits book records joiner.legs joiner.draft
    → (fault ≡ None) × AreJoined limits book records joiner.legs joiner.draft
no_fault limits book records joiner None n j = (refl, j)
no_fault limits book records joiner (Some fault) n j = absurd (cc)

pub joining_more : (limits : LimitsView) (book : Book) (records : List RecordView) (r : RecordView) (old new : JoiningView) → is_some old.fault ≡ false → IsJoining limits old book records → new.limits ≡ old.limits → new.fault ≡ old.fault
    → new.draft.tracks.now ≡ old.draft.tracks.now → IsRecord r → ((now : Book) → IsDraft old.draft now → join_faults_of old.limits now r ≡ []) → ((now : Book) → IsDraft old.draft now → IsDraft new.draft (with_record now r))
    → ((now : Book) → IsDraft old.draft now → new.legs ≡ old.legs ++ record_legs now r) → new.draft.names.names ≡ names_with old.draft.names.names r.mfidref → IsJoining limits new book (records ++ r ∷ [])
joining_more limits book records r old new free is same fault tracks valid none draft legs names =
    let p = no_fault limits book records old old.fault free is.joined in
    let now : Book = with_records book records in
    record {
      limited = same ∙ is.limited;
      stands = rw tracks is.stands;
      joined = rw (fault, p.0) (one_joined limits book records r old.legs new.legs old.draft new.draft p.1 valid (rw is.limited at none now p.1.draft_of) (draft now p.1.draft_of) (legs now p.1.draft_of) names);
    }

pub joining_met : (limits : LimitsView) (book : Book) (records : List RecordView) (r : RecordView) (old new : JoiningView) (fault : JoinFault) → is_some old.fault ≡ false → IsJoining limits old book records → new.limits ≡ old.limits → new.fault ≡ Some fault
    → new.draft.tracks.now ≡ old.draft.tracks.now → ((now : Book) → IsDraft old.draft now → IsFirstOf fault (join_faults_of old.limits now r) r.number) → IsJoining limits new book (records ++ r ∷ [])
joining_met limits book records r old new fault free is same met tracks first =
    let p = no_fault limits book records old old.fault free is.joined in
    record {
      limited = same ∙ is.limited;
      stands = rw tracks is.stands;
      joined = rw met (first_met limits book records r fault p.1.faultless (rw is.limited at first (with_records book records) p.1.draft_of));
    }

-- records are counted, whatever the tracks say
pub counted_met : (records : List RecordView) (joiner : JoiningView) → is_some joiner.fault ≡ true → HasCounted joiner records
counted_met records joiner met = record { names = λ none. absurd (not_met joiner.fault met none); rows = λ none. absurd (not_met joiner.fault met none) }
  where
    not_met : (fault : Option JoinFault) → is_some fault ≡ true → fault ≡ None → ⊥
    not_met None m n = absurd (cc)
    not_met (Some fault) m n = absurd (cc)

pub counted_more : (records : List RecordView) (r : RecordView) (old new : JoiningView) → new.fault ≡ old.fault → new.draft.names.names ≡ names_with old.draft.names.names r.mfidref → new.draft.rows ≡ old.draft.rows + 1 → new.draft.tracks.now ≡ old.draft.tracks.now
    → HasCounted old records → HasCounted new (records ++ r ∷ [])
counted_more records r old new same names rows tracks is = record {
  names = λ none.
      names ∙ ap (λ l. names_with l r.mfidref) (is.names (sym same ∙ none)) ∙ sym (fold-append (λ l (x : RecordView). names_with l x.mfidref) [] records (r ∷ []));
  rows = λ none.
      let before = is.rows (sym same ∙ none) in
      let more = length-append records (r ∷ []) in
      let base = ap (λ (t : TracksView). t.rows) tracks in
      omega (arith, rows, before, more, base);
}

pub all_counted : (records : List RecordView) (joiner : JoiningView) (base count : ℕ) → joiner.fault ≡ None → base ≡ joiner.draft.tracks.now.rows → count ≡ joiner.draft.rows - base
    → HasCounted joiner records → IsCounted records (record { names = joiner.draft.names; legs = joiner.legs; records = count })
all_counted records joiner base count none b c is = record {
  names = is.names none;
  many = let rows = is.rows none in omega (arith, rows, b, c);
}

-- all of a file is joined
pub all_joined : (limits : LimitsView) (book : Book) (head : Head) (records : List RecordView) (joiner : JoiningView) (first : Option BookHead) (base count : ℕ) → IsJoining limits joiner book records → joiner.fault ≡ None
    → book.head ≡ first → head_faults first head ≡ [] → base ≡ joiner.draft.tracks.now.rows → count ≡ joiner.draft.rows - base
    → IsJoinedBy limits book (file_of head records) (record { names = joiner.draft.names; legs = joiner.legs; records = count })
all_joined limits book head records joiner first base count is none same headed b c =
    let are : AreJoined limits book records joiner.legs joiner.draft = rw none at is.joined in
    let rows = ap length (with_records-rows book records) in
    let n = length-append book.rows (map (λ (r : RecordView). r.attributes) records) in
    let m = length-map records (λ (r : RecordView). r.attributes) in
    record {
      legs = ap (λ o. legs_or_fault (head_faults o head ++ record_faults limits book records) (records_legs book records)) same
          ∙ ap (λ (fs : List (JoinCode × ℕ)). legs_or_fault (fs ++ record_faults limits book records) (records_legs book records)) headed
          ∙ ap (λ fs. legs_or_fault fs (records_legs book records)) are.faultless ∙ ap Ok are.all;
      follow = are.follow;
      names = are.names;
      fresh = ap (λ names. names_and names (fresh_names (length names) joiner.draft.names.names joiner.draft.names.latest)) (sym is.stands.names) ∙ are.draft_of.fresh ∙ with_records-names book records;
      records = omega (arith, c, b, rows, n, m, are.draft_of.rows, is.stands.rows);
      lawful = are.lawful;
    }

-- all records were taken
pub all_taken : (limits : LimitsView) (book : Book) (joiner : JoiningView) (xs records : List RecordView) (i : ℕ) → xs ≡ records → length xs ≤ i → IsJoining limits joiner book (take i xs) → IsJoining limits joiner book records
all_taken limits book joiner xs records i e h is = subst (λ (rs : List RecordView). IsJoining limits joiner book rs) (take_all i xs h ∙ e) is

-- what is true of a value is true of a result
pub if_ok : {T E : Type 0} (r : Result T E) (P Q : T → Type 0) → ((x : T) → P x → Q x) → IfOk r P → IfOk r Q
if_ok (Ok x) P Q more p = more x p
if_ok (Err e) P Q more p = tt

-- the fault of another CRS or dimension
pub other_space : (o : Option BookHead) (first : BookHead) (head : Head) (t : Bool) → o ≡ Some first → t ≡ same_space first head → t ≡ false → (others : List (JoinCode × ℕ)) × (head_faults o head ≡ (F9, head.number_bounds) ∷ others)
other_space o first head t at e holds = (
  cond (same_columns first.columns head.columns) [] ((F10, head.number_columns) ∷ []),
  ap (λ q. head_faults q head) at ∙ ap (λ u. cond u [] ((F9, head.number_bounds) ∷ []) ++ cond (same_columns first.columns head.columns) [] ((F10, head.number_columns) ∷ [])) (sym e ∙ holds),
)
