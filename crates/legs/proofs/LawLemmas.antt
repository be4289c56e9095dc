-- The law of a book with a file more.
use Rattle.std.proofs.Common.{ℕ, zero, suc, ◌+◌, ◌<◌, ◌≤◌, ◌≡◌, ◌≢◌, ◌∙◌, ap, sym, refl, List, [], ◌∷◌, length, map, get_or, true, false, arith, inl, inr, Option, Some, None, Ok, subst, AllPairs, Bool, ◌||◌, ltb}
use Rattle.std.specs.Prelude.{All, bytes_eq}
use Rattle.std.specs.List.{range_with_len, list_any}
use Rattle.std.proofs.lemmas.Bool.Decides.{nat_tests}
use Rattle.std.proofs.lemmas.List.{length-append, length_push}
use Rattle.std.proofs.lemmas.List.Elements.{All-append, All-weaker, All-push, All-head, All-tail, All-map}
use Rattle.std.proofs.lemmas.List.Quantifiers.{all_pairs_push}
use Rattle.mfcsv.specs.FileText.{HasWholeRows}
use Rattle.mfcsv.specs.declared.File.{File}
use Rattle.mfcsv.specs.declared.Head.{Head}
use Rattle.legs.specs.declared.head.BookHead.{BookHead}
use Rattle.mfcsv.specs.Views.{RecordView, IsRecord, leg_count}
use Rattle.legs.specs.Legs.{LegView}
use Rattle.legs.specs.Limits.{LimitsView, IsLimits}
use Rattle.legs.specs.Book.{Book, feature_number, names_with, leg_added, record_legs, with_record, with_records, with_file, head_with, join_faults_of, record_faults, joined}
use Rattle.legs.specs.Tracks.{IsLawful}
use Rattle.legs.specs.Law.{IsName, IsThere, IsOrdered, IsBook}
use Rattle.legs.proofs.NameLemmas.{known_or_new, names_with-known, names_with-new, text_self, any_is_first, length-names_with}
use Rattle.legs.proofs.RecordLemmas.{lawful_more, with_record-names, with_record-legs, with_record-rows, follows_record, follow_append}
use Rattle.legs.proofs.AcceptLemmas.{first_nil, second_nil, map_nil, faultless, few_after, one_leg, joined_is}
use Rattle.legs.proofs.JoinLemmas.{free_of}
use Rattle.legs.proofs.WidthLemmas.{rows_with_file}

-- the law says what joining asks of a book
pub lawful_of : (limits : LimitsView) (b : Book) → IsLimits limits → IsOrdered limits b → IsLawful b
lawful_of limits b is law = record {
  numbered = law.numbered;
  led = law.led;
  rows = All-weaker (IsThere b) (λ leg. leg.row < length b.rows) (λ leg h. h.row) b.legs law.there;
  few_legs = let h = law.few_legs in let l = is.few_legs in omega (arith, h, l);
  few_names = let h = law.few_features in let l = is.few_features in omega (arith, h, l);
}

or_false : (a b : Bool) → (a || b) ≡ false → (a ≡ false) × (b ≡ false)
or_false true b e = absurd (cc)
or_false false b e = (refl, e)

-- a name that is not there is another one
pub other_at : (names : List (List ℕ)) (name : List ℕ) → list_any (bytes_eq name) names ≡ false → (k : ℕ) (d : List ℕ) → k < length names → get_or names k d ≢ name
other_at [] name none k d h = absurd (omega arith)
other_at (n ∷ ns) name none zero d h = λ same.
    let first = (or_false (bytes_eq name n) (list_any (bytes_eq name) ns) none).0 in
    let self : bytes_eq name n ≡ true = ap (bytes_eq name) same ∙ text_self name in
    (cc)
other_at (n ∷ ns) name none (suc k) d h = other_at ns name (or_false (bytes_eq name n) (list_any (bytes_eq name) ns) none).1 k d (omega arith)

pub other_name : (names : List (List ℕ)) (name : List ℕ) → feature_number names name ≡ length names → (k : ℕ) (d : List ℕ) → k < length names → get_or names k d ≢ name
other_name names name new = other_at names name (any_is_first (bytes_eq name) names ∙ (let l : ltb (feature_number names name) (length names) ≡ false = grind (arith, nat_tests) in l))

named_more : (names : List (List ℕ)) (name : List ℕ) → IsName name → All IsName names → All IsName (names_with names name)
named_more names name is all =
    elim (known_or_new names name) [
      | inl known ↦ rw (names_with-known names name known) all
      | inr new ↦ rw (names_with-new names name new) (All-push IsName names name all is)
    ]

pub distinct_more : (names : List (List ℕ)) (name : List ℕ) → AllPairs (λ a b. a ≢ b) names → AllPairs (λ a b. a ≢ b) (names_with names name)
distinct_more names name all =
    elim (known_or_new names name) [
      | inl known ↦ rw (names_with-known names name known) all
      | inr new ↦ rw (names_with-new names name new) (all_pairs_push (λ a b. a ≢ b) names name all (other_name names name new))
    ]

pub names_longer : (names : List (List ℕ)) (name : List ℕ) → length names ≤ length (names_with names name)
names_longer names name =
    elim (known_or_new names name) [
      | inl known ↦ rw (names_with-known names name known) (omega arith)
      | inr new ↦ rw (names_with-new names name new) (omega (arith, length_push names name))
    ]

-- the legs of a record have their feature and their row in the book with it
pub first_there : (b : Book) (r : RecordView) (n : ℕ) → All (IsThere (with_record b r)) (map (leg_added b r) (range_with_len 0 n))
first_there b r n =
    let feature : feature_number b.names r.mfidref < length (with_record b r).names = rw (with_record-names b r) (length-names_with b.names r.mfidref) in
    let row : length b.rows < length (with_record b r).rows = omega (arith, ap length (with_record-rows b r) ∙ length_push b.rows r.attributes) in
    All-map (IsThere (with_record b r)) (leg_added b r) (range_with_len 0 n) (λ k d h. record { feature = feature; row = row })

ordered_more : (limits : LimitsView) (b : Book) (r : RecordView) → IsLimits limits → IsRecord r → IsOrdered limits b → join_faults_of limits b r ≡ [] → IsOrdered limits (with_record b r)
ordered_more limits b r is valid law none =
    let free = faultless limits b r none in
    let few = few_after limits b r is none in
    let legs : length (with_record b r).legs ≤ limits.legs = grind (arith, nat_tests) in
    let names : length (with_record b r).names ≤ limits.features = grind (arith, nat_tests) in
    let before = lawful_of limits b is law in
    let lawful = lawful_more b r valid before few.0 few.1 in
    let row : length (with_record b r).rows ≡ length b.rows + 1 = ap length (with_record-rows b r) ∙ length_push b.rows r.attributes in
    let longer : length b.names ≤ length (with_record b r).names = rw (with_record-names b r) (names_longer b.names r.mfidref) in
    record {
      names = rw (with_record-names b r) (named_more b.names r.mfidref (record { some = valid.named; short = valid.short }) law.names);
      distinct = rw (with_record-names b r) (distinct_more b.names r.mfidref law.distinct);
      there = subst (λ (ls : List LegView). All (IsThere (with_record b r)) ls) (sym (with_record-legs b r)) (All-append (IsThere (with_record b r)) b.legs (record_legs b r)
          (All-weaker (IsThere b) (IsThere (with_record b r)) (λ leg h. record {
            feature = let f = h.feature in omega (arith, f, longer);
            row = let f = h.row in omega (arith, f, row);
          }) b.legs law.there) (first_there b r (leg_count (length r.positions))));
      in_turn = rw (with_record-legs b r) (follow_append [] b.legs (record_legs b r) law.in_turn (follows_record b r valid before (free_of limits b r none)));
      numbered = lawful.numbered;
      led = lawful.led;
      few_legs = legs;
      few_features = names;
      few_rows =
          let some = one_leg b r valid in
          let was = law.few_rows in
          let count : length (with_record b r).legs ≡ length b.legs + length (record_legs b r) = ap length (with_record-legs b r) ∙ length-append b.legs (record_legs b r) in
          omega (arith, some, was, count, row);
    }

ordered_all : (limits : LimitsView) → IsLimits limits → (records : List RecordView) (b : Book) → All IsRecord records → IsOrdered limits b → record_faults limits b records ≡ [] → IsOrdered limits (with_records b records)
ordered_all limits is [] b all law none = law
ordered_all limits is (r ∷ records) b all law none =
    let here = map_nil (λ code. (code, r.number)) (join_faults_of limits b r) (first_nil (map (λ code. (code, r.number)) (join_faults_of limits b r)) (record_faults limits (with_record b r) records) none) in
    let behind = second_nil (map (λ code. (code, r.number)) (join_faults_of limits b r)) (record_faults limits (with_record b r) records) none in
    ordered_all limits is records (with_record b r) (All-tail IsRecord r records all) (ordered_more limits b r is (All-head IsRecord r records all) law here) behind

-- a book with a file has a head
headed : (first : Option BookHead) (head : Head) → head_with first head ≡ None → ⊥
headed None head e = absurd (cc)
headed (Some first) head e = absurd (cc)

-- a file that was joined keeps the law
pub law_with_file : (limits : LimitsView) (book : Book) (file : File) (legs : List LegView) → IsLimits limits → All IsRecord file.records → IsBook limits book → HasWholeRows file → joined limits book file ≡ Ok legs
    → IsBook limits (with_file book file)
law_with_file limits book file legs is all law whole ok =
    let now = with_records book file.records in
    let kept = ordered_all limits is file.records book all law.ordered (joined_is limits book file legs ok).0 in
    record {
      ordered = record {
        names = kept.names;
        distinct = kept.distinct;
        there = All-weaker (IsThere now) (IsThere (with_file book file)) (λ leg h. record { feature = h.feature; row = h.row }) now.legs kept.there;
        in_turn = kept.in_turn;
        numbered = kept.numbered;
        led = kept.led;
        few_legs = kept.few_legs;
        few_features = kept.few_features;
        few_rows = kept.few_rows;
      };
      none = λ none. absurd (headed book.head file.head none);
      rows = rows_with_file limits book file legs law whole ok;
    }
