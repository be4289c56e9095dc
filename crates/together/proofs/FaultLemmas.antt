-- The joining faults of the parts of a file.
use Rattle.std.proofs.Common.{[], ◌∷◌, ◌++◌, ◌+◌, ◌<◌, ◌≤◌, ◌≡◌, ◌∙◌, ◌==◌, ℕ, ap, sym, refl, arith, List, Bool, true, false, cond, filter, length, map, Ok}
use Rattle.std.specs.Prelude.{nat_lt}
use Rattle.std.proofs.lemmas.Bool.Decides.{nat_tests}
use Rattle.std.proofs.lemmas.List.{length-append, length-map, map-append}
use Rattle.mfcsv.specs.Views.{RecordView}
use Rattle.mfcsv.specs.declared.File.{File}
use Rattle.legs.specs.Legs.{LegView}
use Rattle.legs.specs.Book.{Book, book_after, join_faults_of, has_join_fault, head_faults, head_with, is_before, joined, name_end, record_faults, record_legs, with_file, with_record, with_records, file_faults}
use Rattle.legs.specs.Limits.{LimitsView}
use Rattle.legs.specs.declared.joining.JoinCode.{JoinCode}
use Rattle.legs.specs.declared.joining.JoinCode.TheVariants.{F18, F19, F20}
use Rattle.legs.proofs.AcceptLemmas.{first_nil, map_nil, second_nil}
use Rattle.legs.proofs.LawLemmas.{law_with_file}
use Rattle.legs.proofs.RecordLemmas.{with_record-legs, with_record-names}
use Rattle.writer.specs.Entries.{NamedLegView}
use Rattle.together.specs.Joining.{BookLaw, FaultsLaw, FirstLaw, FitsLaw}
use Rattle.together.specs.Parts.{ArePartsOf, FitEach, Fits, IsPartOf, IsTold, file_part, is_in, late, late_fault, late_one, own_records}
use Rattle.together.specs.Told.{all_told, told_leg}
use Rattle.together.proofs.LateLemmas.{late_law, names_longer, part_law}

pub book_law : BookLaw
book_law limits book is = record { distinct = is.ordered.distinct; there = is.ordered.there }

-- a book grows with records
legs_grow : (b : Book) (records : List RecordView) → length b.legs ≤ length (with_records b records).legs
legs_grow b [] = omega arith
legs_grow b (r ∷ records) =
    let one : length (with_record b r).legs ≡ length b.legs + length (record_legs b r) = ap length (with_record-legs b r) ∙ length-append b.legs (record_legs b r) in
    let more = legs_grow (with_record b r) records in
    omega (arith, one, more)

names_grow : (b : Book) (records : List RecordView) → length b.names ≤ length (with_records b records).names
names_grow b [] = omega arith
names_grow b (r ∷ records) =
    let one : length b.names ≤ length (with_record b r).names = rw (with_record-names b r) (names_longer b.names r.mfidref) in
    let more = names_grow (with_record b r) records in
    omega (arith, one, more)

-- within the limits a record has fault F18 or none
by_time : (limits : LimitsView) (b : Book) (r : RecordView) → has_join_fault limits b r F19 ≡ false → has_join_fault limits b r F20 ≡ false → map (λ code. (code, r.number)) (join_faults_of limits b r) ≡ map late_fault (late_one b r)
unfolding join_faults_of
by_time limits b r few_legs few_names =
    ap (λ c. map (λ (code : JoinCode). (code, r.number)) (cond (is_before r.t0 (name_end b r.mfidref)) (F18 ∷ cond c (F19 ∷ cond (has_join_fault limits b r F20) (F20 ∷ []) []) (cond (has_join_fault limits b r F20) (F20 ∷ []) []))
    (cond c (F19 ∷ cond (has_join_fault limits b r F20) (F20 ∷ []) []) (cond (has_join_fault limits b r F20) (F20 ∷ []) [])))) few_legs
    ∙ ap (λ c. map (λ (code : JoinCode). (code, r.number)) (cond (is_before r.t0 (name_end b r.mfidref)) (F18 ∷ cond c (F20 ∷ []) []) (cond c (F20 ∷ []) []))) few_names
    ∙ by (is_before r.t0 (name_end b r.mfidref))
  where
    by : (c : Bool) → map (λ (code : JoinCode). (code, r.number)) (cond c (F18 ∷ []) []) ≡ map late_fault (cond c (r ∷ []) [])
    by true = refl
    by false = refl

pub faults_law : FaultsLaw
faults_law limits book [] fits = refl
faults_law limits book (r ∷ records) fits =
    let legs = legs_grow (with_record book r) records in
    let names = names_grow (with_record book r) records in
    let most_legs = fits.legs in
    let most_names = fits.features in
    let within_legs : length (with_record book r).legs ≤ limits.legs = omega (arith, legs, most_legs) in
    let within_names : length (with_record book r).names ≤ limits.features = omega (arith, names, most_names) in
    let few_legs : nat_lt limits.legs (length (with_record book r).legs) ≡ false = grind (arith, nat_tests) in
    let few_names : nat_lt limits.features (length (with_record book r).names) ≡ false = grind (arith, nat_tests) in
    ap (λ (l : List (JoinCode × ℕ)). l ++ record_faults limits (with_record book r) records) (by_time limits book r few_legs few_names)
    ∙ ap (λ (l : List (JoinCode × ℕ)). map late_fault (late_one book r) ++ l) (faults_law limits (with_record book r) records (record { legs = fits.legs; features = fits.features }))
    ∙ sym (map-append late_fault (late_one book r) (late (with_record book r) records))

pub fits_law : FitsLaw
fits_law limits book file legs valid is all whole ok =
    let now = (law_with_file limits book file legs valid all is whole ok).ordered in
    record { legs = now.few_legs; features = now.few_features }

-- a part is no longer than the whole
shorter : {X : Type 0} (p : X → Bool) (xs : List X) → length (filter p xs) ≤ length xs
shorter p [] = omega arith
shorter {X} p (x ∷ xs) = by (p x) (shorter p xs)
  where
    by : (b : Bool) → length (filter p xs) ≤ length xs → length (cond b (x ∷ filter p xs) (filter p xs)) ≤ length (x ∷ xs)
    by true h = omega arith
    by false h = omega arith

pub part_fits_law : (f : List ℕ → ℕ) (k : ℕ) (whole part : Book) (limits : LimitsView) (records : List RecordView) → IsPartOf f k whole part → IsTold whole → IsTold part → Fits limits whole records → Fits limits part (own_records f k records)
part_fits_law f k whole part limits records of is own_is fits =
    let later = (part_law f k whole part records of is own_is).0 in
    let after = with_records whole records in
    let own = with_records part (own_records f k records) in
    let a = length-map own.legs (told_leg own) in
    let b = ap length later.legs in
    let c = shorter (λ (e : NamedLegView). is_in f k e.name) (all_told after) in
    let d = length-map after.legs (told_leg after) in
    let g = ap length later.names in
    let h = shorter (is_in f k) after.names in
    let few = fits.legs in
    let few_names = fits.features in
    record { legs = omega (arith, a, b, c, d, few); features = omega (arith, g, h, few_names) }

pub part_faults_law : (f : List ℕ → ℕ) (k : ℕ) (whole part : Book) (own_limits : LimitsView) (file : File) → IsPartOf f k whole part → IsTold whole → IsTold part → Fits own_limits part (own_records f k file.records)
    → file_faults own_limits part (file_part f k file) ≡ head_faults whole.head file.head ++ map late_fault (own_records f k (late whole file.records))
part_faults_law f k whole part own_limits file of is own_is own_fits =
    ap (λ head. head_faults head file.head ++ record_faults own_limits part (own_records f k file.records)) of.head
    ∙ ap (λ (l : List (JoinCode × ℕ)). head_faults whole.head file.head ++ l)
    (faults_law own_limits part (own_records f k file.records) own_fits ∙ ap (map late_fault) (late_law f k whole part file.records of is own_is))

-- the first record, and all
pub first_law : FirstLaw
first_law f r others =
    let e : (f r.mfidref == f r.mfidref) ≡ true = grind (arith, nat_tests) in
    ap (λ c. cond c (r ∷ own_records f (f r.mfidref) others) (own_records f (f r.mfidref) others)) e

all_own : (f : List ℕ → ℕ) (n : ℕ) → ((name : List ℕ) → f name < n) → (records : List RecordView) → ((k : ℕ) → k < n → own_records f k records ≡ []) → records ≡ []
all_own f n within [] none = refl
all_own f n within (r ∷ records) none =
    absurd (let e : r ∷ own_records f (f r.mfidref) records ≡ [] = sym (first_law f r records) ∙ none (f r.mfidref) (within r.mfidref) in (cc))

append_nil : {X : Type 0} (xs ys : List X) → xs ≡ [] → ys ≡ [] → xs ++ ys ≡ []
append_nil xs ys e g = ap (λ l. l ++ ys) e ∙ g

pub accept_law : (f : List ℕ → ℕ) (n : ℕ) (whole : Book) (parts : ℕ → Book) (limits : LimitsView) (own_limits : ℕ → LimitsView) (file : File) → ArePartsOf f n whole parts → Fits limits whole file.records → FitEach f n own_limits parts file.records
    → (file_faults limits whole file ≡ [] → (k : ℕ) → k < n → file_faults (own_limits k) (parts k) (file_part f k file) ≡ []) × (((k : ℕ) → k < n → file_faults (own_limits k) (parts k) (file_part f k file) ≡ []) → file_faults limits whole file ≡ [])
accept_law f n whole parts limits own_limits file are fits own_fits =
    let heads : List (JoinCode × ℕ) = head_faults whole.head file.head in
    let early : List RecordView = late whole file.records in
    let all = ap (λ (l : List (JoinCode × ℕ)). heads ++ l) (faults_law limits whole file.records fits) in
    let each = λ (k : ℕ) (less : k < n). part_faults_law f k whole (parts k) (own_limits k) file (are.each k less) are.whole_told (are.each_told k less) (own_fits k less) in (
      (λ none k less.
          let joint : heads ++ map late_fault early ≡ [] = sym all ∙ none in
          let no_early : early ≡ [] = map_nil late_fault early (second_nil heads (map late_fault early) joint) in
          each k less ∙ append_nil heads (map late_fault (own_records f k early)) (first_nil heads (map late_fault early) joint) (ap (λ (l : List RecordView). map late_fault (own_records f k l)) no_early)),
      λ none.
          let joint = λ (k : ℕ) (less : k < n). sym (each k less) ∙ none k less in
          let no_early : early ≡ [] = all_own f n are.within early (λ k less. map_nil late_fault (own_records f k early) (second_nil heads (map late_fault (own_records f k early)) (joint k less))) in
          all ∙ append_nil heads (map late_fault early) (first_nil heads (map late_fault (own_records f 0 early)) (joint 0 are.some)) (ap (map late_fault) no_early),
    )

-- a file that is taken in
pub after_is : (limits : LimitsView) (book : Book) (file : File) (legs : List LegView) → joined limits book file ≡ Ok legs → book_after limits book file ≡ with_file book file
after_is limits book file legs e = rw (e, book_after) refl

pub stay_law : (f : List ℕ → ℕ) (k : ℕ) (whole part : Book) (limits own_limits : LimitsView) (file : File) (a b : List LegView) → IsPartOf f k whole part → IsTold whole → IsTold part → joined limits whole file ≡ Ok a → joined own_limits part (file_part f k file) ≡ Ok b
    → IsPartOf f k (book_after limits whole file) (book_after own_limits part (file_part f k file))
stay_law f k whole part limits own_limits file a b of is own_is ok own_ok =
    let later = (part_law f k whole part file.records of is own_is).0 in
    let now : IsPartOf f k (with_file whole file) (with_file part (file_part f k file)) = record { head = ap (λ head. head_with head file.head) of.head; names = later.names; legs = later.legs } in
    rw (after_is limits whole file a ok, after_is own_limits part (file_part f k file) b own_ok) now
