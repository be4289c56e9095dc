-- What `load` counts of a file is the sum of what it counts of the parts.
use Rattle.std.proofs.Common.{[], ◌∷◌, ◌+◌, ◌<◌, ◌≤◌, ◌≡◌, ◌∙◌, ◌==◌, ℕ, zero, suc, ap, sym, refl, arith, List, Bool, true, false, cond, filter, length, inl, inr, Ok}
use Rattle.std.specs.Prelude.{sum_by}
use Rattle.std.specs.List.{range_with_len}
use Rattle.std.proofs.lemmas.Bool.{cases_Bool}
use Rattle.std.proofs.lemmas.Bool.Decides.{nat_tests}
use Rattle.std.proofs.lemmas.List.{length-append, length-map}
use Rattle.std.proofs.lemmas.List.FromFn.{length-range_with_len}
use Rattle.std.proofs.lemmas.List.Sums.{sum_by-cons}
use Rattle.mfcsv.specs.Views.{RecordView, leg_count}
use Rattle.legs.specs.Book.{Book, empty_book, legs_or_fault, leg_added, record_legs, records_legs, with_record, with_records, joined}
use Rattle.legs.specs.Counting.{names_after}
use Rattle.legs.specs.Legs.{LegView}
use Rattle.legs.specs.declared.joining.JoinCode.{JoinCode}
use Rattle.legs.proofs.RecordLemmas.{with_record-names}
use Rattle.legs.specs.Limits.{LimitsView}
use Rattle.mfcsv.specs.declared.File.{File}
use Rattle.trajdb.specs.Answers.{counts_of}
use Rattle.together.specs.Joining.{IsSumOf}
use Rattle.together.specs.Parts.{ArePartsOf, IsTold, file_part, own_names, own_records}
use Rattle.together.proofs.CountLemmas.{sum-agree, sum-plus, sum_parts}
use Rattle.together.proofs.FeatureLemmas.{range_within}
use Rattle.together.proofs.LateLemmas.{part_law}

-- of a stretch of numbers, i is given v, and all others nothing
share : ℕ → ℕ → ℕ → ℕ
share v i k = cond (i == k) v 0

share_by : (v i k : ℕ) (b : Bool) → (i == k) ≡ b → share v i k ≡ cond b v 0
unfolding share
share_by v i k b e = ap (λ c. cond c v 0) e

none_before : (v i a m : ℕ) → i < a → sum_by (share v i) (range_with_len a m) ≡ 0
none_before v i a zero h = refl
none_before v i a (suc m) h =
    let e : (i == a) ≡ false = grind (arith, nat_tests) in
    let f : share v i a ≡ 0 = share_by v i a false e in
    let more = none_before v i (a + 1) m (omega arith) in
    sum_by-cons (share v i) a (range_with_len (a + 1) m) ∙ ap (λ c. c + sum_by (share v i) (range_with_len (a + 1) m)) f ∙ ap (λ x. 0 + x) more

one_within : (v i a m : ℕ) → a ≤ i → i < a + m → sum_by (share v i) (range_with_len a m) ≡ v
one_within v i a zero h less = absurd (omega arith)
one_within v i a (suc m) h less = elim (cases_Bool (i == a)) [
  | inl e ↦
      let same : i < a + 1 = grind (arith, nat_tests) in
      let none = none_before v i (a + 1) m same in
      sum_by-cons (share v i) a (range_with_len (a + 1) m) ∙ ap (λ c. c + sum_by (share v i) (range_with_len (a + 1) m)) (share_by v i a true e) ∙ omega (arith, none)
  | inr e ↦
      let above : a + 1 ≤ i = grind (arith, nat_tests) in
      let more = one_within v i (a + 1) m above (omega arith) in
      sum_by-cons (share v i) a (range_with_len (a + 1) m) ∙ ap (λ c. c + sum_by (share v i) (range_with_len (a + 1) m)) (share_by v i a false e) ∙ omega (arith, more)
]

heavier : {X : Type 0} (w : X → ℕ) (b : Bool) (x : X) (xs : List X) → sum_by w (cond b (x ∷ xs) xs) ≡ cond b (w x) 0 + sum_by w xs
heavier w true x xs = sum_by-cons w x xs
heavier w false x xs = omega arith

nothing : (ks : List ℕ) → sum_by (λ k. 0) ks ≡ 0
nothing [] = refl
nothing (k ∷ ks) = nothing ks

-- what a list weighs is what its parts weigh
weigh_parts : {X : Type 0} (g w : X → ℕ) (n : ℕ) → ((x : X) → g x < n) → (xs : List X) → sum_by (λ k. sum_by w (filter (λ x. g x == k) xs)) (range_with_len 0 n) ≡ sum_by w xs
unfolding share
weigh_parts g w n within [] = nothing (range_with_len 0 n)
weigh_parts g w n within (x ∷ xs) =
    let less = within x in
    let more = weigh_parts g w n within xs in
    let here = one_within (w x) (g x) 0 n (omega arith) (omega (arith, less)) in
    let both = sum-plus (share (w x) (g x)) (λ k. sum_by w (filter (λ y. g y == k) xs)) (range_with_len 0 n) in
    let all = sum_by-cons w x xs in
    sum-agree (λ k. k < n) (λ k. sum_by w (filter (λ y. g y == k) (x ∷ xs))) (λ k. share (w x) (g x) k + sum_by w (filter (λ y. g y == k) xs))
    (λ k h. heavier w (g x == k) x (filter (λ y. g y == k) xs)) (range_with_len 0 n) (range_within n)
    ∙ both ∙ omega (arith, more, here, all)

-- how many legs a record has, whatever the book
legs_in : RecordView → ℕ
legs_in r = leg_count (length r.positions)

legs_are : (book : Book) (r : RecordView) → length (record_legs book r) ≡ legs_in r
unfolding legs_in
legs_are book r = length-map (range_with_len 0 (leg_count (length r.positions))) (leg_added book r) ∙ length-range_with_len 0 (leg_count (length r.positions))

all_legs : (book : Book) (records : List RecordView) → length (records_legs book records) ≡ sum_by legs_in records
all_legs book [] = refl
all_legs book (r ∷ records) =
    let one = legs_are book r in
    let more = all_legs (with_record book r) records in
    let all = sum_by-cons legs_in r records in
    length-append (record_legs book r) (records_legs (with_record book r) records) ∙ omega (arith, one, more, all)

-- the names of records are those of a book without others
names_of : (book : Book) (records : List RecordView) → (with_records book records).names ≡ names_after book.names records
names_of book [] = refl
names_of book (r ∷ records) = names_of (with_record book r) records ∙ ap (λ names. names_after names records) (with_record-names book r)

told : IsTold empty_book
told = record { distinct = λ i j d e less. absurd (omega arith); there = λ i d less. absurd (omega arith) }

own_names_after : (f : List ℕ → ℕ) (k : ℕ) (records : List RecordView) → names_after [] (own_records f k records) ≡ own_names f k (names_after [] records)
own_names_after f k records =
    let now = (part_law f k empty_book empty_book records (record { head = refl; names = refl; legs = refl }) told told).0 in
    sym (names_of empty_book (own_records f k records)) ∙ now.names ∙ ap (own_names f k) (names_of empty_book records)

-- what is joined are the legs of the records
ok_legs : (faults : List (JoinCode × ℕ)) (all legs : List LegView) → legs_or_fault faults all ≡ Ok legs → legs ≡ all
ok_legs [] all legs e = cc
ok_legs (fault ∷ faults) all legs e = absurd (cc)

pub load_count_law : (f : List ℕ → ℕ) (n : ℕ) (whole : Book) (parts : ℕ → Book) (limits : LimitsView) (own_limits : ℕ → LimitsView) (file : File) (legs : List LegView) (own : ℕ → List LegView) → ArePartsOf f n whole parts → joined limits whole file ≡ Ok legs
    → ((k : ℕ) → k < n → joined (own_limits k) (parts k) (file_part f k file) ≡ Ok (own k)) → IsSumOf n (counts_of file legs) (λ k. counts_of (file_part f k file) (own k))
load_count_law f n whole parts limits own_limits file legs own are ok own_ok =
    let w : RecordView → ℕ = legs_in in
    let all : length legs ≡ sum_by legs_in file.records = ap length (ok_legs _ _ legs ok) ∙ all_legs whole file.records in
    let each = λ (k : ℕ) (less : k < n). ap length (ok_legs _ _ (own k) (own_ok k less)) ∙ all_legs (parts k) (own_records f k file.records) in
    record {
      records = sym (sum_parts (λ (r : RecordView). f r.mfidref) n (λ r. are.within r.mfidref) file.records);
      legs = all ∙ sym (sum-agree (λ k. k < n) (λ k. length (own k)) (λ k. sum_by legs_in (own_records f k file.records)) each (range_with_len 0 n) (range_within n)
          ∙ weigh_parts (λ (r : RecordView). f r.mfidref) legs_in n (λ r. are.within r.mfidref) file.records);
      features = sym (sum-agree (λ k. k < n) (λ k. length (names_after [] (own_records f k file.records))) (λ k. length (own_names f k (names_after [] file.records)))
          (λ k less. ap length (own_names_after f k file.records)) (range_with_len 0 n) (range_within n)
          ∙ sum_parts f n are.within (names_after [] file.records));
    }
