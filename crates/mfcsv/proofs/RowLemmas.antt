-- The fields of a record, one at a time.
use Rattle.std.proofs.Common.{[], ◌∷◌, ◌++◌, ◌+◌, ◌-◌, ◌<◌, ◌≤◌, ◌≡◌, ◌∙◌, ◌&&◌, List, zero, suc, inl, inr, ℕ, ap, append_assoc, arith, drop, false, int_lt, length, min, refl, replicate, sym, true, ◌≤ℤ◌, ℤ}
use Rattle.std.proofs.lemmas.Bool.{cases_lt}
use Rattle.std.proofs.lemmas.Bool.Decides.{nat_tests}
use Rattle.std.proofs.lemmas.Int.{ints}
use Rattle.std.specs.List.{list_all}
use Rattle.std.proofs.lemmas.List.{at_drop_more, append-nil, drop_all, get_or_past, length-map, replicate-append-replicate}
use Rattle.std.proofs.lemmas.List.FromFn.{map-range_with_len_more}
use Rattle.csv.specs.Records.{Row as CsvRow, fields_of}
use Rattle.mfcsv.specs.Unread.{cells}
use Rattle.mfcsv.specs.Rows.{Row, field, is_empty}
use Rattle.mfcsv.specs.DataRecord.{attributes_of, has_wrong_name}

-- one attribute value more
pub attributes_of-more : (row : Row) (i : ℕ) → attributes_of (i + 1) row ≡ attributes_of i row ++ (field row (4 + i) ∷ [])
unfolding attributes_of
attributes_of-more row i = map-range_with_len_more (λ k. field row (4 + k)) 0 i i (omega arith)

pub attributes_of-none : (row : Row) → attributes_of 0 row ≡ []
unfolding attributes_of
attributes_of-none row = refl

-- values behind the end of a record are blank
attributes_of-past : (row : Row) (n : ℕ) → length row ≤ 4 + n → attributes_of (n + 1) row ≡ attributes_of n row ++ ([] ∷ [])
attributes_of-past row n past =
    attributes_of-more row n ∙ ap (λ (value : List ℕ). attributes_of n row ++ (value ∷ [])) (get_or_past row (4 + n) [] past)

pub attributes_of-blank : (row : Row) (n k : ℕ) → length row ≤ 4 + n → attributes_of (n + k) row ≡ attributes_of n row ++ replicate k []
attributes_of-blank row n zero past = ap (λ count. attributes_of count row) (omega arith) ∙ sym (append-nil (attributes_of n row))
attributes_of-blank row n (suc k) past =
    let count : n + suc k ≡ (n + k) + 1 = omega arith in
    let more : replicate {A = List ℕ} k [] ++ ([] ∷ []) ≡ replicate (suc k) [] = replicate-append-replicate k 1 [] ∙ ap (λ count. replicate {A = List ℕ} count []) (let e : k + 1 ≡ suc k = omega arith in e) in
    ap (λ count. attributes_of count row) count ∙ attributes_of-past row (n + k) (omega (arith, past))
    ∙ ap (λ (values : List (List ℕ)). values ++ ([] ∷ [])) (attributes_of-blank row n k past)
    ∙ append_assoc (attributes_of n row) (replicate k []) ([] ∷ []) ∙ ap (λ (values : List (List ℕ)). attributes_of n row ++ values) more

-- as many values as columns: those that the record has, and blank ones
pub attributes_all : (row : Row) (columns n : ℕ) → n ≡ min columns (length row - 4) → attributes_of n row ++ replicate (columns - n) [] ≡ attributes_of columns row
attributes_all row columns n least =
    elim (cases_lt n columns) [
      | inl fewer ↦
          let count : n + (columns - n) ≡ columns = omega arith in
          sym (attributes_of-blank row n (columns - n) (omega (arith, least))) ∙ ap (λ k. attributes_of k row) count
      | inr all ↦
          let none : columns - n ≡ 0 = omega arith in
          let same : n ≡ columns = omega (arith, least) in
          ap (λ k. attributes_of n row ++ replicate {A = List ℕ} k []) none ∙ append-nil (attributes_of n row) ∙ ap (λ k. attributes_of k row) same
    ]

-- a name that is neither empty nor too long
pub named : (row : Row) → has_wrong_name row ≡ false → (1 ≤ length (field row 0)) × (length (field row 0) ≤ 255)
unfolding has_wrong_name
named row e = (grind (arith, nat_tests), grind (arith, nat_tests))

-- as many milliseconds as legs
pub long_enough : (time legs : ℤ) → int_lt time legs ≡ false → legs ≤ℤ time
long_enough time legs e = grind (arith, ints)

-- a record has as many cut fields as fields
pub length-cells : (row : CsvRow) → length (cells row) ≡ length (fields_of row)
length-cells row = simp length-map
