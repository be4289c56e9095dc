-- The attribute columns of a line, one at a time.
use Rattle.std.proofs.Common.{[], ◌∷◌, ◌++◌, ◌+◌, ◌-◌, ◌*◌, ◌/◌, ◌<◌, ◌≤◌, ◌≡◌, ◌∙◌, ◌&&◌, ℕ, zero, suc, List, ap, arith, drop, get_or, length, refl, take, true, false}
use Rattle.std.specs.List.{suffix_len}
use Rattle.std.proofs.lemmas.List.{length-drop, get_or-drop, take_more, take_all}
use Rattle.std.proofs.lemmas.List.Sums.{suffix_len-take_yes, suffix_len-take_no}
use Rattle.mfcsv.specs.Rows.{Row, field, is_empty}
use Rattle.mfcsv.specs.Header.{columns_of, is_blank_column, pairs}
use Rattle.mfcsv.specs.declared.Column.{Column}

abbrev no_column : Column
no_column = record { name = []; kind = [] }

-- half as many as fields, rounded up
pub length-pairs : (fields : List (List ℕ)) → (length fields ≤ 2 * length (pairs fields)) × (2 * length (pairs fields) ≤ length fields + 1)
unfolding pairs
length-pairs [] = (omega arith, omega arith)
length-pairs (name ∷ []) = (omega arith, omega arith)
length-pairs (name ∷ kind ∷ rest) = let more = length-pairs rest in (omega arith, omega arith)

pub get_or-pairs : (fields : List (List ℕ)) (i : ℕ) → i < length (pairs fields) → get_or (pairs fields) i no_column ≡ record { name = get_or fields (2 * i) []; kind = get_or fields (2 * i + 1) [] }
unfolding pairs
get_or-pairs [] i h = absurd (omega arith)
get_or-pairs (name ∷ []) zero h = refl
get_or-pairs (name ∷ []) (suc i) h = absurd (omega arith)
get_or-pairs (name ∷ kind ∷ rest) zero h = refl
get_or-pairs (name ∷ kind ∷ rest) (suc i) h =
    let a : 2 * suc i ≡ suc (suc (2 * i)) = omega arith in
    let b : suc (suc (2 * i)) + 1 ≡ suc (suc (2 * i + 1)) = omega arith in
    rw (a, b) (get_or-pairs rest i (omega arith))

-- all pairs of a line, and the one at a place by its fields
abbrev pub all_pairs : Row → List Column
all_pairs row = pairs (drop 3 row)

pub length-all_pairs : (row : Row) → length (all_pairs row) ≡ (length row - 2) / 2
length-all_pairs row = let p = length-pairs (drop 3 row) in let d = length-drop 3 row in omega arith

abbrev pub column_at : Row → ℕ → Column
column_at row i = record { name = field row (2 * i + 3); kind = field row (2 * i + 4) }

pub get_or-all_pairs : (row : Row) (i : ℕ) → i < length (all_pairs row) → get_or (all_pairs row) i no_column ≡ column_at row i
get_or-all_pairs row i h =
    let a : 3 + 2 * i ≡ 2 * i + 3 = omega arith in
    let b : 3 + (2 * i + 1) ≡ 2 * i + 4 = omega arith in
    get_or-pairs (drop 3 row) i h ∙ rw (get_or-drop 3 row (2 * i) [], get_or-drop 3 row (2 * i + 1) [], a, b) refl

-- the first n pairs, without the blank ones at their end
abbrev pub first_columns : Row → ℕ → List Column
first_columns row n = take (n - suffix_len is_blank_column (take n (all_pairs row))) (all_pairs row)

-- so many pairs are left to look at
pub record IsCounting (row : Row) (n : ℕ) : Type 0 where
  pub within : n ≤ length (all_pairs row)
  pub same : columns_of row ≡ first_columns row n

pub counting-start : (row : Row) → IsCounting row ((length row - 2) / 2)
unfolding columns_of
counting-start row =
    let size = length-all_pairs row in
    let all : take ((length row - 2) / 2) (all_pairs row) ≡ all_pairs row = take_all ((length row - 2) / 2) (all_pairs row) (omega arith) in
    record { within = omega arith; same = rw (all, ← size) refl }

is_blank-at : (row : Row) (n : ℕ) → 0 < n → n ≤ length (all_pairs row) → is_blank_column (get_or (all_pairs row) (n - 1) no_column) ≡ (is_empty (field row (2 * n + 1)) && is_empty (field row (2 * n + 1 + 1)))
is_blank-at row n h w =
    let a : 2 * (n - 1) + 3 ≡ 2 * n + 1 = omega arith in
    let b : 2 * (n - 1) + 4 ≡ 2 * n + 1 + 1 = omega arith in
    ap is_blank_column (get_or-all_pairs row (n - 1) (omega arith)) ∙ rw (a, b) refl

pub counting-more : (row : Row) (n : ℕ) → IsCounting row n → 0 < n → (is_empty (field row (2 * n + 1)) && is_empty (field row (2 * n + 1 + 1))) ≡ true → IsCounting row (n - 1)
counting-more row n c h e =
    let blank : is_blank_column (get_or (all_pairs row) (n - 1) no_column) ≡ true = is_blank-at row n h c.within ∙ e in
    let step = suffix_len-take_yes is_blank_column (all_pairs row) n no_column h c.within blank in
    let less : n - suffix_len is_blank_column (take n (all_pairs row)) ≡ n - 1 - suffix_len is_blank_column (take (n - 1) (all_pairs row)) = omega arith in
    let within : n ≤ length (all_pairs row) = c.within in
    record { within = omega arith; same = c.same ∙ ap (λ k. take k (all_pairs row)) less }

pub counting-end : (row : Row) (n : ℕ) → IsCounting row n → 0 < n → (is_empty (field row (2 * n + 1)) && is_empty (field row (2 * n + 1 + 1))) ≡ false → columns_of row ≡ take n (all_pairs row)
counting-end row n c h e =
    let named : is_blank_column (get_or (all_pairs row) (n - 1) no_column) ≡ false = is_blank-at row n h c.within ∙ e in
    let none = suffix_len-take_no is_blank_column (all_pairs row) n no_column h c.within named in
    let all : n - suffix_len is_blank_column (take n (all_pairs row)) ≡ n = omega arith in
    c.same ∙ ap (λ k. take k (all_pairs row)) all

-- the fields of the last pair are there
pub counting-small : (row : Row) (n : ℕ) → IsCounting row n → 0 < n → 2 * n + 2 ≤ length row
counting-small row n c h = let size = length-all_pairs row in let within : n ≤ length (all_pairs row) = c.within in omega arith

-- one column more
pub columns-more : (row : Row) (i : ℕ) → i < length (all_pairs row) → take (i + 1) (all_pairs row) ≡ take i (all_pairs row) ++ (column_at row i ∷ [])
columns-more row i h = take_more (all_pairs row) i no_column h ∙ ap (λ (column : Column). take i (all_pairs row) ++ (column ∷ [])) (get_or-all_pairs row i h)
