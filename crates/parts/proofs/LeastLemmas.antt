-- What the parts of a file with a fault say.
use Rattle.std.proofs.Common.{[], ◌∷◌, ◌++◌, ◌+◌, ◌<◌, ◌≤◌, ◌==◌, ◌≡◌, ◌∙◌, ◌⊎◌, ◌||◌, not, ℕ, ℤ, Bool, List, Option, Some, None, Result, Ok, Err, IfErr, is_some, ap, arith, cond, filter, flat_map, inl, inr, map, refl, subst, sym, true, false}
use Rattle.std.specs.Prelude.{IfSome, codes}
use Rattle.std.proofs.Math.Nat.{mod-lt}
use Rattle.std.proofs.lemmas.Bool.{cases_Bool}
use Rattle.mfcsv.specs.Rows.{Row, field, rows_of, same_word}
use Rattle.mfcsv.specs.Views.{BoundsView, ColumnsView, HeadsView, RecordView}
use Rattle.mfcsv.specs.Header.{bounds_of, dimension_of, has_other_dimension, heads_after, is_blank_row, is_header_row, kind_of, start_of}
use Rattle.mfcsv.specs.FileText.{faults_of, file_at, file_with, first_or, has_fault, heads_from, line_of, lines_from, no_heads, records_of, table, text_of_rows}
use Rattle.mfcsv.specs.declared.Code.{Code}
use Rattle.mfcsv.specs.declared.Code.TheVariants.{F1, F2, F3, F4, F5, F6, F7, F8, F11, F12, F13, F14, F15, F16, F17}
use Rattle.mfcsv.specs.declared.Dimension.{Dimension}
use Rattle.mfcsv.specs.declared.File.{File}
use Rattle.mfcsv.proofs.FaultLemmas.{heads_after-bounds, heads_after-columns, heads_after-other, heads_after-skipped}
use Rattle.parts.specs.Names.{is_in, part_of}
use Rattle.parts.specs.Part.{blank_row, row_part, said_part, stays}
use Rattle.parts.specs.Faults.{FaultLaw, IsBehind}
use Rattle.parts.proofs.BackLemmas.{part_rows}
use Rattle.parts.proofs.PartLemmas.{blank_faults, faults_all, faults_one, heads_all, heads_one, no_header-heads, records_all, said_with}

-- the faults of these records, the first of that number behind those header lines
abbrev all_faults : ℕ → HeadsView → List Row → List (Code × ℕ)
all_faults number heads rows = flat_map faults_of (lines_from number heads rows)

-- the first of two lists, one behind the other
split : {X : Type 0} (xs ys : List X) (f : X) (fs : List X) → xs ++ ys ≡ f ∷ fs → ((xs ≡ []) × (ys ≡ f ∷ fs)) ⊎ ((gs : List X) × (xs ≡ f ∷ gs))
split [] ys f fs e = inl (refl, e)
split (x ∷ xs) ys f fs e = inr (xs, let s : x ∷ (xs ++ ys) ≡ f ∷ fs = e in let h : x ≡ f = cc in ap (λ z. z ∷ xs) h)

heads_same : {X : Type 0} (xs : List X) (f : X) (gs : List X) (g : X) (ys fs : List X) → xs ≡ f ∷ gs → xs ++ ys ≡ g ∷ fs → g ≡ f
heads_same xs f gs g ys fs e h =
    let s : f ∷ (gs ++ ys) ≡ g ∷ fs = sym (ap (λ (zs : List _). zs ++ ys) e) ∙ h in let t : g ≡ f = cc in t

-- a fault has the number of its record
numbered : (all : List Code) (number : ℕ) (f : Code × ℕ) (fs : List (Code × ℕ)) → map (λ code. (code, number)) all ≡ f ∷ fs → f.1 ≡ number
numbered [] number f fs e = absurd (let s : [] ≡ f ∷ fs = e in (cc))
numbered (code ∷ all) number f fs e =
    let s : (code, number) ∷ map (λ code. (code, number)) all ≡ f ∷ fs = e in
    let h : f ≡ (code, number) = cc in
    ap (λ (p : Code × ℕ). p.1) h

from_number : (number : ℕ) (heads : HeadsView) (rows : List Row) (f : Code × ℕ) (fs : List (Code × ℕ)) → all_faults number heads rows ≡ f ∷ fs → number ≤ f.1
from_number number heads [] f fs e = absurd (let s : [] ≡ f ∷ fs = e in (cc))
from_number number heads (row ∷ rows) f fs e =
    elim (split (faults_of (line_of number heads row)) (all_faults (number + 1) (heads_after number heads row) rows) f fs e) [
      | inl more ↦ let h = from_number (number + 1) (heads_after number heads row) rows f fs more.1 in omega (arith, h)
      | inr here ↦ let h = numbered (filter (has_fault heads row) table) number f here.0 here.1 in omega (arith, h)
    ]

-- a record stays in the part of its name
same_number : (n : ℕ) → (n == n) ≡ true
same_number n = elim (cases_Bool (n == n)) [
  | inl e ↦ e
  | inr e ↦ absurd (grind (arith, e))
]

or_right : (a b : Bool) → b ≡ true → (a || b) ≡ true
or_right true b e = refl
or_right false b e = e

stays_home : (n : ℕ) (row : Row) → stays (part_of n (field row 0)) n row ≡ true
unfolding stays
stays_home n row = or_right (is_header_row row) (is_in (part_of n (field row 0)) n (field row 0)) (same_number (part_of n (field row 0)))

kept : (k n : ℕ) (row : Row) → stays k n row ≡ true → row_part k n row ≡ row
kept k n row e = ap (λ b. cond b row blank_row) e

gone : (k n : ℕ) (row : Row) → stays k n row ≡ false → row_part k n row ≡ blank_row
gone k n row e = ap (λ b. cond b row blank_row) e

part_below : (n : ℕ) (name : List ℕ) → 0 < n → part_of n name < n
unfolding part_of
part_below n name some = mod-lt _ some

-- the faults of the records of a part, behind a record without a fault
past : (k n number : ℕ) (heads : HeadsView) (row : Row) (rows : List Row) → faults_of (line_of number heads row) ≡ []
    → all_faults number heads (map (row_part k n) (row ∷ rows)) ≡ all_faults (number + 1) (heads_after number heads row) (map (row_part k n) rows)
past k n number heads row rows none =
    ap (λ (xs : List (Code × ℕ)). xs ++ all_faults (number + 1) (heads_after number heads (row_part k n row)) (map (row_part k n) rows)) (faults_one k n number heads row none)
    ∙ ap (λ h. all_faults (number + 1) h (map (row_part k n) rows)) (heads_one k n number heads row)

-- some part has the first fault
some_part : (n number : ℕ) (heads : HeadsView) (rows : List Row) (f : Code × ℕ) (fs : List (Code × ℕ)) → 0 < n → all_faults number heads rows ≡ f ∷ fs
    → (k : ℕ) × (k < n) × (gs : List (Code × ℕ)) × (all_faults number heads (map (row_part k n) rows) ≡ f ∷ gs)
some_part n number heads [] f fs some e = absurd (let s : [] ≡ f ∷ fs = e in (cc))
some_part n number heads (row ∷ rows) f fs some e =
    elim (split (faults_of (line_of number heads row)) (all_faults (number + 1) (heads_after number heads row) rows) f fs e) [
      | inl more ↦
          let rest = some_part n (number + 1) (heads_after number heads row) rows f fs some more.1 in
          (rest.0, rest.1, rest.2, past rest.0 n number heads row rows more.0 ∙ rest.3)
      | inr here ↦
          let k = part_of n (field row 0) in
          let left = all_faults (number + 1) (heads_after number heads (row_part k n row)) (map (row_part k n) rows) in (
            k,
            part_below n (field row 0) some,
            here.0 ++ left,
            ap (λ r. faults_of (line_of number heads r) ++ left) (kept k n row (stays_home n row)) ∙ ap (λ (xs : List (Code × ℕ)). xs ++ left) here.1,
          )
    ]

-- and no part has one before it
none_before : (k n number : ℕ) (heads : HeadsView) (rows : List Row) (f : Code × ℕ) (fs : List (Code × ℕ)) (g : Code × ℕ) (gs : List (Code × ℕ)) → all_faults number heads rows ≡ f ∷ fs
    → all_faults number heads (map (row_part k n) rows) ≡ g ∷ gs → (g ≡ f) ⊎ (f.1 < g.1)
none_before k n number heads [] f fs g gs e h = absurd (let s : [] ≡ f ∷ fs = e in (cc))
none_before k n number heads (row ∷ rows) f fs g gs e h =
    elim (split (faults_of (line_of number heads row)) (all_faults (number + 1) (heads_after number heads row) rows) f fs e) [
      | inl more ↦ none_before k n (number + 1) (heads_after number heads row) rows f fs g gs more.1 (sym (past k n number heads row rows more.0) ∙ h)
      | inr here ↦
          let left = all_faults (number + 1) (heads_after number heads (row_part k n row)) (map (row_part k n) rows) in
          elim (cases_Bool (stays k n row)) [
            | inl stay ↦ inl (heads_same (faults_of (line_of number heads row)) f here.0 g left gs here.1 (sym (ap (λ r. faults_of (line_of number heads r) ++ left) (kept k n row stay)) ∙ h))
            | inr go ↦
                let none : left ≡ g ∷ gs = sym (ap (λ r. faults_of (line_of number heads r) ++ left) (gone k n row go) ∙ ap (λ (xs : List (Code × ℕ)). xs ++ left) (blank_faults number heads)) ∙ h in
                let a = from_number (number + 1) (heads_after number heads (row_part k n row)) (map (row_part k n) rows) g gs none in
                let b = numbered (filter (has_fault heads row) table) number f here.0 here.1 in
                inr (omega (arith, a, b))
          ]
    ]

-- header lines without a fault name a dimension and a start
abbrev IsGiven : BoundsView → Type 0
IsGiven bounds = (is_some bounds.dimension ≡ true) × (is_some bounds.start ≡ true)

abbrev AreGiven : HeadsView → Type 0
AreGiven heads = IfSome heads.bounds IsGiven

by_head : {X : Type 0} (b : Bool) (x : X) (xs : List X) → cond b (x ∷ xs) xs ≡ [] → (b ≡ false) × (xs ≡ [])
by_head true x xs e = absurd (let s : x ∷ xs ≡ [] = e in (cc))
by_head false x xs e = (refl, e)

none_passes : {X : Type 0} (p : X → Bool) (x : X) (xs : List X) → filter p (x ∷ xs) ≡ [] → (p x ≡ false) × (filter p xs ≡ [])
none_passes p x xs e = by_head (p x) x (filter p xs) e

map_nil : {X Y : Type 0} (f : X → Y) (xs : List X) → map f xs ≡ [] → xs ≡ []
map_nil f [] e = refl
map_nil f (x ∷ xs) e = absurd (let s : f x ∷ map f xs ≡ [] = e in (cc))

without : (number : ℕ) (heads : HeadsView) (row : Row) → faults_of (line_of number heads row) ≡ [] → (has_fault heads row F4 ≡ false) × (has_fault heads row F5 ≡ false)
without number heads row none =
    let p = has_fault heads row in
    let last = F6 ∷ F7 ∷ F8 ∷ F11 ∷ F12 ∷ F13 ∷ F14 ∷ F15 ∷ F16 ∷ F17 ∷ [] in
    let e = map_nil (λ code. (code, number)) (filter p table) none in
    let a = none_passes p F1 (F2 ∷ F3 ∷ F4 ∷ F5 ∷ last) e in
    let b = none_passes p F2 (F3 ∷ F4 ∷ F5 ∷ last) a.1 in
    let c = none_passes p F3 (F4 ∷ F5 ∷ last) b.1 in
    let d = none_passes p F4 (F5 ∷ last) c.1 in
    let f = none_passes p F5 last d.1 in
    (d.0, f.0)

not_false : (b : Bool) → not b ≡ false → b ≡ true
not_false true e = refl
not_false false e = absurd (cc)

given_bounds : (number : ℕ) (heads : HeadsView) (row : Row) → is_blank_row row ≡ false → is_header_row row ≡ true → same_word (field row 0) (codes "@stboundedby") ≡ true
    → has_fault heads row F4 ≡ false → has_fault heads row F5 ≡ false → IsGiven (bounds_of number row)
unfolding has_fault kind_of has_other_dimension
given_bounds number heads row e h b four five =
    let d : not (is_some (dimension_of (field row 2))) ≡ false = rw (e, h, b) at four in
    let s : not (is_some (start_of row)) ≡ false = rw (e, h, b) at five in
    (not_false (is_some (dimension_of (field row 2))) d, not_false (is_some (start_of row)) s)

skipped : (number : ℕ) (heads : HeadsView) (row : Row) → is_blank_row row ≡ true → heads_after number heads row ≡ heads
unfolding kind_of
skipped number heads row e = heads_after-skipped number heads row (rw e refl)

given_one : (number : ℕ) (heads : HeadsView) (row : Row) → faults_of (line_of number heads row) ≡ [] → AreGiven heads → AreGiven (heads_after number heads row)
unfolding kind_of
given_one number heads row none given = elim (cases_Bool (is_header_row row)) [
  | inr h ↦ subst AreGiven (sym (no_header-heads number heads row h)) given
  | inl h ↦ elim (cases_Bool (is_blank_row row)) [
    | inl e ↦ subst AreGiven (sym (skipped number heads row e)) given
    | inr e ↦ elim (cases_Bool (same_word (field row 0) (codes "@stboundedby"))) [
      | inl b ↦
          let w = without number heads row none in
          subst AreGiven (sym (heads_after-bounds number heads row (rw (e, h, b) refl))) (given_bounds number heads row e h b w.0 w.1)
      | inr b ↦ elim (cases_Bool (same_word (field row 0) (codes "@columns"))) [
        | inl s ↦ subst AreGiven (sym (heads_after-columns number heads row (rw (e, h, b, s) refl))) given
        | inr s ↦ subst AreGiven (sym (heads_after-other number heads row (rw (e, h, b, s) refl))) given
      ]
    ]
  ]
]

first_nil : {X : Type 0} (xs ys : List X) → xs ++ ys ≡ [] → (xs ≡ []) × (ys ≡ [])
first_nil [] ys e = (refl, e)
first_nil (x ∷ xs) ys e = absurd (let s : x ∷ (xs ++ ys) ≡ [] = e in (cc))

given_all : (number : ℕ) (heads : HeadsView) (rows : List Row) → all_faults number heads rows ≡ [] → AreGiven heads → AreGiven (heads_from number heads rows)
given_all number heads [] none given = given
given_all number heads (row ∷ rows) none given =
    let n = first_nil (faults_of (line_of number heads row)) (all_faults (number + 1) (heads_after number heads row) rows) none in
    given_all (number + 1) (heads_after number heads row) rows n.1 (given_one number heads row n.0 given)

-- so without a fault of a record, the file has one of its end alone
ends_at : (dimension : Option Dimension) (start : Option ℤ) (bounds : BoundsView) (line : ColumnsView) (records : List RecordView) → is_some dimension ≡ true → is_some start ≡ true
    → IfErr (file_at dimension start bounds line records) (λ other. other.1 ≡ 0)
ends_at (Some dimension) (Some start) bounds line records d s = tt
ends_at (Some dimension) None bounds line records d s = absurd (cc)
ends_at None start bounds line records d s = absurd (cc)

ends_with : (bounds : Option BoundsView) (columns : Option ColumnsView) (records : List RecordView) → IfSome bounds IsGiven → IfErr (file_with bounds columns records) (λ other. other.1 ≡ 0)
ends_with (Some bounds) (Some line) records given = ends_at bounds.dimension bounds.start bounds line records given.0 given.1
ends_with (Some bounds) None records given = refl
ends_with None columns records given = refl

end_alone : (rows : List Row) → all_faults 1 no_heads rows ≡ [] → IfErr (text_of_rows rows) (λ other. other.1 ≡ 0)
unfolding text_of_rows
end_alone rows none =
    let heads : HeadsView = heads_from 1 no_heads rows in
    let records : List RecordView = flat_map records_of (lines_from 1 no_heads rows) in
    subst (λ (faults : List (Code × ℕ)). IfErr (first_or faults (file_with heads.bounds heads.columns records)) (λ other. other.1 ≡ 0)) (sym none)
    (ends_with heads.bounds heads.columns records (given_all 1 no_heads rows none tt))

-- what the records say, by their faults
first_said : (rows : List Row) (f : Code × ℕ) (fs : List (Code × ℕ)) → all_faults 1 no_heads rows ≡ f ∷ fs → text_of_rows rows ≡ Err f
unfolding text_of_rows
first_said rows f fs e =
    let heads : HeadsView = heads_from 1 no_heads rows in
    ap (λ (faults : List (Code × ℕ)). first_or faults (file_with heads.bounds heads.columns (flat_map records_of (lines_from 1 no_heads rows)))) e

end_said : (k n : ℕ) (rows : List Row) → all_faults 1 no_heads rows ≡ [] → text_of_rows (map (row_part k n) rows) ≡ said_part k n (text_of_rows rows)
unfolding text_of_rows
end_said k n rows none =
    let heads : HeadsView = heads_from 1 no_heads rows in
    let records : List RecordView = flat_map records_of (lines_from 1 no_heads rows) in
    let own : HeadsView = heads_from 1 no_heads (map (row_part k n) rows) in
    let mine : List RecordView = flat_map records_of (lines_from 1 no_heads (map (row_part k n) rows)) in
    ap (λ (faults : List (Code × ℕ)). first_or faults (file_with own.bounds own.columns mine)) (faults_all k n 1 no_heads rows none)
    ∙ ap (λ (h : HeadsView). file_with h.bounds h.columns mine) (heads_all k n 1 no_heads rows)
    ∙ ap (file_with heads.bounds heads.columns) (records_all k n 1 no_heads rows)
    ∙ said_with k n heads.bounds heads.columns records
    ∙ ap (λ (faults : List (Code × ℕ)). said_part k n (first_or faults (file_with heads.bounds heads.columns records))) (sym none)

list_cases : {X : Type 0} (xs : List X) → (xs ≡ []) ⊎ ((x : X) × (more : List X) × (xs ≡ x ∷ more))
list_cases [] = inl refl
list_cases (x ∷ xs) = inr (x, xs, refl)

same_fault : (f fault : Code × ℕ) (said : Result File (Code × ℕ)) → said ≡ Err f → said ≡ Err fault → f ≡ fault
same_fault f fault said e h = cc

weaker : (r : Result File (Code × ℕ)) (P Q : Code × ℕ → Type 0) → ((f : Code × ℕ) → P f → Q f) → IfErr r P → IfErr r Q
weaker (Ok file) P Q f h = tt
weaker (Err fault) P Q f h = f fault h

module _ (n : ℕ) (rows : List Row) (fault : Code × ℕ) (some : 0 < n) (says : text_of_rows rows ≡ Err fault) where
  part_says_it : (k : ℕ) × (k < n) × (text_of_rows (map (row_part k n) rows) ≡ Err fault)
  part_says_it = elim (list_cases (all_faults 1 no_heads rows)) [
    | inl none ↦ (0, some, end_said 0 n rows none ∙ ap (said_part 0 n) says)
    | inr has ↦
        let p = some_part n 1 no_heads rows has.0 has.1 some has.2 in
        let same = same_fault has.0 fault (text_of_rows rows) (first_said rows has.0 has.1 has.2) says in
        (p.0, p.1, first_said (map (row_part p.0 n) rows) has.0 p.2 p.3 ∙ ap Err same)
  ]

  parts_behind : (k : ℕ) → IfErr (text_of_rows (map (row_part k n) rows)) (λ other. (other ≡ fault) ⊎ IsBehind fault.1 other.1)
  parts_behind k = elim (list_cases (all_faults 1 no_heads rows)) [
    | inl none ↦
        subst (λ r. IfErr r (λ other. (other ≡ fault) ⊎ IsBehind fault.1 other.1)) (sym (end_said k n rows none ∙ ap (said_part k n) says)) (inl refl)
    | inr has ↦
        let same = same_fault has.0 fault (text_of_rows rows) (first_said rows has.0 has.1 has.2) says in
        let low = from_number 1 no_heads rows has.0 has.1 has.2 in
        subst (λ (f : Code × ℕ). IfErr (text_of_rows (map (row_part k n) rows)) (λ other. (other ≡ f) ⊎ IsBehind f.1 other.1)) same
        (elim (list_cases (all_faults 1 no_heads (map (row_part k n) rows))) [
          | inl none ↦ weaker (text_of_rows (map (row_part k n) rows)) (λ other. other.1 ≡ 0) (λ other. (other ≡ has.0) ⊎ IsBehind has.0.1 other.1) (λ other e. inr (low, inr e)) (end_alone (map (row_part k n) rows) none)
          | inr own ↦
              let b = none_before k n 1 no_heads rows has.0 has.1 own.0 own.1 has.2 own.2 in
              subst (λ r. IfErr r (λ other. (other ≡ has.0) ⊎ IsBehind has.0.1 other.1)) (sym (first_said (map (row_part k n) rows) own.0 own.1 own.2))
              (elim b [
                | inl e ↦ inl e
                | inr less ↦ inr (low, inl less)
              ])
        ])
  ]

pub fault_law : FaultLaw
fault_law n bytes fault some says =
    let p = part_says_it n (rows_of bytes) fault some says in (
      (p.0, p.1, ap text_of_rows (part_rows p.0 n bytes) ∙ p.2),
      λ k. subst (λ (rows : List Row). IfErr (text_of_rows rows) (λ other. (other ≡ fault) ⊎ IsBehind fault.1 other.1)) (sym (part_rows k n bytes)) (parts_behind n (rows_of bytes) fault some says k),
    )
