-- The texts of several parts, row by row.
use Rattle.std.proofs.Common.{ℕ, ◌++◌, ◌∷◌, [], ◌≡◌, ◌∙◌, ◌<◌, ap, sym, refl, List, Bool, true, false, cond, ◌||◌, ◌==◌, Some, None, All, map, flat_map, append_assoc, get_or, length, take, drop, slice_set, zero, suc, ◌+◌, arith, is_ok, OnOk, Result, Ok, Err, IfOk}
use Rattle.std.proofs.Math.Seq.{take-append_seam}
use Rattle.std.proofs.lemmas.List.Elements.{All-map}
use Rattle.mfcsv.specs.Header.{is_header_row}
use Rattle.mfcsv.specs.Rows.{Row, cut, field}
use Rattle.parts.specs.Names.{part_of}
use Rattle.mfcsv.specs.FileText.{file_of_bytes}
use Rattle.mfcsv.specs.declared.Code.{Code}
use Rattle.mfcsv.specs.declared.File.{File}
use Rattle.parts.specs.Part.{blank_fields, file_part, has, owner_of, part_text, said_part, stays, text_part, whole_part}
use Rattle.parts.specs.Written.{record_text}
use Rattle.parts.specs.Texts.{PartView, begun, with_fields}
use Rattle.parts.proofs.PartLemmas.{whole_says}
use Rattle.std.specs.List.{range_with_len}

-- the text of a part once these records are taken in
abbrev pub with_rows : ℕ → List (List (List ℕ)) → PartView → List ℕ
with_rows n rows a = a.text ++ flat_map (text_part a.part n) rows

-- the part can go on
abbrev pub IsClean : PartView → Type 0
IsClean a = a.refused ≡ false

-- one record, and then the others
pub rows_more : (n : ℕ) (fields : List (List ℕ)) (rows : List (List (List ℕ))) (parts : List PartView) → map (with_rows n rows) (map (with_fields n fields) parts) ≡ map (with_rows n (fields ∷ rows)) parts
rows_more n fields rows [] = refl
rows_more n fields rows (a ∷ parts) =
    ap (λ (t : List ℕ). t ∷ map (with_rows n rows) (map (with_fields n fields) parts)) (append_assoc a.text (text_part a.part n fields) (flat_map (text_part a.part n) rows))
    ∙ ap (λ (ts : List (List ℕ)). with_rows n (fields ∷ rows) a ∷ ts) (rows_more n fields rows parts)

-- and no record
append_none : (t : List ℕ) → t ++ [] ≡ t
append_none [] = refl
append_none (c ∷ t) = ap (λ (u : List ℕ). c ∷ u) (append_none t)

pub rows_none : (n : ℕ) (parts : List PartView) → map (with_rows n []) parts ≡ map (λ a. a.text) parts
rows_none n [] = refl
rows_none n (a ∷ parts) =
    ap (λ (t : List ℕ). t ∷ map (with_rows n []) parts) (append_none a.text) ∙ ap (λ (ts : List (List ℕ)). a.text ∷ ts) (rows_none n parts)

-- texts that were begun
pub rows_begun : (n : ℕ) (rows : List (List (List ℕ))) (ks : List ℕ) → map (with_rows n rows) (map begun ks) ≡ map (λ k. 10 ∷ flat_map (text_part k n) rows) ks
rows_begun n rows [] = refl
rows_begun n rows (k ∷ ks) = ap (λ (ts : List (List ℕ)). (10 ∷ flat_map (text_part k n) rows) ∷ ts) (rows_begun n rows ks)

-- they can go on, before and after a record
pub begun_clean : (ks : List ℕ) → All IsClean (map begun ks)
begun_clean ks = All-map IsClean begun ks (λ i d less. refl)

pub taken_clean : (n : ℕ) (fields : List (List ℕ)) (parts : List PartView) → All IsClean (map (with_fields n fields) parts)
taken_clean n fields parts = All-map IsClean (with_fields n fields) parts (λ i d less. refl)

-- what is written through a list that was lent takes its place
pub lent_back : {X : Type 0} (len : ℕ) (new old : List X) → len ≡ length new → take len (new ++ drop (length new) old) ≡ new
lent_back len new old e = ap (λ n. take n (new ++ drop (length new) old)) e ∙ take-append_seam new (drop (length new) old)

-- what an answer is
pub then_is : {V E T : Type 0} (f : V → T) (r : Result V E) (a b : T) → IfOk r (λ v. f v ≡ a) → a ≡ b → IfOk r (λ v. f v ≡ b)
then_is f (Ok v) a b e same = e ∙ same
then_is f (Err x) a b e same = e

-- the part that has a record alone, and each part where none does, are those in which it stays
pub has_owner : (k n : ℕ) (row : Row) → has k (owner_of n row) ≡ stays k n row
unfolding owner_of stays
has_owner k n row = by (is_header_row row)
  where
    by : (b : Bool) → has k (cond b None (Some (part_of n (field row 0)))) ≡ (b || (part_of n (field row 0) == k))
    by true = refl
    by false = refl

-- so what stands in its place is the record, or a blank one
pub text_kept : (k n : ℕ) (fields : List (List ℕ)) → has k (owner_of n (map cut fields)) ≡ true → record_text fields ≡ text_part k n fields
text_kept k n fields e = sym (ap (λ b. record_text (cond b fields blank_fields)) (sym (has_owner k n (map cut fields)) ∙ e))

pub text_gone : (k n : ℕ) (fields : List (List ℕ)) → has k (owner_of n (map cut fields)) ≡ false → record_text blank_fields ≡ text_part k n fields
text_gone k n fields e = sym (ap (λ b. record_text (cond b fields blank_fields)) (sym (has_owner k n (map cut fields)) ∙ e))

-- what follows where it went well
pub on_ok : {V E : Type 0} (r : Result V E) (P Q : Type 0) → OnOk r P → (P → Q) → OnOk r Q
on_ok (Ok v) P Q h f = f h
on_ok (Err e) P Q h f = h

-- what the texts of parts say of a file without a fault
part_file : (k n : ℕ) (bytes : List ℕ) (file : File) → file_of_bytes bytes ≡ Ok file → file_of_bytes (whole_part k n bytes) ≡ Ok (file_part k n file)
part_file k n bytes file e = whole_says k n bytes file e ∙ ap (said_part k n) e

part_files : (n : ℕ) (bytes : List ℕ) (file : File) (ks : List ℕ) → file_of_bytes bytes ≡ Ok file → map file_of_bytes (map (λ k. whole_part k n bytes) ks) ≡ map (λ k. Ok (file_part k n file)) ks
part_files n bytes file [] e = refl
part_files n bytes file (k ∷ ks) e =
    ap (λ (s : Result File (Code × ℕ)). s ∷ map file_of_bytes (map (λ j. whole_part j n bytes) ks)) (part_file k n bytes file e)
    ∙ ap (λ (ss : List (Result File (Code × ℕ))). Ok (file_part k n file) ∷ ss) (part_files n bytes file ks e)

says_each : {T : Type 0} (items : T → List ℕ) (texts : List T) → map (λ text. file_of_bytes (items text)) texts ≡ map file_of_bytes (map items texts)
says_each items [] = refl
says_each items (text ∷ texts) = ap (λ (ss : List (Result File (Code × ℕ))). file_of_bytes (items text) ∷ ss) (says_each items texts)

pub parts_say : {V T E : Type 0} (list : V → List T) (items : T → List ℕ) (r : Result V E) (first count n : ℕ) (bytes : List ℕ) (said : Result File (Code × ℕ)) → file_of_bytes bytes ≡ said
    → IfOk r (λ texts. map items (list texts) ≡ map (λ k. whole_part k n bytes) (range_with_len first count))
    → IfOk said (λ file. IfOk r (λ texts. map (λ text. file_of_bytes (items text)) (list texts) ≡ map (λ k. Ok (file_part k n file)) (range_with_len first count)))
parts_say list items r first count n bytes (Err fault) e h = tt
parts_say list items (Err error) first count n bytes (Ok file) e h = tt
parts_say list items (Ok texts) first count n bytes (Ok file) e h =
    says_each items (list texts) ∙ ap (map file_of_bytes) h ∙ part_files n bytes file (range_with_len first count) e

-- one text more has what stands for the record
set_map : {X : Type 0} (f : X → X) (xs : List X) (i : ℕ) (d : X) → i < length xs
    → slice_set (map f (take i xs) ++ drop i xs) i (f (get_or (map f (take i xs) ++ drop i xs) i d)) ≡ map f (take (suc i) xs) ++ drop (suc i) xs
set_map f [] i d less = absurd (omega (arith, less))
set_map f (x ∷ xs) zero d less = refl
set_map f (x ∷ xs) (suc i) d less = ap (λ (l : List _). f x ∷ l) (set_map f xs i d (omega (arith, less)))

pub step_map : {X : Type 0} (f : X → X) (xs ys : List X) (i : ℕ) (d : X) → i < length xs → ys ≡ map f (take i xs) ++ drop i xs
    → slice_set ys i (f (get_or ys i d)) ≡ map f (take (i + 1) xs) ++ drop (i + 1) xs
step_map f xs ys i d less e =
    let one : suc i ≡ i + 1 = omega arith in
    ap (λ (l : List _). slice_set l i (f (get_or l i d))) e ∙ set_map f xs i d less ∙ ap (λ j. map f (take j xs) ++ drop j xs) one

-- the text of a part of bytes without a fault says that part
pub part_says : {V E : Type 0} (items : V → List ℕ) (r : Result V E) (k n : ℕ) (bytes : List ℕ) (said : Result File (Code × ℕ)) → file_of_bytes bytes ≡ said → is_ok said ≡ true
    → IfOk r (λ text. items text ≡ whole_part k n bytes) → IfOk r (λ text. file_of_bytes (items text) ≡ said_part k n (file_of_bytes bytes))
part_says items r k n bytes (Err fault) e ok h = absurd (cc)
part_says items (Err error) k n bytes (Ok file) e ok h = tt
part_says items (Ok text) k n bytes (Ok file) e ok h = ap file_of_bytes h ∙ whole_says k n bytes file e

-- the text of a part, where the bytes have no fault
pub if_whole : {V E : Type 0} (items : V → List ℕ) (r : Result V E) (whole same : List ℕ) (b : Bool) → b ≡ true
    → IfOk r (λ text. items text ≡ whole) → IfOk r (λ text. items text ≡ cond b whole same)
if_whole items (Ok text) whole same b e h = h ∙ sym (ap (λ c. cond c whole same) e)
if_whole items (Err error) whole same b e h = tt

-- what that text says, of any bytes
said_by : (k n : ℕ) (bytes : List ℕ) (said : Result File (Code × ℕ)) → file_of_bytes bytes ≡ said
    → file_of_bytes (cond (is_ok said) (whole_part k n bytes) bytes) ≡ said_part k n said
said_by k n bytes (Ok file) e = part_file k n bytes file e
said_by k n bytes (Err fault) e = e

pub part_text_says : (k n : ℕ) (bytes : List ℕ) → file_of_bytes (part_text k n bytes) ≡ said_part k n (file_of_bytes bytes)
part_text_says k n bytes = said_by k n bytes (file_of_bytes bytes) refl
