-- How a read of a record changes what is left.
use Rattle.std.proofs.Common.{[], drop, nat_le, Ok, ◌∷◌, ◌++◌, map, ℕ, zero, suc, ◌+◌, ◌<◌, ◌≤◌, ◌≡◌, ◌∙◌, ◌⊎◌, ap, sym, refl, List, Bool, length, true, false, ◌==◌, ◌||◌, ◌&&◌, cond, arith, inl, inr, Option, Some, None, unwrap_or}
use Rattle.std.proofs.lemmas.Bool.Decides.{nat_tests}
use Rattle.csv.specs.Machine.{Read, after_end, ends_at_end, field_after, fields_after, in_field, is_end, next_record, start_field, start_record, step}
use Rattle.csv.specs.Reading.{ExplainsRead, NextIs, Ready, ReadRecord, is_flexible, Reached, ReadsNext, TookRecord, default_config, is_bom, pending_of, records_from, records_next, source_of, strip_bom, took_first}
use Rattle.csv.specs.Records.{AllText, Row as CsvRow, fields_of}
use Rattle.csv.specs.declared.error.ErrorKind.{ErrorKind}
use Rattle.csv.specs.declared.error.ErrorKind.TheVariants as kind
use Rattle.csv.specs.declared.parser.Action.{Action}
use Rattle.csv.specs.declared.parser.Action.TheVariants as act
use Rattle.csv.specs.declared.parser.State.{State}
use Rattle.csv.specs.declared.parser.State.TheVariants as st
use Rattle.csv.specs.declared.reader.Trim.TheVariants as trim
use Rattle.csv.proofs.ReadFacts.{rows-end, rows-more}
use Rattle.mfcsv.specs.Rows.{Row, cut, has_mark, rows_of, without_marks}
use Rattle.mfcsv.specs.Unread.{FailsAt, IsBetweenRows, MayFail, MeetsNoText, ReadsRow, fault_of, Source, TakesRow, bytes_left, cells, rows_left}
use Rattle.mfcsv.proofs.TextLemmas.{all-cut, not_all-cut}
use denote.Ref.{Bor}

-- a byte that ends a record leaves a state at which the end of the text ends none
abbrev EndsBetween : State × Action → Type 0
EndsBetween q = is_end q.1 ≡ true → ends_at_end q.0 ≡ false

between-cond : (b : Bool) (q r : State × Action) → EndsBetween q → EndsBetween r → EndsBetween (cond b q r)
between-cond true q r f g = f
between-cond false q r f g = g

no_end : (s : State) (a : Action) → is_end a ≡ false → EndsBetween (s, a)
no_end s a e = λ t. let bad : true ≡ false = sym t ∙ e in cc

after-between : (c : ℕ) → EndsBetween (after_end default_config.terminator c, act.EndRecord)
after-between c = by (c == 13)
  where
    by : (b : Bool) → EndsBetween (cond b st.AfterCr st.StartRecord, act.EndRecord)
    by true = λ _. refl
    by false = λ _. refl

in_field-between : (c : ℕ) → EndsBetween (in_field default_config c)
in_field-between c =
    between-cond (c == 44) (st.StartField, act.EndField) _ (no_end st.StartField act.EndField refl)
    (between-cond ((c == 13) || (c == 10)) _ (st.InField, act.Copy) (after-between c) (no_end st.InField act.Copy refl))

start_field-between : (c : ℕ) → EndsBetween (start_field default_config c)
start_field-between c = between-cond (true && (c == 34)) (st.InQuoted, act.Skip) _ (no_end st.InQuoted act.Skip refl) (in_field-between c)

start_record-between : (c : ℕ) → EndsBetween (start_record default_config c)
start_record-between c =
    between-cond ((c == 13) || (c == 10)) (st.StartRecord, act.Skip) _ (no_end st.StartRecord act.Skip refl)
    (between-cond false (st.InComment, act.Skip) _ (no_end st.InComment act.Skip refl) (start_field-between c))

step-between : (s : State) (c : ℕ) → EndsBetween (step default_config s c)
step-between st.StartRecord c = start_record-between c
step-between st.StartField c = start_field-between c
step-between st.InField c = in_field-between c
step-between st.InQuoted c =
    between-cond (true && (c == 34)) (st.AfterQuote, act.Skip) _ (no_end st.AfterQuote act.Skip refl)
    (between-cond (true && false) (st.InEscape, act.Skip) (st.InQuoted, act.Copy) (no_end st.InEscape act.Skip refl) (no_end st.InQuoted act.Copy refl))
step-between st.InEscape c = no_end st.InQuoted act.Copy refl
step-between st.AfterQuote c = between-cond (true && true && (c == 34)) (st.InQuoted, act.Copy) _ (no_end st.InQuoted act.Copy refl) (in_field-between c)
step-between st.InComment c = between-cond (c == 10) (st.StartRecord, act.Skip) (st.InComment, act.Skip) (no_end st.StartRecord act.Skip refl) (no_end st.InComment act.Skip refl)
step-between st.AfterCr c = between-cond (c == 10) (st.StartRecord, act.Skip) _ (no_end st.StartRecord act.Skip refl) (start_record-between c)

pick : {X : Type 0} (b : Bool) (x p : X) (o : Option X) → cond b (Some x) o ≡ Some p → ((b ≡ true) × (x ≡ p)) ⊎ ((b ≡ false) × (o ≡ Some p))
pick true x p o e = inl (refl, cc)
pick false x p o e = inr (refl, e)

-- a record that was read leaves fewer bytes, or there were none; and the reader stands between records
pub next-shorter : (s : State) (fields : List (List ℕ)) (field xs : List ℕ) (p : Read) → next_record default_config s fields field xs ≡ Some p
    → (ends_at_end p.1 ≡ false) × ((length p.2 < length xs) ⊎ ((ends_at_end s ≡ true) × (length p.2 ≡ 0)))
unfolding next_record
next-shorter s fields field [] p e =
    elim (pick (ends_at_end s) (fields ++ (field ∷ []), st.StartRecord, []) p None e) [
      | inl here ↦ (ap (λ (q : Read). ends_at_end q.1) (sym here.1), inr (here.0, ap (λ (q : Read). length q.2) (sym here.1)))
      | inr none ↦ cc none.1
    ]
next-shorter s fields field (c ∷ rest) p e =
    elim (pick (is_end (step default_config s c).1) (fields_after (step default_config s c).1 fields field, (step default_config s c).0, rest) p
    (next_record default_config (step default_config s c).0 (fields_after (step default_config s c).1 fields field) (field_after (step default_config s c).1 c field) rest) e) [
      | inl here ↦
          let l : length rest ≡ length p.2 = ap (λ (q : Read). length q.2) here.1 in
          (ap (λ (q : Read). ends_at_end q.1) (sym here.1) ∙ step-between s c here.0, inl (omega arith))
      | inr more ↦
          let q = next-shorter (step default_config s c).0 (fields_after (step default_config s c).1 fields field) (field_after (step default_config s c).1 c field) rest p more.1 in
          (q.0, inl (elim q.1 [ inl lt ↦ omega arith | inr end ↦ omega arith ]))
    ]

-- from between two records it leaves fewer bytes
pub next-between : (s : State) (xs : List ℕ) (p : Read) → ends_at_end s ≡ false → next_record default_config s [] [] xs ≡ Some p → (ends_at_end p.1 ≡ false) × (length p.2 < length xs)
next-between s xs p between e =
    let q = next-shorter s [] [] xs p e in
    (q.0, elim q.1 [ inl lt ↦ lt | inr end ↦ absurd (let bad : true ≡ false = sym end.0 ∙ between in cc) ])

next_cases : (o : Option Read) → (o ≡ None) ⊎ ((p : Read) × (o ≡ Some p))
next_cases None = inl refl
next_cases (Some p) = inr (p, refl)

-- any number above that of the bytes gives all records
pub records_from-enough : (n m : ℕ) (s : State) (xs : List ℕ) → ends_at_end s ≡ false → length xs < n → length xs < m → records_from default_config n s xs ≡ records_from default_config m s xs
unfolding records_from
records_from-enough zero m s xs b h k = absurd (omega arith)
records_from-enough (suc n) zero s xs b h k = absurd (omega arith)
records_from-enough (suc n) (suc m) s xs b h k =
    elim (next_cases (next_record default_config s [] [] xs)) [
      | inl none ↦ ap (records_next (records_from default_config n)) none ∙ sym (ap (records_next (records_from default_config m)) none)
      | inr some ↦
          let p : Read = some.0 in
          let q = next-between s xs p b some.1 in
          ap (records_next (records_from default_config n)) some.1
          ∙ ap (λ (rows : List (List (List ℕ))). p.0 ∷ rows) (records_from-enough n m p.1 p.2 q.0 (omega arith) (omega arith))
          ∙ sym (ap (records_next (records_from default_config m)) some.1)
    ]

-- the records of a text begin with the next one
pub records_from-next : (s : State) (xs : List ℕ) (p : Read) → ends_at_end s ≡ false → next_record default_config s [] [] xs ≡ Some p
    → records_from default_config (length xs + 1) s xs ≡ p.0 ∷ records_from default_config (length p.2 + 1) p.1 p.2
unfolding records_from
records_from-next s xs p b e =
    let q = next-between s xs p b e in
    let one : length xs + 1 ≡ suc (length xs) = omega arith in
    rw one (ap (records_next (records_from default_config (length xs))) e
    ∙ ap (λ (rows : List (List (List ℕ))). p.0 ∷ rows) (records_from-enough (length xs) (length p.2 + 1) p.1 p.2 q.0 q.1 (omega arith)))

pub records_from-none : (s : State) (xs : List ℕ) → next_record default_config s [] [] xs ≡ None → records_from default_config (length xs + 1) s xs ≡ []
unfolding records_from
records_from-none s xs e = let one : length xs + 1 ≡ suc (length xs) = omega arith in rw one (ap (records_next (records_from default_config (length xs))) e)

abbrev known : Bor (List ℕ) → Option (List ℕ)
known s = Some s.now

left-of : (reader : Source) (z : List ℕ) → source_of known reader ≡ Some z → bytes_left reader ≡ z
unfolding bytes_left
left-of reader z e = ap (λ o. unwrap_or o []) e

abbrev cut_rows : List (List (List ℕ)) → List Row
cut_rows = map (map cut)

pub rows_left-is : (reader : Source) (s : State) (xs : List ℕ) → reader.state ≡ s → bytes_left reader ≡ xs → rows_left reader ≡ map (map cut) (records_from default_config (length xs + 1) s xs)
unfolding rows_left
rows_left-is reader s xs e f = rw (f, e) refl

-- the records that are left begin with the next one
rows_left-next : (reader : Source) (p : Read) → ends_at_end reader.state ≡ false → next_record default_config reader.state [] [] (bytes_left reader) ≡ Some p
    → rows_left reader ≡ map cut p.0 ∷ map (map cut) (records_from default_config (length p.2 + 1) p.1 p.2)
rows_left-next reader p between e = rows_left-is reader reader.state (bytes_left reader) refl refl ∙ ap cut_rows (records_from-next reader.state (bytes_left reader) p between e)

-- a record was read
takes_row : (old new : Source) (row : CsvRow) → IsBetweenRows old → ReadRecord known old new true (fields_of row) → took_first new ≡ true → is_flexible new ≡ is_flexible old → AllText (fields_of row) → TakesRow old new (cells row)
unfolding Reached
takes_row old new row is r first same text =
    let m = rows-more known old new (fields_of row) default_config old.state (bytes_left old) (bytes_left old) [] is.config is.source (refl, refl) r in
    let p : Read = m.2.0 in
    let next : next_record default_config old.state [] [] (bytes_left old) ≡ Some p = m.2.1 in
    let q = next-between old.state (bytes_left old) p is.between next in
    let left : bytes_left new ≡ p.2 = left-of new m.0 m.1 ∙ sym m.2.3.1 in
    let state : new.state ≡ p.1 = sym m.2.3.0 in
    record {
      goes_on = record {
        config = r.2 ∙ is.config;
        trim = r.3 ∙ is.trim;
        flexible = same ∙ is.flexible;
        ready = inl first;
        source = m.1 ∙ ap Some (sym (left-of new m.0 m.1));
        between = ap ends_at_end state ∙ q.0;
      };
      first = rows_left-next old p is.between next ∙ ap (λ (f : List (List ℕ)). map cut f ∷ cut_rows (records_from default_config (length p.2 + 1) p.1 p.2)) (sym m.2.2)
          ∙ ap (λ (rows : List Row). cells row ∷ rows) (sym (rows_left-is new p.1 p.2 state left));
      shorter = rw left q.1;
      text = all-cut (fields_of row) text;
    }

-- no record was left
no_row : (old new : Source) (fields : List (List ℕ)) → IsBetweenRows old → ReadRecord known old new false fields → rows_left old ≡ []
no_row old new fields is r =
    rows_left-is old old.state (bytes_left old) refl refl ∙ ap cut_rows (records_from-none old.state (bytes_left old) (rows-end known old new fields default_config (bytes_left old) is.config is.source r))

pub reads_row : (old new : Source) (row : CsvRow) (found : Bool) → IsBetweenRows old → ReadRecord known old new found (fields_of row) → took_first new ≡ true → is_flexible new ≡ is_flexible old → AllText (fields_of row) → ReadsRow (Ok found) old new row
reads_row old new row true is r first same text = takes_row old new row is r first same text
reads_row old new row false is r first same text = no_row old new (fields_of row) is r

-- a record that is no text is the next
first-read : (o : Option Read) (fields : List (List ℕ)) (s : State) (z : List ℕ) → NextIs o true fields s z → (p : Read) × (o ≡ Some p) × (fields ≡ p.0)
first-read None fields s z n = cc n
first-read (Some p) fields s z n = (p, refl, n.1)

next-read : (s s2 : State) (xs : List ℕ) (after : Option (List ℕ)) (fields : List (List ℕ)) → ReadsNext default_config s (Some xs) after true fields s2
    → (p : Read) × (next_record default_config s [] [] xs ≡ Some p) × (fields ≡ p.0)
next-read s s2 xs None fields r = absurd r
next-read s s2 xs (Some z) fields r = first-read (next_record default_config s [] [] xs) fields s2 z r

no_text-next : (reader : Source) (p : Read) (fields : List (List ℕ)) → IsBetweenRows reader → next_record default_config reader.state [] [] (bytes_left reader) ≡ Some p → fields ≡ p.0 → ¬ (AllText fields) → MeetsNoText (rows_left reader)
no_text-next reader p fields is e f none =
    let rest : List Row = map (map cut) (records_from default_config (length p.2 + 1) p.1 p.2) in
    (map cut fields, rest, rows_left-next reader p is.between e ∙ ap (λ (g : List (List ℕ)). map cut g ∷ rest) (sym f), not_all-cut fields none)

meets_no_text : (old new : Source) (fields : List (List ℕ)) → IsBetweenRows old → TookRecord known old new fields → ¬ (AllText fields) → MeetsNoText (rows_left old)
meets_no_text old new fields is r none =
    let n = next-read old.state new.state (bytes_left old) (pending_of (known new.rdr) new) fields (rw (is.config, is.source) at r) in
    no_text-next old n.0 fields is n.1 n.2 none

-- records of any length are taken, so an error is one of text or of memory
pub may_fail : (old new : Source) (k : ErrorKind) → IsBetweenRows old → ExplainsRead known old new true k → MayFail k
may_fail old new (kind.Utf8 pos err) is e = tt
may_fail old new (kind.Io x) is e = tt
may_fail old new (kind.UnequalLengths pos expected len) is e = absurd (let s : true ≡ false = sym is.flexible ∙ e.0 in cc)
may_fail old new kind.OutOfMemory is e = tt
may_fail old new (kind.Serialize text) is e = absurd e
may_fail old new (kind.Deserialize pos err) is e = absurd e

pub fails_at : (old new : Source) (k : ErrorKind) → IsBetweenRows old → ExplainsRead known old new true k → FailsAt (fault_of k) (rows_left old)
fails_at old new (kind.Utf8 pos err) is e = (refl, meets_no_text old new e.1 is e.2 e.3)
fails_at old new (kind.Io x) is e = tt
fails_at old new (kind.UnequalLengths pos expected len) is e = tt
fails_at old new kind.OutOfMemory is e = tt
fails_at old new (kind.Serialize text) is e = tt
fails_at old new (kind.Deserialize pos err) is e = tt

-- no mark is left for the reader to drop
pub strip_bom-without_marks : (bytes : List ℕ) → strip_bom (without_marks bytes) ≡ without_marks bytes
unfolding strip_bom without_marks
strip_bom-without_marks [] = refl
strip_bom-without_marks (a ∷ []) = refl
strip_bom-without_marks (a ∷ b ∷ []) = refl
strip_bom-without_marks (a ∷ b ∷ c ∷ rest) = by (is_bom a b c) refl (strip_bom-without_marks rest)
  where
    by : (m : Bool) → is_bom a b c ≡ m → strip_bom (without_marks rest) ≡ without_marks rest
        → strip_bom (cond (is_bom a b c) (without_marks rest) (a ∷ b ∷ c ∷ rest)) ≡ cond (is_bom a b c) (without_marks rest) (a ∷ b ∷ c ∷ rest)
    by true e more = rw e more
    by false e more = rw e (rw e refl)

-- the marks at the front, one at a time
pub without_marks-step : (bytes : List ℕ) → without_marks bytes ≡ cond (has_mark bytes) (without_marks (drop 3 bytes)) bytes
unfolding without_marks
without_marks-step [] = refl
without_marks-step (a ∷ []) = refl
without_marks-step (a ∷ b ∷ []) = refl
without_marks-step (a ∷ b ∷ c ∷ rest) = let long : nat_le 3 (length (a ∷ b ∷ c ∷ rest)) ≡ true = grind (arith, nat_tests) in rw long refl

pub without_marks-more : (bytes : List ℕ) → has_mark bytes ≡ true → without_marks (drop 3 bytes) ≡ without_marks bytes
without_marks-more bytes e = sym (without_marks-step bytes ∙ ap (λ b. cond b (without_marks (drop 3 bytes)) bytes) e)

pub without_marks-end : (bytes : List ℕ) → has_mark bytes ≡ false → bytes ≡ without_marks bytes
without_marks-end bytes e = sym (without_marks-step bytes ∙ ap (λ b. cond b (without_marks (drop 3 bytes)) bytes) e)

length-without_marks : (bytes : List ℕ) → length (without_marks bytes) ≤ length bytes
unfolding without_marks
length-without_marks [] = omega arith
length-without_marks (a ∷ []) = omega arith
length-without_marks (a ∷ b ∷ []) = omega arith
length-without_marks (a ∷ b ∷ c ∷ rest) = by (is_bom a b c) (length-without_marks rest)
  where
    by : (m : Bool) → length (without_marks rest) ≤ length rest → length (cond m (without_marks rest) (a ∷ b ∷ c ∷ rest)) ≤ length (a ∷ b ∷ c ∷ rest)
    by true h = omega arith
    by false h = omega arith

-- a reader at the start of a text
pub starts : (reader : Source) (bytes : List ℕ) → reader.config ≡ default_config → reader.trim ≡ trim.None → is_flexible reader ≡ true → Ready reader → source_of known reader ≡ Some (strip_bom (without_marks bytes)) → reader.state ≡ st.StartRecord
    → IsBetweenRows reader × (rows_left reader ≡ rows_of bytes) × (length (bytes_left reader) ≤ length bytes)
starts reader bytes config trim flexible ready source state =
    let left : bytes_left reader ≡ without_marks bytes = left-of reader (strip_bom (without_marks bytes)) source ∙ strip_bom-without_marks bytes in (
      record {
        config = config;
        trim = trim;
        flexible = flexible;
        ready = ready;
        source = source ∙ ap Some (sym (left-of reader (strip_bom (without_marks bytes)) source));
        between = ap ends_at_end state;
      },
      rows_left-is reader st.StartRecord (without_marks bytes) state left,
      omega (arith, ap length left, length-without_marks bytes),
    )
