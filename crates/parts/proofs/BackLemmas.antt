-- The text of a part reads back as the records of the part.
use Rattle.std.proofs.Common.{[], ◌∷◌, ◌++◌, map, flat_map, ℕ, zero, suc, ◌+◌, ◌<◌, ◌≡◌, ◌∙◌, ◌⊎◌, ◌==◌, ap, sym, refl, subst, List, Bool, length, true, false, cond, arith, inl, inr, Option, Some, None}
use Rattle.std.specs.List.{list_any}
use Rattle.csv.specs.Machine.{Read, fields_after, field_after, is_end, next_record, step, ends_at_end}
use Rattle.csv.specs.Reading.{default_config, records, records_from, records_next}
use Rattle.csv.specs.Writing.{default_writer, escaped, field_text, fields_text, is_blank, needs_byte, read_back, row_text}
use Rattle.csv.specs.declared.parser.Action.{Action}
use Rattle.csv.specs.declared.parser.Action.TheVariants as act
use Rattle.csv.specs.declared.parser.State.{State}
use Rattle.csv.specs.declared.parser.State.TheVariants as st
use Rattle.csv.proofs.RoundTrip.{read-write}
use Rattle.mfcsv.specs.Rows.{Row, cut, rows_of, without_marks}
use Rattle.mfcsv.proofs.UnreadLemmas.{next-between}
use Rattle.parts.specs.Part.{blank_fields, blank_row, fields_part, row_part, stays, text_part, whole_part}
use Rattle.parts.specs.Written.{record_text, record_writer}

-- a writer of records of any length writes a record as the default one does
escaped-same : (x : List ℕ) → escaped record_writer x ≡ escaped default_writer x
unfolding escaped
escaped-same [] = refl
escaped-same (b ∷ rest) = ap (λ (t : List ℕ). cond (b == 34) (34 ∷ b ∷ t) (b ∷ t)) (escaped-same rest)

field_text-same : (x : List ℕ) → field_text record_writer x ≡ field_text default_writer x
field_text-same x = ap (λ (t : List ℕ). cond (list_any (needs_byte default_writer) x) (34 ∷ (t ++ (34 ∷ []))) x) (escaped-same x)

fields_text-same : (fields : List (List ℕ)) → fields_text record_writer fields ≡ fields_text default_writer fields
unfolding fields_text
fields_text-same [] = refl
fields_text-same (x ∷ rest) =
    ap (λ (t : List ℕ). 44 ∷ (t ++ fields_text record_writer rest)) (field_text-same x) ∙ ap (λ (t : List ℕ). 44 ∷ (field_text default_writer x ++ t)) (fields_text-same rest)

is_blank-same : (fields : List (List ℕ)) → is_blank record_writer fields ≡ is_blank default_writer fields
unfolding is_blank
is_blank-same [] = refl
is_blank-same (x ∷ []) = ap (λ (t : List ℕ). length t == 0) (field_text-same x)
is_blank-same (x ∷ y ∷ rest) = refl

row_text-same : (fields : List (List ℕ)) → row_text record_writer fields ≡ row_text default_writer fields
unfolding is_blank
row_text-same [] = refl
row_text-same (x ∷ rest) =
    ap (λ (t : List ℕ). (t ++ fields_text record_writer rest) ++ (cond (is_blank record_writer (x ∷ rest)) (34 ∷ 34 ∷ []) [] ++ (10 ∷ []))) (field_text-same x)
    ∙ ap (λ (t : List ℕ). (field_text default_writer x ++ t) ++ (cond (is_blank record_writer (x ∷ rest)) (34 ∷ 34 ∷ []) [] ++ (10 ∷ []))) (fields_text-same rest)
    ∙ ap (λ b. (field_text default_writer x ++ fields_text default_writer rest) ++ (cond b (34 ∷ 34 ∷ []) [] ++ (10 ∷ []))) (is_blank-same (x ∷ rest))

-- so csv reads it back
reads_one : (fields : List (List ℕ)) (tail : List ℕ) → next_record default_config st.StartRecord [] [] (record_text fields ++ tail) ≡ Some (read_back fields, st.StartRecord, tail)
reads_one fields tail = ap (λ (t : List ℕ). next_record default_config st.StartRecord [] [] (t ++ tail)) (row_text-same fields) ∙ read-write fields tail

reads_all : (rows : List (List (List ℕ))) (n : ℕ) → length (flat_map record_text rows) < n → records_from default_config n st.StartRecord (flat_map record_text rows) ≡ map read_back rows
unfolding records_from next_record
reads_all rows zero h = absurd (omega arith)
reads_all [] (suc n) h = refl
reads_all (row ∷ rows) (suc n) h =
    let e = reads_one row (flat_map record_text rows) in
    let q = next-between st.StartRecord (record_text row ++ flat_map record_text rows) (read_back row, st.StartRecord, flat_map record_text rows) refl e in
    ap (records_next (records_from default_config n)) e ∙ ap (λ (t : List (List (List ℕ))). read_back row ∷ t) (reads_all rows n (omega (arith, q.1)))

-- a line end in front is no record
skips : (t : List ℕ) → next_record default_config st.StartRecord [] [] (10 ∷ t) ≡ next_record default_config st.StartRecord [] [] t
unfolding next_record
skips t = refl

line_end-skipped : (n : ℕ) (t : List ℕ) → records_from default_config (suc n) st.StartRecord (10 ∷ t) ≡ records_from default_config (suc n) st.StartRecord t
unfolding records_from
line_end-skipped n t = ap (records_next (records_from default_config n)) (skips t)

reads_behind : (rows : List (List (List ℕ))) → records default_config (10 ∷ flat_map record_text rows) ≡ map read_back rows
reads_behind rows =
    let t : List ℕ = flat_map record_text rows in
    let one : length (10 ∷ t) + 1 ≡ suc (length t + 1) = omega arith in
    ap (λ n. records_from default_config n st.StartRecord (10 ∷ t)) one ∙ line_end-skipped (length t + 1) t ∙ reads_all rows (suc (length t + 1)) (omega arith)

-- and it is no byte order mark
unmarked : (t : List ℕ) → without_marks (10 ∷ t) ≡ 10 ∷ t
unfolding without_marks
unmarked [] = refl
unmarked (b ∷ []) = refl
unmarked (b ∷ c ∷ rest) = refl

-- each record that was read has a field
abbrev AllSome : List (List (List ℕ)) → Type 0
AllSome [] = Unit {0}
AllSome (fields ∷ rows) = (read_back fields ≡ fields) × AllSome rows

some_pushed : (fields : List (List ℕ)) (field : List ℕ) → read_back (fields ++ (field ∷ [])) ≡ fields ++ (field ∷ [])
some_pushed [] field = refl
some_pushed (x ∷ rest) field = refl

ended : (a : Action) (fields : List (List ℕ)) (field : List ℕ) → is_end a ≡ true → fields_after a fields field ≡ fields ++ (field ∷ [])
ended act.EndRecord fields field e = refl
ended act.Skip fields field e = absurd (cc)
ended act.Copy fields field e = absurd (cc)
ended act.EndField fields field e = absurd (cc)

pick : {X : Type 0} (b : Bool) (x p : X) (o : Option X) → cond b (Some x) o ≡ Some p → ((b ≡ true) × (x ≡ p)) ⊎ ((b ≡ false) × (o ≡ Some p))
pick true x p o e = inl (refl, cc)
pick false x p o e = inr (refl, e)

next_some : (s : State) (fields : List (List ℕ)) (field xs : List ℕ) (p : Read) → next_record default_config s fields field xs ≡ Some p → read_back p.0 ≡ p.0
unfolding next_record
next_some s fields field [] p e =
    elim (pick (ends_at_end s) (fields ++ (field ∷ []), st.StartRecord, []) p None e) [
      | inl here ↦ subst (λ (q : Read). read_back q.0 ≡ q.0) here.1 (some_pushed fields field)
      | inr none ↦ absurd (cc none.1)
    ]
next_some s fields field (c ∷ rest) p e =
    elim (pick (is_end (step default_config s c).1) (fields_after (step default_config s c).1 fields field, (step default_config s c).0, rest) p
    (next_record default_config (step default_config s c).0 (fields_after (step default_config s c).1 fields field) (field_after (step default_config s c).1 c field) rest) e) [
      | inl here ↦
          subst (λ (q : Read). read_back q.0 ≡ q.0) here.1
          (subst (λ (f : List (List ℕ)). read_back f ≡ f) (sym (ended (step default_config s c).1 fields field here.0)) (some_pushed fields field))
      | inr more ↦ next_some (step default_config s c).0 (fields_after (step default_config s c).1 fields field) (field_after (step default_config s c).1 c field) rest p more.1
    ]

next_cases : (o : Option Read) → (o ≡ None) ⊎ ((p : Read) × (o ≡ Some p))
next_cases None = inl refl
next_cases (Some p) = inr (p, refl)

all_some : (n : ℕ) (s : State) (xs : List ℕ) → AllSome (records_from default_config n s xs)
unfolding records_from
all_some zero s xs = tt
all_some (suc n) s xs =
    elim (next_cases (next_record default_config s [] [] xs)) [
      | inl none ↦ subst (λ o. AllSome (records_next (records_from default_config n) o)) (sym none) tt
      | inr some ↦
          subst (λ o. AllSome (records_next (records_from default_config n) o)) (sym some.1) (next_some s [] [] xs some.0 some.1, all_some n some.0.1 some.0.2)
    ]

-- the records of the part, cut
kept_row : (k n : ℕ) (fields : List (List ℕ)) → read_back fields ≡ fields → map cut (read_back (fields_part k n fields)) ≡ row_part k n (map cut fields)
unfolding cut
kept_row k n fields some = by (stays k n (map cut fields))
  where
    by : (b : Bool) → map cut (read_back (cond b fields blank_fields)) ≡ cond b (map cut fields) blank_row
    by true = ap (map cut) some
    by false = refl

kept_rows : (k n : ℕ) (raw : List (List (List ℕ))) → AllSome raw → map (map cut) (map read_back (map (fields_part k n) raw)) ≡ map (row_part k n) (map (map cut) raw)
kept_rows k n [] some = refl
kept_rows k n (fields ∷ raw) some =
    ap (λ (row : Row). row ∷ map (map cut) (map read_back (map (fields_part k n) raw))) (kept_row k n fields some.0)
    ∙ ap (λ (rows : List Row). row_part k n (map cut fields) ∷ rows) (kept_rows k n raw some.1)

texts : (k n : ℕ) (raw : List (List (List ℕ))) → flat_map (text_part k n) raw ≡ flat_map record_text (map (fields_part k n) raw)
texts k n [] = refl
texts k n (fields ∷ raw) = ap (λ (t : List ℕ). text_part k n fields ++ t) (texts k n raw)

-- the records of the text of a part are those of the part
pub part_rows : (k n : ℕ) (bytes : List ℕ) → rows_of (whole_part k n bytes) ≡ map (row_part k n) (rows_of bytes)
part_rows k n bytes =
    let raw : List (List (List ℕ)) = records default_config (without_marks bytes) in
    ap (λ (t : List ℕ). map (map cut) (records default_config t)) (unmarked (flat_map (text_part k n) raw))
    ∙ ap (λ (t : List ℕ). map (map cut) (records default_config (10 ∷ t))) (texts k n raw)
    ∙ ap (map (map cut)) (reads_behind (map (fields_part k n) raw))
    ∙ kept_rows k n raw (all_some (length (without_marks bytes) + 1) st.StartRecord (without_marks bytes))
