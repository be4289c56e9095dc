-- How a read of a record changes what is left.
use Rattle.std.proofs.Common.{[], ◌∷◌, ℕ, ◌+◌, ◌≡◌, ◌∙◌, ap, sym, refl, List, Bool, length, true, false, inl, Option, Some, unwrap_or, Ok}
use Rattle.csv.specs.Machine.{Read, ends_at_end, next_record}
use Rattle.csv.specs.Reading.{ReadRecord, Reached, default_config, is_flexible, records, records_from, source_of, strip_bom, took_first}
use Rattle.csv.specs.Records.{Row as CsvRow, fields_of}
use Rattle.csv.specs.declared.parser.State.{State}
use Rattle.csv.specs.declared.parser.State.TheVariants as st
use Rattle.csv.proofs.ReadFacts.{rows-end, rows-more}
use Rattle.mfcsv.specs.Rows.{without_marks}
use Rattle.mfcsv.specs.Unread.{IsBetweenRows, Source, bytes_left}
use Rattle.mfcsv.proofs.UnreadLemmas.{next-between, records_from-next, records_from-none, strip_bom-without_marks}
use Rattle.parts.specs.Raw.{ReadsRaw, TakesRaw, raw_left}
use denote.Ref.{Bor}

abbrev known : Bor (List ℕ) → Option (List ℕ)
known s = Some s.now

left-of : (reader : Source) (z : List ℕ) → source_of known reader ≡ Some z → bytes_left reader ≡ z
unfolding bytes_left
left-of reader z e = ap (λ o. unwrap_or o []) e

raw_left-is : (reader : Source) (s : State) (xs : List ℕ) → reader.state ≡ s → bytes_left reader ≡ xs → raw_left reader ≡ records_from default_config (length xs + 1) s xs
unfolding raw_left
raw_left-is reader s xs e f = rw (f, e) refl

-- a record was read
takes_raw : (old new : Source) (row : CsvRow) → IsBetweenRows old → ReadRecord known old new true (fields_of row) → took_first new ≡ true → is_flexible new ≡ is_flexible old → TakesRaw old new (fields_of row)
unfolding Reached
takes_raw old new row is r first same =
    let m = rows-more known old new (fields_of row) default_config old.state (bytes_left old) (bytes_left old) [] is.config is.source (refl, refl) r in
    let p : Read = m.2.0 in
    let next : next_record default_config old.state [] [] (bytes_left old) ≡ Some p = m.2.1 in
    let q = next-between old.state (bytes_left old) p is.between next in
    let left : bytes_left new ≡ p.2 = left-of new m.0 m.1 ∙ sym m.2.3.1 in
    let state : new.state ≡ p.1 = sym m.2.3.0 in
    record {
      goes_on = record {
        config = r.2 ∙ is.config;
        trim = r.3 ∙ is.trim;
        flexible = same ∙ is.flexible;
        ready = inl first;
        source = m.1 ∙ ap Some (sym (left-of new m.0 m.1));
        between = ap ends_at_end state ∙ q.0;
      };
      first = raw_left-is old old.state (bytes_left old) refl refl ∙ records_from-next old.state (bytes_left old) p is.between next
          ∙ ap (λ (f : List (List ℕ)). f ∷ records_from default_config (length p.2 + 1) p.1 p.2) (sym m.2.2)
          ∙ ap (λ (rows : List (List (List ℕ))). fields_of row ∷ rows) (sym (raw_left-is new p.1 p.2 state left));
      shorter = rw left q.1;
    }

pub reads_raw : (old new : Source) (row : CsvRow) (found : Bool) → IsBetweenRows old → ReadRecord known old new found (fields_of row) → took_first new ≡ true → is_flexible new ≡ is_flexible old → ReadsRaw (Ok found) old new row
reads_raw old new row true is r first same = takes_raw old new row is r first same
reads_raw old new row false is r first same =
    raw_left-is old old.state (bytes_left old) refl refl ∙ records_from-none old.state (bytes_left old) (rows-end known old new (fields_of row) default_config (bytes_left old) is.config is.source r)

-- a reader at the start of a text
pub starts_raw : (reader : Source) (bytes : List ℕ) → source_of known reader ≡ Some (strip_bom (without_marks bytes)) → reader.state ≡ st.StartRecord → raw_left reader ≡ records default_config (without_marks bytes)
starts_raw reader bytes source state =
    raw_left-is reader st.StartRecord (without_marks bytes) state (left-of reader (strip_bom (without_marks bytes)) source ∙ strip_bom-without_marks bytes)
