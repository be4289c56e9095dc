use Rattle.std.proofs.Common.{◌≡◌, ◌∙◌, ◌∷◌, [], ℕ, Ok, ap, sym, subst, List, All, map}
use Rattle.std.specs.List.{flat_map, range_with_len}
use Rattle.csv.specs.Records.{fields_of}
use Rattle.parts.specs.Part.{text_part}
use Rattle.parts.specs.Raw.{ReadsRaw, TakesRaw, raw_left}
use Rattle.parts.specs.Texts.{with_fields}
use Rattle.parts.proofs.ManyLemmas.{IsClean, begun_clean, lent_back, rows_begun, rows_more, rows_none, taken_clean, then_is, with_rows}
use Rattle.parts.proofs.cutting.whole_parts.Goals as goal

pub rows-init : goal.rows-init
rows-init c =
    let n = c.args.n in
    let reader = c.read_rows-reader.result in
    let ks = range_with_len c.args.first c.args.count in
    record {
      between = c.read_rows-reader.ensures.between;
      clean = subst (All IsClean) (sym c.in_ok-texts.ensures) (begun_clean ks);
      whole = ap (map (with_rows n (raw_left reader))) c.in_ok-texts.ensures ∙ rows_begun n (raw_left reader) ks
          ∙ ap (λ (rows : List (List (List ℕ))). map (λ k. 10 ∷ flat_map (text_part k n) rows) ks) c.read_rows-reader.ensures.rows;
    }

pub returns-in-Ok-false : goal.returns-in-Ok-false
returns-in-Ok-false c =
    let n = c.args.n in
    let e : raw_left c.rows.reader ≡ [] = subst (λ found. ReadsRaw (Ok found) c.rows.reader c.next_row.new.reader c.next_row.new.row) c.in-Ok-false.field-0-test c.in-Ok-false.ensures in
    then_is (λ texts. map (λ text. text.items) texts.items) c.finish.result _ _ c.finish.ensures
    (sym (rows_none n c.rows.texts.items) ∙ ap (λ (rows : List (List (List ℕ))). map (with_rows n rows) c.rows.texts.items) (sym e) ∙ c.rows.invariant.whole)

pub rows-preserved : goal.rows-preserved
rows-preserved c =
    let n = c.args.n in
    let fields = fields_of c.next_row.new.row in
    let was = c.rows.texts.items in
    let h : TakesRaw c.rows.reader c.next_row.new.reader fields = subst (λ found. ReadsRaw (Ok found) c.rows.reader c.next_row.new.reader c.next_row.new.row) c.in-Ok-true.field-0-test c.in-Ok-true.ensures in
    let new : c.take_all.new.texts ≡ map (with_fields n fields) was = c.in_ok-take_all.ensures ∙ ap (map (with_fields n fields)) c.deref_mut.ensures.value in
    let len = c.take_all.auto.texts ∙ c.deref_mut.ensures.len in
    let back = lent_back c.rows.texts.len c.take_all.new.texts was (sym len) ∙ new in
    record {
      between = h.goes_on;
      clean = subst (All IsClean) (sym back) (taken_clean n fields was);
      whole = ap (map (with_rows n (raw_left c.next_row.new.reader))) back ∙ rows_more n fields (raw_left c.next_row.new.reader) was
          ∙ ap (λ (rows : List (List (List ℕ))). map (with_rows n rows) was) (sym h.first) ∙ c.rows.invariant.whole;
    }
