-- How a book and its part take in the records of a file.
use Rattle.std.proofs.Common.{[], ◌∷◌, ◌++◌, ◌+◌, ◌<◌, ◌≤◌, ◌≡◌, ◌∙◌, ◌||◌, ℕ, ℤ, ap, sym, refl, subst, arith, List, Bool, true, false, cond, eqb, filter, get_or, length, map, inl, inr, Option, Some, None}
use Rattle.std.specs.Prelude.{All, bytes_eq, fold}
use Rattle.std.specs.Option.{option_and_then}
use Rattle.std.specs.List.{list_any, range_with_len}
use Rattle.std.proofs.lemmas.Bool.{cases_Bool}
use Rattle.std.proofs.lemmas.List.{append-nil, get_or_append_left, get_or_push, length_push, map-append}
use Rattle.std.proofs.lemmas.List.Elements.{All-append, All-head, All-tail, All-weaker, filter-append}
use Rattle.std.proofs.lemmas.List.Sums.{passes_at_first}
use Rattle.mfcsv.specs.Views.{RecordView, leg_count}
use Rattle.legs.specs.Legs.{LegView, leg_of, step_at}
use Rattle.legs.specs.Index.{last_end, legs_of}
use Rattle.legs.specs.Book.{Book, is_before, leg_added, name_end, names_with, feature_number, record_legs, with_record, with_records}
use Rattle.legs.specs.Law.{IsThere}
use Rattle.legs.proofs.NameLemmas.{feature_of-known, feature_of-new, known_or_new, names_with-known, names_with-new, text_same}
pub use Rattle.legs.proofs.LawLemmas.{names_longer}
use Rattle.legs.proofs.LawLemmas.{distinct_more, first_there}
use Rattle.legs.proofs.RecordLemmas.{with_record-legs, with_record-names, with_record-rows}
use Rattle.writer.specs.Entries.{NamedLegView}
use Rattle.trajdb.specs.Answers.{feature_name}
use Rattle.together.specs.Joining.{LeastLaw}
use Rattle.together.specs.Parts.{IsPartOf, IsTold, Rises, is_in, late, late_one, own_legs, own_names, own_records}
use Rattle.together.specs.Told.{all_told, bare, told, told_leg}
use Rattle.together.proofs.NamedLemmas.{told_none, told_of}
use Rattle.together.proofs.FeatureLemmas.{own_of}

-- the legs of a record, told
abbrev entry : List ℕ → LegView → List (List ℕ) → NamedLegView
entry name leg values = record { name = name; leg = leg; values = values }

abbrev told_step : RecordView → ℕ → NamedLegView
told_step r k = entry r.mfidref (leg_of 0 0 0 (step_at r k)) r.attributes

abbrev pub told_record : RecordView → List NamedLegView
told_record r = map (told_step r) (range_with_len 0 (leg_count (length r.positions)))

-- names with one more
names_kept : (names : List (List ℕ)) (name : List ℕ) (j : ℕ) → j < length names → get_or (names_with names name) j [] ≡ get_or names j []
names_kept names name j h = elim (known_or_new names name) [
  | inl known ↦ ap (λ (ns : List (List ℕ)). get_or ns j []) (names_with-known names name known)
  | inr new ↦ ap (λ (ns : List (List ℕ)). get_or ns j []) (names_with-new names name new) ∙ get_or_append_left names (name ∷ []) [] j h
]

new_name : (names : List (List ℕ)) (name : List ℕ) → get_or (names_with names name) (feature_number names name) [] ≡ name
new_name names name = elim (known_or_new names name) [
  | inl known ↦ ap (λ (ns : List (List ℕ)). get_or ns (feature_number names name) []) (names_with-known names name known) ∙ sym (text_same name _ (passes_at_first (bytes_eq name) names [] known))
  | inr new ↦ ap (λ (ns : List (List ℕ)). get_or ns (feature_number names name) []) (names_with-new names name new) ∙ get_or_push names name [] (feature_number names name) (sym new)
]

-- what is told of a book with a record more
kept_leg : (b : Book) (r : RecordView) (leg : LegView) → IsThere b leg → told_leg (with_record b r) leg ≡ told_leg b leg
kept_leg b r leg there =
    let name : feature_name (with_record b r) leg.feature ≡ feature_name b leg.feature =
    ap (λ (ns : List (List ℕ)). get_or ns leg.feature []) (with_record-names b r) ∙ names_kept b.names r.mfidref leg.feature there.feature in
    let row : get_or (with_record b r).rows leg.row [] ≡ get_or b.rows leg.row [] =
    ap (λ (rows : List (List (List ℕ))). get_or rows leg.row []) (with_record-rows b r) ∙ get_or_append_left b.rows (r.attributes ∷ []) [] leg.row there.row in
    ap (λ (n : List ℕ). entry n (bare leg) (get_or (with_record b r).rows leg.row [])) name ∙ ap (λ (v : List (List ℕ)). entry (feature_name b leg.feature) (bare leg) v) row

kept_legs : (b : Book) (r : RecordView) (legs : List LegView) → All (IsThere b) legs → told (with_record b r) legs ≡ told b legs
kept_legs b r [] all = refl
kept_legs b r (leg ∷ legs) all =
    ap (λ (e : NamedLegView). e ∷ told (with_record b r) legs) (kept_leg b r leg (All-head (IsThere b) leg legs all))
    ∙ ap (λ (l : List NamedLegView). told_leg b leg ∷ l) (kept_legs b r legs (All-tail (IsThere b) leg legs all))

new_leg : (b : Book) (r : RecordView) (k : ℕ) → told_leg (with_record b r) (leg_added b r k) ≡ told_step r k
new_leg b r k =
    let name : feature_name (with_record b r) (feature_number b.names r.mfidref) ≡ r.mfidref =
    ap (λ (ns : List (List ℕ)). get_or ns (feature_number b.names r.mfidref) []) (with_record-names b r) ∙ new_name b.names r.mfidref in
    let row : get_or (with_record b r).rows (length b.rows) [] ≡ r.attributes =
    ap (λ (rows : List (List (List ℕ))). get_or rows (length b.rows) []) (with_record-rows b r) ∙ get_or_push b.rows r.attributes [] (length b.rows) refl in
    ap (λ (n : List ℕ). entry n (leg_of 0 0 0 (step_at r k)) (get_or (with_record b r).rows (length b.rows) [])) name
    ∙ ap (λ (v : List (List ℕ)). entry r.mfidref (leg_of 0 0 0 (step_at r k)) v) row

new_legs : (b : Book) (r : RecordView) (ks : List ℕ) → told (with_record b r) (map (leg_added b r) ks) ≡ map (told_step r) ks
new_legs b r [] = refl
new_legs b r (k ∷ ks) =
    ap (λ (e : NamedLegView). e ∷ told (with_record b r) (map (leg_added b r) ks)) (new_leg b r k) ∙ ap (λ (l : List NamedLegView). told_step r k ∷ l) (new_legs b r ks)

told_with : (b : Book) (r : RecordView) → All (IsThere b) b.legs → all_told (with_record b r) ≡ all_told b ++ told_record r
told_with b r there =
    ap (told (with_record b r)) (with_record-legs b r) ∙ map-append (told_leg (with_record b r)) b.legs (record_legs b r)
    ∙ ap (λ (l : List NamedLegView). l ++ told (with_record b r) (record_legs b r)) (kept_legs b r b.legs there)
    ∙ ap (λ (l : List NamedLegView). all_told b ++ l) (new_legs b r (range_with_len 0 (leg_count (length r.positions))))

-- it stays one of which all is told
told_more : (b : Book) (r : RecordView) → IsTold b → IsTold (with_record b r)
told_more b r is =
    let row : length (with_record b r).rows ≡ length b.rows + 1 = ap length (with_record-rows b r) ∙ length_push b.rows r.attributes in
    let longer : length b.names ≤ length (with_record b r).names = rw (with_record-names b r) (names_longer b.names r.mfidref) in
    record {
      distinct = rw (with_record-names b r) (distinct_more b.names r.mfidref is.distinct);
      there = subst (λ (ls : List LegView). All (IsThere (with_record b r)) ls) (sym (with_record-legs b r)) (All-append (IsThere (with_record b r)) b.legs (record_legs b r)
          (All-weaker (IsThere b) (IsThere (with_record b r)) (λ leg h. record {
            feature = let g = h.feature in omega (arith, g, longer);
            row = let g = h.row in omega (arith, g, row);
          }) b.legs is.there) (first_there b r (leg_count (length r.positions))));
    }

-- the names of the part, with one more
any_own : (f : List ℕ → ℕ) (k : ℕ) (name : List ℕ) (names : List (List ℕ)) → is_in f k name ≡ true → list_any (bytes_eq name) (own_names f k names) ≡ list_any (bytes_eq name) names
any_own f k name [] own = refl
any_own f k name (n ∷ ns) own = by (is_in f k n) (bytes_eq name n) refl refl (any_own f k name ns own)
  where
    by : (a b : Bool) → is_in f k n ≡ a → bytes_eq name n ≡ b → list_any (bytes_eq name) (own_names f k ns) ≡ list_any (bytes_eq name) ns
        → list_any (bytes_eq name) (cond a (n ∷ own_names f k ns) (own_names f k ns)) ≡ (bytes_eq name n || list_any (bytes_eq name) ns)
    by true b p q more = ap (λ c. bytes_eq name n || c) more
    by false true p q more = absurd (let t : false ≡ true = sym p ∙ ap (is_in f k) (sym (text_same name n q)) ∙ own in (cc))
    by false false p q more = more ∙ sym (ap (λ c. c || list_any (bytes_eq name) ns) q)

own_in : (f : List ℕ → ℕ) (k : ℕ) (names : List (List ℕ)) (name : List ℕ) → is_in f k name ≡ true → names_with (own_names f k names) name ≡ own_names f k (names_with names name)
own_in f k names name own = by (list_any (bytes_eq name) names) refl
  where
    by : (b : Bool) → list_any (bytes_eq name) names ≡ b → names_with (own_names f k names) name ≡ own_names f k (names_with names name)
    by true e =
        ap (λ c. cond c (own_names f k names) (own_names f k names ++ name ∷ [])) (any_own f k name names own ∙ e)
        ∙ sym (ap (λ c. own_names f k (cond c names (names ++ name ∷ []))) e)
    by false e =
        ap (λ c. cond c (own_names f k names) (own_names f k names ++ name ∷ [])) (any_own f k name names own ∙ e)
        ∙ sym (ap (λ c. own_names f k (cond c names (names ++ name ∷ []))) e ∙ filter-append (is_in f k) names (name ∷ [])
        ∙ ap (λ c. own_names f k names ++ cond c (name ∷ []) []) own)

own_out : (f : List ℕ → ℕ) (k : ℕ) (names : List (List ℕ)) (name : List ℕ) → is_in f k name ≡ false → own_names f k names ≡ own_names f k (names_with names name)
own_out f k names name other = by (list_any (bytes_eq name) names) refl
  where
    by : (b : Bool) → list_any (bytes_eq name) names ≡ b → own_names f k names ≡ own_names f k (names_with names name)
    by true e = sym (ap (λ c. own_names f k (cond c names (names ++ name ∷ []))) e)
    by false e =
        sym (ap (λ c. own_names f k (cond c names (names ++ name ∷ []))) e ∙ filter-append (is_in f k) names (name ∷ [])
        ∙ ap (λ c. own_names f k names ++ cond c (name ∷ []) []) other ∙ append-nil (own_names f k names))

-- the legs of a record are of its part
own_told : (f : List ℕ → ℕ) (k : ℕ) (r : RecordView) (ks : List ℕ) (b : Bool) → is_in f k r.mfidref ≡ b → own_legs f k (map (told_step r) ks) ≡ cond b (map (told_step r) ks) []
own_told f k r [] true e = refl
own_told f k r [] false e = refl
own_told f k r (j ∷ ks) true e =
    ap (λ c. cond c (told_step r j ∷ own_legs f k (map (told_step r) ks)) (own_legs f k (map (told_step r) ks))) e ∙ ap (λ (l : List NamedLegView). told_step r j ∷ l) (own_told f k r ks true e)
own_told f k r (j ∷ ks) false e =
    ap (λ c. cond c (told_step r j ∷ own_legs f k (map (told_step r) ks)) (own_legs f k (map (told_step r) ks))) e ∙ own_told f k r ks false e

own_with : (f : List ℕ → ℕ) (k : ℕ) (whole : Book) (r : RecordView) (b : Bool) → All (IsThere whole) whole.legs → is_in f k r.mfidref ≡ b → own_legs f k (all_told (with_record whole r)) ≡ own_legs f k (all_told whole) ++ cond b (told_record r) []
own_with f k whole r b there e =
    ap (own_legs f k) (told_with whole r there) ∙ filter-append (λ (x : NamedLegView). is_in f k x.name) (all_told whole) (told_record r)
    ∙ ap (λ (l : List NamedLegView). own_legs f k (all_told whole) ++ l) (own_told f k r (range_with_len 0 (leg_count (length r.positions))) b e)

with_record-head : (b : Book) (r : RecordView) → (with_record b r).head ≡ b.head
unfolding with_record
with_record-head b r = refl

-- a record keeps the part a part: one of the part goes into both, another into the whole
part_in : (f : List ℕ → ℕ) (k : ℕ) (whole part : Book) (r : RecordView) → IsPartOf f k whole part → IsTold whole → IsTold part → is_in f k r.mfidref ≡ true → IsPartOf f k (with_record whole r) (with_record part r)
part_in f k whole part r of is own_is e = record {
  head = with_record-head part r ∙ of.head ∙ sym (with_record-head whole r);
  names = with_record-names part r ∙ ap (λ (ns : List (List ℕ)). names_with ns r.mfidref) of.names ∙ own_in f k whole.names r.mfidref e ∙ ap (own_names f k) (sym (with_record-names whole r));
  legs = told_with part r own_is.there ∙ ap (λ (l : List NamedLegView). l ++ told_record r) of.legs ∙ sym (own_with f k whole r true is.there e);
}

part_out : (f : List ℕ → ℕ) (k : ℕ) (whole part : Book) (r : RecordView) → IsPartOf f k whole part → IsTold whole → is_in f k r.mfidref ≡ false → IsPartOf f k (with_record whole r) part
part_out f k whole part r of is e = record {
  head = of.head ∙ sym (with_record-head whole r);
  names = of.names ∙ own_out f k whole.names r.mfidref e ∙ ap (own_names f k) (sym (with_record-names whole r));
  legs = of.legs ∙ sym (own_with f k whole r false is.there e ∙ append-nil (own_legs f k (all_told whole)));
}

-- all records
pub part_law : (f : List ℕ → ℕ) (k : ℕ) (whole part : Book) (records : List RecordView) → IsPartOf f k whole part → IsTold whole → IsTold part
    → IsPartOf f k (with_records whole records) (with_records part (own_records f k records)) × IsTold (with_records whole records) × IsTold (with_records part (own_records f k records))
part_law f k whole part [] of is own_is = (of, is, own_is)
part_law f k whole part (r ∷ records) of is own_is = elim (cases_Bool (is_in f k r.mfidref)) [
  | inl e ↦
      subst (λ (rs : List RecordView). IsPartOf f k (with_records (with_record whole r) records) (with_records part rs) × IsTold (with_records (with_record whole r) records) × IsTold (with_records part rs))
      (sym (ap (λ c. cond c (r ∷ own_records f k records) (own_records f k records)) e))
      (part_law f k (with_record whole r) (with_record part r) records (part_in f k whole part r of is own_is e) (told_more whole r is) (told_more part r own_is))
  | inr e ↦
      subst (λ (rs : List RecordView). IsPartOf f k (with_records (with_record whole r) records) (with_records part rs) × IsTold (with_records (with_record whole r) records) × IsTold (with_records part rs))
      (sym (ap (λ c. cond c (r ∷ own_records f k records) (own_records f k records)) e))
      (part_law f k (with_record whole r) part records (part_out f k whole part r of is e) (told_more whole r is) own_is)
]

-- when the last leg of a name ends, by what is told
last_told : Option ℤ → List NamedLegView → Option ℤ
last_told end [] = end
last_told end (e ∷ entries) = last_told (Some e.leg.t1) entries

last_of : (b : Book) (n : ℕ) (end : Option ℤ) (legs : List LegView) → fold (λ end leg. cond (eqb leg.feature n) (Some leg.t1) end) end legs ≡ last_told end (told b (legs_of n legs))
unfolding last_told
last_of b n end [] = refl
last_of b n end (leg ∷ legs) = by (eqb leg.feature n) (λ o. last_of b n o legs)
  where
    by : (c : Bool) → ((o : Option ℤ) → fold (λ end leg. cond (eqb leg.feature n) (Some leg.t1) end) o legs ≡ last_told o (told b (legs_of n legs)))
        → fold (λ end leg. cond (eqb leg.feature n) (Some leg.t1) end) (cond c (Some leg.t1) end) legs ≡ last_told end (told b (cond c (leg ∷ legs_of n legs) (legs_of n legs)))
    by true more = more (Some leg.t1)
    by false more = more end

end_told : (b : Book) (name : List ℕ) → IsTold b → name_end b name ≡ last_told None (filter (λ e. bytes_eq name e.name) (all_told b))
unfolding last_told
end_told b name is = elim (known_or_new b.names name) [
  | inl known ↦
      let n = feature_number b.names name in
      let same : name ≡ feature_name b n = text_same name _ (passes_at_first (bytes_eq name) b.names [] known) in
      ap (λ (o : Option ℕ). option_and_then (λ feature. last_end feature b.legs) o) (feature_of-known b.names name known)
      ∙ last_of b n None b.legs ∙ ap (last_told None) (told_of b n is known)
      ∙ ap (λ (m : List ℕ). last_told None (filter (λ e. bytes_eq m e.name) (all_told b))) (sym same)
  | inr new ↦
      ap (λ (o : Option ℕ). option_and_then (λ feature. last_end feature b.legs) o) (feature_of-new b.names name (omega arith))
      ∙ sym (ap (last_told None) (told_none b name is new))
]

ends_agree : (f : List ℕ → ℕ) (k : ℕ) (whole part : Book) (name : List ℕ) → IsPartOf f k whole part → IsTold whole → IsTold part → is_in f k name ≡ true → name_end part name ≡ name_end whole name
ends_agree f k whole part name of is own_is e =
    end_told part name own_is ∙ ap (λ (l : List NamedLegView). last_told None (filter (λ x. bytes_eq name x.name) l)) of.legs
    ∙ ap (last_told None) (own_of f k name (all_told whole) e) ∙ sym (end_told whole name is)

-- the records that come too early
own_one : (f : List ℕ → ℕ) (k : ℕ) (r : RecordView) (b c : Bool) → is_in f k r.mfidref ≡ c → own_records f k (cond b (r ∷ []) []) ≡ cond c (cond b (r ∷ []) []) []
own_one f k r true c e = ap (λ x. cond x (r ∷ []) []) e
own_one f k r false true e = refl
own_one f k r false false e = refl

pub late_law : (f : List ℕ → ℕ) (k : ℕ) (whole part : Book) (records : List RecordView) → IsPartOf f k whole part → IsTold whole → IsTold part → late part (own_records f k records) ≡ own_records f k (late whole records)
late_law f k whole part [] of is own_is = refl
late_law f k whole part (r ∷ records) of is own_is =
    let rest : List RecordView = late (with_record whole r) records in
    elim (cases_Bool (is_in f k r.mfidref)) [
      | inl e ↦
          ap (λ c. late part (cond c (r ∷ own_records f k records) (own_records f k records))) e
          ∙ ap (λ end. cond (is_before r.t0 end) (r ∷ []) [] ++ late (with_record part r) (own_records f k records)) (ends_agree f k whole part r.mfidref of is own_is e)
          ∙ ap (λ (l : List RecordView). late_one whole r ++ l)
          (late_law f k (with_record whole r) (with_record part r) records (part_in f k whole part r of is own_is e) (told_more whole r is) (told_more part r own_is))
          ∙ sym (filter-append (λ (x : RecordView). is_in f k x.mfidref) (late_one whole r) rest
          ∙ ap (λ (l : List RecordView). l ++ own_records f k rest) (own_one f k r (is_before r.t0 (name_end whole r.mfidref)) true e))
      | inr e ↦
          ap (λ c. late part (cond c (r ∷ own_records f k records) (own_records f k records))) e
          ∙ late_law f k (with_record whole r) part records (part_out f k whole part r of is e) (told_more whole r is) own_is
          ∙ sym (filter-append (λ (x : RecordView). is_in f k x.mfidref) (late_one whole r) rest
          ∙ ap (λ (l : List RecordView). l ++ own_records f k rest) (own_one f k r (is_before r.t0 (name_end whole r.mfidref)) false e))
    ]

-- numbers that rise
rises_before : (m n : ℕ) (records : List RecordView) → m ≤ n → Rises n records → Rises m records
rises_before m n [] h rises = tt
rises_before m n (r ∷ records) h rises = let first = rises.0 in (omega (arith, first, h), rises.1)

late_rises : (b : Book) (m : ℕ) (records : List RecordView) → Rises m records → Rises m (late b records)
late_rises b m [] rises = tt
late_rises b m (r ∷ records) rises = by (is_before r.t0 (name_end b r.mfidref)) (late_rises (with_record b r) (r.number + 1) records rises.1)
  where
    by : (c : Bool) → Rises (r.number + 1) (late (with_record b r) records) → Rises m (cond c (r ∷ []) [] ++ late (with_record b r) records)
    by true more = (rises.0, more)
    by false more = let first = rises.0 in rises_before m (r.number + 1) (late (with_record b r) records) (omega (arith, first)) more

own_rises : (f : List ℕ → ℕ) (k m : ℕ) (records : List RecordView) → Rises m records → Rises m (own_records f k records)
own_rises f k m [] rises = tt
own_rises f k m (r ∷ records) rises = by (is_in f k r.mfidref) (own_rises f k (r.number + 1) records rises.1)
  where
    by : (c : Bool) → Rises (r.number + 1) (own_records f k records) → Rises m (cond c (r ∷ own_records f k records) (own_records f k records))
    by true more = (rises.0, more)
    by false more = let first = rises.0 in rises_before m (r.number + 1) (own_records f k records) (omega (arith, first)) more

pub least_law : LeastLaw
least_law f k m whole records r q others more rises first own_first =
    let all : Rises m (r ∷ others) = subst (λ (l : List RecordView). Rises m l) first (late_rises whole m records rises) in
    let from : Rises r.number (r ∷ others) = (let e : r.number ≤ r.number = omega arith in e, all.1) in
    let same : own_records f k (r ∷ others) ≡ q ∷ more = ap (own_records f k) (sym first) ∙ own_first in
    let own : Rises r.number (q ∷ more) = subst (λ (l : List RecordView). Rises r.number l) same (own_rises f k r.number (r ∷ others) from) in
    own.0
