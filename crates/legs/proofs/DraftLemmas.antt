-- Drafts of a book.
use Rattle.std.proofs.Common.{ℕ, ◌+◌, ◌-◌, ◌^◌, ◌<◌, ◌≤◌, ◌≡◌, ◌∙◌, ap, sym, refl, List, [], ◌∷◌, ◌++◌, length, map, min, Bool, true, false, cond, arith, inl, inr, Option, Some, None, ℤ, pos, get_or, nat_le}
use Rattle.std.specs.Prelude.{bytes_eq, slice_get, filter, not, is_some}
use Rattle.std.specs.Option.{option_map, option_and_then, option_or}
use Rattle.std.proofs.lemmas.Bool.Decides.{nat_tests}
use Rattle.std.proofs.lemmas.Option.{slice_get-get_or}
use Rattle.std.proofs.lemmas.List.{append-nil, length-append, length_push}
use mir.Val.{bool_byte}
use Rattle.std.proofs.lemmas.List.FromFn.{length-map-range_with_len}
use Rattle.mfcsv.specs.Views.{RecordView, IsRecord, leg_count}
use Rattle.std.specs.List.{range_with_len}
use Rattle.legs.specs.Legs.{leg_of, step_at}
use Rattle.legs.specs.Limits.{LimitsView, IsLimits, greatest_limit}
use Rattle.legs.specs.Index.{last_end}
use Rattle.legs.specs.Book.{Book, feature_named, names_with, feature_number, leg_added, record_legs, with_record, is_before, has_join_fault, join_faults_of}
use Rattle.legs.specs.Names.{NamesView, fresh_names, met, names_and, with_latest, new_count, feature_or_next}
use Rattle.legs.specs.Tracks.{TracksView, IsLawful, StandsFor}
use Rattle.legs.specs.Drafts.{latest_of, latest_in, known, IsDraft}
use Rattle.legs.specs.declared.tracks.Track.{Track}
use Rattle.legs.specs.declared.draft.Latest.{Latest}
use Rattle.legs.specs.declared.draft.Draft.{Draft}
use Rattle.legs.specs.declared.joining.JoinCode.{JoinCode}
use Rattle.legs.specs.declared.joining.JoinCode.TheVariants.{F18, F19, F20}
use Rattle.legs.proofs.MetLemmas.{placed, with_latest-names, with_latest-paired, met_more, fresh-set, fresh-push, and_more, and-longer}
use Rattle.legs.proofs.NameLemmas.{cases_bool, feature_of-known, feature_of-new, known_or_new, names_with-known, names_with-new}
use Rattle.legs.proofs.RecordLemmas.{latest_of-with_record, lawful_more, with_record-names, with_record-legs, with_record-rows, known_cases, name_end-latest}

pub known-first : (d : Draft) (name : List ℕ) (i : ℕ) (last : Latest) → Some i ≡ feature_named d.names.names name → slice_get d.names.latest i ≡ Some last → known d name ≡ Some last
unfolding known
known-first d name i last e f =
    ap (λ o. option_or (option_and_then (slice_get d.names.latest) o) (latest_in d.tracks.now name)) (sym e) ∙ ap (λ o. option_or o (latest_in d.tracks.now name)) f

pub known-next : (d : Draft) (name : List ℕ) → None ≡ feature_named d.names.names name → known d name ≡ latest_in d.tracks.now name
unfolding known
known-next d name e = ap (λ o. option_or (option_and_then (slice_get d.names.latest) o) (latest_in d.tracks.now name)) (sym e)

-- the tracks of a book know of its names what the book says
pub latest_in-book : (t : TracksView) (b : Book) → StandsFor t b → (name : List ℕ) → latest_in t name ≡ latest_of b name
latest_in-book t b stands name =
    ap (λ ns. option_and_then (λ feature. option_map (λ track. record { feature = feature; end = track.end }) (slice_get t.tracks feature)) (feature_named ns name)) stands.names
    ∙ elim (known_or_new b.names name) [
      | inl there ↦
          let at = feature_of-known b.names name there in
          let inside : feature_number b.names name < length t.tracks = omega (arith, stands.paired) in
          let track = slice_get-get_or t.tracks (feature_number b.names name) (record { end = pos 0; legs = 0 }) inside in
          let end = (stands.each (feature_number b.names name) (record { end = pos 0; legs = 0 }) there).end in
          ap (option_and_then (λ feature. option_map (λ track. record { feature = feature; end = track.end }) (slice_get t.tracks feature))) at
          ∙ ap (option_map (λ (track : Track). record { feature = feature_number b.names name; end = track.end })) track
          ∙ ap (option_map (λ e. record { feature = feature_number b.names name; end = e })) (sym end)
          ∙ ap (option_and_then (λ feature. option_map (λ e. record { feature = feature; end = e }) (last_end feature b.legs))) (sym at)
      | inr new ↦
          let absent = feature_of-new b.names name (omega arith) in
          ap (option_and_then (λ feature. option_map (λ track. record { feature = feature; end = track.end }) (slice_get t.tracks feature))) absent
          ∙ ap (option_and_then (λ feature. option_map (λ end. record { feature = feature; end = end }) (last_end feature b.legs))) (sym absent)
    ]

-- a draft before the first record
pub draft_start : (d : Draft) (b : Book) → d.names ≡ record { names = []; latest = [] } → d.features ≡ length d.tracks.now.names → d.legs ≡ d.tracks.now.legs → d.rows ≡ d.tracks.now.rows → StandsFor d.tracks.now b → IsDraft d b
draft_start d b none features legs rows stands = record {
  known = λ name. known-next d name (rw none refl) ∙ latest_in-book d.tracks.now b stands name;
  features = features ∙ ap length stands.names;
  legs = legs ∙ stands.legs;
  rows = rows ∙ stands.rows;
  few_names = rw stands.names (omega (arith, stands.lawful.few_names));
  paired = rw none refl;
  fresh = rw none stands.names;
  lawful = stands.lawful;
}

-- a draft with one record more
pub known_more : (d d' : Draft) (name : List ℕ) (last : Latest) → d'.tracks.now ≡ d.tracks.now
    → ((other : List ℕ) → met d'.names other ≡ cond (bytes_eq name other) (Some last) (met d.names other))
    → (other : List ℕ) → known d' other ≡ cond (bytes_eq name other) (Some last) (known d other)
unfolding known
known_more d d' name last same found other =
    ap (λ (t : TracksView). option_or (met d'.names other) (latest_in t other)) same
    ∙ ap (λ o. option_or o (latest_in d.tracks.now other)) (found other)
    ∙ elim (cases_bool (bytes_eq name other)) [ inl e ↦ rw e refl | inr e ↦ rw e refl ]

-- the latest that is known of a name, by its place
known_at : (d : Draft) (name : List ℕ) (i : ℕ) → length d.names.latest ≡ length d.names.names → Some i ≡ feature_named d.names.names name → (was : Latest) × (slice_get d.names.latest i ≡ Some was) × (known d name ≡ Some was)
known_at d name i paired e =
    let p = placed d.names.names name i e in
    let d0 : Latest = record { feature = 0; end = pos 0 } in
    let at = slice_get-get_or d.names.latest i d0 (omega arith) in
    (get_or d.names.latest i d0, at, known-first d name i (get_or d.names.latest i d0) e at)

in_tracks : (t : TracksView) (name : List ℕ) (last : Latest) → latest_in t name ≡ Some last → last.feature < length t.names
in_tracks t name last e =
    elim (known_or_new t.names name) [
      | inl there ↦
          let n : ℕ = feature_number t.names name in
          let found : option_map (λ (track : Track). record { feature = n; end = track.end }) (slice_get t.tracks n) ≡ Some last =
          sym (ap (option_and_then (λ feature. option_map (λ track. record { feature = feature; end = track.end }) (slice_get t.tracks feature))) (feature_of-known t.names name there)) ∙ e in
          let is : last.feature ≡ n = by n (slice_get t.tracks n) found in
          omega arith
      | inr new ↦
          absurd (let none : None ≡ Some last = sym (ap (option_and_then (λ feature. option_map (λ track. record { feature = feature; end = track.end }) (slice_get t.tracks feature))) (feature_of-new t.names name (omega arith))) ∙ e in (cc))
    ]
  where
    by : (n : ℕ) (o : Option Track) → option_map (λ (track : Track). record { feature = n; end = track.end }) o ≡ Some last → last.feature ≡ n
    by n None f = absurd (cc)
    by n (Some track) f = ap (λ (x : Latest). x.feature) (let s : last ≡ record { feature = n; end = track.end } = cc in s)

-- the names of a book with a record of a name that is known
kept_names : (b : Book) (name : List ℕ) (was : Latest) → IsLawful b → latest_of b name ≡ Some was → names_with b.names name ≡ b.names
kept_names b name was lawful e =
    elim (known_cases b name lawful) [
      | inl known ↦ names_with-known b.names name known.1.number
      | inr new ↦ absurd (let s : None ≡ Some was = sym new.latest ∙ e in (cc))
    ]

-- the names that the tracks lack, with a record more
pub fresh_more : (place : Option ℕ) (d : Draft) (b : Book) (name : List ℕ) (o : Option Latest) (feature : ℕ) (end : ℤ) → IsDraft d b → place ≡ feature_named d.names.names name → o ≡ latest_of b name → feature ≡ feature_or_next o d.features
    → names_and d.tracks.now.names (fresh_names (length d.tracks.now.names) (with_latest place d.names name (record { feature = feature; end = end })).names (with_latest place d.names name (record { feature = feature; end = end })).latest)
    ≡ names_with b.names name
fresh_more (Some i) d b name o feature end draft at latest number =
    let was = known_at d name i draft.paired at in
    let known : latest_of b name ≡ Some was.0 = sym (draft.known name) ∙ was.2 in
    let same : was.0.feature ≡ feature = sym (number ∙ ap (λ l. feature_or_next l d.features) (latest ∙ known)) in
    ap (names_and d.tracks.now.names) (fresh-set (length d.tracks.now.names) d.names.names d.names.latest i (record { feature = feature; end = end }) was.0 was.1 same) ∙ draft.fresh ∙ sym (kept_names b name was.0 draft.lawful known)
fresh_more None d b name None feature end draft at latest number =
    let base : ℕ = length d.tracks.now.names in
    let longer = and-longer d.tracks.now.names (fresh_names base d.names.names d.names.latest) in
    let all = ap length draft.fresh in
    let past : nat_le base feature ≡ true = let h : base ≤ feature = omega (arith, number, draft.features, all, longer) in grind (arith, nat_tests) in
    ap (names_and d.tracks.now.names) (fresh-push base d.names.names d.names.latest name (record { feature = feature; end = end }) draft.paired ∙ ap (λ t. fresh_names base d.names.names d.names.latest ++ cond t (name ∷ []) []) past)
    ∙ and_more d.tracks.now.names (fresh_names base d.names.names d.names.latest) name ∙ ap (λ ns. names_with ns name) draft.fresh
fresh_more None d b name (Some was) feature end draft at latest number =
    let base : ℕ = length d.tracks.now.names in
    let found : latest_in d.tracks.now name ≡ Some was = sym (known-next d name at) ∙ draft.known name ∙ sym latest in
    let small = in_tracks d.tracks.now name was found in
    let below : nat_le base feature ≡ false = let h : feature < base = omega (arith, number, small) in grind (arith, nat_tests) in
    ap (names_and d.tracks.now.names)
    (fresh-push base d.names.names d.names.latest name (record { feature = feature; end = end }) draft.paired ∙ ap (λ t. fresh_names base d.names.names d.names.latest ++ cond t (name ∷ []) []) below ∙ append-nil (fresh_names base d.names.names d.names.latest))
    ∙ draft.fresh ∙ sym (kept_names b name was draft.lawful (sym latest))

pub draft_more : (d d' : Draft) (b : Book) (r : RecordView) (last : Latest) → IsRecord r → IsDraft d b → d'.tracks.now ≡ d.tracks.now
    → ((other : List ℕ) → met d'.names other ≡ cond (bytes_eq r.mfidref other) (Some last) (met d.names other)) → length d'.names.latest ≡ length d'.names.names
    → names_and d.tracks.now.names (fresh_names (length d.tracks.now.names) d'.names.names d'.names.latest) ≡ names_with b.names r.mfidref
    → last ≡ record { feature = feature_number b.names r.mfidref; end = r.t1 } → d'.features ≡ length (with_record b r).names → d'.legs ≡ length (with_record b r).legs → d'.rows ≡ d.rows + 1
    → length (with_record b r).legs ≤ greatest_limit → length (with_record b r).names ≤ greatest_limit → IsDraft d' (with_record b r)
draft_more d d' b r last is draft same found paired fresh latest features legs rows few_legs few_names = record {
  known = λ name.
      known_more d d' r.mfidref last same found name ∙ ap (λ o. cond (bytes_eq r.mfidref name) (Some last) o) (draft.known name)
      ∙ ap (λ l. cond (bytes_eq r.mfidref name) (Some l) (latest_of b name)) latest ∙ sym (latest_of-with_record b r is name);
  features = features;
  legs = legs;
  rows = rows ∙ (let e : d.rows + 1 ≡ length (b.rows ++ r.attributes ∷ []) = omega (arith, draft.rows, length_push b.rows r.attributes) in e) ∙ ap length (sym (with_record-rows b r));
  few_names = rw same draft.few_names;
  paired = paired;
  fresh = ap (λ (t : TracksView). names_and t.names (fresh_names (length t.names) d'.names.names d'.names.latest)) same ∙ fresh ∙ sym (with_record-names b r);
  lawful = lawful_more b r is draft.lawful few_legs few_names;
}

-- the faults of a record
pub faults-first : (limits : LimitsView) (b : Book) (r : RecordView) → has_join_fault limits b r F18 ≡ true → (others : List JoinCode) × (join_faults_of limits b r ≡ F18 ∷ others)
unfolding join_faults_of
faults-first limits b r e = (filter (has_join_fault limits b r) (F19 ∷ F20 ∷ []), ap (λ t. cond t (F18 ∷ filter (has_join_fault limits b r) (F19 ∷ F20 ∷ [])) (filter (has_join_fault limits b r) (F19 ∷ F20 ∷ []))) e)

pub faults-second : (limits : LimitsView) (b : Book) (r : RecordView) → has_join_fault limits b r F18 ≡ false → has_join_fault limits b r F19 ≡ true → (others : List JoinCode) × (join_faults_of limits b r ≡ F19 ∷ others)
unfolding join_faults_of
faults-second limits b r e f = (
  filter (has_join_fault limits b r) (F20 ∷ []),
  ap (λ t. cond t (F18 ∷ filter (has_join_fault limits b r) (F19 ∷ F20 ∷ [])) (filter (has_join_fault limits b r) (F19 ∷ F20 ∷ []))) e
      ∙ ap (λ t. cond t (F19 ∷ filter (has_join_fault limits b r) (F20 ∷ [])) (filter (has_join_fault limits b r) (F20 ∷ []))) f,
)

pub faults-third : (limits : LimitsView) (b : Book) (r : RecordView) → has_join_fault limits b r F18 ≡ false → has_join_fault limits b r F19 ≡ false → has_join_fault limits b r F20 ≡ true → (others : List JoinCode) × (join_faults_of limits b r ≡ F20 ∷ others)
unfolding join_faults_of
faults-third limits b r e f g = (
  [],
  ap (λ t. cond t (F18 ∷ filter (has_join_fault limits b r) (F19 ∷ F20 ∷ [])) (filter (has_join_fault limits b r) (F19 ∷ F20 ∷ []))) e
      ∙ ap (λ t. cond t (F19 ∷ filter (has_join_fault limits b r) (F20 ∷ [])) (filter (has_join_fault limits b r) (F20 ∷ []))) f
      ∙ ap (λ t. cond t (F20 ∷ []) []) g,
)

pub faults-none : (limits : LimitsView) (b : Book) (r : RecordView) → has_join_fault limits b r F18 ≡ false → has_join_fault limits b r F19 ≡ false → has_join_fault limits b r F20 ≡ false → join_faults_of limits b r ≡ []
unfolding join_faults_of
faults-none limits b r e f g =
    ap (λ t. cond t (F18 ∷ filter (has_join_fault limits b r) (F19 ∷ F20 ∷ [])) (filter (has_join_fault limits b r) (F19 ∷ F20 ∷ []))) e
    ∙ ap (λ t. cond t (F19 ∷ filter (has_join_fault limits b r) (F20 ∷ [])) (filter (has_join_fault limits b r) (F20 ∷ []))) f
    ∙ ap (λ t. cond t (F20 ∷ []) []) g

-- how many legs and names there are with a record more
pub count_more : (b : Book) (r : RecordView) → length (with_record b r).legs ≡ length b.legs + leg_count (length r.positions)
count_more b r = ap length (with_record-legs b r) ∙ length-append b.legs (record_legs b r) ∙ ap (λ n. length b.legs + n) (length-map-range_with_len (leg_added b r) 0 (leg_count (length r.positions)))

-- the code's counts of legs and of features
pub legs_counted : (d : Draft) (b : Book) (r : RecordView) (all : ℕ) → IsDraft d b → all ≡ min (d.legs + leg_count (length r.positions)) (2 ^ 64 - 1) → all ≡ min (length (with_record b r).legs) (2 ^ 64 - 1)
legs_counted d b r all draft e = e ∙ ap (λ n. min n (2 ^ 64 - 1)) (ap (λ n. n + leg_count (length r.positions)) draft.legs ∙ sym (count_more b r))

-- the tests of the code are the faults
pub first_fault : (limits : LimitsView) (b : Book) (r : RecordView) (latest : Option Latest) (t : Bool) → latest ≡ latest_of b r.mfidref → t ≡ is_before r.t0 (option_map (λ last. last.end) latest) → has_join_fault limits b r F18 ≡ t
first_fault limits b r latest t e f = ap (is_before r.t0) (name_end-latest b r.mfidref ∙ ap (option_map (λ (last : Latest). last.end)) (sym e)) ∙ sym f

pub second_fault : (limits : LimitsView) (b : Book) (r : RecordView) (all : ℕ) → all ≡ min (length (with_record b r).legs) (2 ^ 64 - 1) → limits.legs < all → has_join_fault limits b r F19 ≡ true
second_fault limits b r all e h = grind (arith, nat_tests)

pub no_second_fault : (limits : LimitsView) (b : Book) (r : RecordView) (all : ℕ) → IsLimits limits → all ≡ min (length (with_record b r).legs) (2 ^ 64 - 1) → all ≤ limits.legs → has_join_fault limits b r F19 ≡ false
no_second_fault limits b r all is e h =
    let few = is.few_legs in
    let l : length (with_record b r).legs ≤ limits.legs = omega arith in
    grind (arith, nat_tests)

pub names_more : (b : Book) (r : RecordView) → IsLawful b → length (with_record b r).names ≡ length b.names + new_count (latest_of b r.mfidref)
names_more b r lawful =
    ap length (with_record-names b r) ∙ elim (known_cases b r.mfidref lawful) [
      | inl known ↦ ap length (names_with-known b.names r.mfidref known.1.number) ∙ (let z : length b.names ≡ length b.names + 0 = omega arith in z) ∙ ap (λ l. length b.names + new_count l) (sym known.1.latest)
      | inr new ↦ ap length (names_with-new b.names r.mfidref new.number) ∙ length_push b.names r.mfidref ∙ ap (λ l. length b.names + new_count l) (sym new.latest)
    ]

pub new_count-is : (latest : Option Latest) (t : Bool) (n : ℕ) → is_some latest ≡ not t → n ≡ bool_byte t → n ≡ new_count latest
new_count-is None true n e f = f
new_count-is None false n e f = absurd (cc)
new_count-is (Some last) true n e f = absurd (cc)
new_count-is (Some last) false n e f = f

pub names_counted : (d : Draft) (b : Book) (r : RecordView) (latest : Option Latest) (features : ℕ) → IsDraft d b → latest ≡ latest_of b r.mfidref → features ≡ min (d.features + new_count latest) (2 ^ 64 - 1) → features ≡ min (length (with_record b r).names) (2 ^ 64 - 1)
names_counted d b r latest features draft e f =
    f ∙ ap (λ n. min n (2 ^ 64 - 1)) (ap (λ n. n + new_count latest) draft.features ∙ ap (λ l. length b.names + new_count l) e ∙ sym (names_more b r draft.lawful))

pub third_fault : (limits : LimitsView) (b : Book) (r : RecordView) (features : ℕ) → features ≡ min (length (with_record b r).names) (2 ^ 64 - 1) → limits.features < features → has_join_fault limits b r F20 ≡ true
third_fault limits b r features e h = grind (arith, nat_tests)

pub no_third_fault : (limits : LimitsView) (b : Book) (r : RecordView) (features : ℕ) → IsLimits limits → features ≡ min (length (with_record b r).names) (2 ^ 64 - 1) → features ≤ limits.features → has_join_fault limits b r F20 ≡ false
no_third_fault limits b r features is e h =
    let few = is.few_features in
    let l : length (with_record b r).names ≤ limits.features = omega arith in
    grind (arith, nat_tests)

-- the number of a record's feature, as the code finds it
pub number_found : (d : Draft) (b : Book) (name : List ℕ) (latest : Option Latest) → IsDraft d b → latest ≡ latest_of b name → feature_or_next latest d.features ≡ feature_number b.names name
number_found d b name latest draft e =
    ap (λ l. feature_or_next l d.features) e ∙ elim (known_cases b name draft.lawful) [
      | inl known ↦ ap (λ l. feature_or_next l d.features) known.1.latest
      | inr new ↦ ap (λ l. feature_or_next l d.features) new.latest ∙ draft.features ∙ sym new.number
    ]

-- a draft after the code has added a record
pub added : (d d' : Draft) (b : Book) (r : RecordView) (name : List ℕ) (place : Option ℕ) (o : Option Latest) (feature : ℕ) (end : ℤ) (new count : ℕ) → IsRecord r → IsDraft d b → o ≡ latest_of b r.mfidref
    → d'.tracks.now ≡ d.tracks.now → name ≡ r.mfidref → place ≡ feature_named d.names.names r.mfidref → d'.names ≡ with_latest place d.names name (record { feature = feature; end = end })
    → feature ≡ feature_or_next o d.features → end ≡ r.t1 → new ≡ new_count o → count ≡ leg_count (length r.positions)
    → d'.features ≡ d.features + new → d'.legs ≡ d.legs + count → d'.rows ≡ d.rows + 1
    → d.legs + leg_count (length r.positions) ≤ greatest_limit → d.features + new_count o ≤ greatest_limit → IsDraft d' (with_record b r)
added d d' b r name place o feature end new count is draft latest same named at put number ends news counts features legs rows few_legs few_features =
    let names : length (with_record b r).names ≡ length b.names + new_count o = names_more b r draft.lawful ∙ ap (λ l. length b.names + new_count l) (sym latest) in
    let all = count_more b r in
    let last : Latest = record { feature = feature; end = end } in
    let now : d'.names ≡ with_latest place d.names r.mfidref last = put ∙ ap (λ n. with_latest place d.names n last) named in
    let found : (other : List ℕ) → met d'.names other ≡ cond (bytes_eq r.mfidref other) (Some last) (met d.names other) = λ other. ap (λ (v : NamesView). met v other) now ∙ met_more place d.names r.mfidref last at draft.paired other in
    let paired : length d'.names.latest ≡ length d'.names.names = rw now (with_latest-paired place d.names r.mfidref last draft.paired) in
    let fresh : names_and d.tracks.now.names (fresh_names (length d.tracks.now.names) d'.names.names d'.names.latest) ≡ names_with b.names r.mfidref =
    ap (λ (v : NamesView). names_and d.tracks.now.names (fresh_names (length d.tracks.now.names) v.names v.latest)) now ∙ fresh_more place d b r.mfidref o feature end draft at latest number in
    draft_more d d' b r last is draft same found paired fresh
    (ap (λ f. record { feature = f; end = end }) (number ∙ number_found d b r.mfidref o draft latest) ∙ ap (λ e. record { feature = feature_number b.names r.mfidref; end = e }) ends)
    (omega (arith, features, news, names, draft.features)) (omega (arith, legs, counts, all, draft.legs)) rows
    (omega (arith, all, draft.legs, few_legs)) (omega (arith, names, draft.features, few_features))

-- the names of the file then
pub names_put : (v v' : NamesView) (place : Option ℕ) (name given : List ℕ) (last : Latest) → v' ≡ with_latest place v given last → given ≡ name → place ≡ feature_named v.names name → v'.names ≡ names_with v.names name
names_put v v' place name given last put named at = ap (λ (x : NamesView). x.names) (put ∙ ap (λ n. with_latest place v n last) named) ∙ with_latest-names place v name last at

-- the legs that the code appends for a record
pub appended : (d : Draft) (b : Book) (r : RecordView) (o : Option Latest) (feature : ℕ) → IsDraft d b → o ≡ latest_of b r.mfidref → feature ≡ feature_or_next o d.features
    → map (λ k. leg_of (d.legs + k) feature d.rows (step_at r k)) (range_with_len 0 (leg_count (length r.positions))) ≡ record_legs b r
appended d b r o feature draft latest number =
    ap (λ n. map (λ k. leg_of (n + k) feature d.rows (step_at r k)) (range_with_len 0 (leg_count (length r.positions)))) draft.legs
    ∙ ap (λ f. map (λ k. leg_of (length b.legs + k) f d.rows (step_at r k)) (range_with_len 0 (leg_count (length r.positions)))) (number ∙ number_found d b r.mfidref o draft latest)
    ∙ ap (λ n. map (λ k. leg_of (length b.legs + k) (feature_number b.names r.mfidref) n (step_at r k)) (range_with_len 0 (leg_count (length r.positions)))) draft.rows

pub latest_in-none : (t : TracksView) (name : List ℕ) → None ≡ feature_named t.names name → None ≡ latest_in t name
latest_in-none t name e = ap (option_and_then (λ feature. option_map (λ track. record { feature = feature; end = track.end }) (slice_get t.tracks feature))) e

pub latest_in-some : (t : TracksView) (name : List ℕ) (f : ℕ) (o : Option Track) → Some f ≡ feature_named t.names name → o ≡ slice_get t.tracks f → option_map (λ track. record { feature = f; end = track.end }) o ≡ latest_in t name
latest_in-some t name f o e g =
    ap (option_map (λ (track : Track). record { feature = f; end = track.end })) g
    ∙ ap (option_and_then (λ feature. option_map (λ track. record { feature = feature; end = track.end }) (slice_get t.tracks feature))) e
