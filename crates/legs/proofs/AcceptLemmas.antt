-- Taking a file into tracks.
use Rattle.std.proofs.Common.{ℕ, ◌+◌, ◌-◌, ◌^◌, ◌<◌, ◌≤◌, ◌≡◌, ◌≢◌, ◌∙◌, ap, sym, refl, List, [], ◌∷◌, ◌++◌, length, map, min, Bool, true, false, cond, eqb, ltb, arith, get_or, inl, inr, Option, Some, None, Ok, append_assoc, subst, ℤ}
use Rattle.std.specs.Prelude.{fold, All, count_by, filter}
use Rattle.std.proofs.lemmas.Bool.Decides.{nat_tests}
use Rattle.std.proofs.lemmas.Grind.{common_steps}
use Rattle.std.proofs.lemmas.List.{append-nil, length-append, length_push, get_or_append_left, get_or-append_right, get_or-set_same, get_or-set_other, length-set}
use Rattle.std.proofs.lemmas.List.Sums.{length-filter}
use Rattle.std.proofs.lemmas.List.Elements.{All-head, All-tail}
use Rattle.std.proofs.lemmas.List.FromFn.{length-map-range_with_len}
use Rattle.mfcsv.specs.declared.File.{File}
use Rattle.mfcsv.specs.Views.{RecordView, IsRecord, leg_count}
use Rattle.legs.specs.Legs.{LegView}
use Rattle.legs.specs.Limits.{LimitsView, IsLimits, greatest_limit}
use Rattle.legs.specs.Index.{feature_count, last_end, is_of}
use Rattle.legs.specs.Book.{Book, leg_added, record_legs, records_legs, with_record, with_records, with_file, has_join_fault, join_faults_of, record_faults, head_faults, file_faults, legs_or_fault, joined}
use Rattle.legs.specs.Tracks.{TracksView, IsLawful, StandsFor}
use Rattle.legs.specs.Counting.{names_after, Extends, AddsNames, counted}
use Rattle.legs.specs.Joining.{IsJoinedBy, JoinedView}
use Rattle.legs.specs.Names.{fresh_names, names_and}
use Rattle.legs.specs.declared.tracks.Track.{Track}
use Rattle.legs.specs.declared.joining.JoinCode.{JoinCode}
use Rattle.legs.specs.declared.joining.JoinCode.TheVariants.{F18, F19, F20}
use Rattle.legs.proofs.NameLemmas.{cases_bool}
use Rattle.legs.proofs.PlaceLemmas.{legs_of-absent}
use Rattle.legs.proofs.RecordLemmas.{lawful_more, with_record-names, with_record-legs, with_record-rows, last_end-push, last_end-absent, leg_count-some}

-- a list that is empty has empty parts
pub first_nil : {X : Type 0} (xs ys : List X) → xs ++ ys ≡ [] → xs ≡ []
first_nil [] ys e = refl
first_nil (x ∷ xs) ys e = absurd (let s : x ∷ (xs ++ ys) ≡ [] = e in (cc))

pub second_nil : {X : Type 0} (xs ys : List X) → xs ++ ys ≡ [] → ys ≡ []
second_nil [] ys e = e
second_nil (x ∷ xs) ys e = absurd (let s : x ∷ (xs ++ ys) ≡ [] = e in (cc))

pub map_nil : {X Y : Type 0} (f : X → Y) (xs : List X) → map f xs ≡ [] → xs ≡ []
map_nil f [] e = refl
map_nil f (x ∷ xs) e = absurd (let s : f x ∷ map f xs ≡ [] = e in (cc))

-- without a fault no test holds
kept_nil : {X : Type 0} (b : Bool) (x : X) (xs : List X) → cond b (x ∷ xs) xs ≡ [] → (b ≡ false) × (xs ≡ [])
kept_nil true x xs e = absurd (let s : x ∷ xs ≡ [] = e in (cc))
kept_nil false x xs e = (refl, e)

pub faultless : (limits : LimitsView) (b : Book) (r : RecordView) → join_faults_of limits b r ≡ [] → (has_join_fault limits b r F19 ≡ false) × (has_join_fault limits b r F20 ≡ false)
unfolding join_faults_of
faultless limits b r e =
    let one = kept_nil (has_join_fault limits b r F18) F18 (filter (has_join_fault limits b r) (F19 ∷ F20 ∷ [])) e in
    let two = kept_nil (has_join_fault limits b r F19) F19 (filter (has_join_fault limits b r) (F20 ∷ [])) one.1 in
    let three = kept_nil (has_join_fault limits b r F20) F20 [] two.1 in
    (two.0, three.0)

pub few_after : (limits : LimitsView) (b : Book) (r : RecordView) → IsLimits limits → join_faults_of limits b r ≡ [] → (length (with_record b r).legs ≤ greatest_limit) × (length (with_record b r).names ≤ greatest_limit)
few_after limits b r is e =
    let free = faultless limits b r e in
    let legs : length (with_record b r).legs ≤ limits.legs = grind (arith, nat_tests) in
    let names : length (with_record b r).names ≤ limits.features = grind (arith, nat_tests) in
    (omega (arith, is.few_legs), omega (arith, is.few_features))

-- what records without a fault make of a book
pub record IsAccepted (b : Book) (records : List RecordView) : Type 0 where
  pub lawful : IsLawful (with_records b records)
  pub names : (with_records b records).names ≡ names_after b.names records
  pub legs : (with_records b records).legs ≡ b.legs ++ records_legs b records
  pub rows : length (with_records b records).rows ≡ length b.rows + length records
  pub enough : length records ≤ length (records_legs b records)

pub one_leg : (b : Book) (r : RecordView) → IsRecord r → 1 ≤ length (record_legs b r)
one_leg b r is = omega (arith, length-map-range_with_len (leg_added b r) 0 (leg_count (length r.positions)), (leg_count-some (length r.positions) is.placed).1)

pub accepted_records : (limits : LimitsView) → IsLimits limits → (records : List RecordView) (b : Book) → All IsRecord records → IsLawful b → record_faults limits b records ≡ [] → IsAccepted b records
accepted_records limits is [] b all lawful none = record {
  lawful = lawful;
  names = refl;
  legs = sym (append-nil b.legs);
  rows = omega arith;
  enough = omega arith;
}
accepted_records limits is (r ∷ records) b all lawful none =
    let here = map_nil (λ code. (code, r.number)) (join_faults_of limits b r) (first_nil (map (λ code. (code, r.number)) (join_faults_of limits b r)) (record_faults limits (with_record b r) records) none) in
    let behind = second_nil (map (λ code. (code, r.number)) (join_faults_of limits b r)) (record_faults limits (with_record b r) records) none in
    let valid = All-head IsRecord r records all in
    let few = few_after limits b r is here in
    let next = lawful_more b r valid lawful few.0 few.1 in
    let others = accepted_records limits is records (with_record b r) (All-tail IsRecord r records all) next behind in
    let rows_more : length (with_record b r).rows ≡ length b.rows + 1 = ap length (with_record-rows b r) ∙ length_push b.rows r.attributes in
    record {
      lawful = others.lawful;
      names = others.names ∙ ap (λ ns. names_after ns records) (with_record-names b r);
      legs = others.legs ∙ ap (λ (ls : List LegView). ls ++ records_legs (with_record b r) records) (with_record-legs b r) ∙ append_assoc b.legs (record_legs b r) (records_legs (with_record b r) records);
      rows = others.rows ∙ (let e : length (with_record b r).rows + length records ≡ length b.rows + length (r ∷ records) = omega (arith, rows_more) in e);
      enough = omega (arith, others.enough, one_leg b r valid, length-append (record_legs b r) (records_legs (with_record b r) records));
    }

pub first_or_ok : (faults : List (JoinCode × ℕ)) (all legs : List LegView) → legs_or_fault faults all ≡ Ok legs → (faults ≡ []) × (all ≡ legs)
first_or_ok [] all legs e = (refl, cc)
first_or_ok (fault ∷ faults) all legs e = absurd (cc)

-- a file that was joined has no fault
pub joined_is : (limits : LimitsView) (b : Book) (file : File) (legs : List LegView) → joined limits b file ≡ Ok legs → (record_faults limits b file.records ≡ []) × (records_legs b file.records ≡ legs)
joined_is limits b file legs e =
    let p = first_or_ok (file_faults limits b file) (records_legs b file.records) legs e in
    (second_nil (head_faults b.head file.head) (record_faults limits b file.records) p.0, p.1)

-- a track as far as legs are counted: a feature without legs may have any end
pub record IsSoFar (track : Track) (legs : List LegView) (feature : ℕ) : Type 0 where
  pub end : (e : ℤ) → last_end feature legs ≡ Some e → e ≡ track.end
  pub count : count_by (is_of feature) legs ≡ track.legs

abbrev pub AreSoFar : List Track → List LegView → Type 0
AreSoFar tracks legs = (feature : ℕ) (d : Track) → feature < length tracks → IsSoFar (get_or tracks feature d) legs feature

-- one leg more of a feature
count_by-push : (f : ℕ) (legs : List LegView) (leg : LegView) → count_by (is_of f) (legs ++ leg ∷ []) ≡ count_by (is_of f) legs + cond (eqb leg.feature f) 1 0
count_by-push f legs leg = grind (arith, common_steps)

count_by-le : (f : ℕ) (legs : List LegView) → count_by (is_of f) legs ≤ length legs
count_by-le f legs = grind (arith, common_steps)

-- a feature that is not there has no leg to count
count_by-absent : (legs : List LegView) (f : ℕ) → feature_count legs ≤ f → count_by (is_of f) legs ≡ 0
count_by-absent legs f h = sym (length-filter (is_of f) legs) ∙ ap length (legs_of-absent legs f h)

-- the code counts a leg
so_far_more : (tracks : List Track) (legs : List LegView) (leg : LegView) → length legs < greatest_limit → AreSoFar tracks legs → AreSoFar (counted tracks leg) (legs ++ leg ∷ [])
so_far_more tracks legs leg few so_far f d h =
    let n = length-set tracks leg.feature (record { end = leg.t1; legs = min ((get_or tracks leg.feature (record { end = leg.t1; legs = 0 })).legs + 1) (2 ^ 64 - 1) }) in
    let inside : f < length tracks = omega arith in
    let old = so_far f d inside in
    elim (cases_bool (eqb leg.feature f)) [
      | inl same ↦
          let at : leg.feature ≡ f = grind (arith, nat_tests) in
          let there : leg.feature < length tracks = omega arith in
          let was = so_far leg.feature (record { end = leg.t1; legs = 0 }) there in
          let new = get_or-set_same tracks leg.feature (record { end = leg.t1; legs = min ((get_or tracks leg.feature (record { end = leg.t1; legs = 0 })).legs + 1) (2 ^ 64 - 1) }) d there in
          let room : (get_or tracks leg.feature (record { end = leg.t1; legs = 0 })).legs + 1 ≤ 2 ^ 64 - 1 = omega (arith, was.count, count_by-le leg.feature legs) in
          let self : eqb leg.feature leg.feature ≡ true = grind (arith, nat_tests) in
          subst (λ g. IsSoFar (get_or (counted tracks leg) g d) (legs ++ leg ∷ []) g) at (rw new (record {
            end = λ e is. let s : Some leg.t1 ≡ Some e = sym (last_end-push leg.feature legs leg ∙ ap (λ b. cond b (Some leg.t1) (last_end leg.feature legs)) self) ∙ is in cc;
            count = count_by-push leg.feature legs leg ∙ ap (λ b. count_by (is_of leg.feature) legs + cond b 1 0) self ∙ (let c : count_by (is_of leg.feature) legs + 1 ≡ min ((get_or tracks leg.feature (record { end = leg.t1; legs = 0 })).legs + 1) (2 ^ 64 - 1) = omega (arith, was.count) in c);
          }))
      | inr other ↦
          let ne : leg.feature ≢ f = grind (arith, nat_tests) in
          let back : f ≢ leg.feature = λ x. ne (sym x) in
          let new = get_or-set_other tracks leg.feature f (record { end = leg.t1; legs = min ((get_or tracks leg.feature (record { end = leg.t1; legs = 0 })).legs + 1) (2 ^ 64 - 1) }) d back in
          rw new (record {
            end = λ e is. old.end e (sym (last_end-push f legs leg ∙ ap (λ b. cond b (Some leg.t1) (last_end f legs)) other) ∙ is);
            count = count_by-push f legs leg ∙ ap (λ b. count_by (is_of f) legs + cond b 1 0) other ∙ (let c : count_by (is_of f) legs + 0 ≡ (get_or tracks f d).legs = omega (arith, old.count) in c);
          })
    ]

pub length-counted : (tracks : List Track) (legs : List LegView) → length (fold counted tracks legs) ≡ length tracks
length-counted tracks [] = refl
length-counted tracks (leg ∷ legs) = length-counted (counted tracks leg) legs ∙ length-set tracks leg.feature (record { end = leg.t1; legs = min ((get_or tracks leg.feature (record { end = leg.t1; legs = 0 })).legs + 1) (2 ^ 64 - 1) })

so_far_all : (tracks : List Track) (before legs : List LegView) → length (before ++ legs) ≤ greatest_limit → AreSoFar tracks before → AreSoFar (fold counted tracks legs) (before ++ legs)
so_far_all tracks before [] few so_far = rw (append-nil before) so_far
so_far_all tracks before (leg ∷ legs) few so_far =
    let n = length-append before (leg ∷ legs) in
    let m = length_push before leg in
    let k = length-append (before ++ leg ∷ []) legs in
    subst (λ (ls : List LegView). AreSoFar (fold counted (counted tracks leg) legs) ls) (append_assoc before (leg ∷ []) legs)
    (so_far_all (counted tracks leg) (before ++ leg ∷ []) legs (omega arith) (so_far_more tracks before leg (omega arith) so_far))

-- the tracks with the new names, before the new legs
so_far_start : (old mid : TracksView) (book : Book) → StandsFor old book → Extends old mid → AreSoFar mid.tracks book.legs
so_far_start old mid book stands more f d h =
    elim (cases_bool (ltb f (length book.names))) [
      | inl there ↦
          let known : f < length book.names = grind (arith, nat_tests) in
          let inside : f < length old.tracks = omega (arith, stands.paired) in
          let at : get_or mid.tracks f d ≡ get_or old.tracks f d = ap (λ (ts : List Track). get_or ts f d) more.more_tracks.1 ∙ get_or_append_left old.tracks more.more_tracks.0 d f inside in
          let track = stands.each f d known in
          rw at (record { end = λ e is. let s : Some e ≡ Some (get_or old.tracks f d).end = sym is ∙ track.end in cc; count = track.count })
      | inr past ↦
          let new : length book.names ≤ f = grind (arith, nat_tests) in
          let n = length-append old.tracks more.more_tracks.0 in
          let l = ap (λ (ts : List Track). length ts) more.more_tracks.1 in
          let at : get_or mid.tracks f d ≡ get_or more.more_tracks.0 (f - length old.tracks) d = ap (λ (ts : List Track). get_or ts f d) more.more_tracks.1 ∙ get_or-append_right old.tracks more.more_tracks.0 (length old.tracks) f d refl (omega (arith, stands.paired)) in
          let zero_legs = more.more_tracks.2 (f - length old.tracks) d (omega (arith, stands.paired)) in
          rw at (record {
            end = λ e is. absurd (let s : Some e ≡ None = sym is ∙ last_end-absent book.legs f (omega (arith, stands.lawful.numbered)) in (cc));
            count = count_by-absent book.legs f (omega (arith, stands.lawful.numbered)) ∙ sym zero_legs;
          })
    ]

last_of : (o : Option ℤ) → o ≢ None → (e : ℤ) × (o ≡ Some e)
last_of None h = absurd (h refl)
last_of (Some e) h = (e, refl)

-- the tracks stand for the book with the file
pub accepted : (limits : LimitsView) (book : Book) (file : File) (legs : List LegView) (old mid new : TracksView) → IsLimits limits → StandsFor old book → joined limits book file ≡ Ok legs → All IsRecord file.records → Extends old mid → mid.names ≡ names_after book.names file.records
    → length mid.tracks ≡ length mid.names → mid.rows ≤ mid.legs → new.names ≡ mid.names → new.tracks ≡ fold counted mid.tracks legs → new.legs ≡ min (mid.legs + length legs) (2 ^ 64 - 1) → new.rows ≡ min (min (mid.rows + length file.records) (2 ^ 64 - 1)) new.legs
    → StandsFor new (with_file book file)
accepted limits book file legs old mid new is stands ok valid extends adds paired few names tracks all rows =
    let found = joined_is limits book file legs ok in
    let got = accepted_records limits is file.records book valid stands.lawful found.0 in
    let legs_now : (with_records book file.records).legs ≡ book.legs ++ legs = got.legs ∙ ap (λ (ls : List LegView). book.legs ++ ls) found.1 in
    let count : length (with_records book file.records).legs ≡ length book.legs + length legs = ap length legs_now ∙ length-append book.legs legs in
    let same : new.names ≡ (with_records book file.records).names = names ∙ adds ∙ sym got.names in
    let long : length new.tracks ≡ length new.names = ap length tracks ∙ length-counted mid.tracks legs ∙ paired ∙ ap length (sym names) in
    let enough : length file.records ≤ length legs = rw found.1 at got.enough in
    let so_far : AreSoFar (fold counted mid.tracks legs) (book.legs ++ legs) = so_far_all mid.tracks book.legs legs (rw legs_now at got.lawful.few_legs) (so_far_start old mid book stands extends) in
    let same_count = ap length same in
    record {
      names = same;
      paired = long ∙ same_count;
      each = λ f d h.
          let known : f < length (fold counted mid.tracks legs) = omega (arith, long, same_count, ap length tracks) in
          let track = so_far f d known in
          let end = last_of (last_end f (with_records book file.records).legs) (got.lawful.led f h) in
          rw (tracks) (record {
            end = end.1 ∙ ap Some (track.end end.0 (ap (last_end f) (sym legs_now) ∙ end.1));
            count = ap (count_by (is_of f)) legs_now ∙ track.count;
          });
      legs = omega (arith, all, count, stands.legs, extends.legs, got.lawful.few_legs);
      rows = omega (arith, all, rows, count, stands.legs, stands.rows, extends.legs, extends.rows, got.lawful.few_legs, got.rows, enough, few);
      lawful = record { numbered = got.lawful.numbered; led = got.lawful.led; rows = got.lawful.rows; few_legs = got.lawful.few_legs; few_names = got.lawful.few_names };
    }

-- the names that a joined file adds
pub names_taken : (limits : LimitsView) (book : Book) (file : File) (by : JoinedView) (old mid : TracksView) → StandsFor old book → IsJoinedBy limits book file by → AddsNames old mid (fresh_names (length old.names) by.names.names by.names.latest)
    → mid.names ≡ names_after book.names file.records
names_taken limits book file by old mid stands is adds = adds.names ∙ ap (λ names. names_and names (fresh_names (length names) by.names.names by.names.latest)) stands.names ∙ is.fresh
