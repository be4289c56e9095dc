-- A book with a record more.
use Rattle.std.proofs.Common.{ℕ, zero, suc, ◌+◌, ◌-◌, ◌<◌, ◌≤◌, ◌≡◌, ◌≢◌, ◌∙◌, ap, sym, refl, List, [], ◌∷◌, ◌++◌, length, map, max, true, false, cond, eqb, arith, inl, inr, ◌⊎◌, Option, Some, None, ℤ, ◌≤ℤ◌, append_assoc}
use Rattle.std.specs.Prelude.{bytes_eq, All, fold, int_lt}
use Rattle.std.specs.Option.{ForSome, option_map, option_and_then}
use Rattle.std.specs.List.{range_with_len}
use Rattle.std.proofs.lemmas.Bool.Decides.{nat_tests}
use Rattle.std.proofs.lemmas.Int.{ints}
use Rattle.std.proofs.lemmas.Grind.{fold-append}
use Rattle.std.proofs.lemmas.List.{append-nil, length-append, length_push}
use Rattle.std.proofs.lemmas.List.FromFn.{map-range_with_len_more, length-map-range_with_len}
use Rattle.std.proofs.lemmas.List.Elements.{All-append, All-weaker, All-push, All-nil}
use Rattle.mfcsv.specs.Views.{RecordView, IsRecord, leg_count}
use Rattle.legs.specs.Legs.{LegView, step_at, cut_moment}
use Rattle.legs.specs.Index.{feature_count, last_end, CanFollow, CanFollowInTurn}
use Rattle.legs.specs.Book.{Book, feature_named, feature_number, names_with, leg_added, record_legs, with_record, is_before, name_end}
use Rattle.legs.specs.Limits.{greatest_limit}
use Rattle.legs.specs.Tracks.{IsLawful}
use Rattle.legs.specs.Drafts.{latest_of}
use Rattle.legs.specs.declared.draft.Latest.{Latest}
use Rattle.legs.proofs.CutLemmas.{cut_moment-first, cut_moment-last}
use Rattle.legs.proofs.PlaceLemmas.{feature_count-push, fold_max-le}
use Rattle.legs.proofs.NameLemmas.{cases_bool, text_same, text_self, number_of-le, names_with-known, names_with-new, feature_of-known, feature_of-new, known_or_new, same_number, feature_of-with_same, feature_of-with_other}

-- one leg more
pub last_end-push : (f : ℕ) (legs : List LegView) (leg : LegView) → last_end f (legs ++ leg ∷ []) ≡ cond (eqb leg.feature f) (Some leg.t1) (last_end f legs)
last_end-push f legs leg = fold-append (λ end l. cond (eqb l.feature f) (Some l.t1) end) None legs (leg ∷ [])

-- the first legs of a record, after the legs of a book
first_legs : Book → RecordView → ℕ → List LegView
first_legs b r k = map (leg_added b r) (range_with_len 0 k)

first_legs-more : (b : Book) (r : RecordView) (k : ℕ) → first_legs b r (k + 1) ≡ first_legs b r k ++ leg_added b r k ∷ []
unfolding first_legs
first_legs-more b r k = map-range_with_len_more (leg_added b r) 0 k k (let e : 0 + k ≡ k = omega arith in e)

first_legs-all : (b : Book) (r : RecordView) → first_legs b r (leg_count (length r.positions)) ≡ record_legs b r
unfolding first_legs
first_legs-all b r = refl

first_legs-none : (b : Book) (r : RecordView) → first_legs b r 0 ≡ []
unfolding first_legs
first_legs-none b r = refl

length-first_legs : (b : Book) (r : RecordView) (k : ℕ) → length (first_legs b r k) ≡ k
unfolding first_legs
length-first_legs b r k = length-map-range_with_len (leg_added b r) 0 k

after_more : (b : Book) (r : RecordView) (k : ℕ) → b.legs ++ first_legs b r (k + 1) ≡ (b.legs ++ first_legs b r k) ++ leg_added b r k ∷ []
after_more b r k = ap (λ (xs : List LegView). b.legs ++ xs) (first_legs-more b r k) ∙ sym (append_assoc b.legs (first_legs b r k) (leg_added b r k ∷ []))

leg_at-t0 : (b : Book) (r : RecordView) (k : ℕ) → (leg_added b r k).t0 ≡ cut_moment r.t0 r.t1 (leg_count (length r.positions)) k
unfolding step_at
leg_at-t0 b r k = refl

leg_at-t1 : (b : Book) (r : RecordView) (k : ℕ) → (leg_added b r k).t1 ≡ cut_moment r.t0 r.t1 (leg_count (length r.positions)) (k + 1)
unfolding step_at
leg_at-t1 b r k = refl

-- where a feature ends after the first k + 1 legs of a record
last_end-first : (b : Book) (r : RecordView) (f k : ℕ) → last_end f (b.legs ++ first_legs b r (k + 1)) ≡ cond (eqb (feature_number b.names r.mfidref) f) (Some (cut_moment r.t0 r.t1 (leg_count (length r.positions)) (k + 1))) (last_end f b.legs)
last_end-first b r f zero =
    let one : zero + 1 ≡ 1 = omega arith in
    ap (last_end f) (after_more b r 0 ∙ ap (λ (xs : List LegView). (b.legs ++ xs) ++ leg_added b r 0 ∷ []) (first_legs-none b r) ∙ ap (λ (xs : List LegView). xs ++ leg_added b r 0 ∷ []) (append-nil b.legs))
    ∙ last_end-push f b.legs (leg_added b r 0)
    ∙ ap (λ x. cond (eqb (feature_number b.names r.mfidref) f) (Some x) (last_end f b.legs)) (leg_at-t1 b r 0)
last_end-first b r f (suc k) =
    let s : suc k ≡ k + 1 = omega arith in
    let before : last_end f (b.legs ++ first_legs b r (suc k)) ≡ cond (eqb (feature_number b.names r.mfidref) f) (Some (cut_moment r.t0 r.t1 (leg_count (length r.positions)) (k + 1))) (last_end f b.legs) = rw s (last_end-first b r f k) in
    ap (last_end f) (after_more b r (suc k)) ∙ last_end-push f (b.legs ++ first_legs b r (suc k)) (leg_added b r (suc k))
    ∙ elim (cases_bool (eqb (feature_number b.names r.mfidref) f)) [
      | inl e ↦ rw e (ap Some (leg_at-t1 b r (suc k)))
      | inr e ↦ rw e (before ∙ rw e refl)
    ]

pub leg_count-some : (n : ℕ) → 1 ≤ n → (m : ℕ) × (leg_count n ≡ m + 1)
leg_count-some n h =
    elim (cases_bool (eqb n 1)) [
      | inl e ↦ (0, rw e refl)
      | inr e ↦ (n - 2, rw e (let ne : n ≢ 1 = grind (arith, nat_tests) in omega arith))
    ]

-- where a feature ends after a record
pub last_end-record : (b : Book) (r : RecordView) (f : ℕ) → IsRecord r → last_end f (b.legs ++ record_legs b r) ≡ cond (eqb (feature_number b.names r.mfidref) f) (Some r.t1) (last_end f b.legs)
last_end-record b r f is =
    let m = leg_count-some (length r.positions) is.placed in
    let some : 0 < leg_count (length r.positions) = omega (arith, m.1) in
    ap (λ (xs : List LegView). last_end f (b.legs ++ xs)) (sym (first_legs-all b r) ∙ ap (first_legs b r) m.1) ∙ last_end-first b r f m.0
    ∙ ap (λ n. cond (eqb (feature_number b.names r.mfidref) f) (Some (cut_moment r.t0 r.t1 (leg_count (length r.positions)) n)) (last_end f b.legs)) (sym m.1)
    ∙ ap (λ x. cond (eqb (feature_number b.names r.mfidref) f) (Some x) (last_end f b.legs)) (cut_moment-last r.t0 r.t1 (leg_count (length r.positions)) is.in_order some)

-- the parts of a book with a record more
pub with_record-names : (b : Book) (r : RecordView) → (with_record b r).names ≡ names_with b.names r.mfidref
unfolding with_record
with_record-names b r = refl

pub with_record-legs : (b : Book) (r : RecordView) → (with_record b r).legs ≡ b.legs ++ record_legs b r
unfolding with_record
with_record-legs b r = refl

pub with_record-rows : (b : Book) (r : RecordView) → (with_record b r).rows ≡ b.rows ++ r.attributes ∷ []
unfolding with_record
with_record-rows b r = refl

pub with_record-head : (b : Book) (r : RecordView) → (with_record b r).head ≡ b.head
unfolding with_record
with_record-head b r = refl

latest_at : (legs : List LegView) (f : ℕ) → Option Latest
latest_at legs f = option_map (λ end. record { feature = f; end = end }) (last_end f legs)

latest_of-at : (b : Book) (m : List ℕ) → latest_of b m ≡ option_and_then (latest_at b.legs) (feature_named b.names m)
unfolding latest_at
latest_of-at b m = refl

-- the latest of a name, after a record
pub latest_of-with_record : (b : Book) (r : RecordView) → IsRecord r → (m : List ℕ) → latest_of (with_record b r) m ≡ cond (bytes_eq r.mfidref m) (Some (record { feature = feature_number b.names r.mfidref; end = r.t1 })) (latest_of b m)
unfolding latest_at
latest_of-with_record b r is m =
    let n : List ℕ = r.mfidref in
    let parts : latest_of (with_record b r) m ≡ option_and_then (latest_at (b.legs ++ record_legs b r)) (feature_named (names_with b.names r.mfidref) m) =
    latest_of-at (with_record b r) m ∙ ap (λ (ls : List LegView). option_and_then (latest_at ls) (feature_named (with_record b r).names m)) (with_record-legs b r)
    ∙ ap (λ ns. option_and_then (latest_at (b.legs ++ record_legs b r)) (feature_named ns m)) (with_record-names b r) in
    parts ∙ elim (cases_bool (bytes_eq r.mfidref m)) [
      | inl e ↦
          let same : m ≡ r.mfidref = sym (text_same r.mfidref m e) in
          let feature : feature_named (names_with b.names r.mfidref) m ≡ Some (feature_number b.names r.mfidref) = ap (feature_named (names_with b.names r.mfidref)) same ∙ feature_of-with_same b.names r.mfidref in
          let self : eqb (feature_number b.names r.mfidref) (feature_number b.names r.mfidref) ≡ true = grind (arith, nat_tests) in
          rw e (ap (option_and_then (latest_at (b.legs ++ record_legs b r))) feature
          ∙ ap (option_map (λ end. record { feature = feature_number b.names r.mfidref; end = end })) (last_end-record b r (feature_number b.names r.mfidref) is ∙ ap (λ t. cond t (Some r.t1) (last_end (feature_number b.names r.mfidref) b.legs)) self))
      | inr e ↦
          rw e (ap (option_and_then (latest_at (b.legs ++ record_legs b r))) (feature_of-with_other b.names r.mfidref m e) ∙ elim (known_or_new b.names m) [
            | inl there ↦
                let known = feature_of-known b.names m there in
                let other : eqb (feature_number b.names r.mfidref) (feature_number b.names m) ≡ false = elim (cases_bool (eqb (feature_number b.names r.mfidref) (feature_number b.names m))) [
                  | inl t ↦ absurd (
                      let at : feature_number b.names m ≡ feature_number b.names r.mfidref = grind (arith, nat_tests) in
                      let again : bytes_eq r.mfidref m ≡ true = rw (same_number b.names m r.mfidref there at) (text_self r.mfidref) in
                      (cc)
                      )
                  | inr t ↦ t
                ] in
                ap (option_and_then (latest_at (b.legs ++ record_legs b r))) known
                ∙ ap (option_map (λ end. record { feature = feature_number b.names m; end = end })) (last_end-record b r (feature_number b.names m) is ∙ ap (λ t. cond t (Some r.t1) (last_end (feature_number b.names m) b.legs)) other)
                ∙ ap (option_and_then (latest_at b.legs)) (sym known)
            | inr new ↦
                let absent = feature_of-new b.names m (omega arith) in
                ap (option_and_then (latest_at (b.legs ++ record_legs b r))) absent ∙ ap (option_and_then (latest_at b.legs)) (sym absent)
          ])
    ]

-- features after the first k + 1 legs of a record
feature_count-first : (b : Book) (r : RecordView) (k : ℕ) → feature_count (b.legs ++ first_legs b r (k + 1)) ≡ max (feature_count b.legs) (feature_number b.names r.mfidref + 1)
feature_count-first b r zero =
    ap feature_count (after_more b r 0 ∙ ap (λ (xs : List LegView). (b.legs ++ xs) ++ leg_added b r 0 ∷ []) (first_legs-none b r) ∙ ap (λ (xs : List LegView). xs ++ leg_added b r 0 ∷ []) (append-nil b.legs))
    ∙ feature_count-push b.legs (leg_added b r 0)
feature_count-first b r (suc k) =
    let s : suc k ≡ k + 1 = omega arith in
    let before : feature_count (b.legs ++ first_legs b r (suc k)) ≡ max (feature_count b.legs) (feature_number b.names r.mfidref + 1) = rw s (feature_count-first b r k) in
    ap feature_count (after_more b r (suc k)) ∙ feature_count-push (b.legs ++ first_legs b r (suc k)) (leg_added b r (suc k)) ∙ (let m : max (feature_count (b.legs ++ first_legs b r (suc k))) (feature_number b.names r.mfidref + 1) ≡ max (feature_count b.legs) (feature_number b.names r.mfidref + 1) = omega (arith, before) in m)

feature_count-record : (b : Book) (r : RecordView) → IsRecord r → feature_count (b.legs ++ record_legs b r) ≡ max (feature_count b.legs) (feature_number b.names r.mfidref + 1)
feature_count-record b r is =
    let m = leg_count-some (length r.positions) is.placed in
    ap (λ (xs : List LegView). feature_count (b.legs ++ xs)) (sym (first_legs-all b r) ∙ ap (first_legs b r) m.1) ∙ feature_count-first b r m.0

-- a lawful book stays lawful, unless a limit is passed
first_legs-rows : (b : Book) (r : RecordView) (k : ℕ) → All (λ leg. leg.row < length (b.rows ++ r.attributes ∷ [])) (first_legs b r k)
first_legs-rows b r zero = rw (first_legs-none b r) (All-nil (λ (leg : LegView). leg.row < length (b.rows ++ r.attributes ∷ [])))
first_legs-rows b r (suc k) =
    let s : suc k ≡ k + 1 = omega arith in
    rw (s, first_legs-more b r k) (All-push (λ (leg : LegView). leg.row < length (b.rows ++ r.attributes ∷ [])) (first_legs b r k) (leg_added b r k) (first_legs-rows b r k) (omega (arith, length_push b.rows r.attributes)))

led_more : (b : Book) (r : RecordView) (f : ℕ) → (f < length b.names → last_end f b.legs ≢ None) → {o : Option ℤ} → o ≡ cond (eqb (feature_number b.names r.mfidref) f) (Some r.t1) (last_end f b.legs) → f < length (names_with b.names r.mfidref) → o ≢ None
led_more b r f here at h =
    elim (cases_bool (eqb (feature_number b.names r.mfidref) f)) [
      | inl e ↦ λ none. let s : Some r.t1 ≡ None = sym (rw e at at) ∙ none in (cc)
      | inr e ↦ λ none.
          let ne : feature_number b.names r.mfidref ≢ f = grind (arith, nat_tests) in
          let old : f < length b.names = elim (known_or_new b.names r.mfidref) [
            | inl known ↦ rw (names_with-known b.names r.mfidref known) at h
            | inr new ↦ let l : f < length (b.names ++ r.mfidref ∷ []) = rw (names_with-new b.names r.mfidref new) at h in omega (arith, length_push b.names r.mfidref)
          ] in
          here old (sym (rw e at at) ∙ none)
    ]

pub lawful_more : (b : Book) (r : RecordView) → IsRecord r → IsLawful b → length (with_record b r).legs ≤ greatest_limit → length (with_record b r).names ≤ greatest_limit → IsLawful (with_record b r)
lawful_more b r is lawful legs names = record {
  numbered = ap feature_count (with_record-legs b r) ∙ feature_count-record b r is ∙ elim (known_or_new b.names r.mfidref) [
    | inl known ↦
        let e = names_with-known b.names r.mfidref known in
        let m : max (feature_count b.legs) (feature_number b.names r.mfidref + 1) ≡ length b.names = omega (arith, lawful.numbered) in
        m ∙ ap length (sym e) ∙ ap length (sym (with_record-names b r))
    | inr new ↦
        let e = names_with-new b.names r.mfidref new in
        let m : max (feature_count b.legs) (feature_number b.names r.mfidref + 1) ≡ length (b.names ++ r.mfidref ∷ []) = omega (arith, lawful.numbered, length_push b.names r.mfidref) in
        m ∙ ap length (sym e) ∙ ap length (sym (with_record-names b r))
  ];
  led = λ f h.
      let at : last_end f (with_record b r).legs ≡ cond (eqb (feature_number b.names r.mfidref) f) (Some r.t1) (last_end f b.legs) = ap (last_end f) (with_record-legs b r) ∙ last_end-record b r f is in
      led_more b r f (lawful.led f) at (rw (with_record-names b r) at h);
  rows = rw (with_record-legs b r, with_record-rows b r)
      (All-append (λ (leg : LegView). leg.row < length (b.rows ++ r.attributes ∷ [])) b.legs (record_legs b r)
      (All-weaker (λ (leg : LegView). leg.row < length b.rows) (λ (leg : LegView). leg.row < length (b.rows ++ r.attributes ∷ [])) (λ leg h. omega (arith, length_push b.rows r.attributes)) b.legs lawful.rows)
      (rw (← first_legs-all b r) (first_legs-rows b r (leg_count (length r.positions)))));
  few_legs = legs;
  few_names = names;
}

-- legs that may be added one after another
follow_push : (xs ys : List LegView) (z : LegView) → CanFollowInTurn xs ys → CanFollow (xs ++ ys) z → CanFollowInTurn xs (ys ++ z ∷ [])
follow_push xs [] z h k = (rw (append-nil xs) at k, tt)
follow_push xs (y ∷ ys) z h k = (h.0, follow_push (xs ++ y ∷ []) ys z h.1 (rw (append_assoc xs (y ∷ []) ys) k))

pub follow_append : (xs ys zs : List LegView) → CanFollowInTurn xs ys → CanFollowInTurn (xs ++ ys) zs → CanFollowInTurn xs (ys ++ zs)
follow_append xs [] zs h k = rw (append-nil xs) at k
follow_append xs (y ∷ ys) zs h k = (h.0, follow_append (xs ++ y ∷ []) ys zs h.1 (rw (append_assoc xs (y ∷ []) ys) k))

not_before : (o : Option ℤ) (t : ℤ) → is_before t o ≡ false → ForSome o (λ end. end ≤ℤ t)
not_before None t e = λ x q. absurd (cc)
not_before (Some end) t e = λ x q.
    let s : end ≡ x = cc in
    let l : end ≤ℤ t = grind (arith, ints) in
    rw (← s) l

not_lt_self : (z : ℤ) → int_lt z z ≡ false
not_lt_self z = grind (arith, ints)

-- a feature that is not there has no end
fold_end-none : (legs : List LegView) (n f : ℕ) (o : Option ℤ) → fold (λ count leg. max count (leg.feature + 1)) n legs ≤ f → fold (λ end l. cond (eqb l.feature f) (Some l.t1) end) o legs ≡ o
fold_end-none [] n f o h = refl
fold_end-none (leg ∷ legs) n f o h =
    let greatest_limit = fold_max-le legs (max n (leg.feature + 1)) (max n (leg.feature + 1)) (omega arith) in
    let other : eqb leg.feature f ≡ false = grind (arith, nat_tests) in
    ap (λ b. fold (λ end l. cond (eqb l.feature f) (Some l.t1) end) (cond b (Some leg.t1) o) legs) other ∙ fold_end-none legs (max n (leg.feature + 1)) f o h

pub last_end-absent : (legs : List LegView) (f : ℕ) → feature_count legs ≤ f → last_end f legs ≡ None
last_end-absent legs f h = fold_end-none legs 0 f None h

-- leg k of a record may follow the ones before it
can_follow : (b : Book) (r : RecordView) (k : ℕ) → IsRecord r → IsLawful b → is_before r.t0 (name_end b r.mfidref) ≡ false → CanFollow (b.legs ++ first_legs b r k) (leg_added b r k)
can_follow b r zero is lawful free = record {
  ordinal = omega (arith, length-append b.legs (first_legs b r 0), length-first_legs b r 0);
  feature = rw (first_legs-none b r, append-nil b.legs) (omega (arith, number_of-le b.names r.mfidref, lawful.numbered));
  time = rw (first_legs-none b r, append-nil b.legs, leg_at-t0 b r 0, cut_moment-first r.t0 r.t1 (leg_count (length r.positions)) is.in_order)
      (elim (known_or_new b.names r.mfidref) [
        | inl known ↦ not_before (last_end (feature_number b.names r.mfidref) b.legs) r.t0 (rw (feature_of-known b.names r.mfidref known) at free)
        | inr new ↦ not_before (last_end (feature_number b.names r.mfidref) b.legs) r.t0 (ap (is_before r.t0) (last_end-absent b.legs (feature_number b.names r.mfidref) (omega (arith, lawful.numbered))))
      ]);
}
can_follow b r (suc k) is lawful free =
    let s : suc k ≡ k + 1 = omega arith in
    let self : eqb (feature_number b.names r.mfidref) (feature_number b.names r.mfidref) ≡ true = grind (arith, nat_tests) in
    let end : last_end (feature_number b.names r.mfidref) (b.legs ++ first_legs b r (suc k)) ≡ Some (cut_moment r.t0 r.t1 (leg_count (length r.positions)) (suc k)) =
    rw s (last_end-first b r (feature_number b.names r.mfidref) k ∙ ap (λ t. cond t (Some (cut_moment r.t0 r.t1 (leg_count (length r.positions)) (k + 1))) (last_end (feature_number b.names r.mfidref) b.legs)) self) in
    let count : feature_count (b.legs ++ first_legs b r (suc k)) ≡ max (feature_count b.legs) (feature_number b.names r.mfidref + 1) = rw s (feature_count-first b r k) in
    record {
      ordinal = omega (arith, length-append b.legs (first_legs b r (suc k)), length-first_legs b r (suc k));
      feature = omega (arith, count);
      time = rw (end, leg_at-t0 b r (suc k)) (not_before (Some (cut_moment r.t0 r.t1 (leg_count (length r.positions)) (suc k))) (cut_moment r.t0 r.t1 (leg_count (length r.positions)) (suc k)) (not_lt_self (cut_moment r.t0 r.t1 (leg_count (length r.positions)) (suc k))));
    }

follows_first : (b : Book) (r : RecordView) (k : ℕ) → IsRecord r → IsLawful b → is_before r.t0 (name_end b r.mfidref) ≡ false → CanFollowInTurn b.legs (first_legs b r k)
follows_first b r zero is lawful free = rw (first_legs-none b r) tt
follows_first b r (suc k) is lawful free =
    let s : suc k ≡ k + 1 = omega arith in
    rw (s, first_legs-more b r k) (follow_push b.legs (first_legs b r k) (leg_added b r k) (follows_first b r k is lawful free) (can_follow b r k is lawful free))

pub follows_record : (b : Book) (r : RecordView) → IsRecord r → IsLawful b → is_before r.t0 (name_end b r.mfidref) ≡ false → CanFollowInTurn b.legs (record_legs b r)
follows_record b r is lawful free = rw (← first_legs-all b r) (follows_first b r (leg_count (length r.positions)) is lawful free)

of_end : (f : ℕ) (o : Option ℤ) → o ≡ option_map (λ (last : Latest). last.end) (option_map (λ end. record { feature = f; end = end }) o)
of_end f None = refl
of_end f (Some end) = refl

of_feature : (b : Book) (o : Option ℕ) → option_and_then (λ feature. last_end feature b.legs) o ≡ option_map (λ (last : Latest). last.end) (option_and_then (λ feature. option_map (λ end. record { feature = feature; end = end }) (last_end feature b.legs)) o)
of_feature b None = refl
of_feature b (Some f) = of_end f (last_end f b.legs)

-- the end of a name is that of its latest
pub name_end-latest : (b : Book) (name : List ℕ) → name_end b name ≡ option_map (λ last. last.end) (latest_of b name)
name_end-latest b name = of_feature b (feature_named b.names name)

-- a name has a latest with its number, or is the next one
pub record IsKnown (b : Book) (name : List ℕ) (end : ℤ) : Type 0 where
  pub number : feature_number b.names name < length b.names
  pub latest : latest_of b name ≡ Some (record { feature = feature_number b.names name; end = end })

pub record IsNew (b : Book) (name : List ℕ) : Type 0 where
  pub number : feature_number b.names name ≡ length b.names
  pub latest : latest_of b name ≡ None

some_end : (o : Option ℤ) → o ≢ None → (e : ℤ) × (o ≡ Some e)
some_end None h = absurd (h refl)
some_end (Some e) h = (e, refl)

pub known_cases : (b : Book) (name : List ℕ) → IsLawful b → ((e : ℤ) × IsKnown b name e) ⊎ IsNew b name
known_cases b name lawful =
    elim (known_or_new b.names name) [
      | inl there ↦
          let end = some_end (last_end (feature_number b.names name) b.legs) (lawful.led (feature_number b.names name) there) in
          let at = feature_of-known b.names name there in
          inl (
            end.0,
            record {
              number = there;
              latest = ap (option_and_then (λ feature. option_map (λ e. record { feature = feature; end = e }) (last_end feature b.legs))) at
                  ∙ ap (option_map (λ e. record { feature = feature_number b.names name; end = e })) end.1;
            },
          )
      | inr new ↦
          inr (record {
            number = new;
            latest = ap (option_and_then (λ feature. option_map (λ e. record { feature = feature; end = e }) (last_end feature b.legs))) (feature_of-new b.names name (omega arith));
          })
    ]
