-- A book for which the tracks of a lawful catalogue stand.
use Rattle.std.proofs.Common.{ℕ, zero, suc, true, false, cond, ◌==◌, ◌+◌, ◌<◌, ◌≤◌, ◌≡◌, ◌≢◌, ◌∙◌, ◌⊎◌, inl, inr, ⊎_elim, All, List, [], ◌∷◌, ◌++◌, length, length-append, map, max, refl, sym, ap, arith, Option, Some, None, eq-eqb, ℤ, pos}
use Rattle.std.specs.Prelude.{fold, slice_index_or, count_by, sum_by}
use Rattle.std.proofs.lemmas.Bool.{ne_eqb}
use Rattle.std.proofs.lemmas.Grind.{fold-append}
use Rattle.std.proofs.lemmas.Int.{clamps}
use Rattle.std.proofs.lemmas.List.{length-map}
use Rattle.std.proofs.lemmas.List.Elements.{All-append, All-cons, All-head, All-nil, All-tail}
use Rattle.std.proofs.lemmas.List.Sums.{sum_by-append, sum_by-cons}
use Rattle.legs.specs.Book.{Book}
use Rattle.legs.specs.Index.{is_of}
use Rattle.legs.specs.Legs.{LegView}
use Rattle.legs.specs.Limits.{IsLimits}
use Rattle.legs.specs.Tracks.{IsTrack, StandsFor, TracksView}
use Rattle.legs.specs.declared.tracks.Track.{Track}
use Rattle.tbtree.specs.declared.tree.Place.{Place}
use Rattle.register.specs.Lasting.{IsLawfulCatalogue, IsLawfulFeature}
use Rattle.register.specs.Saved.{CatalogueView}
use Rattle.register.specs.declared.contents.Feature.{Feature}

-- a leg of a feature, which ends then
abbrev leg_of : ℕ → ℤ → LegView
leg_of feature end = record { ordinal = 0; feature = feature; t0 = end; t1 = end; x0 = pos 0; y0 = pos 0; z0 = pos 0; x1 = pos 0; y1 = pos 0; z1 = pos 0; row = 0 }

abbrev many : ℕ → LegView → List LegView
many zero leg = []
many (suc n) leg = leg ∷ many n leg

-- as many legs of each feature, from feature k on, as its track says
abbrev legs_from : ℕ → List Track → List LegView
legs_from k [] = []
legs_from k (t ∷ ts) = many t.legs (leg_of k t.end) ++ legs_from (suc k) ts

abbrev HaveLegs : List Track → Type 0
HaveLegs ts = All (λ (t : Track). 0 < t.legs) ts

-- the last end of a feature behind that one
abbrev end_from : ℕ → Option ℤ → List LegView → Option ℤ
end_from f d legs = fold (λ end leg. cond (leg.feature == f) (Some leg.t1) end) d legs

end_same : (f : ℕ) (d : Option ℤ) (n : ℕ) (e : ℤ) → (0 < n) ⊎ (d ≡ Some e) → end_from f d (many n (leg_of f e)) ≡ Some e
end_same f d zero e h = ⊎_elim (λ (some : 0 < 0). absurd (omega (arith, some))) (λ (is : d ≡ Some e). is) h
end_same f d (suc n) e h = end_same f (cond (f == f) (Some e) d) n e (inr (ap (λ b. cond b (Some e) d) (eq-eqb f f refl)))

end_other : (f k : ℕ) (d : Option ℤ) (n : ℕ) (e : ℤ) → k ≢ f → end_from f d (many n (leg_of k e)) ≡ d
end_other f k d zero e u = refl
end_other f k d (suc n) e u = ap (λ b. end_from f (cond b (Some e) d) (many n (leg_of k e))) (ne_eqb k f u) ∙ end_other f k d n e u

end_split : (f : ℕ) (d : Option ℤ) (xs ys : List LegView) → end_from f d (xs ++ ys) ≡ end_from f (end_from f d xs) ys
end_split f d xs ys = fold-append (λ end leg. cond (leg.feature == f) (Some leg.t1) end) d xs ys

-- behind the feature's own legs
end_before : (ts : List Track) (f k : ℕ) (d : Option ℤ) → f < k → end_from f d (legs_from k ts) ≡ d
end_before [] f k d l = refl
end_before (t ∷ ts) f k d l =
    end_split f d (many t.legs (leg_of k t.end)) (legs_from (suc k) ts)
    ∙ ap (λ x. end_from f x (legs_from (suc k) ts)) (end_other f k d t.legs t.end (λ e. omega (arith, e, l)))
    ∙ end_before ts f (suc k) d (omega (arith, l))

end_at : (ts : List Track) (k i : ℕ) (d : Option ℤ) (o : Track) → i < length ts → HaveLegs ts → end_from (k + i) d (legs_from k ts) ≡ Some (slice_index_or ts i o).end
end_at [] k i d o l some = absurd (omega (arith, l))
end_at (t ∷ ts) k zero d o l some =
    ap (λ f. end_from f d (legs_from k (t ∷ ts))) (let z : k + 0 ≡ k = omega arith in z)
    ∙ end_split k d (many t.legs (leg_of k t.end)) (legs_from (suc k) ts)
    ∙ ap (λ x. end_from k x (legs_from (suc k) ts)) (end_same k d t.legs t.end (inl (All-head (λ (t : Track). 0 < t.legs) t ts some)))
    ∙ end_before ts k (suc k) (Some t.end) (omega arith)
end_at (t ∷ ts) k (suc i) d o l some =
    end_split (k + suc i) d (many t.legs (leg_of k t.end)) (legs_from (suc k) ts)
    ∙ ap (λ x. end_from (k + suc i) x (legs_from (suc k) ts)) (end_other (k + suc i) k d t.legs t.end (λ e. omega (arith, e)))
    ∙ ap (λ f. end_from f d (legs_from (suc k) ts)) (let z : k + suc i ≡ suc k + i = omega arith in z)
    ∙ end_at ts (suc k) i d o (omega (arith, l)) (All-tail (λ (t : Track). 0 < t.legs) t ts some)

-- how many legs of a feature there are
count_many : (f k n : ℕ) (e : ℤ) → count_by (is_of f) (many n (leg_of k e)) ≡ cond (k == f) n 0
count_many f k zero e = elim (k == f) as (λ b. count_by (is_of f) [] ≡ cond b 0 0) [ true ↦ refl | false ↦ refl ]
count_many f k (suc n) e =
    let on = count_many f k n e in
    let here = sum_by-cons (λ leg. cond (is_of f leg) 1 0) (leg_of k e) (many n (leg_of k e)) in
    (elim (k == f) as (λ b. count_by (is_of f) (many n (leg_of k e)) ≡ cond b n 0 → count_by (is_of f) (many (suc n) (leg_of k e)) ≡ cond b 1 0 + count_by (is_of f) (many n (leg_of k e)) → count_by (is_of f) (many (suc n) (leg_of k e)) ≡ cond b (suc n) 0) [
      | true ↦ λ m h. omega (arith, m, h)
      | false ↦ λ m h. omega (arith, m, h)
    ]) on here

count_split : (f : ℕ) (xs ys : List LegView) → count_by (is_of f) (xs ++ ys) ≡ count_by (is_of f) xs + count_by (is_of f) ys
count_split f xs ys = sum_by-append (λ leg. cond (is_of f leg) 1 0) xs ys

count_before : (ts : List Track) (f k : ℕ) → f < k → count_by (is_of f) (legs_from k ts) ≡ 0
count_before [] f k l = refl
count_before (t ∷ ts) f k l =
    let split = count_split f (many t.legs (leg_of k t.end)) (legs_from (suc k) ts) in
    let here = count_many f k t.legs t.end ∙ ap (λ b. cond b t.legs 0) (ne_eqb k f (λ e. omega (arith, e, l))) in
    let on = count_before ts f (suc k) (omega (arith, l)) in
    omega (arith, split, here, on)

count_at : (ts : List Track) (k i : ℕ) (o : Track) → i < length ts → count_by (is_of (k + i)) (legs_from k ts) ≡ (slice_index_or ts i o).legs
count_at [] k i o l = absurd (omega (arith, l))
count_at (t ∷ ts) k zero o l =
    let same : k ≡ k + 0 = omega arith in
    let split = count_split (k + 0) (many t.legs (leg_of k t.end)) (legs_from (suc k) ts) in
    let here = count_many (k + 0) k t.legs t.end ∙ ap (λ b. cond b t.legs 0) (eq-eqb k (k + 0) same) in
    let on = count_before ts (k + 0) (suc k) (omega arith) in
    omega (arith, split, here, on)
count_at (t ∷ ts) k (suc i) o l =
    let split = count_split (k + suc i) (many t.legs (leg_of k t.end)) (legs_from (suc k) ts) in
    let here = count_many (k + suc i) k t.legs t.end ∙ ap (λ b. cond b t.legs 0) (ne_eqb k (k + suc i) (λ e. omega (arith, e))) in
    let on = ap (λ f. count_by (is_of f) (legs_from (suc k) ts)) (let z : k + suc i ≡ suc k + i = omega arith in z) ∙ count_at ts (suc k) i o (omega (arith, l)) in
    omega (arith, split, here, on)

-- and all together
length_many : (n : ℕ) (leg : LegView) → length (many n leg) ≡ n
length_many zero leg = refl
length_many (suc n) leg = ap suc (length_many n leg)

length_legs : (ts : List Track) (k : ℕ) → length (legs_from k ts) ≡ sum_by (λ (t : Track). t.legs) ts
length_legs [] k = refl
length_legs (t ∷ ts) k =
    let split = length-append (many t.legs (leg_of k t.end)) (legs_from (suc k) ts) in
    let here = length_many t.legs (leg_of k t.end) in
    let on = length_legs ts (suc k) in
    let sum = sum_by-cons (λ (t : Track). t.legs) t ts in
    omega (arith, split, here, on, sum)

-- each feature has a leg
abbrev most_from : ℕ → List LegView → ℕ
most_from d legs = fold (λ count leg. max count (leg.feature + 1)) d legs

most_many : (n k d : ℕ) (e : ℤ) → (0 < n) ⊎ (d ≡ k + 1) → d ≤ k + 1 → most_from d (many n (leg_of k e)) ≡ k + 1
most_many zero k d e h l = ⊎_elim (λ (some : 0 < 0). absurd (omega (arith, some))) (λ (is : d ≡ k + 1). is) h
most_many (suc n) k d e h l =
    let here : max d (k + 1) ≡ k + 1 = omega (arith, clamps, l) in
    most_many n k (max d (k + 1)) e (inr here) (omega (arith, here))

most_legs : (ts : List Track) (k : ℕ) → HaveLegs ts → most_from k (legs_from k ts) ≡ k + length ts
most_legs [] k some = omega arith
most_legs (t ∷ ts) k some =
    fold-append (λ count leg. max count (leg.feature + 1)) k (many t.legs (leg_of k t.end)) (legs_from (suc k) ts)
    ∙ ap (λ d. most_from d (legs_from (suc k) ts)) (most_many t.legs k k t.end (inl (All-head (λ (t : Track). 0 < t.legs) t ts some)) (omega arith) ∙ (let z : k + 1 ≡ suc k = omega arith in z))
    ∙ most_legs ts (suc k) (All-tail (λ (t : Track). 0 < t.legs) t ts some)
    ∙ (let z : suc k + length ts ≡ k + suc (length ts) = omega arith in z)

rows_many : (rows n k : ℕ) (e : ℤ) → 0 < rows → All (λ (leg : LegView). leg.row < rows) (many n (leg_of k e))
rows_many rows zero k e some = All-nil (λ (leg : LegView). leg.row < rows)
rows_many rows (suc n) k e some = All-cons (λ (leg : LegView). leg.row < rows) (leg_of k e) (many n (leg_of k e)) some (rows_many rows n k e some)

rows_legs : (rows : ℕ) (ts : List Track) (k : ℕ) → 0 < rows → All (λ (leg : LegView). leg.row < rows) (legs_from k ts)
rows_legs rows [] k some = All-nil (λ (leg : LegView). leg.row < rows)
rows_legs rows (t ∷ ts) k some = All-append (λ (leg : LegView). leg.row < rows) (many t.legs (leg_of k t.end)) (legs_from (suc k) ts) (rows_many rows t.legs k t.end some) (rows_legs rows ts (suc k) some)

all_rows : (rows : ℕ) (ts : List Track) → (0 < sum_by (λ (t : Track). t.legs) ts → 0 < rows) → All (λ (leg : LegView). leg.row < rows) (legs_from 0 ts)
all_rows rows ts some i d l = rows_legs rows ts 0 (some (let n = length_legs ts 0 in omega (arith, n, l))) i d l

some_none : {X : Type 0} {x : X} → Some x ≡ None → ⊥
some_none e = (cc)

all_have : (count : ℕ) (fs : List Feature) → All (IsLawfulFeature count) fs → HaveLegs (map (λ (f : Feature). record { end = f.kept.end; legs = f.kept.place.legs }) fs)
all_have count [] each = All-nil (λ (t : Track). 0 < t.legs)
all_have count (f ∷ fs) each = All-cons (λ (t : Track). 0 < t.legs) (record { end = f.kept.end; legs = f.kept.place.legs }) (map (λ (f : Feature). record { end = f.kept.end; legs = f.kept.place.legs }) fs)
    (All-head (IsLawfulFeature count) f fs each).some (all_have count fs (All-tail (IsLawfulFeature count) f fs each))

sum_tracks : (fs : List Feature) → sum_by (λ (t : Track). t.legs) (map (λ (f : Feature). record { end = f.kept.end; legs = f.kept.place.legs }) fs) ≡ sum_by (λ (f : Feature). f.kept.place.legs) fs
sum_tracks [] = refl
sum_tracks (f ∷ fs) =
    let t : Track = record { end = f.kept.end; legs = f.kept.place.legs } in
    let one = sum_by-cons (λ (t : Track). t.legs) t (map (λ (f : Feature). record { end = f.kept.end; legs = f.kept.place.legs }) fs) in
    let two = sum_by-cons (λ (f : Feature). f.kept.place.legs) f fs in
    let on = sum_tracks fs in
    omega (arith, one, two, on)

pub stands_for_some : (count : ℕ) (c : CatalogueView) (places : List Place) → IsLawfulCatalogue count c places → IsLimits c.limits
    → (book : Book) × StandsFor c.tracks book × (book.head ≡ c.head) × (book.names ≡ c.tracks.names) × (book.rows ≡ c.rows)
stands_for_some count c places lawful limits =
    let fs = lawful.features in
    let ts : List Track = map (λ (f : Feature). record { end = f.kept.end; legs = f.kept.place.legs }) fs in
    let legs = legs_from 0 ts in
    let have = all_have count fs lawful.each in
    let features : length ts ≡ length fs = length-map {B = Track} fs (λ (f : Feature). record { end = f.kept.end; legs = f.kept.place.legs }) in
    let names_are = ap (λ (t : TracksView). t.names) lawful.tracks_are in
    let tracks_are : c.tracks.tracks ≡ ts = ap (λ (t : TracksView). t.tracks) lawful.tracks_are in
    let total : c.tracks.legs ≡ length legs = ap (λ (t : TracksView). t.legs) lawful.tracks_are ∙ sym (sum_tracks fs) ∙ sym (length_legs ts 0) in
    let named : length c.tracks.names ≡ length ts = ap length names_are ∙ length-map fs (λ (f : Feature). f.name) ∙ sym features in
    let paired : length c.tracks.tracks ≡ length c.tracks.names = ap length tracks_are ∙ sym named in
    let few_features = lawful.few_features in
    let few_legs = lawful.few_legs in
    let most_features = limits.few_features in
    let most_legs_is = limits.few_legs in
    let at : (f : ℕ) (d : Track) → f < length c.tracks.names → IsTrack (slice_index_or c.tracks.tracks f d) legs f = λ f d l.
    let inside : f < length ts = omega (arith, l, named) in
    record {
      end = (ap (λ g. end_from g None legs) (let z : f ≡ 0 + f = omega arith in z) ∙ end_at ts 0 f None d inside have) ∙ ap (λ ts. Some (slice_index_or ts f d).end) (sym tracks_are);
      count = (ap (λ g. count_by (is_of g) legs) (let z : f ≡ 0 + f = omega arith in z) ∙ count_at ts 0 f d inside) ∙ ap (λ ts. (slice_index_or ts f d).legs) (sym tracks_are);
    } in (
      record { head = c.head; names = c.tracks.names; legs = legs; rows = c.rows },
      record {
        names = refl;
        paired = paired;
        each = at;
        legs = total;
        rows = ap (λ (t : TracksView). t.rows) lawful.tracks_are;
        lawful = record {
          numbered = most_legs ts 0 have ∙ (let z : 0 + length ts ≡ length c.tracks.names = omega (arith, named) in z);
          led = λ f l e. some_none (sym (at f (record { end = pos 0; legs = 0 }) l).end ∙ e);
          rows = all_rows (length c.rows) ts (λ some. lawful.some_row (let n = length_legs ts 0 in omega (arith, n, total, some)));
          few_legs = omega (arith, total, few_legs, most_legs_is);
          few_names = omega (arith, named, features, few_features, most_features);
        };
      },
      refl,
      refl,
      refl,
    )
