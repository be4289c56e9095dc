-- The positions of a trajectory, as far as its coordinates were read.
use Rattle.std.proofs.Common.{[], ◌∷◌, ◌++◌, ◌+◌, ◌*◌, ◌<◌, ◌≡◌, ◌∙◌, ◌==◌, ◌%◌, ◌&&◌, ◌||◌, not, Bool, ℕ, ℤ, pos, List, Option, Some, None, Ok, Err, ap, arith, length, refl, sym, true, false}
use Rattle.std.proofs.lemmas.List.{append_assoc, append-nil, length_push}
use Rattle.std.proofs.lemmas.Bool.Decides.{nat_tests}
use Rattle.std.specs.List.{list_all}
use Rattle.std.specs.Prelude.{option_map}
use Rattle.fixedpoint.specs.Number.{coord_of}
use Rattle.mfcsv.specs.Header.{value_read}
use Rattle.mfcsv.specs.DataRecord.{axes, coordinate_of, has_wrong_coordinate, has_wrong_count, is_coordinate, onto_positions, position_of, positions_of, positions_of_pairs, positions_of_triples}
use Rattle.mfcsv.specs.Placing.{placed}
use Rattle.mfcsv.specs.Answer.{trajectory_fault}
use Rattle.mfcsv.specs.declared.Code.TheVariants.{F15, F16}
use Rattle.mfcsv.specs.declared.Dimension.{Dimension}
use Rattle.mfcsv.specs.declared.Dimension.TheVariants.{Two, Three}
use Rattle.mfcsv.specs.declared.Position.{Position}
use Rattle.mfcsv.specs.declared.data_record.Placed.{Placed}
use Rattle.mfcsv.specs.declared.data_record.Placed.TheVariants.{Part, Whole}
use Rattle.mfcsv.specs.declared.data_record.Waiting.{Waiting}
use Rattle.mfcsv.specs.declared.data_record.Waiting.TheVariants.{Nothing, X, XAndY}
use Rattle.fixedpoint.specs.declared.NumberFault.{NumberFault}

-- the positions behind coordinates that wait for the others
abbrev pub positions_behind : Dimension → Waiting → List (List ℕ) → Option (List Position)
positions_behind dimension Nothing texts = positions_of (Some dimension) texts
positions_behind Two (X x) [] = None
positions_behind Two (X x) (y ∷ rest) = onto_positions (position_of (Some x) (coordinate_of y) (Some (pos 0))) (positions_of_pairs rest)
positions_behind Three (X x) [] = None
positions_behind Three (X x) (y ∷ []) = None
positions_behind Three (X x) (y ∷ z ∷ rest) = onto_positions (position_of (Some x) (coordinate_of y) (coordinate_of z)) (positions_of_triples rest)
positions_behind Two (XAndY x y) texts = None
positions_behind Three (XAndY x y) [] = None
positions_behind Three (XAndY x y) (z ∷ rest) = onto_positions (position_of (Some x) (Some y) (coordinate_of z)) (positions_of_triples rest)

abbrev pub count_of : Waiting → ℕ
count_of Nothing = 0
count_of (X x) = 1
count_of (XAndY x y) = 2

abbrev pub behind : List Position → Option (List Position) → Option (List Position)
behind read more = option_map (λ positions. read ++ positions) more

-- these positions were read, coordinates wait or not, and these words are left
pub record IsReading (dimension : Dimension) (all : List (List ℕ)) (read : List Position) (waiting : Waiting) (left : List (List ℕ)) : Type 0 where
  pub numbers : list_all is_coordinate all ≡ list_all is_coordinate left
  pub fits : count_of waiting < axes dimension
  pub count : length all ≡ axes dimension * length read + count_of waiting + length left
  pub positions : positions_of (Some dimension) all ≡ behind read (positions_behind dimension waiting left)

is_coordinate-read : (word : List ℕ) (z : ℤ) → coord_of word ≡ Ok z → is_coordinate word ≡ true
unfolding is_coordinate
is_coordinate-read word z e = rw e refl

-- a coordinate that is read leaves the others
numbers-more : (all : List (List ℕ)) (word : List ℕ) (left : List (List ℕ)) (z : ℤ) → list_all is_coordinate all ≡ list_all is_coordinate (word ∷ left) → coord_of word ≡ Ok z → list_all is_coordinate all ≡ list_all is_coordinate left
numbers-more all word left z same e = same ∙ ap (λ b. b && list_all is_coordinate left) (is_coordinate-read word z e)

first-waits : (dimension : Dimension) (word : List ℕ) (left : List (List ℕ)) (z : ℤ) → coord_of word ≡ Ok z → positions_of (Some dimension) (word ∷ left) ≡ positions_behind dimension (X z) left
unfolding positions_of_pairs positions_of_triples
first-waits Two word [] z e = refl
first-waits Two word (y ∷ rest) z e = rw e refl
first-waits Three word [] z e = refl
first-waits Three word (y ∷ []) z e = refl
first-waits Three word (y ∷ w ∷ rest) z e = rw e refl

second-waits : (x : ℤ) (word : List ℕ) (left : List (List ℕ)) (z : ℤ) → coord_of word ≡ Ok z → positions_behind Three (X x) (word ∷ left) ≡ positions_behind Three (XAndY x z) left
second-waits x word [] z e = refl
second-waits x word (w ∷ rest) z e = rw e refl

behind-one : (read : List Position) (q : Position) (o : Option (List Position)) → behind read (onto_positions (Some q) o) ≡ behind (read ++ (q ∷ [])) o
behind-one read q None = refl
behind-one read q (Some positions) = ap Some (sym (append_assoc read (q ∷ []) positions))

-- what a coordinate makes of a reading
abbrev pub Reads : Dimension → List (List ℕ) → List Position → Placed → List (List ℕ) → Type 0
Reads dimension all read (Part waiting) left = IsReading dimension all read waiting left
Reads dimension all read (Whole position) left = IsReading dimension all (read ++ position ∷ []) Nothing left

pub reading-more : (dimension : Dimension) (all : List (List ℕ)) (read : List Position) (waiting : Waiting) (word : List ℕ) (left : List (List ℕ)) (z : ℤ) → IsReading dimension all read waiting (word ∷ left) → coord_of word ≡ Ok z
    → Reads dimension all read (placed dimension waiting z) left
reading-more Two all read Nothing word left z r e = record {
  numbers = numbers-more all word left z r.numbers e;
  fits = omega arith;
  count = omega (arith, r.count);
  positions = r.positions ∙ ap (behind read) (first-waits Two word left z e);
}
reading-more Three all read Nothing word left z r e = record {
  numbers = numbers-more all word left z r.numbers e;
  fits = omega arith;
  count = omega (arith, r.count);
  positions = r.positions ∙ ap (behind read) (first-waits Three word left z e);
}
reading-more Two all read (X x) word left z r e =
    let q : Position = record { x = x; y = z; z = pos 0 } in
    record {
      numbers = numbers-more all word left z r.numbers e;
      fits = omega arith;
      count = let size = length_push read q in omega (arith, r.count, size);
      positions = r.positions ∙ ap (λ c. behind read (onto_positions (position_of (Some x) (value_read c) (Some (pos 0))) (positions_of_pairs left))) e ∙ behind-one read q (positions_of_pairs left);
    }
reading-more Three all read (X x) word left z r e = record {
  numbers = numbers-more all word left z r.numbers e;
  fits = omega arith;
  count = omega (arith, r.count);
  positions = r.positions ∙ ap (behind read) (second-waits x word left z e);
}
reading-more Two all read (XAndY x y) word left z r e = absurd (let f = r.fits in omega (arith, f))
reading-more Three all read (XAndY x y) word left z r e =
    let q : Position = record { x = x; y = y; z = z } in
    record {
      numbers = numbers-more all word left z r.numbers e;
      fits = omega arith;
      count = let size = length_push read q in omega (arith, r.count, size);
      positions = r.positions ∙ ap (λ c. behind read (onto_positions (position_of (Some x) (Some y) (value_read c)) (positions_of_triples left))) e ∙ behind-one read q (positions_of_triples left);
    }

-- a coordinate that is not read
pub reading-fault : (dimension : Dimension) (all : List (List ℕ)) (read : List Position) (waiting : Waiting) (word : List ℕ) (left : List (List ℕ)) (fault : NumberFault) → IsReading dimension all read waiting (word ∷ left) → coord_of word ≡ Err fault
    → trajectory_fault (Some dimension) all ≡ Some F15
unfolding has_wrong_coordinate is_coordinate
reading-fault dimension all read waiting word left fault r e = rw (r.numbers, e) refl

numbers-end : (dimension : Dimension) (all : List (List ℕ)) (read : List Position) (waiting : Waiting) → IsReading dimension all read waiting [] → has_wrong_coordinate all ≡ false
unfolding has_wrong_coordinate
numbers-end dimension all read waiting r = rw r.numbers refl

-- what is wrong with so many coordinates
abbrev is_wrong : ℕ → ℕ → Bool
is_wrong size axes = (size == 0) || not (size % axes == 0)

count-end : (dimension : Dimension) (all : List (List ℕ)) (read : List Position) (waiting : Waiting) → IsReading dimension all read waiting [] → has_wrong_count (Some dimension) all ≡ is_wrong (axes dimension * length read + count_of waiting) (axes dimension)
unfolding has_wrong_count
count-end dimension all read waiting r = let size : length all ≡ axes dimension * length read + count_of waiting = omega (arith, r.count) in rw size refl

-- coordinates that are left over
left_over : (dimension : Dimension) (n : ℕ) (waiting : Waiting) → 0 < count_of waiting → count_of waiting < axes dimension → is_wrong (axes dimension * n + count_of waiting) (axes dimension) ≡ true
left_over Two n Nothing some few = absurd (omega (arith, some))
left_over Two n (X x) some few = grind (arith, nat_tests)
left_over Two n (XAndY x y) some few = absurd (omega (arith, few))
left_over Three n Nothing some few = absurd (omega (arith, some))
left_over Three n (X x) some few = grind (arith, nat_tests)
left_over Three n (XAndY x y) some few = grind (arith, nat_tests)

whole : (dimension : Dimension) (n : ℕ) → 0 < n → is_wrong (axes dimension * n + 0) (axes dimension) ≡ false
whole Two n some = grind (arith, nat_tests)
whole Three n some = grind (arith, nat_tests)

pub reading-left_over : (dimension : Dimension) (all : List (List ℕ)) (read : List Position) (waiting : Waiting) → IsReading dimension all read waiting [] → 0 < count_of waiting → trajectory_fault (Some dimension) all ≡ Some F16
reading-left_over dimension all read waiting r some =
    rw (numbers-end dimension all read waiting r, count-end dimension all read waiting r, left_over dimension (length read) waiting some r.fits) refl

-- or none at all
none_read : (dimension : Dimension) (n : ℕ) → n ≡ 0 → is_wrong (axes dimension * n + 0) (axes dimension) ≡ true
none_read Two n e = rw e refl
none_read Three n e = rw e refl

pub reading-none : (dimension : Dimension) (all : List (List ℕ)) (read : List Position) → IsReading dimension all read Nothing [] → length read ≡ 0 → trajectory_fault (Some dimension) all ≡ Some F16
reading-none dimension all read r e = rw (numbers-end dimension all read Nothing r, count-end dimension all read Nothing r, none_read dimension (length read) e) refl

no_more : (dimension : Dimension) (read : List Position) → behind read (positions_of (Some dimension) []) ≡ Some read
unfolding positions_of_pairs positions_of_triples
no_more Two read = ap Some (append-nil read)
no_more Three read = ap Some (append-nil read)

-- all coordinates make positions
pub reading-end : (dimension : Dimension) (all : List (List ℕ)) (read : List Position) → IsReading dimension all read Nothing [] → 0 < length read → (trajectory_fault (Some dimension) all ≡ None) × (positions_of (Some dimension) all ≡ Some read)
reading-end dimension all read r h =
    (rw (numbers-end dimension all read Nothing r, count-end dimension all read Nothing r, whole dimension (length read) h) refl, r.positions ∙ no_more dimension read)
