-- How rows stand in one list of values.
use Rattle.std.proofs.Common.{ℕ, suc, List, [], ◌∷◌, ◌++◌, ◌≡◌, ◌≤◌, ◌<◌, ◌+◌, length, map, take, drop, replicate, get_or, All, IsUtf8, refl, subst, sym, ap, ◌∙◌, arith}
use Rattle.std.proofs.lemmas.List.{length-append, length-take-le, length-drop, take-append-le, drop-append-le, take-append-drop, get_or-take, get_or-drop, get_or_append_left}
use Rattle.rows.specs.Rows.{row_of, rows_at, IsIn, AreIn}
use Rattle.rows.specs.declared.row.RowPlace.{RowPlace}

-- so many values are kept
kept : (values : List (List ℕ)) (place : RowPlace) → IsIn values place → length (take place.count (drop place.first values)) ≡ place.count
kept values place inside = length-take-le place.count (drop place.first values) (omega (arith, length-drop place.first values, inside.inside))

-- a value that is kept
value-at : (values : List (List ℕ)) (place : RowPlace) (i : ℕ) → i < place.count → get_or (take place.count (drop place.first values)) i [] ≡ get_or values (place.first + i) []
value-at values place i lt = get_or-take place.count (drop place.first values) i [] lt ∙ get_or-drop place.first values i []

pub value-kept : (values : List (List ℕ)) (place : RowPlace) (i : ℕ) → IsIn values place → i < place.count → get_or (row_of values place) i [] ≡ get_or values (place.first + i) []
value-kept values place i inside lt =
    get_or_append_left (take place.count (drop place.first values)) (replicate place.blanks []) [] i (omega (arith, kept values place inside, lt))
    ∙ value-at values place i lt

pub value-text : (values : List (List ℕ)) (place : RowPlace) (i : ℕ) → IsIn values place → i < place.count → IsUtf8 (get_or values (place.first + i) [])
value-text values place i inside lt = subst IsUtf8 (value-at values place i lt) (inside.texts i [] (omega (arith, kept values place inside, lt)))

-- the values of a place stay where values come behind all others
pub values-stay : (values more : List (List ℕ)) (place : RowPlace) → place.first + place.count ≤ length values → take place.count (drop place.first (values ++ more)) ≡ take place.count (drop place.first values)
values-stay values more place inside =
    ap (λ xs. take place.count xs) (drop-append-le place.first values more (omega (arith, inside)))
    ∙ take-append-le place.count (drop place.first values) more (omega (arith, length-drop place.first values, inside))

row-stays : (values more : List (List ℕ)) (place : RowPlace) → IsIn values place → row_of (values ++ more) place ≡ row_of values place
row-stays values more place inside = ap (λ xs. xs ++ replicate place.blanks []) (values-stay values more place inside.inside)

rows-stay : (values more : List (List ℕ)) (places : List RowPlace) → AreIn values places → rows_at (values ++ more) places ≡ rows_at values places
rows-stay values more [] inside = refl
rows-stay values more (p ∷ ps) inside =
    ap (λ r. r ∷ map (row_of (values ++ more)) ps) (row-stays values more p (inside 0 p (omega arith)))
    ∙ ap (λ rs. row_of values p ∷ rs) (rows-stay values more ps (λ k d h. inside (suc k) d (omega (arith, h))))

is-still-in : (values more : List (List ℕ)) (place : RowPlace) → IsIn values place → IsIn (values ++ more) place
is-still-in values more place inside =
    record { inside = omega (arith, length-append values more, inside.inside); texts = subst (All IsUtf8) (sym (values-stay values more place inside.inside)) inside.texts }

-- what stands among the first values stands among all
pub in-all : (values : List (List ℕ)) (first : ℕ) (place : RowPlace) → IsIn (take first values) place → IsIn values place
in-all values first place inside = subst (λ vs. IsIn vs place) (take-append-drop first values) (is-still-in (take first values) (drop first values) place inside)

pub are-in-all : (values : List (List ℕ)) (first : ℕ) (places : List RowPlace) → AreIn (take first values) places → AreIn values places
are-in-all values first places inside = λ k d h. in-all values first (get_or places k d) (inside k d h)

pub row-in-all : (values : List (List ℕ)) (first : ℕ) (place : RowPlace) → IsIn (take first values) place → row_of values place ≡ row_of (take first values) place
row-in-all values first place inside = ap (λ vs. row_of vs place) (sym (take-append-drop first values)) ∙ row-stays (take first values) (drop first values) place inside

pub rows-in-all : (values : List (List ℕ)) (first : ℕ) (places : List RowPlace) → AreIn (take first values) places → rows_at values places ≡ rows_at (take first values) places
rows-in-all values first places inside = ap (λ vs. rows_at vs places) (sym (take-append-drop first values)) ∙ rows-stay (take first values) (drop first values) places inside

-- a place before another, with the same values and as many blank ones, has an equal row
equal-in : (values : List (List ℕ)) (known place : RowPlace) → IsIn values place → known.count ≡ place.count → known.first + known.count ≤ place.first → take place.count (drop known.first values) ≡ take place.count (drop place.first values)
    → IsIn (take place.first values) known × (take known.count (drop known.first (take place.first values)) ≡ take place.count (drop place.first values))
equal-in values known place inside count before same =
    let long = length-take-le place.first values (omega (arith, inside.inside)) in
    let within : known.first + known.count ≤ length (take place.first values) = omega (arith, long, before) in
    let is = sym (values-stay (take place.first values) (drop place.first values) known within)
    ∙ ap (λ vs. take known.count (drop known.first vs)) (take-append-drop place.first values)
    ∙ ap (λ n. take n (drop known.first values)) count
    ∙ same in
    (record { inside = within; texts = subst (All IsUtf8) (sym is) inside.texts }, is)

pub equal-row : (values : List (List ℕ)) (known place : RowPlace) → IsIn values place → known.count ≡ place.count → known.blanks ≡ place.blanks → known.first + known.count ≤ place.first
    → take place.count (drop known.first values) ≡ take place.count (drop place.first values) → IsIn (take place.first values) known × (row_of (take place.first values) known ≡ row_of values place)
equal-row values known place inside count blanks before same =
    let is = equal-in values known place inside count before same in
    (is.0, ap (λ xs. xs ++ replicate known.blanks []) is.1 ∙ ap (λ n. take place.count (drop place.first values) ++ replicate n []) blanks)
