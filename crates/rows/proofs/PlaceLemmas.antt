-- How places stand under their numbers.
use Rattle.std.proofs.Common.{ℕ, suc, List, [], ◌∷◌, ◌++◌, ◌≡◌, ◌<◌, length, get_or, Some, All, Result, Ok, Err, OnErr, refl, sym, ap, ◌∙◌, arith}
use Rattle.std.proofs.lemmas.List.{map_push, get_or_push, get_or_append_left}
use Rattle.std.proofs.lemmas.Option.{get_or_from_slice_get}
use Rattle.std.specs.Prelude.{slice_get}
use Rattle.rows.specs.Rows.{places_of}
use Rattle.rows.specs.declared.row.RowPlace.{RowPlace}

-- places stay under their numbers where one more is kept
pub places-stay : (kept more : List RowPlace) (numbers : List ℕ) → All (λ n. n < length kept) numbers → places_of (kept ++ more) numbers ≡ places_of kept numbers
places-stay kept more [] within = refl
places-stay kept more (n ∷ ns) within =
    ap (λ p. p ∷ places_of (kept ++ more) ns) (get_or_append_left kept more (record { first = 0; count = 0; blanks = 0 }) n (within 0 n (omega arith)))
    ∙ ap (λ ps. get_or kept n (record { first = 0; count = 0; blanks = 0 }) ∷ ps) (places-stay kept more ns (λ k d h. within (suc k) d (omega (arith, h))))

-- a place that is kept already
pub known-place : (kept : List RowPlace) (numbers : List ℕ) (n : ℕ) (place : RowPlace) → slice_get kept n ≡ Some place → places_of kept (numbers ++ n ∷ []) ≡ places_of kept numbers ++ place ∷ []
known-place kept numbers n place found =
    map_push (λ n. get_or kept n (record { first = 0; count = 0; blanks = 0 })) numbers n
    ∙ ap (λ p. places_of kept numbers ++ p ∷ []) (get_or_from_slice_get kept n place (record { first = 0; count = 0; blanks = 0 }) found)

-- a place more
pub new-place : (kept : List RowPlace) (numbers : List ℕ) (n : ℕ) (place : RowPlace) → All (λ n. n < length kept) numbers → n ≡ length kept → places_of (kept ++ place ∷ []) (numbers ++ n ∷ []) ≡ places_of kept numbers ++ place ∷ []
new-place kept numbers n place within is =
    map_push (λ n. get_or (kept ++ place ∷ []) n (record { first = 0; count = 0; blanks = 0 })) numbers n
    ∙ ap (λ ps. ps ++ get_or (kept ++ place ∷ []) n (record { first = 0; count = 0; blanks = 0 }) ∷ []) (places-stay kept (place ∷ []) numbers within)
    ∙ ap (λ p. places_of kept numbers ++ p ∷ []) (get_or_push kept place (record { first = 0; count = 0; blanks = 0 }) n (sym is))

-- what holds anyhow holds of a refusal
pub on-err : {T E : Type 0} (r : Result T E) (P : Type 0) → P → OnErr r P
on-err (Ok x) P p = tt
on-err (Err e) P p = p
