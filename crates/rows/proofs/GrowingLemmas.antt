-- How rows grow value by value.
use Rattle.std.proofs.Common.{ℕ, List, [], ◌∷◌, ◌++◌, ◌≡◌, ◌-◌, length, take, drop, replicate, All, IsUtf8, subst, sym, ap, ◌∙◌, arith}
use Rattle.std.proofs.lemmas.List.{length-append, length-drop, drop-append-le, drop_all, take_all, take-append-le, map_push}
use Rattle.std.proofs.lemmas.List.Elements.{All-append, All-cons, All-nil, All-push}
use Rattle.rows.specs.Rows.{row_of, rows_at, grown, IsIn, AreIn, AreGrown}
use Rattle.rows.specs.declared.row.RowPlace.{RowPlace}
use Rattle.rows.proofs.RowLemmas.{are-in-all, rows-in-all}

-- a value more
pub value-in : (values : List (List ℕ)) (value : List ℕ) (places : List RowPlace) (first : ℕ) → AreGrown values places first → IsUtf8 value → AreGrown (values ++ value ∷ []) places first
value-in values value places first are text =
    record {
      rows = subst (λ vs. AreIn vs places) (sym (take-append-le first values (value ∷ []) are.begins)) are.rows;
      begins = omega (arith, are.begins, length-append values (value ∷ []));
      texts = subst (All IsUtf8) (sym (drop-append-le first values (value ∷ []) are.begins)) (All-append IsUtf8 (drop first values) (value ∷ []) are.texts (All-cons IsUtf8 value [] text (All-nil IsUtf8)));
    }

pub more-value : (values : List (List ℕ)) (value : List ℕ) (places : List RowPlace) (first : ℕ) → AreGrown values places first → grown (values ++ value ∷ []) places first ≡ record { rows = rows_at (take first values) places; row = drop first values ++ value ∷ [] }
more-value values value places first are =
    ap (λ vs. record { rows = rows_at vs places; row = drop first (values ++ value ∷ []) }) (take-append-le first values (value ∷ []) are.begins)
    ∙ ap (λ xs. record { rows = rows_at (take first values) places; row = xs }) (drop-append-le first values (value ∷ []) are.begins)

-- the values from a number on, with so many blank ones behind them
pub place-in : (values : List (List ℕ)) (places : List RowPlace) (place : RowPlace) → AreGrown values places place.first → place.count ≡ length values - place.first → IsIn values place
place-in values places place are count =
    record {
      inside = omega (arith, are.begins, count);
      texts = subst (All IsUtf8) (sym (take_all place.count (drop place.first values) (omega (arith, length-drop place.first values, count)))) are.texts;
    }

pub row-is : (values : List (List ℕ)) (place : RowPlace) → place.count ≡ length values - place.first → row_of values place ≡ drop place.first values ++ replicate place.blanks []
row-is values place count = ap (λ xs. xs ++ replicate place.blanks []) (take_all place.count (drop place.first values) (omega (arith, length-drop place.first values, count)))

-- a row more, equal to one at a place before
pub known-in : (values : List (List ℕ)) (places : List RowPlace) (known : RowPlace) (first : ℕ) → AreGrown values places first → IsIn (take first values) known → AreGrown values (places ++ known ∷ []) first
known-in values places known first are inside = record { rows = All-push (IsIn (take first values)) places known are.rows inside; begins = are.begins; texts = are.texts }

pub known-row : (values : List (List ℕ)) (places : List RowPlace) (known : RowPlace) → rows_at values (places ++ known ∷ []) ≡ rows_at values places ++ row_of values known ∷ []
known-row values places known = map_push (row_of values) places known

-- a row more, at a place of its own
pub new-in : (values : List (List ℕ)) (places : List RowPlace) (place : RowPlace) (first : ℕ) → AreGrown values places first → IsIn values place → AreGrown values (places ++ place ∷ []) (length values)
new-in values places place first are inside =
    record {
      rows = subst (λ vs. AreIn vs (places ++ place ∷ [])) (sym (take_all (length values) values (omega arith))) (All-push (IsIn values) places place (are-in-all values first places are.rows) inside);
      begins = omega arith;
      texts = subst (All IsUtf8) (sym (drop_all (length values) values (omega arith))) (All-nil IsUtf8);
    }

pub new-row : (values : List (List ℕ)) (places : List RowPlace) (place : RowPlace) (first : ℕ) → AreGrown values places first → grown values (places ++ place ∷ []) (length values) ≡ record { rows = rows_at (take first values) places ++ row_of values place ∷ []; row = [] }
new-row values places place first are =
    ap (λ vs. record { rows = rows_at vs (places ++ place ∷ []); row = drop (length values) values }) (take_all (length values) values (omega arith))
    ∙ ap (λ xs. record { rows = rows_at values (places ++ place ∷ []); row = xs }) (drop_all (length values) values (omega arith))
    ∙ ap (λ rs. record { rows = rs; row = [] }) (map_push (row_of values) places place ∙ ap (λ rs. rs ++ row_of values place ∷ []) (rows-in-all values first places are.rows))
