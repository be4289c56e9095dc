use Rattle.std.proofs.Common.{arith, ◌≡◌, ◌∙◌, ap, sym, ◌<◌, ℕ, length, map, List, ◌++◌, ◌∷◌, [], get_or, set, true, ltb, Vec, Global}
use Rattle.std.proofs.lemmas.Bool.Decides.{nat_tests}
use Rattle.std.proofs.lemmas.List.{map-set, length-map, get_or-map}
use Rattle.legs.specs.Places.{places_with}
use Rattle.legs.proofs.list_index.push_place.Goals as goal

-- a row with one place more, in the table of rows
row_more : (vs : List (Vec ℕ Global)) (f place : ℕ) (row new : Vec ℕ Global) → f < length vs → row ≡ get_or vs f row → new.items ≡ row.items ++ place ∷ [] → map (λ (v : Vec ℕ Global). v.items) (set vs f new) ≡ places_with (map (λ (v : Vec ℕ Global). v.items) vs) f place
row_more vs f place row new h at e =
    let items = λ (v : Vec ℕ Global). v.items in
    let n = length-map vs items in
    let yes : ltb f (length (map items vs)) ≡ true = grind (arith, nat_tests) in
    let old : get_or (map items vs) f [] ≡ row.items = get_or-map items vs f row [] h ∙ ap items (sym at) in
    rw yes (map-set items vs f new ∙ ap (set (map items vs) f) (e ∙ ap (λ (xs : List ℕ). xs ++ place ∷ []) (sym old)))

pub returns-in_ok-push : goal.returns-in_ok-push
returns-in_ok-push c =
    row_more c.args.places.now.items c.args.feature c.args.place c.index_mut.result.now c.push.new.self (omega (arith, c.args.places.now.ok.0)) c.index_mut.ensures.value c.in_ok-push.ensures.items
