use Rattle.std.proofs.Common.{arith, ◌≤◌, ◌<◌, ℕ, ◌∙◌, ap, sym, length, List, [], map, get_or, Vec, Global}
use Rattle.std.proofs.lemmas.List.{get_or-map, length-map}
use Rattle.legs.specs.Places.{ListView, ArePlaces}
use Rattle.legs.proofs.PlaceLemmas.{row_of, no_row_of}
use Rattle.legs.proofs.list_index.ListIndex.legs_of.Goals as goal

the_row : (c : goal.After-as_slice) → ArePlaces c.self.inside.legs.items c.args.feature c.as_slice.result.now
the_row c =
    let look = c.in-Some.ensures.lookup in
    let items = λ (v : Vec ℕ Global). v.items in
    let below : c.args.feature < length c.self.inside.places.items = rw c.deref.ensures.value at look.3.0 in
    let n = length-map c.self.inside.places.items items in
    row_of c.self.inside.legs.items (map items c.self.inside.places.items) c.args.feature c.as_slice.result.now
    (c.self.invariant (ap (λ (v : ListView). v.spent) c.self.view_is ∙ c.requires)) (omega arith)
    (c.as_slice.ensures.value ∙ ap items look.1 ∙ ap (λ (vs : List (Vec ℕ Global)). (get_or vs c.args.feature c.in-Some.places.now).items) c.deref.ensures.value
    ∙ sym (get_or-map items c.self.inside.places.items c.args.feature c.in-Some.places.now [] below))

pub legs_at-requires : goal.legs_at-requires
legs_at-requires c = rw (← c.self.view_is) (the_row c).within

pub returns-in-None : goal.returns-in-None
returns-in-None c =
    let look = c.in-None.ensures.lookup in
    let items = λ (v : Vec ℕ Global). v.items in
    let n = length-map c.self.inside.places.items items in
    let past : length c.self.inside.places.items ≤ c.args.feature = rw c.deref.ensures.value at look.3 in
    rw (← c.self.view_is) (c.new.ensures.items ∙ sym (no_row_of c.self.inside.legs.items (map items c.self.inside.places.items) c.args.feature (c.self.invariant (ap (λ (v : ListView). v.spent) c.self.view_is ∙ c.requires)) (omega arith)))
