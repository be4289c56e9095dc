use Rattle.std.proofs.Common.{◌≡◌, Some, take, subst, sym, ap, ◌∙◌}
use Rattle.std.specs.Prelude.{slice_get, option_map}
use Rattle.std.proofs.lemmas.Option.{get_or_from_slice_get, slice_get_within, slice_get-map}
use Rattle.csv.specs.Records.{fields_of}
use Rattle.rows.specs.Rows.{row_of, IsIn}
use Rattle.rows.proofs.RowLemmas.{in-all, row-in-all}
use Rattle.rows.proofs.growing.GrowingRows.row.Goals as goal

pub invariant_of-result : goal.invariant_of-result
invariant_of-result c =
    let values = fields_of c.self.inside.values in
    let first = c.self.inside.first in
    let places = c.self.inside.places in
    let place = c.in_ok-place.place in
    let found : slice_get places c.args.i ≡ Some place = sym c.in_ok-place.ensures in
    in-all values first place (subst (IsIn (take first values)) (get_or_from_slice_get places c.args.i place place found)
    (c.self.invariant.0.rows c.args.i place (slice_get_within places c.args.i place found)))

pub returns : goal.returns
returns c =
    let values = fields_of c.self.inside.values in
    let first = c.self.inside.first in
    let places = c.self.inside.places in
    let place = c.in_ok-place.place in
    let found : slice_get places c.args.i ≡ Some place = sym c.in_ok-place.ensures in
    let inside = subst (IsIn (take first values)) (get_or_from_slice_get places c.args.i place place found)
    (c.self.invariant.0.rows c.args.i place (slice_get_within places c.args.i place found)) in
    ap Some (row-in-all values first place inside)
    ∙ sym (slice_get-map (row_of (take first values)) places c.args.i ∙ ap (option_map (row_of (take first values))) found)
    ∙ ap (λ g. slice_get g.rows c.args.i) c.self.view_is
