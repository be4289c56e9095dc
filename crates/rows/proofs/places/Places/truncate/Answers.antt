use Rattle.std.proofs.Common.{get_or, take, sym, ap, ◌∙◌}
use Rattle.std.proofs.lemmas.List.{take-map}
use Rattle.rows.specs.Rows.{places_of}
use Rattle.rows.proofs.places.Places.truncate.Goals as goal

pub returns : goal.returns
returns c =
    let kept = c.self.inside.kept.items in
    ap (λ ns. places_of kept ns) c.truncate.ensures.items
    ∙ sym (take-map (λ n. get_or kept n (record { first = 0; count = 0; blanks = 0 })) c.args.len c.self.inside.numbers.items)
    ∙ ap (take c.args.len) c.self.view_is
