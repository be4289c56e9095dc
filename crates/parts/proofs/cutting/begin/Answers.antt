use Rattle.std.proofs.Common.{◌∙◌, ◌+◌, ap, sym, refl, List, ◌++◌, ◌∷◌, [], map}
use Rattle.std.specs.List.{range_with_len}
use Rattle.std.proofs.lemmas.List.FromFn.{map-range_with_len_more}
use Rattle.parts.specs.Texts.{PartView, begun}
use Rattle.parts.proofs.cutting.begin.Goals as goal

pub loop-place-preserved : goal.loop-place-preserved
loop-place-preserved c =
    c.in_ok-push.ensures.items
    ∙ ap (λ (texts : List PartView). texts ++ (c.in_ok-new.field-0 ∷ [])) c.loop-place.invariant
    ∙ ap (λ (text : PartView). map begun (range_with_len c.args.first c.loop-place.place) ++ (text ∷ [])) c.in_ok-new.ensures
    ∙ sym (map-range_with_len_more begun c.args.first c.loop-place.place (c.args.first + c.loop-place.place) refl)
