use Rattle.std.proofs.Common.{List, ◌≡◌, ◌++◌, ◌∷◌, [], Some, length, sym, ap, ◌∙◌, arith}
use Rattle.std.specs.Prelude.{slice_get}
use Rattle.rows.specs.Rows.{places_of}
use Rattle.rows.specs.declared.row.RowPlace.{RowPlace}
use Rattle.rows.proofs.PlaceLemmas.{known-place, new-place, places-stay, on-err}
use Rattle.rows.proofs.places.Places.push.Goals as goal

pub returns-in-Some-clause-pushed : goal.returns-in-Some-clause-pushed
returns-in-Some-clause-pushed c =
    let kept : List RowPlace = c.self.inside.kept.items in
    let numbers = c.self.inside.numbers.items in
    let found : slice_get kept c.in-Some.number ≡ Some c.args.place = ap (λ (ps : List RowPlace). slice_get ps c.in-Some.number) (sym c.as_slice.ensures.value) ∙ c.in-Some.ensures in
    ap (λ ns. places_of kept ns) c.in_ok-push.ensures.items
    ∙ known-place kept numbers c.in-Some.number c.args.place found
    ∙ ap (λ (ps : List RowPlace). ps ++ c.args.place ∷ []) c.self.view_is

pub returns-in_err-push-3-clause-stays : goal.returns-in_err-push-3-clause-stays
returns-in_err-push-3-clause-stays c =
    let kept : List RowPlace = c.self.inside.kept.items in
    let numbers = c.self.inside.numbers.items in
    on-err c.from_residual-in_err-push-3.result _
    (ap (λ (ks : List RowPlace). places_of ks c.push-3.new.self.items) c.in_ok-push-2.ensures.items
    ∙ ap (λ ns. places_of (kept ++ c.args.place ∷ []) ns) c.in_err-push-3.ensures.items
    ∙ places-stay kept (c.args.place ∷ []) numbers c.self.invariant
    ∙ c.self.view_is)

pub returns-clause-pushed : goal.returns-clause-pushed
returns-clause-pushed c =
    let kept : List RowPlace = c.self.inside.kept.items in
    let numbers = c.self.inside.numbers.items in
    let last : c.in-Ok.number ≡ length kept = omega (arith, c.in-Ok.ensures, c.len.ensures, c.self.inside.kept.ok.0) in
    ap (λ (ks : List RowPlace). places_of ks c.push-3.new.self.items) c.in_ok-push-2.ensures.items
    ∙ ap (λ ns. places_of (kept ++ c.args.place ∷ []) ns) c.in_ok-push-3.ensures.items
    ∙ new-place kept numbers c.in-Ok.number c.args.place c.self.invariant last
    ∙ ap (λ (ps : List RowPlace). ps ++ c.args.place ∷ []) c.self.view_is
