use Rattle.std.proofs.Common.{List, ◌≡◌, ◌++◌, ◌∷◌, ◌-◌, [], length, take, replicate, subst, sym, ap, ◌∙◌, arith}
use Rattle.csv.specs.Records.{fields_of}
use Rattle.rows.specs.Rows.{rows_at, grown, AreGrown}
use Rattle.rows.specs.declared.row.RowPlace.{RowPlace}
use Rattle.rows.proofs.GrowingLemmas.{place-in, row-is, known-in, known-row, new-in, new-row}
use Rattle.rows.proofs.growing.GrowingRows.end_row_with.Goals as goal

pub find-requires : goal.find-requires
find-requires c =
    let values = fields_of c.self.inside.values in
    let place : RowPlace = record { first = c.self.inside.first; count = c.in-Ok.count; blanks = c.args.blanks } in
    place-in values c.self.inside.places place c.self.invariant.0 (omega (arith, c.in-Ok.ensures, c.len-end.ensures))

pub returns-in-Some-clause-ended : goal.returns-in-Some-clause-ended
returns-in-Some-clause-ended c =
    let values = fields_of c.self.inside.values in
    let places : List RowPlace = c.self.inside.places in
    let first = c.self.inside.first in
    let place : RowPlace = record { first = first; count = c.in-Ok.count; blanks = c.args.blanks } in
    let count : place.count ≡ length values - place.first = omega (arith, c.in-Ok.ensures, c.len-end.ensures) in
    c.let_go.ensures
    ∙ ap (λ (ps : List RowPlace). record { rows = rows_at (take first values) ps; row = [] }) c.in_ok-push.ensures.pushed
    ∙ ap (λ rs. record { rows = rs; row = [] }) (known-row (take first values) places c.in-Some.known)
    ∙ ap (λ r. record { rows = rows_at (take first values) places ++ r ∷ []; row = [] }) (c.in-Some.ensures.1 ∙ row-is values place count)
    ∙ ap (λ g. record { rows = g.rows ++ (g.row ++ replicate c.args.blanks []) ∷ []; row = [] }) c.self.view_is

pub returns-clause-ended : goal.returns-clause-ended
returns-clause-ended c =
    let values = fields_of c.self.inside.values in
    let places : List RowPlace = c.self.inside.places in
    let first = c.self.inside.first in
    let place : RowPlace = record { first = first; count = c.in-Ok.count; blanks = c.args.blanks } in
    let count : place.count ≡ length values - place.first = omega (arith, c.in-Ok.ensures, c.len-end.ensures) in
    ap (λ (ps : List RowPlace). grown values ps c.len-end.result) c.in_ok-push-2.ensures.pushed
    ∙ ap (λ n. grown values (places ++ place ∷ []) n) c.len-end.ensures
    ∙ new-row values places place first c.self.invariant.0
    ∙ ap (λ r. record { rows = rows_at (take first values) places ++ r ∷ []; row = [] }) (row-is values place count)
    ∙ ap (λ g. record { rows = g.rows ++ (g.row ++ replicate c.args.blanks []) ∷ []; row = [] }) c.self.view_is

pub invariant_of-self-in-Some : goal.invariant_of-self-in-Some
invariant_of-self-in-Some c =
    let values = fields_of c.self.inside.values in
    let places : List RowPlace = c.self.inside.places in
    let first = c.self.inside.first in (
      subst (λ (ps : List RowPlace). AreGrown values ps first) (sym c.in_ok-push.ensures.pushed) (known-in values places c.in-Some.known first c.self.invariant.0 c.in-Some.ensures.0),
      c.self.invariant.1,
    )

pub invariant_of-self-2 : goal.invariant_of-self-2
invariant_of-self-2 c =
    let values = fields_of c.self.inside.values in
    let places : List RowPlace = c.self.inside.places in
    let first = c.self.inside.first in
    let place : RowPlace = record { first = first; count = c.in-Ok.count; blanks = c.args.blanks } in
    let count : place.count ≡ length values - place.first = omega (arith, c.in-Ok.ensures, c.len-end.ensures) in (
      subst (λ n. AreGrown values c.push-2.new.self n) (sym c.len-end.ensures)
          (subst (λ (ps : List RowPlace). AreGrown values ps (length values)) (sym c.in_ok-push-2.ensures.pushed)
          (new-in values places place first c.self.invariant.0 (place-in values places place c.self.invariant.0 count))),
      c.self.invariant.1,
    )
