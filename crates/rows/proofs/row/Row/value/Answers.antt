use Rattle.std.proofs.Common.{◌≡◌, ◌<◌, ◌+◌, length, get_or, [], IsUtf8, subst, sym, ap, ◌∙◌, arith}
use Rattle.csv.specs.Records.{fields_of}
use Rattle.csv.proofs.RecordFacts.{field-get, field-there}
use Rattle.rows.proofs.RowLemmas.{value-kept, value-text}
use Rattle.rows.proofs.row.Row.value.Goals as goal

pub returns-in-Ok : goal.returns-in-Ok
returns-in-Ok c =
    let values = fields_of c.self.inside.values.now in
    let place = c.self.inside.place in
    let at : c.saturating_add.result ≡ place.first + c.args.i = omega (arith, c.saturating_add.ensures, c.in-Some.ensures.place.1) in
    c.in-Ok.ensures.cases.0
    ∙ sym (field-get values c.saturating_add.result c.in-Some.value.now (sym c.in-Some.ensures.value))
    ∙ ap (λ n. get_or values n []) at
    ∙ sym (value-kept values place c.args.i c.self.invariant c.if-i-self.false)
    ∙ ap (λ row. get_or row c.args.i []) c.self.view_is

pub returns-in-Err : goal.returns-in-Err
returns-in-Err c =
    let values = fields_of c.self.inside.values.now in
    let place = c.self.inside.place in
    let at : c.saturating_add.result ≡ place.first + c.args.i = omega (arith, c.saturating_add.ensures, c.in-Some.ensures.place.1) in
    let is : c.in-Some.value.now ≡ get_or values (place.first + c.args.i) [] =
    sym (field-get values c.saturating_add.result c.in-Some.value.now (sym c.in-Some.ensures.value))
    ∙ ap (λ n. get_or values n []) at in
    let no = c.in-Err.ensures.cases.0 in
    absurd (no (subst IsUtf8 (sym is) (value-text values place c.args.i c.self.invariant c.if-i-self.false)))

pub returns-in-None : goal.returns-in-None
returns-in-None c =
    let values = fields_of c.self.inside.values.now in
    let inside : c.saturating_add.result < length values = omega (arith, c.saturating_add.ensures, c.self.invariant.inside, c.if-i-self.false) in
    absurd (field-there values c.saturating_add.result inside (sym c.in-None.ensures.value))
