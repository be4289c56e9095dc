use Rattle.std.proofs.Common.{◌∙◌, ◌++◌, ℕ, List, ap, sym, false}
use Rattle.csv.specs.Records.{fields_of}
use Rattle.parts.specs.Part.{has}
use Rattle.parts.specs.Texts.{PartView, with_fields}
use Rattle.parts.specs.Written.{RecordsView}
use Rattle.parts.proofs.ManyLemmas.{on_ok, text_gone, text_kept}
use Rattle.parts.proofs.texts.PartText.take.Goals as goal

pub returns-then-has : goal.returns-then-has
returns-then-has c =
    let part = c.self.inside.part in
    let text = c.self.inside.records.text in
    let fields = fields_of c.args.row.now in
    let kept = text_kept part c.args.n fields (sym (ap (has part) c.requires.owned) ∙ sym c.has.ensures ∙ c.if-has.true) in
    on_ok c.push.result _ _ c.push.ensures (λ e.
    ap (λ (r : RecordsView). let v : PartView = record { part = part; text = r.text; refused = r.refused } in v) e
    ∙ ap (λ (t : List ℕ). let v : PartView = record { part = part; text = text ++ t; refused = false } in v) kept
    ∙ ap (with_fields c.args.n fields) c.self.view_is)

pub returns-else-has : goal.returns-else-has
returns-else-has c =
    let part = c.self.inside.part in
    let text = c.self.inside.records.text in
    let fields = fields_of c.args.row.now in
    let gone = text_gone part c.args.n fields (sym (ap (has part) c.requires.owned) ∙ sym c.has.ensures ∙ c.if-has.false) in
    on_ok c.push_blank.result _ _ c.push_blank.ensures (λ e.
    ap (λ (r : RecordsView). let v : PartView = record { part = part; text = r.text; refused = r.refused } in v) e
    ∙ ap (λ (t : List ℕ). let v : PartView = record { part = part; text = text ++ t; refused = false } in v) gone
    ∙ ap (with_fields c.args.n fields) c.self.view_is)
