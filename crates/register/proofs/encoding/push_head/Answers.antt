use Rattle.std.proofs.Common.{ap, ◌∙◌, arith, subst, FitsSigned}
use Rattle.std.specs.Int.{w64}
use Rattle.std.proofs.lemmas.Int.{to_z-of_z, ints}
use Rattle.tbnode.specs.Parts.{signed_bytes}
use Rattle.register.specs.Text.{columns_text, short_text, space_text, IsShortText}
use Rattle.register.specs.Saved.{head_of}
use Rattle.register.proofs.EncodingLemmas.{extended, then_pushed}
use Rattle.register.proofs.ReaderLemmas.{on_ok}
use Rattle.register.proofs.encoding.push_head.Goals as goal

pub returns : goal.returns
returns c =
    let w = c.args.writer.now in
    let head = c.args.head.now in
    let value = c.millis.ensures.value in
    let moment = c.millis.ensures.moment in
    let fits : FitsSigned w64 c.millis.result = search (arith, ints) in
    let base = c.in_ok-push_i64.ensures ∙ ap (λ z. extended w (signed_bytes z)) (to_z-of_z w64 c.millis.result fits ∙ value) in
    let crs = c.in_ok-push_text.ensures.pushed ∙ ap (λ t. extended c.push_i64.new.writer (short_text t)) c.as_str.ensures in
    let space = then_pushed c.push_columns.result c.push_i64.new.writer c.push_text.new.writer c.push_columns.new.writer (short_text head.crs) (columns_text head.columns) crs c.push_columns.ensures.pushed in
    let whole : FitsSigned w64 head.base = subst (FitsSigned w64) value fits in
    record {
      pushed = then_pushed c.push_columns.result w c.push_i64.new.writer c.push_columns.new.writer (signed_bytes head.base) (space_text (head_of head).space) base space;
      whole = on_ok c.push_columns.result (λ columns. record { base = whole; space = record { crs = subst IsShortText c.as_str.ensures c.in_ok-push_text.ensures.whole; columns = columns } }) c.push_columns.ensures.whole;
    }
