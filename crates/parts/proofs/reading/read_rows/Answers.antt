use Rattle.std.proofs.Common.{◌∙◌, ap, Some, inr}
use Rattle.csv.specs.Reading.{strip_bom}
use Rattle.mfcsv.proofs.UnreadLemmas.{starts}
use Rattle.parts.proofs.ReadLemmas.{starts_raw}
use Rattle.parts.proofs.reading.read_rows.Goals as goal

pub returns-clause-between : goal.returns-clause-between
returns-clause-between c =
    let fr = c.from_reader.ensures in
    let trim = rw (c.flexible.ensures, c.has_headers.ensures) at fr.trim in
    let config = rw (c.flexible.ensures, c.has_headers.ensures) at fr.config in
    let flexible = rw c.flexible.ensures at fr.flexible in
    let named = rw (c.flexible.ensures, c.has_headers.ensures) at fr.has_headers in
    let is = starts c.from_reader.result c.args.bytes.now (config ∙ c.new.ensures.config) (trim ∙ c.new.ensures.trim) flexible (inr (inr (named, fr.headers)))
    (fr.source ∙ ap (λ bytes. Some (strip_bom bytes)) c.without_marks.ensures) fr.state in
    is.0

pub returns-clause-rows : goal.returns-clause-rows
returns-clause-rows c =
    let fr = c.from_reader.ensures in
    starts_raw c.from_reader.result c.args.bytes.now (fr.source ∙ ap (λ bytes. Some (strip_bom bytes)) c.without_marks.ensures) fr.state
