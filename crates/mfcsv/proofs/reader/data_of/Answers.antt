use Rattle.std.proofs.Common.{◌≡◌, ◌∷◌, [], length, Some}
use Rattle.mfcsv.specs.Unread.{cells}
use Rattle.mfcsv.specs.Views.{RecordView}
use Rattle.mfcsv.specs.DataRecord.{record_of}
use Rattle.mfcsv.specs.FileText.{first_fault, line_of, records_of}
use Rattle.mfcsv.specs.Answer.{data_fault}
use Rattle.mfcsv.proofs.AnswerLemmas.{judges_same}
use Rattle.mfcsv.proofs.FaultLemmas.{data_records, early_data, later_data}
use Rattle.mfcsv.proofs.reader.data_of.Goals as goal

pub returns-in-Some : goal.returns-in-Some
returns-in-Some c =
    let g = c.in-Some.ensures in
    let row = cells c.args.row.now in
    let heads = c.args.heads.now in
    let number = c.args.number in
    let clock = c.in-Some.given.clock in
    let columns = length c.in-Some.given.columns.now in
    let later = later_data heads row c.in-Some.given.dimension clock columns c.requires.text c.requires.kind g.0 g.1 g.2 g.3 in
    judges_same c.read_record.result (first_fault heads row) (data_fault (Some c.in-Some.given.dimension) (Some clock) columns row)
    (λ (r : RecordView). record_of number (Some c.in-Some.given.dimension) (Some clock) columns row ≡ Some r) (λ (r : RecordView). records_of (line_of number heads row) ≡ r ∷ []) later
    (λ r e. data_records number heads row c.in-Some.given.dimension clock columns r c.requires.kind g.1 g.2 g.3 e) c.read_record.ensures

pub returns-in-None : goal.returns-in-None
returns-in-None c = early_data c.args.heads.now (cells c.args.row.now) c.requires.text c.requires.kind c.in-None.ensures
