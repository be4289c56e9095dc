-- What the reading of a file answers, from what is left of it.
use Rattle.std.proofs.Common.{[], ◌∷◌, ◌++◌, ◌≡◌, ◌∙◌, ℕ, List, Ok, Err, Result, ap, sym}
use Rattle.mfcsv.specs.Rows.{Row}
use Rattle.mfcsv.specs.Unread.{FailsAt}
use Rattle.mfcsv.specs.Views.{HeadsView, RecordView}
use Rattle.mfcsv.specs.FileText.{first_fault}
use Rattle.mfcsv.specs.Answer.{FaultIs, RowFaultIs, fault_at}
use Rattle.mfcsv.specs.Left.{text_left, with_all, with_first}
use Rattle.mfcsv.specs.declared.Code.{Code}
use Rattle.mfcsv.specs.declared.Code.TheVariants.{F1}
use Rattle.mfcsv.specs.declared.File.{File}
use Rattle.mfcsv.specs.declared.Head.{Head}
use Rattle.mfcsv.specs.declared.FileFault.{FileFault}
use Rattle.mfcsv.specs.declared.FileFault.TheVariants as file
use Rattle.mfcsv.specs.declared.rows.RowFault.{RowFault}
use Rattle.mfcsv.specs.declared.rows.RowFault.TheVariants.{Refused, Memory}
use Rattle.mfcsv.proofs.FaultLemmas.{no_text_fault}
use Rattle.mfcsv.proofs.WalkLemmas.{all_head, all_more, left_fault}

-- at a record that is no text
pub read_fails : (number : ℕ) (heads : HeadsView) (left : List Row) (fault : RowFault) (text : Result File (Code × ℕ)) → text ≡ text_left number heads left → FailsAt fault left → FaultIs (fault_at number fault) text
read_fails number heads left Memory text t f = tt
read_fails number heads left (Refused code) text t f =
    let row : Row = f.1.0 in
    t ∙ ap (text_left number heads) f.1.2 ∙ left_fault number heads row f.1.1 F1 (no_text_fault heads row f.1.3) ∙ ap (λ c. Err (c, number)) (sym f.0)

-- at a record that is refused
pub row_fails : (number : ℕ) (heads : HeadsView) (left rest : List Row) (row : Row) (fault : RowFault) (text : Result File (Code × ℕ)) → text ≡ text_left number heads left → left ≡ row ∷ rest → RowFaultIs fault (first_fault heads row)
    → FaultIs (fault_at number fault) text
row_fails number heads left rest row Memory text t l f = tt
row_fails number heads left rest row (Refused code) text t l f = t ∙ ap (text_left number heads) l ∙ left_fault number heads row rest code f

-- the records that were read, in front of what is left
pub all_fails : (fault : FileFault) (records : List RecordView) (left text : Result File (Code × ℕ)) → with_all records left ≡ text → FaultIs fault left → FaultIs fault text
all_fails file.Memory records left text t f = tt
all_fails (file.Refused code number) records left text t f = sym t ∙ ap (with_all records) f

pub read_so_far : (records more : List RecordView) (r : RecordView) (left rest text : Result File (Code × ℕ)) → with_all records left ≡ text → left ≡ with_first r rest → more ≡ records ++ r ∷ [] → with_all more rest ≡ text
read_so_far records more r left rest text t l m = ap (λ rs. with_all rs rest) m ∙ sym (all_more records r rest) ∙ sym (ap (with_all records) l) ∙ t

-- and behind the last one the head
pub all_read : (records all : List RecordView) (head : Head) (left over text : Result File (Code × ℕ)) → with_all records left ≡ text → over ≡ left → over ≡ Ok (record { head = head; records = [] }) → all ≡ records
    → text ≡ Ok (record { head = head; records = all })
all_read records all head left over text t o h a =
    sym t ∙ all_head records head left (sym o ∙ h) ∙ ap (λ (rs : List RecordView). Ok (record { head = head; records = rs })) (sym a)
