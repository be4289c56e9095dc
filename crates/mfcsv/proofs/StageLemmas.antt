-- What a reader of a file says, as far as it was read.
use Rattle.std.proofs.Common.{[], ◌≡◌, ◌∙◌, ◌⊎◌, ℕ, List, Result, ap, false, inl, inr, refl, subst, sym, true}
use Rattle.mfcsv.specs.Rows.{Row}
use Rattle.mfcsv.specs.Views.{HeadsView}
use Rattle.mfcsv.specs.FileText.{file_with}
use Rattle.mfcsv.specs.Left.{GivesHead, HasNoRecord, LeftView, is_over, text_at, text_left}
use Rattle.mfcsv.specs.declared.Code.{Code}
use Rattle.mfcsv.specs.declared.File.{File}
use Rattle.mfcsv.specs.declared.FileFault.{FileFault}
use Rattle.mfcsv.specs.declared.Head.{Head}
use Rattle.mfcsv.specs.declared.reader.Stage.{Stage}
use Rattle.mfcsv.specs.declared.reader.Stage.TheVariants.{Reading, Over}
use Rattle.mfcsv.proofs.WalkLemmas.{left_end}

over_text : (stage : Stage) (number : ℕ) (heads : HeadsView) (rows : List Row) (view : LeftView) → stage ≡ Over → text_at stage number heads rows ≡ view.text → file_with heads.bounds heads.columns [] ≡ view.text
over_text stage number heads rows view over text = sym (left_end number heads) ∙ ap (λ s. text_at s number heads rows) (sym over) ∙ text

-- no row is left
pub over_reads : (stage : Stage) (number : ℕ) (heads : HeadsView) (rows : List Row) (view : LeftView) → stage ≡ Over → text_at stage number heads rows ≡ view.text → is_over stage ≡ view.is_over → HasNoRecord (file_with heads.bounds heads.columns [])
    → HasNoRecord view.text × (view.text ≡ view.text) × (view.is_over ≡ true)
over_reads stage number heads rows view over text is none = (subst HasNoRecord (over_text stage number heads rows view over text) none, refl, sym is ∙ ap is_over over)

-- the last row was read
pub none_reads : (stage : Stage) (number last : ℕ) (heads heads' : HeadsView) (rows : List Row) (view : LeftView) → stage ≡ Reading → text_at stage number heads rows ≡ view.text → text_left number heads rows ≡ text_left last heads' []
    → HasNoRecord (file_with heads'.bounds heads'.columns []) → HasNoRecord view.text × (text_left last heads' [] ≡ view.text) × (true ≡ true)
none_reads stage number last heads heads' rows view reading text left none =
    let same : text_left last heads' [] ≡ view.text = sym left ∙ ap (λ s. text_at s number heads rows) (sym reading) ∙ text in
    (subst HasNoRecord (sym (left_end last heads') ∙ same) none, same, refl)

-- the head
pub over_head : (stage : Stage) (number : ℕ) (heads : HeadsView) (rows : List Row) (view : LeftView) (r : Result Head FileFault) → (stage ≡ Reading) ⊎ (stage ≡ Over) → text_at stage number heads rows ≡ view.text → is_over stage ≡ view.is_over
    → GivesHead r (file_with heads.bounds heads.columns []) → view.is_over ≡ true → GivesHead r view.text
over_head stage number heads rows view r (inl reading) text is gives over = absurd (let no : false ≡ true = sym (ap is_over reading) ∙ is ∙ over in cc)
over_head stage number heads rows view r (inr last) text is gives over = subst (λ (t : Result File (Code × ℕ)). GivesHead r t) (over_text stage number heads rows view last text) gives
