use Rattle.std.proofs.Common.{ℕ, ◌≡◌, ◌∙◌, ap, sym, subst, refl, inl, inr, true, false, List, Option, Some, Result, Ok, Err, IfOk}
use Rattle.std.specs.Prelude.{◌⊎◌, ◌↔◌, IsTrue, is_some}
use Rattle.std.specs.Global.{Vec}
use Rattle.legs.specs.declared.listed.Listed.{Ghosts}
use Rattle.querylang.specs.declared.Command.TheVariants.{Load}
use Rattle.trajdb.specs.Answers.{AcceptsNamed, IsCountsText, IsFileRefusal, counts_text, load_of, load_text, named_book, named_text}
use Rattle.trajdb.specs.Database.{CoreView, IsSound, IsTold}
use Rattle.trajdb.specs.Promises.{CommandCall, LoadCall}
use Rattle.trajdb.specs.Script.{file_named}
use Rattle.trajdb.specs.Telling.{IsToldLoad}
use Rattle.trajdb.specs.declared.Counts.{Counts}
use Rattle.trajdb.specs.declared.FileCode.{FileCode}
use Rattle.trajdb.specs.declared.LoadFault.{LoadFault}
use Rattle.trajdb.specs.declared.LoadFault.TheVariants.{Refused}
use Rattle.trajdb.proofs.PageLemmas.{clash}
use Rattle.trajdb.proofs.database.Core.load_text.Goals.{in-Ok, in-Err-Refused}
use Rattle.trajdb.proofs.database.Core.load_text.Goals as goal

-- what holds of an answer that is there
ok_of : {T E : Type 0} (r s : Result T E) (t : T) (P : T → Type 0) → s ≡ r → s ≡ Ok t → IfOk r P → P t
ok_of r s t P a b h = subst (λ r. IfOk r P) (sym a ∙ b) h

-- the file is there, and `load` of it told
module _ {I : Type 0} (g : Ghosts I) (files : List (List ℕ × List ℕ)) (old new : CoreView I) (name bytes : List ℕ) (answer : Vec ℕ) (there : file_named files name ≡ Some bytes) (alive : old.failed ≡ false) where
  of_file : (P : Option (List ℕ) → Type 0) → P (Some bytes) → P (file_named files name)
  of_file P h = subst P (sym there) h

  answered : (result : Result Counts LoadFault) (told : Result Counts (FileCode × ℕ)) → LoadCall g old new bytes result → IsTold result → (IsSound g old → load_of old.limits old.book bytes ≡ told)
      → IsCountsText answer.items ⊎ IsFileRefusal answer.items → answer.items ≡ load_text told → (IsSound g old → (new.begun ≡ true) ↔ ((old.begun ≡ true) ⊎ AcceptsNamed old.limits old.book (Some bytes)))
      → CommandCall g files old new (Load name) (Ok answer)
  answered result told call is_told gives shows is starts = record {
    text = λ s. of_file (λ o. answer.items ≡ named_text old.limits old.book o) (is ∙ ap load_text (sym (gives s)));
    becomes = λ s. of_file (λ o. IsSound g new × (new.book ≡ named_book old.limits old.book o)) (call.becomes is_told s);
    lives = call.lives is_told;
    says = of_file (λ o. IsToldLoad g old o answer.items) shows;
    named = tt;
    asks = λ s. tt;
    later = call.later;
    question = λ none. absurd (none (of_file (λ o. IsTrue (is_some o)) refl));
    refused = tt;
    failed = tt;
    full = λ e. absurd cc;
    stopped = tt;
    begins = λ s. of_file (λ o. (new.begun ≡ true) ↔ ((old.begun ≡ true) ⊎ AcceptsNamed old.limits old.book o)) (starts s);
    only = λ s. of_file (λ o. new.begun ≡ true → (old.begun ≡ true) ⊎ AcceptsNamed old.limits old.book o) (starts s).0;
    pages = call.pages;
    was_failed = λ f. absurd (clash old.failed f alive);
  }

  accepted : (counts : Counts) → LoadCall g old new bytes (Ok counts) → answer.items ≡ counts_text counts → CommandCall g files old new (Load name) (Ok answer)
  accepted counts call is = answered (Ok counts) (Ok counts) call tt call.counts (inl (counts, is)) is (λ s. (λ b. inr (counts, call.counts s), λ h. call.begun))

  refuses : (code : FileCode) (number : ℕ) → LoadCall g old new bytes (Err (Refused code number)) → answer.items ≡ load_text (Err (code, number)) → CommandCall g files old new (Load name) (Ok answer)
  refuses code number call is = answered (Err (Refused code number)) (Err (code, number)) call tt call.counts (inr ((code, number), is)) is starts where
    same : new.begun ≡ old.begun
    same = ap (λ (c : CoreView I). c.begun) (call.refused tt)

    starts : IsSound g old → (new.begun ≡ true) ↔ ((old.begun ≡ true) ⊎ AcceptsNamed old.limits old.book (Some bytes))
    starts s = (λ b. inl (sym same ∙ b), λ h. elim h [ inl b ↦ same ∙ b | inr a ↦ (let w = sym (call.counts s) ∙ a.1 in absurd cc) ])

pub returns-in-Ok-text : goal.returns-in-Ok-text
returns-in-Ok-text g c =
    let there : file_named c.args.files.now c.args.name.now ≡ Some c.in-Some.bytes.now = sym c.in-Some.ensures in
    elim c.match-load.branch [
      | in-Ok w ↦ accepted g.I.Listed c.args.files.now c.args.self.now c.load.new.self c.args.name.now c.in-Some.bytes.now c.in-Ok-text.text there c.requires w.in-Ok.counts w.in-Ok.ensures
          (ok_of w.counts_text-text.result c.match-load.text c.in-Ok-text.text (λ text. text.items ≡ counts_text w.in-Ok.counts) w.text-is c.in-Ok-text.is w.counts_text-text.ensures)
      | in-Err-Refused w ↦ refuses g.I.Listed c.args.files.now c.args.self.now c.load.new.self c.args.name.now c.in-Some.bytes.now c.in-Ok-text.text there c.requires w.in-Err-Refused.code w.in-Err-Refused.number
          (subst (λ (f : LoadFault). LoadCall g.I.Listed c.args.self.now c.load.new.self c.in-Some.bytes.now (Err f)) w.in-Err-Refused.field-0-is w.in-Err-Refused.ensures)
          (ok_of w.file_refusal_text-text.result c.match-load.text c.in-Ok-text.text (λ text. text.items ≡ load_text (Err (w.in-Err-Refused.code, w.in-Err-Refused.number))) w.text-is c.in-Ok-text.is w.file_refusal_text-text.ensures)
    ]
