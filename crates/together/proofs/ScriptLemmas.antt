-- A script over a whole and over its parts.
use Rattle.std.proofs.Common.{[], ◌∷◌, ◌++◌, ◌<◌, ◌≤◌, ◌≡◌, ◌⊎◌, ℕ, ap, sym, refl, subst, arith, inl, inr, List, Option, Some, None, Result, Ok, Err}
use Rattle.std.specs.Prelude.{nat_lt}
use Rattle.std.proofs.lemmas.Bool.{cases_Bool}
use Rattle.std.proofs.lemmas.Bool.Decides.{nat_tests}
use Rattle.mfcsv.specs.FileText.{file_of_bytes}
use Rattle.mfcsv.specs.declared.Code.{Code}
use Rattle.mfcsv.specs.declared.File.{File}
use Rattle.legs.specs.Book.{Book, book_after, joined}
use Rattle.legs.specs.Legs.{LegView}
use Rattle.legs.specs.Limits.{LimitsView}
use Rattle.legs.specs.declared.joining.JoinCode.{JoinCode}
use Rattle.parts.specs.Names.{part_of}
use Rattle.querylang.specs.Line.{line_command}
use Rattle.querylang.specs.declared.LineCode.{LineCode}
use Rattle.querylang.specs.declared.Command.{Command}
use Rattle.querylang.specs.declared.Command.TheVariants.{Load}
use Rattle.trajdb.specs.Answers.{AcceptsLine, AcceptsNamed, AcceptsSaid, IsLineText, book_by, book_with, counts_of, counts_or, joined_counts, line_book, load_of, named_book, said_book}
use Rattle.trajdb.specs.Script.{file_named}
use Rattle.trajdb.specs.Run.{AnswersLine, DoesAll}
use Rattle.trajdb.specs.declared.Counts.{Counts}
use Rattle.together.specs.Loading.{IsPartText, Takes}
use Rattle.together.specs.Parts.{ArePartsOf}
use Rattle.together.specs.Scripts.{AllOrNone, HaveParts, ScriptLaw}
use Rattle.together.proofs.LineLemmas.{line_law}
use Rattle.together.proofs.LoadLemmas.{StayParts, load_one}

-- below n, or not
given : (k n : ℕ) → (k < n) ⊎ (n ≤ k)
given k n = elim (cases_Bool (nat_lt k n)) [
  | inl e ↦ inl (grind (arith, nat_tests))
  | inr e ↦ inr (grind (arith, nat_tests))
]

module _ {A : Type 0} (n : ℕ) (d : A) (P : ℕ → A → Type 0) (all : (k : ℕ) → k < n → (a : A) × P k a) where
  value : (k : ℕ) → (k < n) ⊎ (n ≤ k) → A
  value k (inl less) = (all k less).0
  value k (inr beyond) = d

  holds : (k : ℕ) (at : (k < n) ⊎ (n ≤ k)) → k < n → P k (value k at)
  unfolding value
  holds k (inl less) h = (all k less).1
  holds k (inr beyond) h = absurd (omega arith)

  -- what there is for each number below n is there as a function
  choose : (g : ℕ → A) × ((k : ℕ) → k < n → P k (g k))
  choose = (λ k. value k (given k n), λ k less. holds k (given k n) less)

-- a file that is not accepted leaves the book
after_refused : (limits : LimitsView) (book : Book) (file : File) (r : Result (List LegView) (JoinCode × ℕ)) → joined limits book file ≡ r → ((legs : List LegView) → r ≡ Ok legs → ⊥) → book_after limits book file ≡ book
after_refused limits book file (Ok legs) e none = absurd (none legs refl)
after_refused limits book file (Err fault) e none = rw (e, book_after) refl

refused_by : (limits : LimitsView) (book : Book) (said : Result File (Code × ℕ)) → ((counts : Counts) × (joined_counts limits book said ≡ Ok counts) → ⊥) → book_by limits book said ≡ book
refused_by limits book (Ok file) none = after_refused limits book file (joined limits book file) refl (λ legs e. none (counts_of file legs, ap (counts_or file) e))
refused_by limits book (Err fault) none = refl

refused : (limits : LimitsView) (book : Book) (bytes : List ℕ) → (Takes limits book bytes → ⊥) → book_with limits book bytes ≡ book
unfolding load_of book_with
refused limits book bytes none = refused_by limits book (file_of_bytes bytes) none

refused_named : (limits : LimitsView) (book : Book) (file : Option (List ℕ)) → (AcceptsNamed limits book file → ⊥) → named_book limits book file ≡ book
refused_named limits book (Some bytes) none = refused limits book bytes none
refused_named limits book None none = refl

-- the same books are a whole and its parts
same_parts : (n : ℕ) (whole after : Book) (parts own_after : ℕ → Book) → after ≡ whole → ((k : ℕ) → k < n → own_after k ≡ parts k) → ArePartsOf (part_of n) n whole parts → ArePartsOf (part_of n) n after own_after
same_parts n whole after parts own_after same own_same are = record {
  some = are.some;
  within = are.within;
  whole_told = rw same are.whole_told;
  each = λ k less. rw (same, own_same k less) (are.each k less);
  each_told = λ k less. rw (own_same k less) (are.each_told k less);
}

module _ (n : ℕ) (limits : LimitsView) (own_limits : ℕ → LimitsView) (whole : Book) (parts : ℕ → Book) (are : ArePartsOf (part_of n) n whole parts) where
  -- a file that all accept
  all_accept : (bytes : List ℕ) (own : ℕ → Option (List ℕ)) → ((k : ℕ) → k < n → (text : List ℕ) × (own k ≡ Some text) × IsPartText k n bytes text)
      → Takes limits whole bytes → ((k : ℕ) → k < n → AcceptsNamed (own_limits k) (parts k) (own k))
      → ArePartsOf (part_of n) n (book_with limits whole bytes) (λ k. named_book (own_limits k) (parts k) (own k))
  all_accept bytes own texts takes own_takes =
      let now = λ (k : ℕ) (less : k < n).
      let text = texts k less in
      let own_take : Takes (own_limits k) (parts k) text.0 = subst (λ (it : Option (List ℕ)). AcceptsNamed (own_limits k) (parts k) it) text.1 (own_takes k less) in
      let one = load_one k n whole (parts k) limits (own_limits k) bytes text.0 (record { of = are.each k less; whole_told = are.whole_told; part_told = are.each_told k less }) text.2 takes own_take in
      subst (λ (book : Book). StayParts k n (book_with limits whole bytes) book) (sym (ap (named_book (own_limits k) (parts k)) text.1)) one in
      record {
        some = are.some;
        within = are.within;
        whole_told = (now 0 are.some).whole_told;
        each = λ k less. (now k less).of;
        each_told = λ k less. (now k less).part_told;
      }

  -- one that none accepts
  none_accepts : (file : Option (List ℕ)) (own : ℕ → Option (List ℕ)) → (AcceptsNamed limits whole file → ⊥) → ((k : ℕ) → k < n → AcceptsNamed (own_limits k) (parts k) (own k) → ⊥)
      → ArePartsOf (part_of n) n (named_book limits whole file) (λ k. named_book (own_limits k) (parts k) (own k))
  none_accepts file own none own_none =
      same_parts n whole (named_book limits whole file) parts (λ k. named_book (own_limits k) (parts k) (own k)) (refused_named limits whole file none) (λ k less. refused_named (own_limits k) (parts k) (own k) (own_none k less)) are

  module _ (files : List (List ℕ × List ℕ)) (own_files : ℕ → List (List ℕ × List ℕ)) (have : HaveParts n files own_files) where
    load_keeps : (name : List ℕ) (file : Option (List ℕ)) → file_named files name ≡ file
        → (AcceptsNamed limits whole file × ((k : ℕ) → k < n → AcceptsNamed (own_limits k) (parts k) (file_named (own_files k) name)))
        ⊎ ((AcceptsNamed limits whole file → ⊥) × ((k : ℕ) → k < n → AcceptsNamed (own_limits k) (parts k) (file_named (own_files k) name) → ⊥))
        → ArePartsOf (part_of n) n (named_book limits whole file) (λ k. named_book (own_limits k) (parts k) (file_named (own_files k) name))
    load_keeps name (Some bytes) e (inl all) = all_accept bytes (λ k. file_named (own_files k) name) (λ k less. have name bytes e k less) all.0 all.1
    load_keeps name None e (inl all) = absurd all.0
    load_keeps name file e (inr none) = none_accepts file (λ k. file_named (own_files k) name) none.0 none.1

    said_keeps : (said : Result (Option Command) LineCode)
        → (AcceptsSaid limits files whole said × ((k : ℕ) → k < n → AcceptsSaid (own_limits k) (own_files k) (parts k) said))
        ⊎ ((AcceptsSaid limits files whole said → ⊥) × ((k : ℕ) → k < n → AcceptsSaid (own_limits k) (own_files k) (parts k) said → ⊥))
        → ArePartsOf (part_of n) n (said_book limits files whole said) (λ k. said_book (own_limits k) (own_files k) (parts k) said)
    said_keeps (Ok (Some (Load name))) agree = load_keeps name (file_named files name) refl agree
    said_keeps _ agree = are

    line_keeps : (line : List ℕ) → AllOrNone n limits own_limits files own_files whole parts line → ArePartsOf (part_of n) n (line_book limits files whole line) (λ k. line_book (own_limits k) (own_files k) (parts k) line)
    unfolding AcceptsLine line_book
    line_keeps line agree = said_keeps (line_command line) agree

pub script_law : ScriptLaw
script_law n limits own_limits files own_files whole after parts own_after [] text own are have agree says own_says =
    ((says.1, λ k less. (own_says k less).1), same_parts n whole after parts own_after says.0 (λ k less. (own_says k less).0) are)
script_law n limits own_limits files own_files whole after parts own_after (line ∷ lines) text own are have agree (mid, first, others, is, said, rest) own_says =
    let own_mid : ℕ → Book = λ k. line_book (own_limits k) (own_files k) (parts k) line in
    let P : ℕ → List ℕ × List ℕ → Type 0 = λ k p. (own k ≡ p.0 ++ p.1) × IsLineText (own_limits k) (own_files k) (parts k) line p.0 × DoesAll (AnswersLine (own_limits k) (own_files k)) (own_mid k) (own_after k) lines p.1 in
    let g : (h : ℕ → List ℕ × List ℕ) × ((k : ℕ) → k < n → P k (h k)) =
    choose n ([], []) P (λ k less. let s = own_says k less in ((s.1, s.2), (s.3, s.4.0, subst (λ (b : Book). DoesAll (AnswersLine (own_limits k) (own_files k)) b (own_after k) lines s.2) s.4.1 s.5))) in
    let more = script_law n limits own_limits files own_files (line_book limits files whole line) after own_mid own_after lines others (λ k. (g.0 k).1)
    (line_keeps n limits own_limits whole parts are files own_files have line agree.0) have agree.1 (subst (λ (b : Book). DoesAll (AnswersLine limits files) b after lines others) said.1 rest) (λ k less. (g.1 k less).2) in (
      (
        first,
        others,
        λ k. (g.0 k).0,
        λ k. (g.0 k).1,
        is,
        λ k less. (g.1 k less).0,
        line_law (part_of n) n whole parts limits own_limits files own_files line first (λ k. (g.0 k).0) are said.0 (λ k less. (g.1 k less).1),
        more.0,
      ),
      more.1,
    )
