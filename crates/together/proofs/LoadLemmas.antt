-- Files that are taken in, one after another.
use Rattle.std.proofs.Common.{[], ◌∷◌, ◌<◌, ◌≡◌, ◌∙◌, ℕ, ap, sym, refl, subst, arith, List, Ok, Err, Result, IfOk}
use Rattle.mfcsv.specs.FileText.{file_of_bytes}
use Rattle.mfcsv.specs.declared.Code.{Code}
use Rattle.mfcsv.specs.declared.File.{File}
use Rattle.legs.specs.Legs.{LegView}
use Rattle.legs.specs.Book.{Book, book_after, file_faults, legs_or_fault, joined, records_legs, with_file}
use Rattle.legs.specs.Limits.{LimitsView}
use Rattle.legs.specs.declared.joining.JoinCode.{JoinCode}
use Rattle.parts.specs.Names.{part_of}
use Rattle.parts.specs.Part.{said_part}
use Rattle.parts.proofs.LeastLemmas.{fault_law}
use Rattle.trajdb.specs.Answers.{book_by, book_with, counts_of, counts_or, joined_counts, load_of}
use Rattle.trajdb.specs.declared.Counts.{Counts}
use Rattle.together.specs.Loading.{ArePartTexts, EmptyLaw, FirstTextLaw, IsPartText, LoadLaw, Takes, TakesAll, TakesLaw, TextLaw, book_of}
use Rattle.together.specs.Parts.{IsPartOf, IsTold, file_part}
use Rattle.together.proofs.FaultLemmas.{accept_law, after_is, stay_law}
use Rattle.together.proofs.LateLemmas.{part_law}

-- a file is taken in where its bytes are read and it is joined
legs_of_counts : (file : File) (r : Result (List LegView) (JoinCode × ℕ)) (counts : Counts) → counts_or file r ≡ Ok counts → (legs : List LegView) × (r ≡ Ok legs)
legs_of_counts file (Ok legs) counts e = (legs, refl)
legs_of_counts file (Err fault) counts e = absurd (cc)

record IsTaken (limits : LimitsView) (book : Book) (said : Result File (Code × ℕ)) : Type 0 where
  file : File
  legs : List LegView
  reads : said ≡ Ok file
  joins : joined limits book file ≡ Ok legs

taken_by : (limits : LimitsView) (book : Book) (said : Result File (Code × ℕ)) (counts : Counts) → joined_counts limits book said ≡ Ok counts → IsTaken limits book said
taken_by limits book (Ok file) counts e =
    let legs = legs_of_counts file (joined limits book file) counts e in
    record { file = file; legs = legs.0; reads = refl; joins = legs.1 }
taken_by limits book (Err fault) counts e = absurd (cc)

taken : (limits : LimitsView) (book : Book) (bytes : List ℕ) → Takes limits book bytes → IsTaken limits book (file_of_bytes bytes)
unfolding load_of
taken limits book bytes takes = taken_by limits book (file_of_bytes bytes) takes.0 takes.1

joined_part : (limits : LimitsView) (part : Book) (said : Result File (Code × ℕ)) (file : File) → IsTaken limits part said → said ≡ Ok file → (legs : List LegView) × (joined limits part file ≡ Ok legs)
joined_part limits part said file is e =
    let same : Ok is.file ≡ Ok file = sym is.reads ∙ e in
    (is.legs, subst (λ (r : Result File (Code × ℕ)). joined_or limits part is.legs r) same is.joins)
  where
    joined_or : LimitsView → Book → List LegView → Result File (Code × ℕ) → Type 0
    joined_or limits part legs (Ok file) = joined limits part file ≡ Ok legs
    joined_or limits part legs (Err fault) = ⊥

book_is : (limits : LimitsView) (book : Book) (bytes : List ℕ) (file : File) → file_of_bytes bytes ≡ Ok file → book_with limits book bytes ≡ book_after limits book file
unfolding book_with
book_is limits book bytes file e = ap (book_by limits book) e

says_of : (k n : ℕ) (bytes own : List ℕ) (file : File) → IsPartText k n bytes own → file_of_bytes bytes ≡ Ok file → file_of_bytes own ≡ Ok (file_part (part_of n) k file)
says_of k n bytes own file text e = subst (λ (said : Result File (Code × ℕ)). IfOk said (λ f. file_of_bytes own ≡ Ok (file_part (part_of n) k f))) e text

pub record StayParts (k n : ℕ) (whole part : Book) : Type 0 where
  pub of : IsPartOf (part_of n) k whole part
  pub whole_told : IsTold whole
  pub part_told : IsTold part

pub load_one : (k n : ℕ) (whole part : Book) (limits own_limits : LimitsView) (bytes own : List ℕ) → StayParts k n whole part → IsPartText k n bytes own → Takes limits whole bytes → Takes own_limits part own
    → StayParts k n (book_with limits whole bytes) (book_with own_limits part own)
load_one k n whole part limits own_limits bytes own is text takes own_takes =
    let t = taken limits whole bytes takes in
    let says : file_of_bytes own ≡ Ok (file_part (part_of n) k t.file) = says_of k n bytes own t.file text t.reads in
    let j = joined_part own_limits part (file_of_bytes own) (file_part (part_of n) k t.file) (taken own_limits part own own_takes) says in
    let a : book_with limits whole bytes ≡ with_file whole t.file = book_is limits whole bytes t.file t.reads ∙ after_is limits whole t.file t.legs t.joins in
    let b : book_with own_limits part own ≡ with_file part (file_part (part_of n) k t.file) = book_is own_limits part own (file_part (part_of n) k t.file) says ∙ after_is own_limits part (file_part (part_of n) k t.file) j.0 j.1 in
    let c = book_is limits whole bytes t.file t.reads in
    let d = book_is own_limits part own (file_part (part_of n) k t.file) says in
    let later = part_law (part_of n) k whole part t.file.records is.of is.whole_told is.part_told in
    let after = stay_law (part_of n) k whole part limits own_limits t.file t.legs j.0 is.of is.whole_told is.part_told t.joins j.1 in
    record {
      of = rw (c, d) after;
      whole_told = rw a (record { distinct = later.1.distinct; there = λ i d less. let h = later.1.there i d less in record { feature = h.feature; row = h.row } });
      part_told = rw b (record { distinct = later.2.distinct; there = λ i d less. let h = later.2.there i d less in record { feature = h.feature; row = h.row } });
    }

load_all : (k n : ℕ) (whole part : Book) (limits own_limits : LimitsView) (files owns : List (List ℕ)) → StayParts k n whole part → ArePartTexts k n files owns → TakesAll limits whole files → TakesAll own_limits part owns
    → StayParts k n (book_of limits whole files) (book_of own_limits part owns)
load_all k n whole part limits own_limits [] owns is texts takes own_takes = subst (λ (l : List (List ℕ)). StayParts k n whole (book_of own_limits part l)) (sym texts) is
load_all k n whole part limits own_limits (bytes ∷ files) [] is texts takes own_takes = absurd texts
load_all k n whole part limits own_limits (bytes ∷ files) (own ∷ owns) is texts takes own_takes =
    load_all k n (book_with limits whole bytes) (book_with own_limits part own) limits own_limits files owns
    (load_one k n whole part limits own_limits bytes own is texts.0 takes.0 own_takes.0) texts.1 takes.1 own_takes.1

pub load_law : LoadLaw
load_law k n whole part limits own_limits files owns of is own_is texts takes own_takes =
    let now = load_all k n whole part limits own_limits files owns (record { of = of; whole_told = is; part_told = own_is }) texts takes own_takes in
    (now.of, now.whole_told, now.part_told)

pub empty_law : EmptyLaw
empty_law k n = (
  record { head = refl; names = refl; legs = refl },
  record { distinct = λ i j d e less. absurd (omega arith); there = λ i d less. absurd (omega arith) },
)

pub text_law : TextLaw
unfolding load_of
text_law k n limits own_limits whole part bytes own fault text e =
    let own_fault : file_of_bytes own ≡ Err fault = text ∙ ap (said_part k n) e in
    ap (joined_counts own_limits part) own_fault ∙ sym (ap (joined_counts limits whole) e)

pub first_text_law : FirstTextLaw
unfolding load_of
first_text_law n limits own_limits whole parts bytes fault some e =
    let law = fault_law n bytes fault some e in
    let first = law.0 in (
      (first.0, first.1, ap (joined_counts (own_limits first.0) (parts first.0)) first.2 ∙ sym (ap (joined_counts limits whole) e)),
      law.1,
    )

-- a file without a fault is taken in, and one that is taken in has none
no_fault : (faults : List (JoinCode × ℕ)) (all legs : List LegView) → legs_or_fault faults all ≡ Ok legs → faults ≡ []
no_fault [] all legs e = refl
no_fault (fault ∷ faults) all legs e = absurd (cc)

takes_without : (limits : LimitsView) (book : Book) (bytes : List ℕ) (file : File) → file_of_bytes bytes ≡ Ok file → file_faults limits book file ≡ [] → Takes limits book bytes
unfolding load_of
takes_without limits book bytes file e none =
    let all = records_legs book file.records in
    (counts_of file all, ap (joined_counts limits book) e ∙ ap (λ (faults : List (JoinCode × ℕ)). counts_or file (legs_or_fault faults all)) none)

has_none : (limits : LimitsView) (book : Book) (bytes : List ℕ) (file : File) → file_of_bytes bytes ≡ Ok file → Takes limits book bytes → file_faults limits book file ≡ []
has_none limits book bytes file e takes =
    let joins = joined_part limits book (file_of_bytes bytes) file (taken limits book bytes takes) e in
    no_fault (file_faults limits book file) (records_legs book file.records) joins.0 joins.1

pub takes_law : TakesLaw
takes_law n limits own_limits whole parts bytes own file are texts e fits own_fits =
    let accepts = accept_law (part_of n) n whole parts limits own_limits file are fits own_fits in
    let says = λ (k : ℕ) (less : k < n). says_of k n bytes (own k) file (texts k less) e in (
      λ takes k less.
          takes_without (own_limits k) (parts k) (own k) (file_part (part_of n) k file) (says k less) (accepts.0 (has_none limits whole bytes file e takes) k less),
      λ takes.
          takes_without limits whole bytes file e (accepts.1 (λ k less. has_none (own_limits k) (parts k) (own k) (file_part (part_of n) k file) (says k less) (takes k less))),
    )
