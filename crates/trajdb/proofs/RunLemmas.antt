-- Runs over lines, one after another.
use Rattle.std.proofs.Common.{ℕ, zero, suc, ◌+◌, ◌≡◌, ◌∙◌, ◌++◌, ◌∷◌, [], ap, sym, subst, refl, List, length, take, drop, map, arith, true, eqb, get_or, ◌<◌, inl, inr, Result, Ok, Err}
use Rattle.std.specs.Prelude.{◌⊎◌, IsTrue, OnErr, OnOk}
use Rattle.std.proofs.lemmas.Bool.Decides.{nat_tests}
use Rattle.std.proofs.lemmas.List.{append-nil, take-append-drop}
use Rattle.legs.specs.Limits.{LimitsView}
use Rattle.outputs.specs.Output.{HasRefused, IsFlushed, OutputView}
use Rattle.legs.specs.Book.{Book}
use Rattle.trajdb.specs.Script.{lines_of, pieces_of, without_return}
use Rattle.trajdb.specs.Answers.{AcceptsLine, line_book}
use Rattle.trajdb.specs.Run.{AcceptsSome, AnswersLine, DoesAll}

-- named files
abbrev pub Named : Type 0
Named = List (List ℕ × List ℕ)

cons_parts : (x y : List ℕ) (xs ys : List (List ℕ)) → x ∷ xs ≡ y ∷ ys → (x ≡ y) × (xs ≡ ys)
cons_parts x y xs ys e = (cc, cc)

-- one more line, where that line is the next
pub more_lines : (lines : List (List ℕ)) (k : ℕ) (line : List ℕ) (others : List (List ℕ)) → drop k lines ≡ line ∷ others → (take (k + 1) lines ≡ take k lines ++ line ∷ []) × (drop (k + 1) lines ≡ others)
more_lines [] zero line others e = cc
more_lines [] (suc k) line others e = cc
more_lines (x ∷ xs) zero line others e = (ap (λ l. l ∷ []) (cons_parts x line xs others e).0, (cons_parts x line xs others e).1)
more_lines (x ∷ xs) (suc k) line others e =
    let s : suc k + 1 ≡ suc (k + 1) = omega arith in
    let r = more_lines xs k line others e in
    (ap (λ j. take j (x ∷ xs)) s ∙ ap (λ (l : List (List ℕ)). x ∷ l) r.0, ap (λ j. drop j (x ∷ xs)) s ∙ r.1)

-- the next line of what is left
pub next_line : (rest piece others line : List ℕ) → pieces_of rest ≡ piece ∷ pieces_of others → line ≡ without_return piece → lines_of rest ≡ line ∷ lines_of others
next_line rest piece others line e f = ap (map without_return) e ∙ ap (λ l. l ∷ lines_of others) (sym f)

pub nth_line : (lines : List (List ℕ)) (k : ℕ) (line : List ℕ) (others : List (List ℕ)) → drop k lines ≡ line ∷ others → (k < length lines) × (get_or lines k [] ≡ line)
nth_line [] zero line others e = absurd (cc)
nth_line [] (suc k) line others e = absurd (cc)
nth_line (x ∷ xs) zero line others e = (omega arith, (cons_parts x line xs others e).0)
nth_line (x ∷ xs) (suc k) line others e = let r = nth_line xs k line others e in (let l = r.0 in omega (arith, l), r.1)

pub lines_none : lines_of [] ≡ []
unfolding pieces_of
lines_none = refl

pub all_taken : (lines : List (List ℕ)) (k : ℕ) → drop k lines ≡ [] → take k lines ≡ lines
all_taken lines k e = sym (append-nil (take k lines)) ∙ ap (λ l. take k lines ++ l) (sym e) ∙ take-append-drop k lines

pub nil_from_length : {X : Type 0} (xs : List X) → eqb (length xs) 0 ≡ true → xs ≡ []
nil_from_length [] e = refl
nil_from_length (x ∷ xs) e = absurd (grind (arith, nat_tests))

-- an output was flushed, or refused it
pub flushed_or : {T E : Type 0} (r : Result T E) (a b : OutputView) → OnOk r (IsFlushed a b) → OnErr r (HasRefused a b) → IsTrue b.is_flushed ⊎ HasRefused a b
flushed_or (Ok x) a b f h = inl f.flushed
flushed_or (Err e) a b f h = inr h

-- a line is accepted behind others
pub accepts_last : (limits : LimitsView) (files : Named) (book after : Book) (xs : List (List ℕ)) (y text : List ℕ) → DoesAll (AnswersLine limits files) book after xs text → AcceptsSome limits files book xs ⊎ AcceptsLine limits files after y
    → AcceptsSome limits files book (xs ++ y ∷ [])
accepts_last limits files book after [] y text (same, e) (inl h) = absurd h
accepts_last limits files book after [] y text (same, e) (inr a) = inl (subst (λ (b : Book). AcceptsLine limits files b y) same a)
accepts_last limits files book after (x ∷ xs) y text does (inl (inl a)) = inl a
accepts_last limits files book after (x ∷ xs) y text (mid, first, others, e, said, rest) (inl (inr h)) =
    inr (subst (λ (b : Book). AcceptsSome limits files b (xs ++ y ∷ [])) said.1 (accepts_last limits files mid after xs y others rest (inl (subst (λ (b : Book). AcceptsSome limits files b xs) (sym said.1) h))))
accepts_last limits files book after (x ∷ xs) y text (mid, first, others, e, said, rest) (inr a) =
    inr (subst (λ (b : Book). AcceptsSome limits files b (xs ++ y ∷ [])) said.1 (accepts_last limits files mid after xs y others rest (inr a)))

-- what is accepted among the first lines is accepted among all
pub accepts_of_take : (limits : LimitsView) (files : Named) (book : Book) (n : ℕ) (lines : List (List ℕ)) → AcceptsSome limits files book (take n lines) → AcceptsSome limits files book lines
accepts_of_take limits files book zero [] h = absurd h
accepts_of_take limits files book zero (x ∷ xs) h = absurd h
accepts_of_take limits files book (suc n) [] h = absurd h
accepts_of_take limits files book (suc n) (x ∷ xs) (inl a) = inl a
accepts_of_take limits files book (suc n) (x ∷ xs) (inr h) = inr (accepts_of_take limits files (line_book limits files book x) n xs h)
