-- The first line of a text, and those behind it.
use Rattle.std.proofs.Common.{ℕ, zero, suc, ◌+◌, ◌<◌, ◌≡◌, ◌∙◌, ◌∷◌, [], ap, sym, refl, List, length, map, take, drop, Bool, true, false, cond, arith, inl, inr, ◌⊎◌}
use Rattle.std.specs.List.{position_or_len, before_first, after_first}
use Rattle.trajdb.specs.Calls.{HasLoad, IsLoadLine}
use Rattle.trajdb.specs.Script.{lines_of, pieces_of, onto_first, is_line_end, without_return}

cases_bool : (b : Bool) → (b ≡ true) ⊎ (b ≡ false)
cases_bool true = inl refl
cases_bool false = inr refl

lines_none : (c : ℕ) → onto_first c (pieces_of []) ≡ (c ∷ take 0 []) ∷ pieces_of (drop (0 + 1) [])
unfolding pieces_of
lines_none c = refl

at_end : (c : ℕ) (cs : List ℕ) → is_line_end c ≡ true → pieces_of (c ∷ cs) ≡ before_first is_line_end (c ∷ cs) ∷ pieces_of (after_first is_line_end (c ∷ cs))
unfolding pieces_of
at_end c cs e = rw e refl

past : (c : ℕ) (cs : List ℕ) (p : ℕ) → is_line_end c ≡ false → p ≡ position_or_len is_line_end cs → onto_first c (pieces_of cs) ≡ (c ∷ take p cs) ∷ pieces_of (drop (p + 1) cs)
    → pieces_of (c ∷ cs) ≡ before_first is_line_end (c ∷ cs) ∷ pieces_of (after_first is_line_end (c ∷ cs))
unfolding pieces_of
past c cs p e f h =
    let n : position_or_len is_line_end (c ∷ cs) ≡ suc p = rw (e, ← f) (omega arith) in
    let a : before_first is_line_end (c ∷ cs) ≡ c ∷ take p cs = ap (λ k. take k (c ∷ cs)) n in
    let s : suc p + 1 ≡ suc (p + 1) = omega arith in
    let b : after_first is_line_end (c ∷ cs) ≡ drop (p + 1) cs = ap (λ k. drop (k + 1) (c ∷ cs)) n ∙ ap (λ k. drop k (c ∷ cs)) s in
    ap (λ b. cond b ([] ∷ pieces_of cs) (onto_first c (pieces_of cs))) e ∙ h ∙ ap (λ l. l ∷ pieces_of (drop (p + 1) cs)) (sym a) ∙ ap (λ r. before_first is_line_end (c ∷ cs) ∷ pieces_of r) (sym b)

pub lines_first : (c : ℕ) (cs : List ℕ) → pieces_of (c ∷ cs) ≡ before_first is_line_end (c ∷ cs) ∷ pieces_of (after_first is_line_end (c ∷ cs))
lines_first c [] = elim (cases_bool (is_line_end c)) [ inl e ↦ at_end c [] e | inr e ↦ past c [] 0 e refl (lines_none c) ]
lines_first c (d ∷ ds) =
    elim (cases_bool (is_line_end c)) [
      | inl e ↦ at_end c (d ∷ ds) e
      | inr e ↦ past c (d ∷ ds) (position_or_len is_line_end (d ∷ ds)) e refl (ap (onto_first c) (lines_first d ds))
    ]

-- the same of a text that is not empty
pub lines_cut : (text line rest : List ℕ) → 0 < length text → line ≡ before_first is_line_end text → rest ≡ after_first is_line_end text → pieces_of text ≡ line ∷ pieces_of rest
lines_cut [] line rest h e f = absurd (omega arith)
lines_cut (c ∷ cs) line rest h e f = lines_first c cs ∙ ap (λ l. l ∷ pieces_of (after_first is_line_end (c ∷ cs))) (sym e) ∙ ap (λ r. line ∷ pieces_of r) (sym f)

-- no line of no text is a `load`
pub no_load : (script : List ℕ) → length script ≡ 0 → HasLoad (lines_of script) → ⊥
unfolding pieces_of
no_load [] e (k, within, loads) = absurd (omega arith)
no_load (c ∷ cs) e loads = absurd (omega arith)

-- some line is a `load`, if the first one is, or one of the others
pub load_first : (line : List ℕ) (lines : List (List ℕ)) → IsLoadLine line → HasLoad (line ∷ lines)
load_first line lines is = (0, omega arith, is)

pub load_later : (line : List ℕ) (lines : List (List ℕ)) → HasLoad lines → HasLoad (line ∷ lines)
load_later line lines (k, within, is) = (suc k, omega arith, is)

pub load_behind : (line : List ℕ) (lines : List (List ℕ)) → (IsLoadLine line → ⊥) → HasLoad (line ∷ lines) → HasLoad lines
load_behind line lines none (zero, within, is) = absurd (none is)
load_behind line lines none (suc k, within, is) = (k, omega arith, is)

-- the lines of a text, by its first piece
pub lines_behind : (text piece others : List ℕ) → pieces_of text ≡ piece ∷ pieces_of others → lines_of text ≡ without_return piece ∷ lines_of others
lines_behind text piece others e = ap (map without_return) e
