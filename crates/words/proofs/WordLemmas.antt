-- The words of a text, one after another.
use Rattle.std.proofs.Common.{[], ◌∷◌, filter, ℕ, suc, ◌+◌, ◌<◌, ◌≤◌, ◌≡◌, ◌∙◌, cond, ap, sym, refl, List, Bool, length, take, drop, get_or, true, false, not, arith, inl, inr}
use Rattle.std.proofs.lemmas.Bool.{cases_lt}
use Rattle.std.proofs.lemmas.Bool.Decides.{nat_tests}
use Rattle.std.proofs.lemmas.List.Sums.{prefix_len-le-length, prefix_len_stops, prefix_len-drop_no}
use Rattle.std.proofs.lemmas.List.{drop_all, take_all, length-take-le, length-drop, nil_from_length}
use Rattle.std.proofs.lemmas.List.Splits.{slice_split-cons_yes, slice_split-cons_no, slice_split_first}
use Rattle.std.proofs.Math.Seq.{drop-cons}
use Rattle.std.specs.List.{prefix_len, slice_split, onto_first}
use Rattle.words.proofs.CutLemmas.{not_false}
use Rattle.words.specs.Words.{is_empty, word_len, words_between}

module _ (p : ℕ → Bool) where
  -- what separates, at the front
  words-separator : (c : ℕ) (cs : List ℕ) → p c ≡ true → words_between p (c ∷ cs) ≡ words_between p cs
  unfolding words_between
  words-separator c cs e = ap (filter (λ piece. not (is_empty piece))) (slice_split-cons_yes p c cs e)

  -- all that separates at the front
  pub words-skip : (text : List ℕ) → words_between p text ≡ words_between p (drop (prefix_len p text) text)
  words-skip [] = refl
  words-skip (c ∷ cs) = by (p c) refl (words-skip cs)
    where
      by : (b : Bool) → p c ≡ b → words_between p cs ≡ words_between p (drop (prefix_len p cs) cs) → words_between p (c ∷ cs) ≡ words_between p (drop (cond (p c) (1 + prefix_len p cs) 0) (c ∷ cs))
      by true e more =
          let s : 1 + prefix_len p cs ≡ suc (prefix_len p cs) = omega arith in
          rw (e, s) (words-separator c cs e ∙ more)
      by false e more = rw e refl

  -- behind what separates at the front comes none of it
  pub none_in_front : (text : List ℕ) → prefix_len p (drop (prefix_len p text) text) ≡ 0
  none_in_front text =
      let n : ℕ = prefix_len p text in
      elim (cases_lt n (length text)) [
        | inl lt ↦ prefix_len-drop_no p text n 0 lt (prefix_len_stops p text 0 lt)
        | inr ge ↦ let e = drop_all n text ge in rw e refl
      ]

  pub word_len-pos : (text : List ℕ) → 0 < length text → prefix_len p text ≡ 0 → 0 < word_len p text
  word_len-pos [] h e = absurd (omega arith)
  word_len-pos (c ∷ cs) h e = by (p c) refl e
    where
      by : (b : Bool) → p c ≡ b → cond (p c) (1 + prefix_len p cs) 0 ≡ 0 → 0 < cond (not (p c)) (1 + word_len p cs) 0
      by true s z = absurd (let w : 1 + prefix_len p cs ≡ 0 = rw s at z in omega arith)
      by false s z = rw s (omega arith)

  not_empty : (text : List ℕ) → 0 < length text → not (is_empty text) ≡ true
  not_empty text h = grind (arith, nat_tests)

  kept : (piece : List ℕ) (pieces : List (List ℕ)) → 0 < length piece → filter (λ p. not (is_empty p)) (piece ∷ pieces) ≡ piece ∷ filter (λ p. not (is_empty p)) pieces
  kept piece pieces h = ap (λ b. cond b (piece ∷ filter (λ p. not (is_empty p)) pieces) (filter (λ p. not (is_empty p)) pieces)) (not_empty piece h)

  -- a text that nothing separates is one piece
  one_piece : (text : List ℕ) → word_len p text ≡ length text → slice_split p text ≡ text ∷ []
  one_piece [] e = refl
  one_piece (c ∷ cs) e = by (p c) refl e (one_piece cs)
    where
      by : (b : Bool) → p c ≡ b → cond (not (p c)) (1 + word_len p cs) 0 ≡ suc (length cs) → (word_len p cs ≡ length cs → slice_split p cs ≡ cs ∷ [])
          → slice_split p (c ∷ cs) ≡ (c ∷ cs) ∷ []
      by true s z more = absurd (let w : 0 ≡ suc (length cs) = rw s at z in omega arith)
      by false s z more =
          let w : 1 + word_len p cs ≡ suc (length cs) = rw s at z in
          slice_split-cons_no p c cs s ∙ ap (onto_first c) (more (omega arith))

  -- behind a word, what separates it changes nothing
  words-behind : (text : List ℕ) (n : ℕ) → n < length text → p (get_or text n 0) ≡ true → words_between p (drop n text) ≡ words_between p (drop (n + 1) text)
  words-behind text n lt sep =
      let s : suc n ≡ n + 1 = omega arith in
      ap (words_between p) (drop-cons text n 0 lt) ∙ words-separator (get_or text n 0) (drop (suc n) text) sep ∙ ap (λ k. words_between p (drop k text)) s

  -- a text that begins with a word: that word, and then the words of the rest
  pub words-first : (text : List ℕ) → 0 < word_len p text → words_between p text ≡ take (word_len p text) text ∷ words_between p (drop (word_len p text) text)
  unfolding words_between
  words-first text h =
      let n : ℕ = word_len p text in
      let within = prefix_len-le-length (λ c. not (p c)) text in
      let size : length (take n text) ≡ n = length-take-le n text within in
      elim (cases_lt n (length text)) [
        | inl lt ↦
            let sep = not_false (p (get_or text n 0)) (prefix_len_stops (λ c. not (p c)) text 0 lt) in
            let some : 0 < length (take n text) = omega arith in
            ap (filter (λ piece. not (is_empty piece))) (slice_split_first p text 0 lt)
            ∙ kept (take n text) (slice_split p (drop (n + 1) text)) some
            ∙ ap (λ ws. take n text ∷ ws) (sym (words-behind text n lt sep))
        | inr ge ↦
            let all : n ≡ length text = omega arith in
            let some : 0 < length text = omega arith in
            ap (filter (λ piece. not (is_empty piece))) (one_piece text all) ∙ kept text [] some
            ∙ ap (λ piece. piece ∷ []) (sym (take_all n text ge)) ∙ ap (λ rest. take n text ∷ words_between p rest) (sym (drop_all n text ge))
      ]

  pub words-nil : words_between p [] ≡ []
  unfolding words_between
  words-nil = refl

  -- what stands behind all that separates at the front, cut behind its first word
  pub words-next : (text rest : List ℕ) (start end : ℕ) → start ≡ prefix_len p text → rest ≡ drop start text → end ≡ word_len p rest → 0 < length rest
      → (words_between p text ≡ take end rest ∷ words_between p (drop end rest)) × (length (drop end rest) < length text)
  words-next text rest start end e f g h =
      let none : prefix_len p rest ≡ 0 = rw (f, e) (none_in_front text) in
      let some : 0 < end = rw g (word_len-pos rest h none) in
      let first : words_between p rest ≡ take end rest ∷ words_between p (drop end rest) = rw g (words-first rest (word_len-pos rest h none)) in
      let same : words_between p text ≡ words_between p rest = rw (f, e) (words-skip text) in
      let shorter = length-drop end rest in
      let short : length rest ≤ length text = rw f (omega (arith, length-drop start text)) in
      (same ∙ first, omega arith)

  -- no word where nothing stands behind all that separates at the front
  pub words-none : (text rest : List ℕ) (start : ℕ) → start ≡ prefix_len p text → rest ≡ drop start text → length rest ≡ 0 → words_between p text ≡ []
  words-none text rest start e f h =
      let none : rest ≡ [] = nil_from_length rest h in
      let same : words_between p text ≡ words_between p rest = rw (f, e) (words-skip text) in
      same ∙ ap (words_between p) none ∙ words-nil
