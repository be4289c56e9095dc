-- Lines that are done one after another, each by a step.
use Rattle.std.proofs.Common.{ℕ, ◌+◌, ◌-◌, ◌≡◌, ◌∙◌, ◌++◌, ◌∷◌, [], ap, sym, subst, refl, List, take, drop, Option, arith}
use Rattle.std.proofs.lemmas.List.{append_assoc, append-nil, drop-take, take-append-drop, take-take}
use Rattle.std.proofs.KnownBytes.{Appends-trans, Appends-nil, Appends-kept}
use Rattle.std.specs.Io.KnownBytes.{Appends, Keeps}
use Rattle.trajdb.specs.Script.{lines_of}
use Rattle.trajdb.specs.Run.{CutsBy, DoesAll, RunsBy}
use Rattle.trajdb.proofs.RunLemmas.{all_taken, lines_none, more_lines}

module _ {S : Type 0} (step : S → S → List ℕ → List ℕ → Type 0) where
  -- lines and then others
  pub does-append : (old mid new : S) (xs ys : List (List ℕ)) (a b : List ℕ) → DoesAll step old mid xs a → DoesAll step mid new ys b → DoesAll step old new (xs ++ ys) (a ++ b)
  does-append old mid new [] ys a b (same, e) rest =
      subst (λ (text : List ℕ). DoesAll step old new ys (text ++ b)) (sym e) (subst (λ (before : S). DoesAll step before new ys b) same rest)
  does-append old mid new (x ∷ xs) ys a b (between, first, others, e, does, more) rest =
      (between, first, others ++ b, ap (λ t. t ++ b) e ∙ append_assoc first others b, does, does-append between mid new xs ys others b more rest)

  -- one line is done
  does-one : (old new : S) (line text : List ℕ) → step old new line text → DoesAll step old new (line ∷ []) text
  does-one old new line text said = (new, text, [], sym (append-nil text), said, (refl, refl))

  -- lines are done that were so in two parts
  record IsSplit (old new : S) (xs ys : List (List ℕ)) (text : List ℕ) : Type 0 where
    mid : S
    before : List ℕ
    earlier : DoesAll step old mid xs before
    last : List ℕ
    does : DoesAll step mid new ys last
    text_is : text ≡ before ++ last

  split : (old new : S) (xs ys : List (List ℕ)) (text : List ℕ) → DoesAll step old new (xs ++ ys) text → IsSplit old new xs ys text
  split old new [] ys text h = record { mid = old; before = []; earlier = (refl, refl); last = text; does = h; text_is = refl }
  split old new (x ∷ xs) ys text (between, first, others, e, said, rest) =
      let more = split between new xs ys others rest in
      record {
        mid = more.mid;
        before = first ++ more.before;
        earlier = (between, first, more.before, refl, said, more.earlier);
        last = more.last;
        does = more.does;
        text_is = e ∙ ap (λ t. first ++ t) more.text_is ∙ sym (append_assoc first more.before more.last);
      }

  -- the first k lines are those before the last of them, and that one
  last_of : (lines : List (List ℕ)) (k : ℕ) → take (k - 1) lines ++ drop (k - 1) (take k lines) ≡ take k lines
  last_of lines k =
      let front : take (k - 1) (take k lines) ≡ take (k - 1) lines = take-take (k - 1) k lines (omega arith) in
      ap (λ (l : List (List ℕ)). l ++ drop (k - 1) (take k lines)) (sym front) ∙ take-append-drop (k - 1) (take k lines)

  pub cut_all : (sent sent' : Option (List ℕ)) (old new : S) (lines : List (List ℕ)) → (cut : CutsBy step sent sent' old new lines) → DoesAll step old new (take cut.k lines) (cut.before ++ cut.text)
  cut_all sent sent' old new lines cut =
      subst (λ (l : List (List ℕ)). DoesAll step old new l (cut.before ++ cut.text)) (last_of lines cut.k)
      (does-append old cut.mid new (take (cut.k - 1) lines) (drop (cut.k - 1) (take cut.k lines)) cut.before cut.text cut.earlier cut.last)

  split_last : (old new : S) (lines : List (List ℕ)) (k : ℕ) (text : List ℕ) → DoesAll step old new (take k lines) text → IsSplit old new (take (k - 1) lines) (drop (k - 1) (take k lines)) text
  split_last old new lines k text h =
      split old new (take (k - 1) lines) (drop (k - 1) (take k lines)) text (subst (λ (l : List (List ℕ)). DoesAll step old new l text) (sym (last_of lines k)) h)

  -- k lines are done, and these bytes of the script are left
  pub record IsTracedAt (sent now : Option (List ℕ)) (old new : S) (lines : List (List ℕ)) (rest : List ℕ) (k : ℕ) : Type 0 where
    pub text : List ℕ
    pub does : DoesAll step old new (take k lines) text
    pub sends : Appends sent now text
    pub left : drop k lines ≡ lines_of rest

  pub traced_start : (sent : Option (List ℕ)) (old : S) (script : List ℕ) → IsTracedAt sent sent old old (lines_of script) script 0
  traced_start sent old script = record { text = []; does = (refl, refl); sends = Appends-nil sent; left = refl }

  module _ (a b c : Option (List ℕ)) (old mid new : S) (lines : List (List ℕ)) (rest others line : List ℕ) (k : ℕ) (at : IsTracedAt a b old mid lines rest k) (e : lines_of rest ≡ line ∷ lines_of others) where
    next_at : drop k lines ≡ line ∷ lines_of others
    next_at = at.left ∙ e

    does_next : (text : List ℕ) → step mid new line text → DoesAll step old new (take (k + 1) lines) (at.text ++ text)
    does_next text said =
        subst (λ (l : List (List ℕ)). DoesAll step old new l (at.text ++ text)) (sym (more_lines lines k line (lines_of others) next_at).0)
        (does-append old mid new (take k lines) (line ∷ []) at.text text at.does (does-one mid new line text said))

    pub traced_more : (text : List ℕ) → step mid new line text → Appends b c text → IsTracedAt a c old new lines others (k + 1)
    traced_more answer said passed = record {
      text = at.text ++ answer;
      does = does_next answer said;
      sends = Appends-trans a b c at.text answer at.sends passed;
      left = (more_lines lines k line (lines_of others) next_at).1;
    }

    -- of its answer the first n bytes were sent
    pub traced_cut : (text : List ℕ) → step mid new line text → (n : ℕ) → Appends b c (take n text) → CutsBy step a c old new lines
    traced_cut answer said n passed =
        let back : k ≡ k + 1 - 1 = omega arith in
        let one : drop k (take (k + 1) lines) ≡ line ∷ [] = drop-take k 1 lines ∙ ap (λ (l : List (List ℕ)). take 1 l) next_at in
        record {
          k = k + 1;
          mid = mid;
          before = at.text;
          earlier = subst (λ (j : ℕ). DoesAll step old mid (take j lines) at.text) back at.does;
          text = answer;
          last = subst (λ (j : ℕ). DoesAll step mid new (drop j (take (k + 1) lines)) answer) back
              (subst (λ (l : List (List ℕ)). DoesAll step mid new l answer) (sym one) (does-one mid new line answer said));
          written = at.text ++ take n answer;
          sends = Appends-trans a b c at.text (take n answer) at.sends passed;
          whole = (take n answer, refl);
          prefix = (drop n answer, ap (λ t. at.text ++ t) (sym (take-append-drop n answer)) ∙ sym (append_assoc at.text (take n answer) (drop n answer)));
        }

  module _ (a b c : Option (List ℕ)) (old new : S) (lines : List (List ℕ)) (rest : List ℕ) (k : ℕ) (at : IsTracedAt a b old new lines rest k) where
    pub traced_end : rest ≡ [] → Keeps b c → RunsBy step a c old new lines
    traced_end e kept =
        let all = all_taken lines k (at.left ∙ ap lines_of e ∙ lines_none) in record {
          text = at.text;
          does = subst (λ (l : List (List ℕ)). DoesAll step old new l at.text) all at.does;
          sends = Appends-kept a b c at.text at.sends kept;
        }

    pub traced_unflushed : Keeps b c → CutsBy step a c old new lines
    traced_unflushed kept =
        let parts = split_last old new lines k at.text at.does in record {
          k = k;
          mid = parts.mid;
          before = parts.before;
          earlier = parts.earlier;
          text = parts.last;
          last = parts.does;
          written = at.text;
          sends = Appends-kept a b c at.text at.sends kept;
          whole = (parts.last, parts.text_is);
          prefix = ([], sym parts.text_is ∙ sym (append-nil at.text));
        }
