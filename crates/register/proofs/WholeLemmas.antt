-- The end of a text, and a whole text.
use Rattle.std.proofs.Common.{ℕ, zero, suc, ◌≡◌, ◌≢◌, ◌+◌, ◌-◌, ◌*◌, ◌≤◌, ◌==◌, nat_le, min, Bool, true, false, ◌&&◌, cond, List, [], ◌∷◌, ◌++◌, drop, get_or, length, refl, sym, ap, ◌∙◌, arith, Option, Some, None, option_map, option_and_then}
use Rattle.std.specs.Int.{div_ceil}
use Rattle.std.proofs.lemmas.Bool.{leb-true}
use Rattle.std.proofs.lemmas.Bool.Decides.{nat_tests}
use Rattle.std.proofs.lemmas.Grind.{div_ceil_times}
use Rattle.std.proofs.lemmas.List.{append-nil, length-append, length-take-le, length-drop}
use Rattle.pages.specs.declared.payload.Payload.{Payload}
use Rattle.tbnode.specs.Parts.{part}
use Rattle.register.specs.Chain.{most_used, is_catalogue, is_part, next_in, text_in, chain_text, text_at}
use Rattle.register.specs.ChainReader.{ReaderView, rest_of}
use Rattle.register.specs.Text.{body_text, catalogue_text, flag_of, IsNumber, IsRead, IsWhole}
use Rattle.register.specs.declared.contents.Contents.{Contents}
use Rattle.register.proofs.ReaderLemmas.{some_none, some_same, text_end}
use Rattle.register.proofs.PrefixLemmas.{whole_free}
use Rattle.register.proofs.SequenceLemmas.{IsPair, Lacks}

and_first : (a b : Bool) → (a && b) ≡ true → a ≡ true
and_first true b e = refl
and_first false b e = absurd cc

and_second : (a b : Bool) → (a && b) ≡ true → b ≡ true
and_second true b e = e
and_second false b e = absurd cc

-- a page of the chain has as many bytes of the text as it says
text_length : (used : ℕ) (payload : Payload) → is_part used payload ≡ true → length (text_in used payload) ≡ used
unfolding is_part text_in part
text_length used payload e =
    let front = and_first _ _ (and_first _ _ e) in
    let room = leb-true (16 + used) (length payload.bytes) (and_second (is_catalogue payload.kind) (nat_le (16 + used) (length payload.bytes)) front) in
    let d = length-drop 16 payload.bytes in
    length-take-le used (drop 16 payload.bytes) (omega (arith, room, d))

module _ (at : ℕ → Option Payload) where
  step : (n left : ℕ) (o : Option Payload) (t : List ℕ) → ((p : ℕ) (s : List ℕ) → chain_text at n (left - most_used) p ≡ Some s → length s ≡ left - most_used)
      → option_and_then (λ payload. cond (is_part (min most_used left) payload) (option_map (λ t. text_in (min most_used left) payload ++ t) (chain_text at n (left - most_used) (next_in payload))) None) o ≡ Some t → length t ≡ left
  step n left None t more e = absurd (some_none t (sym e))
  step n left (Some payload) t more e = decided (is_part (min most_used left) payload) refl e where
    spread : (rest : Option (List ℕ)) → is_part (min most_used left) payload ≡ true → ((s : List ℕ) → rest ≡ Some s → length s ≡ left - most_used) → option_map (λ t. text_in (min most_used left) payload ++ t) rest ≡ Some t → length t ≡ left
    spread None form m e = absurd (some_none t (sym e))
    spread (Some s) form m e =
        let own = text_length (min most_used left) payload form in
        let both = length-append (text_in (min most_used left) payload) s in
        let rest = m s refl in
        let whole = ap length (some_same (text_in (min most_used left) payload ++ s) t e) in
        omega (arith, own, both, rest, whole)

    decided : (b : Bool) → is_part (min most_used left) payload ≡ b → cond b (option_map (λ t. text_in (min most_used left) payload ++ t) (chain_text at n (left - most_used) (next_in payload))) None ≡ Some t → length t ≡ left
    decided true form e = spread (chain_text at n (left - most_used) (next_in payload)) form (more (next_in payload)) e
    decided false form e = absurd (some_none t (sym e))

  chain_length : (n left p : ℕ) (t : List ℕ) → left ≤ n * most_used → chain_text at n left p ≡ Some t → length t ≡ left
  chain_length zero left p t h e = ended (p == 0) e where
    ended : (b : Bool) → cond b (Some []) None ≡ Some t → length t ≡ left
    ended true e = let l = ap length (sym (some_same [] t e)) in omega (arith, l, h)
    ended false e = absurd (some_none t (sym e))
  chain_length (suc n) left p t h e = step n left (at p) t (λ q s. chain_length n (left - most_used) q s (omega (arith, h))) e

  pub text_at_length : (left p : ℕ) (t : List ℕ) → text_at at left p ≡ Some t → length t ≡ left
  unfolding text_at
  text_at_length left p t e = chain_length (div_ceil left most_used) left p t (let d = div_ceil_times left most_used (omega arith) in omega (arith, d.0)) e

  -- the text is at its end exactly where no page and no byte is left
  pub is_end : (r : ReaderView) → r.left ≡ 0 → r.next ≡ 0 → length r.bytes ≡ 0 → rest_of at r ≡ Some []
  is_end r l n b =
      ap (λ k. option_map (λ t. r.bytes ++ t) (text_at at k r.next)) l
      ∙ ap (λ k. option_map (λ t. r.bytes ++ t) (text_at at 0 k)) n
      ∙ ap (option_map (λ t. r.bytes ++ t)) (text_end at 0)
      ∙ ap (λ l. Some (l ++ [])) (empty r.bytes b) where
        empty : (l : List ℕ) → length l ≡ 0 → l ≡ []
        empty [] h = refl
        empty (x ∷ xs) h = absurd (omega (arith, h))

  ends_with : (bytes : List ℕ) (left next : ℕ) (o : Option (List ℕ)) → text_at at left next ≡ o → option_map (λ t. bytes ++ t) o ≡ Some [] → (length bytes ≡ 0) × (left ≡ 0)
  ends_with bytes left next None is e = absurd (some_none [] (sym e))
  ends_with bytes left next (Some t) is e =
      let whole = ap length (some_same (bytes ++ t) [] e) in
      let both = length-append bytes t in
      let own = text_at_length left next t is in
      (omega (arith, whole, both), omega (arith, whole, both, own))

  pub end_is : (r : ReaderView) → rest_of at r ≡ Some [] → (r.left ≡ 0) × (length r.bytes ≡ 0) × (r.next ≡ 0)
  end_is r e =
      let x = ends_with r.bytes r.left r.next (text_at at r.left r.next) refl e in
      (x.1, x.0, last (r.next) (sym (ap (λ k. option_map (λ t. r.bytes ++ t) (text_at at k r.next)) x.1) ∙ e)) where
        named : (next : ℕ) (b : Bool) → (next == 0) ≡ b → option_map (λ t. r.bytes ++ t) (cond b (Some []) None) ≡ Some [] → next ≡ 0
        named next true is e = grind (arith, nat_tests, is)
        named next false is e = absurd (some_none [] (sym e))

        last : (next : ℕ) → option_map (λ t. r.bytes ++ t) (text_at at 0 next) ≡ Some [] → next ≡ 0
        last next e = named next (next == 0) refl (sym (ap (option_map (λ t. r.bytes ++ t)) (text_end at next)) ∙ e)

-- what stands behind the first byte of a text
abbrev pub IsBody : ℕ → ℕ → Option Contents → Type 0
IsBody most flag contents = IsRead most contents × (flag_of contents ≡ flag)

-- where the contents are not there, nor is the whole
pub no_body : (most : ℕ) (old : Option (List ℕ)) → ((c : Contents) (t : List ℕ) → IsRead most (Some c) → old ≢ Some (body_text (Some c) ++ t)) → Lacks body_text (IsBody most 1) old
no_body most old h None t k e = absurd (let f = k.1 in omega (arith, f))
no_body most old h (Some c) t k e = h c t k.0 e

-- the byte that says whether it is there fits into eight bits
pub flag_fits : (v : Option Contents) → IsNumber 8 (flag_of v)
flag_fits None = omega arith
flag_fits (Some c) = omega arith

-- a whole text: that byte, and what stands behind it
abbrev pub catalogue_pair : (most : ℕ) → IsPair catalogue_text (IsRead most) (λ n. n ∷ []) (IsNumber 8) body_text (IsBody most)
catalogue_pair most = record {
  left = flag_of;
  right = λ v. v;
  free = λ a b s t h k e. (ap (λ l. get_or l 0 0) e, ap (drop 1) e);
  parts = λ v k. (flag_fits v, (k, refl));
  whole = λ v. refl;
}

pub no_whole : (most : ℕ) (old : Option (List ℕ)) → Lacks catalogue_text (IsRead most) old → (c : Option Contents) → IsRead most c → old ≢ Some (catalogue_text c)
no_whole most old h c k e = h c [] k (e ∙ ap Some (sym (append-nil (catalogue_text c))))

-- where something is left behind it
behind : (a b : Option Contents) (new : Option (List ℕ)) → IsWhole a → IsWhole b → option_map (λ s. catalogue_text a ++ s) new ≡ Some (catalogue_text b) → new ≡ Some []
behind a b None h k e = absurd (some_none (catalogue_text b) (sym e))
behind a b (Some s) h k e = ap Some (whole_free a b s [] h k (some_same (catalogue_text a ++ s) (catalogue_text b) e ∙ sym (append-nil (catalogue_text b)))).1

pub left_over : (most : ℕ) (old new : Option (List ℕ)) (a b : Option Contents) → IsRead most a → IsRead most b → old ≡ option_map (λ s. catalogue_text a ++ s) new → (new ≡ Some [] → ⊥) → old ≢ Some (catalogue_text b)
left_over most old new a b h k is n e = n (behind a b new h.whole k.whole (sym is ∙ e))
