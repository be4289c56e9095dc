-- No text lies in a header: another header in page 0 leaves the texts as they are.
use Rattle.std.proofs.Common.{ℕ, zero, suc, ◌≡◌, ◌+◌, ◌-◌, ◌<◌, ◌≤◌, ◌==◌, nat_le, ◌&&◌, min, cond, false, ⊎_elim, List, ◌++◌, length, refl, sym, ap, ◌∙◌, arith, Option, Some, None, option_map, option_and_then}
use Rattle.std.specs.Int.{div_ceil}
use Rattle.std.proofs.lemmas.Bool.{cases_lt}
use Rattle.pages.specs.declared.payload.Kind.TheVariants.{Header}
use Rattle.pages.specs.declared.payload.Payload.{Payload}
use Rattle.tbnode.specs.Parts.{number_at}
use Rattle.register.specs.Chain.{most_used, is_catalogue, is_part, next_in, text_in, chain_text, text_at}

-- no text lies in a header
no_part : (used : ℕ) (payload : Payload) → payload.kind ≡ Header → is_part used payload ≡ false
unfolding is_part
no_part used payload e = ap (λ k. is_catalogue k && nat_le (16 + used) (length payload.bytes) && (number_at 2 4 payload.bytes == used) && ((number_at 2 6 payload.bytes == 0) && (number_at 8 8 payload.bytes == 0))) e

module _ (at at' : ℕ → Option Payload) (others : (p : ℕ) → 0 < p → at' p ≡ at p) (p p' : Payload) (is : at 0 ≡ Some p) (is' : at' 0 ≡ Some p') (kind : p.kind ≡ Header) (kind' : p'.kind ≡ Header) where
  abbrev go : (ℕ → Option Payload) → ℕ → ℕ → Payload → Option (List ℕ)
  go at n left payload = cond (is_part (min most_used left) payload) (option_map (λ t. text_in (min most_used left) payload ++ t) (chain_text at n (left - most_used) (next_in payload))) None

  header_none : (at : ℕ → Option Payload) (n left : ℕ) (payload : Payload) → payload.kind ≡ Header → go at n left payload ≡ None
  header_none at n left payload e = ap (λ b. cond b (option_map (λ t. text_in (min most_used left) payload ++ t) (chain_text at n (left - most_used) (next_in payload))) None) (no_part (min most_used left) payload e)

  same_chain : (n left q : ℕ) → chain_text at' n left q ≡ chain_text at n left q
  same_chain zero left q = refl
  same_chain (suc n) left q =
      ⊎_elim
      (λ (h : 0 < q). ap (option_and_then (go at' n left)) (others q h) ∙ inner (λ q. same_chain n (left - most_used) q) (at q))
      (λ (h : q ≤ 0).
      let z : 0 ≡ q = omega (arith, h) in
      ap (λ k. option_and_then (go at' n left) (at' k)) (sym z) ∙ ap (option_and_then (go at' n left)) is' ∙ header_none at' n left p' kind'
      ∙ sym (ap (λ k. option_and_then (go at n left) (at k)) (sym z) ∙ ap (option_and_then (go at n left)) is ∙ header_none at n left p kind))
      (cases_lt 0 q) where
        inner : ((q : ℕ) → chain_text at' n (left - most_used) q ≡ chain_text at n (left - most_used) q) → (o : Option Payload) → option_and_then (go at' n left) o ≡ option_and_then (go at n left) o
        inner more None = refl
        inner more (Some payload) = ap (λ x. cond (is_part (min most_used left) payload) (option_map (λ t. text_in (min most_used left) payload ++ t) x) None) (more (next_in payload))

  pub same_text : (length first : ℕ) → text_at at' length first ≡ text_at at length first
  unfolding text_at
  same_text length first = same_chain (div_ceil length most_used) length first
