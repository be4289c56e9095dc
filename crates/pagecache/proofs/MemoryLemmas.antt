-- The payloads of the pages in memory, and the pages that seal them.
use Rattle.std.proofs.Common.{◌≡◌, ℕ, List, Option, Some, None, IfSome, cond, nat_eq, refl, sym, ap, ◌∙◌, subst, inl, inr}
use Rattle.std.proofs.lemmas.Bool.{cases_eq, eq-eqb, ne_eqb}
use Rattle.std.specs.Box.{box_value}
use Rattle.std.specs.Map.{lookup}
use Rattle.std.specs.Option.{option_map, unwrap_or}
use Rattle.pages.specs.Sealed.{sealed}
use Rattle.pages.specs.Unsealed.{unsealed}
use Rattle.pages.specs.declared.payload.Payload.{Payload}
use Rattle.pages.proofs.UnsealedLemmas.{unsealed-sealed}
use Rattle.pagecache.specs.declared.slots.Held.{Held}

abbrev payload_at : List (ℕ × Held) → ℕ → Option Payload
payload_at es m = option_map (λ (h : Held). box_value h.payload) (lookup (nat_eq m) es)

-- page n has another mark, and the payload that it had
pub memory_set : (es fs : List (ℕ × Held)) (n : ℕ) (h w : Held) → lookup (nat_eq n) es ≡ Some h → box_value w.payload ≡ box_value h.payload
    → ((m : ℕ) → lookup (nat_eq m) fs ≡ cond (nat_eq n m) (Some w) (lookup (nat_eq m) es))
    → (m : ℕ) → payload_at fs m ≡ payload_at es m
memory_set es fs n h w here same look m = elim (cases_eq n m) [
  | inl k ↦ subst (λ i. payload_at fs i ≡ payload_at es i) k
      (ap (option_map (λ (h : Held). box_value h.payload)) (look n ∙ ap (λ b. cond b (Some w) (lookup (nat_eq n) es)) (eq-eqb n n refl)) ∙ ap Some same
      ∙ sym (ap (option_map (λ (h : Held). box_value h.payload)) here))
  | inr ne ↦ ap (option_map (λ (h : Held). box_value h.payload)) (look m ∙ ap (λ b. cond b (Some w) (lookup (nat_eq m) es)) (ne_eqb n m ne))
]

-- the seal of a payload that is the one in memory, where one is there
pub shown_seals : (o : Option Payload) (n : ℕ) (q other : Payload) (page : List ℕ) → page ≡ sealed n q → q ≡ unwrap_or o other
    → IfSome o (λ p. unsealed n page ≡ Some p)
shown_seals None n q other page e same = tt
shown_seals (Some p) n q other page e same = ap (unsealed n) e ∙ unsealed-sealed n q ∙ ap Some same
