-- The two laws of `unsealed`.
use Rattle.std.proofs.Common.{◌≡◌, ℕ, ◌+◌, ◌-◌, List, length, take, drop, get_or, Option, Some, None, refl, sym, ap, ◌∙◌, arith, length-append, Ok, Err, cond, true, false, Bool}
use Rattle.std.specs.Option.{ok_or}
use Rattle.std.specs.Str.{bytes_eq}
use Rattle.std.proofs.lemmas.Option.{option_and_then_some}
use Rattle.std.proofs.lemmas.Slice.Eq.{bytes_eq-Decides}
use Rattle.sha2.specs.Sha256.{sha256}
use Rattle.sha2.proofs.Facts256.{length-sha256}
use Rattle.pages.specs.Sealed.{front, sealed, code_of}
use Rattle.pages.specs.Unsealed.{kind_coded, payload_at, unsealed}
use Rattle.pages.proofs.SealedLemmas.{front_of_sealed, body_of_front}
use Rattle.pages.specs.declared.payload.Kind.{Kind}
use Rattle.pages.specs.declared.payload.Kind.TheVariants.{Header, Leaf, Inner, Catalogue}
use Rattle.pages.specs.declared.payload.Payload.{Payload}

pub kind_of-code_of : (k : Kind) → kind_coded (code_of k) ≡ Some k
unfolding kind_coded
kind_of-code_of Header = refl
kind_of-code_of Leaf = refl
kind_of-code_of Inner = refl
kind_of-code_of Catalogue = refl

pub code_at_sealed : (n : ℕ) (p : Payload) → get_or (sealed n p) 4 0 ≡ code_of p.kind
unfolding sealed front
code_at_sealed n p = refl

pub payload_at-sealed : (n : ℕ) (p : Payload) → payload_at (sealed n p) p.kind ≡ p
unfolding sealed
payload_at-sealed n p =
    let l : length (sealed n p) ≡ length (front n p) + 32 = length-append (front n p) (sha256 (front n p)) ∙ ap (λ k. length (front n p) + k) (length-sha256 (front n p)) in
    let f : take (length (sealed n p) - 32) (sealed n p) ≡ front n p = front_of_sealed (sealed n p) n (length (sealed n p) - 32) p (omega (arith, l)) refl in
    let b : drop 8 (take (length (sealed n p) - 32) (sealed n p)) ≡ p.bytes = ap (drop 8) f ∙ body_of_front n p in
    λ i. record { kind = p.kind; bytes = b i }

pub unsealed-sealed : (n : ℕ) (p : Payload) → unsealed n (sealed n p) ≡ Some p
unfolding unsealed
unsealed-sealed n p = rw (code_at_sealed n p, kind_of-code_of p.kind, payload_at-sealed n p, (bytes_eq-Decides (sealed n p) (sealed n p)).1 refl) refl

chosen : (b : Bool) (p q : Payload) → cond b (Some p) None ≡ Some q → (b ≡ true) × (p ≡ q)
chosen true p q e = (refl, cc)
chosen false p q e = absurd (cc)

pub sealed-unsealed : (n : ℕ) (page : List ℕ) (p : Payload) → unsealed n page ≡ Some p → page ≡ sealed n p
unfolding unsealed
sealed-unsealed n page p e =
    option_and_then_some (λ k. cond (bytes_eq (sealed n (payload_at page k)) page) (Some (payload_at page k)) None) (kind_coded (get_or page 4 0)) p e
    (λ k f g. let h = chosen _ _ _ g in
    sym ((bytes_eq-Decides (sealed n (payload_at page k)) page).0 h.0) ∙ ap (sealed n) h.1)

none_unless : (o : Option Payload) → ((p : Payload) → o ≡ Some p → ⊥) → o ≡ None
none_unless None h = refl
none_unless (Some p) h = absurd (h p refl)

pub unsealed-none : (n : ℕ) (page : List ℕ) → ((p : Payload) → page ≡ sealed n p → ⊥) → unsealed n page ≡ None
unsealed-none n page h = none_unless (unsealed n page) (λ p e. h p (sealed-unsealed n page p e))

pub unsealed-some : (n : ℕ) (page : List ℕ) (p : Payload) → page ≡ sealed n p → unsealed n page ≡ Some p
unsealed-some n page p e = ap (unsealed n) e ∙ unsealed-sealed n p

-- what `unseal` answers
pub answer-none : {E : Type 0} (n : ℕ) (page : List ℕ) (fault : E) → ((p : Payload) → page ≡ sealed n p → ⊥) → Err fault ≡ ok_or (unsealed n page) fault
answer-none n page fault h = ap (λ o. ok_or o fault) (sym (unsealed-none n page h))

pub answer-some : {E : Type 0} (n : ℕ) (page : List ℕ) (fault : E) (p : Payload) → page ≡ sealed n p → Ok p ≡ ok_or (unsealed n page) fault
answer-some n page fault p e = ap (λ o. ok_or o fault) (sym (unsealed-some n page p e))
