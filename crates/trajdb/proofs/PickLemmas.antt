-- Picking the members of a list, one after another.
use Rattle.std.proofs.Common.{ℕ, suc, arith, ap, ◌+◌, ◌-◌, ◌<◌, ◌≤◌, ◌≡◌, ◌∙◌, ◌++◌, ◌∷◌, [], List, sym, subst, refl, Bool, true, false, cond, All, filter, inl, inr}
use Rattle.std.proofs.lemmas.List.{append_assoc, append-nil}
use Rattle.std.specs.List.{range_with_len}
use Rattle.trajdb.specs.Picks.{Picks}

-- what is picked of what is left completes what is picked of all
abbrev pub IsPicking : {T : Type 0} → (T → Type 0) → List T → List T → List T → Type 0
IsPicking {T} P all left picked = (rest : List T) → Picks P left rest → Picks P all (picked ++ rest)

pub picking-start : {T : Type 0} (P : T → Type 0) (all : List T) → IsPicking P all all []
picking-start P all = λ rest h. h

pub picking-yes : {T : Type 0} (P : T → Type 0) (all left picked : List T) (x : T) → IsPicking P all (x ∷ left) picked → P x → IsPicking P all left (picked ++ x ∷ [])
picking-yes {T} P all left picked x so_far held = λ rest h. subst (λ (l : List T). Picks P all l) (sym (append_assoc picked (x ∷ []) rest)) (so_far (x ∷ rest) (inl (held, rest, refl, h)))

pub picking-no : {T : Type 0} (P : T → Type 0) (all left picked : List T) (x : T) → IsPicking P all (x ∷ left) picked → (P x → ⊥) → IsPicking P all left picked
picking-no P all left picked x so_far unheld = λ rest h. so_far rest (inr (unheld, h))

pub picking-end : {T : Type 0} (P : T → Type 0) (all picked : List T) → IsPicking P all [] picked → Picks P all picked
picking-end {T} P all picked so_far = subst (λ (l : List T). Picks P all l) (append-nil picked) (so_far [] refl)

-- where all that P holds of passes a test, it is enough to pick from what passes
pub picks-within : {T : Type 0} (P L : T → Type 0) (q : T → Bool) (xs picked : List T) → All L xs → ((x : T) → L x → P x → q x ≡ true) → Picks P (filter q xs) picked → Picks P xs picked
picks-within P L q [] picked lawful passes h = h
picks-within {T} P L q (x ∷ xs) picked lawful passes h = by (q x) refl (λ others. picks-within P L q xs others (λ k d less. lawful (suc k) d (omega (arith, less))) passes) h
  where
    by : (b : Bool) → q x ≡ b → ((others : List T) → Picks P (filter q xs) others → Picks P xs others) → Picks P (cond b (x ∷ filter q xs) (filter q xs)) picked → Picks P (x ∷ xs) picked
    by true e more (inl (held, others, f, g)) = inl (held, others, f, more others g)
    by true e more (inr (unheld, g)) = inr (unheld, more picked g)
    by false e more g = inr (λ held. absurd (let t : false ≡ true = sym e ∙ passes x (lawful 0 x (omega arith)) held in cc), more picked g)

-- numbers that are left
pub range_more : (i n : ℕ) → i < n → range_with_len i (n - i) ≡ i ∷ range_with_len (i + 1) (n - (i + 1))
range_more i n less =
    let more : n - i ≡ suc (n - (i + 1)) = omega (arith, less) in
    ap (λ k. range_with_len i k) more

pub range_none : (i n : ℕ) → n ≤ i → range_with_len i (n - i) ≡ []
range_none i n over =
    let none : n - i ≡ 0 = omega (arith, over) in
    ap (λ k. range_with_len i k) none

pub range_all : (n : ℕ) → range_with_len 0 (n - 0) ≡ range_with_len 0 n
range_all n = ap (λ k. range_with_len 0 k) (let same : n - 0 ≡ n = omega arith in same)

-- where all members pass
pub filter_all : {T : Type 0} (L : T → Type 0) (q : T → Bool) (xs : List T) → All L xs → ((x : T) → L x → q x ≡ true) → filter q xs ≡ xs
filter_all L q [] lawful passes = refl
filter_all L q (x ∷ xs) lawful passes =
    ap (λ b. cond b (x ∷ filter q xs) (filter q xs)) (passes x (lawful 0 x (omega arith))) ∙ ap (λ l. x ∷ l) (filter_all L q xs (λ k d less. lawful (suc k) d (omega (arith, less))) passes)
