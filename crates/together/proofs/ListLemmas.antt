-- Lists that are filtered, and what is picked of them.
use Rattle.std.proofs.Common.{[], ◌∷◌, ◌≡◌, ◌∙◌, ap, sym, refl, subst, List, Bool, true, false, cond, filter, map, inl, inr}
use Rattle.std.specs.Prelude.{All}
use Rattle.std.proofs.lemmas.List.Elements.{All-head, All-tail}
use Rattle.trajdb.specs.Picks.{Picks}

pub filter-map : {X Y : Type 0} (p : Y → Bool) (g : X → Y) (xs : List X) → filter p (map g xs) ≡ map g (filter (λ x. p (g x)) xs)
filter-map p g [] = refl
filter-map p g (x ∷ xs) = by (p (g x)) (filter-map p g xs)
  where
    by : (b : Bool) → filter p (map g xs) ≡ map g (filter (λ y. p (g y)) xs) → cond b (g x ∷ filter p (map g xs)) (filter p (map g xs)) ≡ map g (cond b (x ∷ filter (λ y. p (g y)) xs) (filter (λ y. p (g y)) xs))
    by true more = ap (λ ys. g x ∷ ys) more
    by false more = more

pub filter-comm : {X : Type 0} (p q : X → Bool) (xs : List X) → filter p (filter q xs) ≡ filter q (filter p xs)
filter-comm p q [] = refl
filter-comm {X} p q (x ∷ xs) = by (p x) (q x) refl refl (filter-comm p q xs)
  where
    by : (a b : Bool) → p x ≡ a → q x ≡ b → filter p (filter q xs) ≡ filter q (filter p xs) → filter p (cond b (x ∷ filter q xs) (filter q xs)) ≡ filter q (cond a (x ∷ filter p xs) (filter p xs))
    by true true e f more =
        ap (λ c. cond c (x ∷ filter p (filter q xs)) (filter p (filter q xs))) e ∙ ap (λ ys. x ∷ ys) more
        ∙ sym (ap (λ c. cond c (x ∷ filter q (filter p xs)) (filter q (filter p xs))) f)
    by true false e f more = more ∙ sym (ap (λ c. cond c (x ∷ filter q (filter p xs)) (filter q (filter p xs))) f)
    by false true e f more = ap (λ c. cond c (x ∷ filter p (filter q xs)) (filter p (filter q xs))) e ∙ more
    by false false e f more = more

-- two tests that agree at each member keep the same members
pub filter-agree : {X : Type 0} (L : X → Type 0) (p q : X → Bool) → ((x : X) → L x → p x ≡ q x) → (xs : List X) → All L xs → filter p xs ≡ filter q xs
filter-agree L p q same [] all = refl
filter-agree L p q same (x ∷ xs) all =
    ap (λ c. cond c (x ∷ filter p xs) (filter p xs)) (same x (All-head L x xs all)) ∙ ap (λ ys. cond (q x) (x ∷ ys) ys) (filter-agree L p q same xs (All-tail L x xs all))

-- where no member passes
pub filter-none : {X : Type 0} (L : X → Type 0) (p : X → Bool) → ((x : X) → L x → p x ≡ false) → (xs : List X) → All L xs → filter p xs ≡ []
filter-none L p none [] all = refl
filter-none L p none (x ∷ xs) all = ap (λ c. cond c (x ∷ filter p xs) (filter p xs)) (none x (All-head L x xs all)) ∙ filter-none L p none xs (All-tail L x xs all)

-- what is picked, seen through g
pub picks-map : {X Y : Type 0} (L P : X → Type 0) (Q : Y → Type 0) (g : X → Y) → ((x : X) → L x → P x → Q (g x)) → ((x : X) → L x → Q (g x) → P x) → (xs picked : List X) → All L xs → Picks P xs picked → Picks Q (map g xs) (map g picked)
picks-map L P Q g to from [] picked all e = ap (map g) e
picks-map L P Q g to from (x ∷ xs) picked all (inl (held, others, e, h)) =
    inl (to x (All-head L x xs all) held, map g others, ap (map g) e, picks-map L P Q g to from xs others (All-tail L x xs all) h)
picks-map L P Q g to from (x ∷ xs) picked all (inr (unheld, h)) =
    inr (λ q. unheld (from x (All-head L x xs all) q), picks-map L P Q g to from xs picked (All-tail L x xs all) h)

-- what is picked of some members
pub picks-filter : {X : Type 0} (P : X → Type 0) (p : X → Bool) (xs picked : List X) → Picks P xs picked → Picks P (filter p xs) (filter p picked)
picks-filter P p [] picked e = ap (filter p) e
picks-filter {X} P p (x ∷ xs) picked (inl (held, others, e, h)) = by (p x) (ap (filter p) e) (picks-filter P p xs others h)
  where
    by : (b : Bool) → filter p picked ≡ cond b (x ∷ filter p others) (filter p others) → Picks P (filter p xs) (filter p others) → Picks P (cond b (x ∷ filter p xs) (filter p xs)) (filter p picked)
    by true g more = inl (held, filter p others, g, more)
    by false g more = subst (λ (l : List X). Picks P (filter p xs) l) (sym g) more
picks-filter {X} P p (x ∷ xs) picked (inr (unheld, h)) = by (p x) (picks-filter P p xs picked h)
  where
    by : (b : Bool) → Picks P (filter p xs) (filter p picked) → Picks P (cond b (x ∷ filter p xs) (filter p xs)) (filter p picked)
    by true more = inr (unheld, more)
    by false more = more

-- only one list is picked
pub picks-same : {X : Type 0} (P : X → Type 0) (xs a b : List X) → Picks P xs a → Picks P xs b → a ≡ b
picks-same P [] a b e f = e ∙ sym f
picks-same P (x ∷ xs) a b (inl (held, others, e, g)) (inl (held', others', e', g')) = e ∙ ap (λ ys. x ∷ ys) (picks-same P xs others others' g g') ∙ sym e'
picks-same P (x ∷ xs) a b (inl (held, others, e, g)) (inr (unheld, g')) = absurd (unheld held)
picks-same P (x ∷ xs) a b (inr (unheld, g)) (inl (held, others, e, g')) = absurd (unheld held)
picks-same P (x ∷ xs) a b (inr (unheld, g)) (inr (unheld', g')) = picks-same P xs a b g g'

-- what is picked where two conditions agree
pub picks-agree : {X : Type 0} (L P Q : X → Type 0) → ((x : X) → L x → P x → Q x) → ((x : X) → L x → Q x → P x) → (xs picked : List X) → All L xs → Picks P xs picked → Picks Q xs picked
picks-agree L P Q to from [] picked all e = e
picks-agree L P Q to from (x ∷ xs) picked all (inl (held, others, e, h)) = inl (to x (All-head L x xs all) held, others, e, picks-agree L P Q to from xs others (All-tail L x xs all) h)
picks-agree L P Q to from (x ∷ xs) picked all (inr (unheld, h)) = inr (λ q. unheld (from x (All-head L x xs all) q), picks-agree L P Q to from xs picked (All-tail L x xs all) h)
