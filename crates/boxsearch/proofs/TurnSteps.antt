-- The turns of legs, leg by leg.
use Rattle.std.proofs.Common.{ℕ, zero, suc, ◌≡◌, ◌≢◌, ◌≤◌, ◌<◌, ◌+◌, ◌==◌, max, false, cond, refl, sym, ap, ◌∙◌, arith, subst, ⊎_elim, eq-eqb, List, [], ◌∷◌, ◌++◌, drop, length, append_assoc, get_or}
use Rattle.std.proofs.lemmas.Bool.{cases_eq}
use Rattle.std.proofs.lemmas.Bool.Decides.{nat_tests}
use Rattle.std.proofs.lemmas.List.{append-nil, length_push, length-set}
use Rattle.legs.specs.Index.{feature_count, CanFollowInTurn, SkipNone}
use Rattle.legs.specs.Legs.{LegView}
use Rattle.legs.specs.declared.index.IndexFault.{IndexFault}
use Rattle.legs.specs.declared.index.IndexFault.TheVariants as index
use Rattle.tbtree.specs.declared.tree.Place.{Place}
use Rattle.boxsearch.specs.Turns.{leaf_for, open_after, open_with, opened_from, turns_from, IsTurnFault}
use Rattle.boxsearch.specs.declared.turns.Open.{Open}
use Rattle.boxsearch.specs.declared.turns.Turn.{Turn}
use Rattle.boxsearch.proofs.AddLemmas.{feature_count-push}
use Rattle.boxsearch.proofs.TakingTurns.{drop_next, drop_none}

pub opened_length : (most feature : ℕ) (places : List Place) → length (opened_from most feature places) ≡ length places
opened_length most feature [] = refl
opened_length most feature (place ∷ places) = ap suc (opened_length most (feature + 1) places)

pub length_with : (ends : List Open) (feature made : ℕ) → feature ≤ length ends → length (open_with ends feature made) ≡ max (length ends) (feature + 1)
length_with ends feature made h =
    ⊎_elim
    (λ (e : feature ≡ length ends).
    ap (λ v. length (cond v (ends ++ record { filled = 0; leaf = made } ∷ []) ends)) (eq-eqb _ _ e) ∙ (let p = length_push ends (record { filled = 0; leaf = made }) in omega (arith, p, e)))
    (λ (u : feature ≢ length ends).
    let n : (feature == length ends) ≡ false = grind (arith, nat_tests, u) in
    ap (λ v. length (cond v (ends ++ record { filled = 0; leaf = made } ∷ []) ends)) n ∙ omega (arith, u, h))
    (cases_eq feature (length ends))

pub length_after : (most : ℕ) (ends : List Open) (feature made : ℕ) → feature ≤ length ends → length (open_after most ends feature made) ≡ max (length ends) (feature + 1)
unfolding open_after
length_after most ends feature made h = length-set (open_with ends feature made) feature _ ∙ length_with ends feature made h

-- legs that may follow skip no feature
pub none_skipped : (before legs : List LegView) (n : ℕ) → n ≡ feature_count before → CanFollowInTurn before legs → SkipNone n legs
none_skipped before [] n e w = tt
none_skipped before (leg ∷ legs) n e w = (
  (let low = w.0.feature in omega (arith, low, e)),
  none_skipped (before ++ leg ∷ []) legs (max n (leg.feature + 1)) (ap (λ k. max k (leg.feature + 1)) e ∙ sym (feature_count-push before leg)) w.1,
)

drop_past : {X : Type 0} (xs : List X) (k : ℕ) → length xs ≤ k → drop k xs ≡ []
drop_past [] k l = drop_none k
drop_past (x ∷ xs) zero l = absurd (omega (arith, l))
drop_past (x ∷ xs) (suc k) l = drop_past xs k (omega (arith, l))

pub next_leg : (legs : List LegView) (k : ℕ) (leg : LegView) → k < length legs → leg ≡ get_or legs k leg → drop k legs ≡ leg ∷ drop (k + 1) legs
next_leg legs k leg l is = let next : suc k ≡ k + 1 = omega arith in drop_next legs k leg l ∙ ap (λ x. x ∷ drop (suc k) legs) (sym is) ∙ ap (λ n. leg ∷ drop n legs) next

pub turns_step : (most base k : ℕ) (ends ends' : List Open) (legs : List LegView) (turns all : List Turn) (leg : LegView) (leaf feature made : ℕ) → k < length legs → leg ≡ get_or legs k leg → feature ≡ leg.feature → made ≡ base + k → leaf ≡ leaf_for ends feature made → ends' ≡ open_after most ends feature made
    → turns ++ turns_from most ends base k (drop k legs) ≡ all → (turns ++ record { leaf = leaf; place = k } ∷ []) ++ turns_from most ends' base (k + 1) (drop (k + 1) legs) ≡ all
turns_step most base k ends ends' legs turns all leg leaf feature made l is f m a b so_far =
    let rest = drop (k + 1) legs in
    let leaf' : leaf ≡ leaf_for ends leg.feature (base + k) = a ∙ (λ i. leaf_for ends (f i) (m i)) in
    let ends'' : ends' ≡ open_after most ends leg.feature (base + k) = b ∙ (λ i. open_after most ends (f i) (m i)) in
    let t : Turn = record { leaf = leaf; place = k } in
    let step : turns_from most ends base k (drop k legs) ≡ t ∷ turns_from most ends' base (k + 1) rest =
    ap (turns_from most ends base k) (next_leg legs k leg l is) ∙ (λ i. record { leaf = sym leaf' i; place = k } ∷ turns_from most (sym ends'' i) base (k + 1) rest) in
    append_assoc turns (t ∷ []) (turns_from most ends' base (k + 1) rest) ∙ ap (λ l. turns ++ l) (sym step) ∙ so_far

pub fit_next : (n k : ℕ) (legs : List LegView) (leg : LegView) → k < length legs → leg ≡ get_or legs k leg → SkipNone n (drop k legs) → (leg.feature ≤ n) × SkipNone (max n (leg.feature + 1)) (drop (k + 1) legs)
fit_next n k legs leg l is h = subst (λ ls. SkipNone n ls) (next_leg legs k leg l is) h

pub fit_step : (most k : ℕ) (ends ends' : List Open) (legs : List LegView) (leg : LegView) (feature made : ℕ) → k < length legs → leg ≡ get_or legs k leg → feature ≡ leg.feature → ends' ≡ open_after most ends feature made → SkipNone (length ends) (drop k legs) → SkipNone (length ends') (drop (k + 1) legs)
fit_step most k ends ends' legs leg feature made l is f b h =
    let on = fit_next (length ends) k legs leg l is h in
    let low = on.0 in
    let len = length_after most ends feature made (omega (arith, f, low)) in
    let same : max (length ends) (leg.feature + 1) ≡ length ends' = (let e = ap length b in omega (arith, f, len, e)) in
    subst (λ n. SkipNone n (drop (k + 1) legs)) same on.1

-- where no leg is left
pub turns_all : (most base k : ℕ) (ends : List Open) (legs : List LegView) (turns all : List Turn) → length legs ≤ k → turns ++ turns_from most ends base k (drop k legs) ≡ all → turns ≡ all
turns_all most base k ends legs turns all l so_far = sym (append-nil turns) ∙ ap (λ ls. turns ++ turns_from most ends base k ls) (sym (drop_past legs k l)) ∙ so_far

-- turns that are not told of a leg that skips a feature are not told of the legs
pub turn_skips : (skips all : Type 0) (fault : IndexFault) → (skips → all) → IsTurnFault skips fault → IsTurnFault all fault
turn_skips skips all index.Memory f h = tt
turn_skips skips all index.Store f h = h
turn_skips skips all (index.Damaged n) f h = h
turn_skips skips all index.StoreFull f h = h
turn_skips skips all index.Spent f h = f h
