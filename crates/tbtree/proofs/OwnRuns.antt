-- The runs of one key are the groups of its elements.
use Rattle.std.proofs.Common.{ℕ, zero, suc, ◌%◌, ◌<◌, ◌≡◌, ◌≢◌, ◌==◌, Bool, true, false, cond, List, [], ◌∷◌, ◌++◌, take, refl, sym, ap, ◌∙◌, arith, ⊎_elim, eq-eqb}
use Rattle.std.specs.List.{filter, count_by}
use Rattle.std.proofs.lemmas.Bool.{cases_eq}
use Rattle.std.proofs.lemmas.List.{append-nil}
use Rattle.std.proofs.lemmas.List.Elements.{filter-append}
use Rattle.std.proofs.lemmas.List.Sums.{length-filter}
use Rattle.legs.specs.Blocks.{begins, runs_after, runs, groups}
use Rattle.tbtree.specs.Stands.{owner}
use Rattle.legs.proofs.BlockLemmas.{all_pass, count_all}
use Rattle.tbtree.proofs.RoomLemmas.{neq-eqb}
use Rattle.tbtree.proofs.KeyRuns.{is}

module _ {X : Type 0} (key : X → ℕ) (m f : ℕ) where
  abbrev pub owned : List X → Bool
  owned r = owner key r == f

  abbrev mine : List X → List X
  mine xs = filter (is key f) xs

  own_after : (b xs : List X) → filter owned (runs_after key (suc m) b xs) ≡ runs_after (λ _. 0) (suc m) (mine b) (mine xs)
  own_after b [] = refl
  own_after b (x ∷ xs) =
      let rest = runs_after key (suc m) (b ++ x ∷ []) xs in
      let run = take (suc m) (x ∷ filter (is key (key x)) xs) in
      let on : filter owned rest ≡ runs_after (λ _. 0) (suc m) (mine (b ++ x ∷ [])) (mine xs) = own_after (b ++ x ∷ []) xs in
      ⊎_elim
      (λ (k : key x ≡ f).
      let t : is key f x ≡ true = eq-eqb _ _ k in
      let next : mine (b ++ x ∷ []) ≡ mine b ++ x ∷ [] = filter-append (is key f) b (x ∷ []) ∙ ap (λ v. mine b ++ cond v (x ∷ []) []) t in
      let rest' = runs_after (λ (_ : X). 0) (suc m) (mine b ++ x ∷ []) (mine xs) in
      let on' : filter owned rest ≡ rest' = on ∙ ap (λ b. runs_after (λ (_ : X). 0) (suc m) b (mine xs)) next in
      let counts : count_by (is key (key x)) b ≡ count_by (λ _. true) (mine b) = ap (λ g. count_by (is key g) b) k ∙ sym (length-filter (is key f) b) ∙ sym (count_all (mine b)) in
      let whole : run ≡ take (suc m) (x ∷ filter (λ _. true) (mine xs)) = ap (λ g. x ∷ take m (filter (is key g) xs)) k ∙ ap (λ l. x ∷ take m l) (sym (all_pass (mine xs))) in
      ap (λ n. filter owned (cond (n % suc m == 0) (run ∷ rest) rest)) counts
      ∙ (elim (count_by (λ _. true) (mine b) % suc m == 0) as (λ v. filter owned (cond v (run ∷ rest) rest) ≡ cond v (take (suc m) (x ∷ filter (λ _. true) (mine xs)) ∷ rest') rest') [
        | true ↦ ap (λ w. cond w (run ∷ filter owned rest) (filter owned rest)) t ∙ (λ i. whole i ∷ on' i)
        | false ↦ on'
      ])
      ∙ sym (ap (λ v. runs_after (λ (_ : X). 0) (suc m) (mine b) (cond v (x ∷ mine xs) (mine xs))) t))
      (λ (k : key x ≢ f).
      let t : is key f x ≡ false = neq-eqb _ _ k in
      let next : mine (b ++ x ∷ []) ≡ mine b = filter-append (is key f) b (x ∷ []) ∙ ap (λ v. mine b ++ cond v (x ∷ []) []) t ∙ append-nil (mine b) in
      let on' : filter owned rest ≡ runs_after (λ (_ : X). 0) (suc m) (mine b) (mine xs) = on ∙ ap (λ b. runs_after (λ (_ : X). 0) (suc m) b (mine xs)) next in
      (elim (begins key (suc m) b x) as (λ v. filter owned (cond v (run ∷ rest) rest) ≡ runs_after (λ (_ : X). 0) (suc m) (mine b) (mine xs)) [
        | true ↦ ap (λ w. cond w (run ∷ filter owned rest) (filter owned rest)) t ∙ on'
        | false ↦ on'
      ])
      ∙ sym (ap (λ v. runs_after (λ (_ : X). 0) (suc m) (mine b) (cond v (x ∷ mine xs) (mine xs))) t))
      (cases_eq (key x) f)

pub own_runs : {X : Type 0} (key : X → ℕ) (n f : ℕ) (xs : List X) → 0 < n → filter (λ r. owner key r == f) (runs key n xs) ≡ groups n (filter (is key f) xs)
own_runs key zero f xs h = absurd (omega (arith, h))
own_runs key (suc m) f xs h = own_after key m f [] xs
