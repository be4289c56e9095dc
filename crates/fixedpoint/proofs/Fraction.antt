-- The digits behind the point.
use Rattle.std.proofs.Common.{ℕ, zero, suc, ◌<◌, ◌+◌, ◌-◌, ◌*◌, ◌/◌, ◌%◌, ◌≡◌, ◌++◌, ◌∷◌, [], List, eqb, false, arith, refl, ap, ◌∙◌, sym}
use Rattle.std.proofs.lemmas.Bool.Decides.{nat_tests}
use Rattle.std.proofs.lemmas.List.{append_assoc}
use Rattle.fixedpoint.specs.NumberText.{fraction_digits}

pub fraction_none : (k p r : ℕ) → k ≡ 0 → fraction_digits k p r ≡ []
unfolding fraction_digits
fraction_none k p r e = rw e refl

pub fraction_end : (k p r : ℕ) → r ≡ 0 → fraction_digits k p r ≡ []
unfolding fraction_digits
fraction_end zero p r e = refl
fraction_end (suc k) p r e = rw e refl

pub fraction_step : (k p r : ℕ) → 0 < r → fraction_digits (suc k) p r ≡ (48 + r * 10 / p) ∷ fraction_digits k p (r * 10 % p)
unfolding fraction_digits
fraction_step k p r h = let no : eqb r 0 ≡ false = grind (arith, nat_tests) in rw no refl

-- one digit more is printed
pub fraction_more : (xs : List ℕ) (n i p r : ℕ) → i < n → 0 < r → (xs ++ (48 + r * 10 / p) ∷ []) ++ fraction_digits (n - (i + 1)) p (r * 10 % p) ≡ xs ++ fraction_digits (n - i) p r
fraction_more xs n i p r lt h =
    let k : ℕ = n - (i + 1) in
    let e : n - i ≡ suc k = omega arith in
    append_assoc xs ((48 + r * 10 / p) ∷ []) (fraction_digits k p (r * 10 % p)) ∙ ap (λ ys. xs ++ ys) (sym (fraction_step k p r h)) ∙ ap (λ j. xs ++ fraction_digits j p r) (sym e)
