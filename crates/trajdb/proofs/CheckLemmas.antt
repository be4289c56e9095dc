-- What a check finds of a database.
use Rattle.std.proofs.Common.{ℕ, ◌+◌, ◌<◌, ◌≤◌, ◌≡◌, ◌≢◌, ◌∙◌, refl, sym, ap, arith, subst, true, false, cond, ltb, max, List, [], ◌∷◌, length, get_or, Some, None, All}
use Rattle.std.specs.Prelude.{fold, bytes_eq}
use Rattle.std.proofs.lemmas.Bool.Decides.{nat_tests}
use Rattle.std.proofs.lemmas.List.Elements.{All-nil, All-cons}
use Rattle.std.proofs.lemmas.List.Sums.{position_or_len_is}
use Rattle.std.proofs.lemmas.Option.{slice_get-get_or, get_or_from_slice_get, slice_get_within, same_Some}
use Rattle.std.proofs.lemmas.Slice.Eq.{bytes_eq-Decides}
use Rattle.legs.specs.Book.{feature_named, feature_number}
use Rattle.legs.specs.Index.{feature_count}
use Rattle.legs.specs.Law.{IsName}
use Rattle.legs.specs.Legs.{LegView}
use Rattle.trajdb.specs.Db.{AreNames, IsOwnName}

-- names that are found at their numbers are distinct
pub own_names : (names : List (List ℕ)) → ((f : ℕ) → f < length names → IsOwnName names f) → AreNames names
own_names names own = record {
  each = λ f d h. (own f h (get_or names f d) (slice_get-get_or names f d h)).0;
  distinct = λ i j d l h e.
      let within : i < length names = omega (arith, l, h) in
      let a = (own i within (get_or names i d) (slice_get-get_or names i d within)).1 in
      let b = (own j h (get_or names j d) (slice_get-get_or names j d h)).1 in
      let c : Some i ≡ Some j = sym a ∙ ap (λ name. feature_named names name) e ∙ b in
      let same = same_Some i j c in
      absurd (omega (arith, l, same));
}

differ : (a b : List ℕ) → a ≢ b → bytes_eq a b ≡ false
differ a b n = elim (bytes_eq a b) as (λ r. bytes_eq a b ≡ r → r ≡ false) [
  | true ↦ λ e. absurd (n ((bytes_eq-Decides a b).0 e))
  | false ↦ λ e. refl
] refl

-- and distinct names are found at their numbers
pub names_own : (names : List (List ℕ)) → AreNames names → (f : ℕ) → IsOwnName names f
names_own names are f name at =
    let within = slice_get_within names f name at in
    let is = get_or_from_slice_get names f name [] at in
    let same : bytes_eq name (get_or names f []) ≡ true = (bytes_eq-Decides name (get_or names f [])).1 (sym is) in
    let before : (k : ℕ) → k < f → bytes_eq name (get_or names k []) ≡ false =
    λ k l. differ name (get_or names k []) (λ e. are.distinct k f [] l within (sym e ∙ sym is)) in
    let number : feature_number names name ≡ f = position_or_len_is (bytes_eq name) names f [] (omega (arith, within)) before (λ h. same) in
    let test : ltb (feature_number names name) (length names) ≡ true = grind (arith, nat_tests) in
    (subst IsName is (are.each f [] within), ap (λ b. cond b (Some (feature_number names name)) None) test ∙ ap Some number)

-- the feature of each leg is one of those that are counted
fold_max-le : (legs : List LegView) (n m : ℕ) → m ≤ n → m ≤ fold (λ count leg. max count (leg.feature + 1)) n legs
fold_max-le [] n m h = h
fold_max-le (leg ∷ legs) n m h = fold_max-le legs (max n (leg.feature + 1)) m (omega arith)

below : (legs : List LegView) (n : ℕ) → All (λ leg. leg.feature < fold (λ count leg. max count (leg.feature + 1)) n legs) legs
below [] n = All-nil (λ leg. leg.feature < n)
below (leg ∷ legs) n =
    let P = λ (l : LegView). l.feature < fold (λ count leg. max count (leg.feature + 1)) (max n (leg.feature + 1)) legs in
    All-cons P leg legs (let h = fold_max-le legs (max n (leg.feature + 1)) (leg.feature + 1) (omega arith) in omega (arith, h)) (below legs (max n (leg.feature + 1)))

pub counted : (legs : List LegView) → All (λ leg. leg.feature < feature_count legs) legs
counted legs = below legs 0

-- where none is counted there is no leg
pub none_counted : (legs : List LegView) → feature_count legs ≡ 0 → legs ≡ []
none_counted [] e = refl
none_counted (leg ∷ legs) e = absurd (let h = fold_max-le legs (max 0 (leg.feature + 1)) (leg.feature + 1) (omega arith) in omega (arith, h, e))
