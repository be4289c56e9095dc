-- Names and their numbers.
use Rattle.std.proofs.Common.{ℕ, suc, ◌+◌, ◌<◌, ◌≤◌, ◌≡◌, ◌∙◌, ap, sym, refl, List, [], ◌∷◌, ◌++◌, length, map, Bool, true, false, cond, eqb, ltb, arith, get_or, inl, inr, ◌⊎◌, Some, None}
use Rattle.std.specs.Prelude.{bytes_eq, position, not}
use Rattle.std.specs.List.{position_or_len, list_any}
use Rattle.std.proofs.lemmas.Bool.Decides.{nat_tests}
use Rattle.std.proofs.lemmas.List.{length_push, length-map}
use Rattle.std.proofs.lemmas.List.Folds.{position_or_len_push}
use Rattle.std.proofs.lemmas.List.Sums.{passes_at_first}
use Rattle.std.proofs.lemmas.Slice.Eq.{bytes_eq-Decides}
use Rattle.legs.specs.Book.{feature_named, feature_number, names_with}

pub cases_bool : (b : Bool) → (b ≡ true) ⊎ (b ≡ false)
cases_bool true = inl refl
cases_bool false = inr refl

-- texts
pub text_same : (a b : List ℕ) → bytes_eq a b ≡ true → a ≡ b
text_same a b e = (bytes_eq-Decides a b).0 e

pub text_self : (a : List ℕ) → bytes_eq a a ≡ true
text_self a = (bytes_eq-Decides a a).1 refl

-- the first place that passes is at most the length, and there is one exactly where some element passes
pub first-le : {X : Type 0} (p : X → Bool) (xs : List X) → position_or_len p xs ≤ length xs
first-le p [] = omega arith
first-le p (x ∷ xs) =
    elim (cases_bool (p x)) [
      | inl e ↦ let z : position_or_len p (x ∷ xs) ≡ 0 = rw e refl in omega arith
      | inr e ↦ let s : position_or_len p (x ∷ xs) ≡ 1 + position_or_len p xs = rw e refl in omega (arith, first-le p xs)
    ]

pub any_is_first : {X : Type 0} (p : X → Bool) (xs : List X) → list_any p xs ≡ ltb (position_or_len p xs) (length xs)
any_is_first p [] = refl
any_is_first p (x ∷ xs) =
    elim (cases_bool (p x)) [
      | inl e ↦ let s : ltb 0 (suc (length xs)) ≡ true = grind (arith, nat_tests) in rw e (sym s)
      | inr e ↦ let s : ltb (position_or_len p xs) (length xs) ≡ ltb (1 + position_or_len p xs) (suc (length xs)) = grind (arith, nat_tests) in rw e (any_is_first p xs ∙ s)
    ]

pub number_of-le : (names : List (List ℕ)) (name : List ℕ) → feature_number names name ≤ length names
number_of-le names name = first-le (bytes_eq name) names

pub names_with-known : (names : List (List ℕ)) (name : List ℕ) → feature_number names name < length names → names_with names name ≡ names
names_with-known names name h =
    let e : list_any (bytes_eq name) names ≡ true = any_is_first (bytes_eq name) names ∙ grind (arith, nat_tests) in
    ap (λ b. cond b names (names ++ name ∷ [])) e

pub names_with-new : (names : List (List ℕ)) (name : List ℕ) → feature_number names name ≡ length names → names_with names name ≡ names ++ name ∷ []
names_with-new names name h =
    let e : list_any (bytes_eq name) names ≡ false = any_is_first (bytes_eq name) names ∙ grind (arith, nat_tests) in
    ap (λ b. cond b names (names ++ name ∷ [])) e

pub feature_of-known : (names : List (List ℕ)) (name : List ℕ) → feature_number names name < length names → feature_named names name ≡ Some (feature_number names name)
feature_of-known names name h =
    let e : ltb (feature_number names name) (length names) ≡ true = grind (arith, nat_tests) in
    ap (λ b. cond b (Some (feature_number names name)) None) e

pub feature_of-new : (names : List (List ℕ)) (name : List ℕ) → length names ≤ feature_number names name → feature_named names name ≡ None
feature_of-new names name h =
    let e : ltb (feature_number names name) (length names) ≡ false = grind (arith, nat_tests) in
    ap (λ b. cond b (Some (feature_number names name)) None) e

-- a name is there or is the next one
pub known_or_new : (names : List (List ℕ)) (name : List ℕ) → (feature_number names name < length names) ⊎ (feature_number names name ≡ length names)
known_or_new names name =
    elim (cases_bool (ltb (feature_number names name) (length names))) [
      | inl e ↦ inl (grind (arith, nat_tests))
      | inr e ↦ let past : length names ≤ feature_number names name = grind (arith, nat_tests) in inr (omega (arith, number_of-le names name))
    ]

-- two names of one number are the same
pub same_number : (names : List (List ℕ)) (a b : List ℕ) → feature_number names a < length names → feature_number names a ≡ feature_number names b → a ≡ b
same_number names a b h e =
    let p = text_same a _ (passes_at_first (bytes_eq a) names [] h) in
    let below : feature_number names b < length names = omega arith in
    let q = text_same b _ (passes_at_first (bytes_eq b) names [] below) in
    p ∙ ap (λ k. get_or names k []) e ∙ sym q

-- the numbers of the names with one more
pub number_of-push : (names : List (List ℕ)) (name other : List ℕ) → feature_number names name ≡ length names → feature_number (names ++ name ∷ []) other ≡ cond (eqb (feature_number names other) (length names)) (length names + cond (bytes_eq other name) 0 1) (feature_number names other)
number_of-push names name other h = position_or_len_push (bytes_eq other) names name

pub feature_of-with_same : (names : List (List ℕ)) (name : List ℕ) → feature_named (names_with names name) name ≡ Some (feature_number names name)
feature_of-with_same names name =
    elim (known_or_new names name) [
      | inl known ↦ ap (λ ns. feature_named ns name) (names_with-known names name known) ∙ feature_of-known names name known
      | inr new ↦
          let at : feature_number (names ++ name ∷ []) name ≡ feature_number names name =
          number_of-push names name name new ∙ (let t : eqb (feature_number names name) (length names) ≡ true = grind (arith, nat_tests) in rw (t, text_self name) (omega arith)) in
          let n = length_push names name in
          ap (λ ns. feature_named ns name) (names_with-new names name new) ∙ feature_of-known (names ++ name ∷ []) name (omega arith) ∙ ap Some at
    ]

pub feature_of-with_other : (names : List (List ℕ)) (name other : List ℕ) → bytes_eq name other ≡ false → feature_named (names_with names name) other ≡ feature_named names other
feature_of-with_other names name other ne =
    elim (known_or_new names name) [
      | inl known ↦ ap (λ ns. feature_named ns other) (names_with-known names name known)
      | inr new ↦
          let n = length_push names name in
          let differs : bytes_eq other name ≡ false = elim (cases_bool (bytes_eq other name)) [
            | inl e ↦ absurd (let t : bytes_eq name other ≡ true = rw (text_same other name e) (text_self name) in (cc))
            | inr e ↦ e
          ] in
          ap (λ ns. feature_named ns other) (names_with-new names name new) ∙ elim (known_or_new names other) [
            | inl there ↦
                let f : eqb (feature_number names other) (length names) ≡ false = grind (arith, nat_tests) in
                let at : feature_number (names ++ name ∷ []) other ≡ feature_number names other = number_of-push names name other new ∙ rw f refl in
                feature_of-known (names ++ name ∷ []) other (omega arith) ∙ ap Some at ∙ sym (feature_of-known names other there)
            | inr absent ↦
                let t : eqb (feature_number names other) (length names) ≡ true = grind (arith, nat_tests) in
                let at : feature_number (names ++ name ∷ []) other ≡ length names + 1 = number_of-push names name other new ∙ rw (t, differs) refl in
                feature_of-new (names ++ name ∷ []) other (omega arith) ∙ sym (feature_of-new names other (omega arith))
          ]
    ]

-- how many names there are then
pub length-names_with : (names : List (List ℕ)) (name : List ℕ) → feature_number names name < length (names_with names name)
length-names_with names name =
    elim (known_or_new names name) [
      | inl known ↦ rw (names_with-known names name known) known
      | inr new ↦ rw (names_with-new names name new) (omega (arith, length_push names name))
    ]

-- a place in a list of which each element is seen through f
first-map : {X Y : Type 0} (p : Y → Bool) (f : X → Y) (xs : List X) → position_or_len p (map f xs) ≡ position_or_len (λ x. p (f x)) xs
first-map p f [] = refl
first-map p f (x ∷ xs) = ap (λ n. cond (not (p (f x))) (1 + n) 0) (first-map p f xs)

pub position-map : {X Y : Type 0} (p : Y → Bool) (f : X → Y) (xs : List X) → position p (map f xs) ≡ position (λ x. p (f x)) xs
position-map p f xs =
    ap (λ n. cond (ltb (position_or_len p (map f xs)) n) (Some (position_or_len p (map f xs))) None) (length-map xs f)
    ∙ ap (λ n. cond (ltb n (length xs)) (Some n) None) (first-map p f xs)
