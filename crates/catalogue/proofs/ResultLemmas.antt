-- What follows of results, options and lists, by their cases.
use Rattle.std.proofs.Common.{ℕ, suc, ◌≡◌, ◌+◌, [], ◌∷◌, List, length, map, slice_get, refl, arith, ◌∙◌, ap, Some, None}
use Rattle.std.specs.List.{range_with_len}
pub use Rattle.register.proofs.ReaderLemmas.{some_none, some_same, on_ok, if_ok, if_err, if_err_of}

pub none_some : {X : Type 0} {x : X} → None ≡ Some x → ⊥
none_some e = (cc)

-- a list that is made of the numbers of its places
pub map_range : {V : Type 0} (f : ℕ → V) (xs : List V) (a : ℕ) → ((k : ℕ) (x : V) → slice_get xs k ≡ Some x → f (a + k) ≡ x) → map f (range_with_len a (length xs)) ≡ xs
map_range f [] a h = refl
map_range f (x ∷ xs) a h =
    let first : f a ≡ x = ap f (let e : a ≡ a + 0 = omega arith in e) ∙ h 0 x refl in
    let rest = map_range f xs (a + 1) (λ k y e. ap f (let s : a + 1 + k ≡ a + suc k = omega arith in s) ∙ h (suc k) y e) in
    (λ i. first i ∷ rest i)
