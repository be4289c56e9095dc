-- The members of a list of which something holds.
use Rattle.std.specs.Prelude.{◌≡◌, ◌⊎◌, List, [], ◌∷◌}

-- the picked are exactly the members of which P holds, in the order of the list
abbrev pub Picks : {T : Type 0} → (T → Type 0) → List T → List T → Type 0
Picks P [] picked = picked ≡ []
Picks {T} P (x ∷ xs) picked =
    (P x × (others : List T) × (picked ≡ x ∷ others) × Picks P xs others)
    ⊎ ((P x → ⊥) × Picks P xs picked)
