-- The bytes of a file, and the pages that they hold.
use Rattle.std.specs.Prelude.{ℕ, zero, suc, ◌≡◌, ◌≤◌, ◌*◌, List, [], ◌∷◌, take, drop, length, Option, Some, None, ⊤, option_map, unwrap_or, true, false, ◌/◌, ◌^◌, ◌-◌}
use Rattle.std.specs.Option.{ForSome}
use Rattle.pages.specs.Store.{Store}
use Rattle.pages.specs.declared.unsynced.Unsynced.TheVariants.{Others}

-- known bytes before `from` and after `end` stay, and none goes
abbrev pub StaysAround : ℕ → ℕ → Option (List ℕ) → Option (List ℕ) → Type 0
StaysAround from end (Some xs) (Some ys) =
    (take from ys ≡ take from xs) × (drop end ys ≡ drop end xs) × (length xs ≤ length ys)
StaysAround from end (Some xs) None = ⊥
StaysAround from end None (Some ys) = ⊥
StaysAround from end None None = ⊤

-- the first k pages of n bytes each
abbrev pub pages_of : ℕ → ℕ → List ℕ → List (List ℕ)
pages_of n zero xs = []
pages_of n (suc k) xs = take n xs ∷ pages_of n k (drop n xs)

-- the store of the whole pages of a file's bytes, which may all be unsynced
abbrev pub whole_pages : List ℕ → Store
whole_pages xs = record {
  count = length xs / 4096;
  most = 2 ^ 32 - 1;
  faults = 0;
  unsynced = Others;
  has_lost = false;
  is_faithful = true;
  pages = pages_of 4096 (length xs / 4096) xs;
}

-- known bytes hold k pages of n bytes each
abbrev pub HoldPages : ℕ → ℕ → Option (List ℕ) → Type 0
HoldPages n k bytes = ForSome bytes (λ xs. k * n ≤ length xs)

-- those pages
abbrev pub known_pages : ℕ → ℕ → Option (List ℕ) → List (List ℕ)
known_pages n k bytes = unwrap_or (option_map (pages_of n k) bytes) []
