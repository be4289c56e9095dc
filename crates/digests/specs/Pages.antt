-- What contracts say of pages that are lent, and of their digests.
use Rattle.std.specs.Prelude.{ℕ, List, [], map, take, slice_index_or}
use Rattle.std.specs.Borrow.{Bor}
use Rattle.sha2.specs.Sha256.{sha256}

-- the bytes of page j
abbrev pub page : ℕ → List (Bor (List ℕ)) → List ℕ
page j pages = slice_index_or (map (λ p. p.now) pages) j []

-- the SHA-256 of a page's first 4,064 bytes
abbrev pub digest_of : List ℕ → List ℕ
digest_of page = sha256 (take 4064 page)
