-- What a page holds, byte by byte.
use Rattle.std.specs.Prelude.{ℕ, List, ◌∷◌, ◌++◌}
use Rattle.byteorder.specs.Endian.{big_bytes}
use Rattle.sha2.specs.Sha256.{sha256}
use Rattle.pages.specs.declared.payload.Kind.{Kind}
use Rattle.pages.specs.declared.payload.Kind.TheVariants.{Header, Leaf, Inner, Catalogue}
use Rattle.pages.specs.declared.payload.Payload.{Payload}

-- the byte that says what a page is for
abbrev pub code_of : Kind → ℕ
code_of Header = 1
code_of Leaf = 2
code_of Inner = 3
code_of Catalogue = 4

-- all but the digest: the number, big-endian, the kind, three zero bytes, the payload
unfoldable pub front : ℕ → Payload → List ℕ
front n p = big_bytes 4 n ++ (code_of p.kind ∷ 0 ∷ 0 ∷ 0 ∷ p.bytes)

-- the page of number n that holds the payload: its front, then the front's SHA-256
unfoldable pub sealed : ℕ → Payload → List ℕ
sealed n p = front n p ++ sha256 (front n p)
