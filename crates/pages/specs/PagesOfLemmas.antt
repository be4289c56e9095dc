-- How many pages a file's bytes give: what the law of a store in a file cites.
use Rattle.std.proofs.Common.{◌≡◌, ℕ, zero, suc, List, Option, Some, None, IsTrue, is_some, drop, length, refl, ap}
use Rattle.std.proofs.lemmas.Bool.{false≢true}
use Rattle.pages.specs.Bytes.{pages_of, known_pages}

-- the first k pages are k
pub length-pages_of : (n k : ℕ) (xs : List ℕ) → length (pages_of n k xs) ≡ k
length-pages_of n zero xs = refl
length-pages_of n (suc k) xs = ap suc (length-pages_of n k (drop n xs))

-- pages that known bytes hold are as many as they are said to be
pub length-known_pages : (n k : ℕ) (bytes : Option (List ℕ)) → IsTrue (is_some bytes)
    → length (known_pages n k bytes) ≡ k
length-known_pages n k None f = absurd (false≢true f)
length-known_pages n k (Some xs) f = length-pages_of n k xs
