-- The parts of a sealed page.
use Rattle.std.proofs.Common.{◌≡◌, ℕ, ◌+◌, List, ◌++◌, length, take, drop, get_or, refl, sym, ap, ◌∙◌, arith, length-append, Some}
use Rattle.std.proofs.lemmas.List.{take_at}
use Rattle.sha2.specs.Sha256.{sha256}
use Rattle.sha2.proofs.Facts256.{length-sha256}
use Rattle.pages.specs.Sealed.{front, sealed, code_of}
use Rattle.pages.specs.declared.payload.Payload.{Payload}

-- m is the length of all but the digest
pub front_of_sealed : (page : List ℕ) (n m : ℕ) (p : Payload) → m + 32 ≡ length page → page ≡ sealed n p → take m page ≡ front n p
unfolding sealed
front_of_sealed page n m p size e =
    let l : length page ≡ length (front n p) + 32 = ap length e ∙ length-append (front n p) (sha256 (front n p)) ∙ ap (λ k. length (front n p) + k) (length-sha256 (front n p)) in
    let s : m ≡ length (front n p) = omega (arith, l) in
    ap (take m) e ∙ take_at (front n p) (sha256 (front n p)) m (sym s)

pub body_of_front : (n : ℕ) (p : Payload) → drop 8 (front n p) ≡ p.bytes
unfolding front
body_of_front n p = refl

pub code_of_front : (n : ℕ) (p : Payload) → get_or (take 8 (front n p)) 4 0 ≡ code_of p.kind
unfolding front
code_of_front n p = refl

pub sealed_same : (n : ℕ) (p q : Payload) → Some p.kind ≡ Some q.kind → p.bytes ≡ q.bytes → sealed n p ≡ sealed n q
sealed_same n p q e f =
    let k : p.kind ≡ q.kind = cc in
    λ i. sealed n (record { kind = k i; bytes = f i })

-- the byte that says the kind, in the first 8 bytes of a sealed page
pub code_at : (page start head : List ℕ) (n m : ℕ) (p : Payload) → m + 32 ≡ length page
    → start ≡ take m page → head ≡ take 8 start → page ≡ sealed n p → get_or head 4 0 ≡ code_of p.kind
code_at page start head n m p size s h e =
    let f : head ≡ take 8 (front n p) = h ∙ ap (take 8) (s ∙ front_of_sealed page n m p size e) in
    ap (λ xs. get_or xs 4 0) f ∙ code_of_front n p

-- the bytes of the payload, behind the first 8
pub body_at : (page start body : List ℕ) (n m : ℕ) (p : Payload) → m + 32 ≡ length page
    → start ≡ take m page → body ≡ drop 8 start → page ≡ sealed n p → body ≡ p.bytes
body_at page start body n m p size s b e =
    b ∙ ap (drop 8) (s ∙ front_of_sealed page n m p size e) ∙ body_of_front n p

-- a page with the digest of its own front
pub resealed : (page : List ℕ) (n m : ℕ) (p : Payload) (digest : List ℕ) → m + 32 ≡ length page → digest ≡ sha256 (take m page)
    → front n p ++ digest ≡ page → page ≡ sealed n p
unfolding sealed
resealed page n m p digest size e same =
    let l : length page ≡ length (front n p) + 32 =
    sym (ap length same) ∙ length-append (front n p) digest ∙ ap (λ (d : List ℕ). length (front n p) + length d) e ∙ ap (λ k. length (front n p) + k) (length-sha256 (take m page)) in
    let s : m ≡ length (front n p) = omega (arith, l) in
    let t : take m page ≡ front n p = ap (take m) (sym same) ∙ take_at (front n p) digest m (sym s) in
    sym same ∙ ap (λ (d : List ℕ). front n p ++ d) (e ∙ ap sha256 t)

pub signed_same : (page : List ℕ) (n m : ℕ) (p : Payload) (digest : List ℕ) → m + 32 ≡ length page → digest ≡ sha256 (take m page)
    → page ≡ sealed n p → front n p ++ digest ≡ page
unfolding sealed
signed_same page n m p digest size e same =
    ap (λ (d : List ℕ). front n p ++ d) (e ∙ ap sha256 (front_of_sealed page n m p size same)) ∙ sym same

-- a page whose first bytes are a front, and the front's digest behind them
pub sealed_front : (page : List ℕ) (n m : ℕ) (p : Payload) (digest : List ℕ) → take m page ≡ front n p → digest ≡ sha256 (take m page)
    → take m page ++ digest ≡ sealed n p
unfolding sealed
sealed_front page n m p digest t e = ap (λ (d : List ℕ). take m page ++ d) (e ∙ ap sha256 t) ∙ ap (λ (x : List ℕ). x ++ sha256 (front n p)) t
