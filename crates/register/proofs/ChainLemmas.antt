-- The payload of a page of a chain, and the text that a chain has.
use Rattle.std.proofs.Common.{ℕ, suc, ◌≡◌, ◌+◌, ◌-◌, ◌*◌, ◌^◌, ◌<◌, ◌≤◌, ◌==◌, min, true, ◌&&◌, cond, refl, sym, ap, ◌∙◌, arith, List, [], ◌∷◌, ◌++◌, length, take, drop, get_or, replicate, All, Option, Some, None, length-append, append_assoc}
use Rattle.std.specs.Option.{option_map, option_and_then}
use Rattle.std.specs.Int.{div_ceil}
use Rattle.std.proofs.lemmas.Bool.{le-leb}
use Rattle.std.proofs.lemmas.Bool.Decides.{nat_tests}
use Rattle.std.proofs.lemmas.List.{take_at, drop_at, drop-drop, drop-replicate, replicate-append-replicate, append-nil}
use Rattle.std.proofs.lemmas.List.Elements.{All-head, All-tail}
use Rattle.byteorder.specs.Endian.{big_bytes, big_number}
use Rattle.byteorder.specs.Numbers.{big_number-reads_back}
use Rattle.pages.specs.Zero.{zero_payload}
use Rattle.pages.specs.declared.payload.Kind.TheVariants.{Catalogue}
use Rattle.pages.specs.declared.payload.Payload.{Payload}
use Rattle.tbnode.proofs.PartLemmas.{length-big_bytes}
use Rattle.tbnode.specs.Parts.{number_at, part, put}
use Rattle.register.specs.Chain.{part_payload, is_part, next_in, text_in, chain_text, text_at}
use Rattle.register.specs.ChainWriter.{AreWritten}

-- bytes written behind others
put_behind : (p k : ℕ) (x new y : List ℕ) → length x ≡ p → length new ≡ k → put p new (x ++ y) ≡ x ++ (new ++ drop k y)
unfolding put
put_behind p k x new y lx ln =
    ap (λ l. l ++ (new ++ drop (p + length new) (x ++ y))) (take_at x y p lx)
    ∙ ap (λ l. x ++ (new ++ l)) (sym (drop-drop (length new) p (x ++ y)) ∙ ap (drop (length new)) (drop_at x y p lx) ∙ ap (λ j. drop j y) ln)

head_length : (a b : List ℕ) → length a ≡ 4 → length b ≡ 2 → length (a ++ (b ++ replicate 10 0)) ≡ 16
head_length a b la lb = length-append a (b ++ replicate 10 0) ∙ ap (λ n. n + length (b ++ replicate 10 0)) la ∙ ap (λ n. 4 + n) (length-append b (replicate 10 0) ∙ ap (λ n. n + 10) lb)

-- three parts written over others
written_over : (a b z x y over t : List ℕ) → length a ≡ 4 → length b ≡ 2 → length (a ++ (b ++ z)) ≡ 16 → drop 4 over ≡ x → drop 2 x ≡ z ++ y
    → put 16 t (put 4 b (put 0 a over)) ≡ (a ++ (b ++ z)) ++ (t ++ drop (length t) y)
written_over a b z x y over t la lb head first second =
    let one : put 0 a over ≡ a ++ x = put_behind 0 4 [] a over refl la ∙ ap (λ l. a ++ l) first in
    let two : put 4 b (a ++ x) ≡ (a ++ (b ++ z)) ++ y =
    put_behind 4 2 a b x la lb ∙ ap (λ l. a ++ (b ++ l)) second ∙ ap (λ l. a ++ l) (sym (append_assoc b z y)) ∙ sym (append_assoc a (b ++ z) y) in
    ap (λ l. put 16 t (put 4 b l)) one ∙ ap (put 16 t) two ∙ put_behind 16 (length t) (a ++ (b ++ z)) t y head refl

zeros : (m n b : ℕ) → n ≡ 16 + m → drop 2 (replicate (n - 4) b) ≡ replicate 10 b ++ replicate m b
zeros m n b e =
    let rest : n - 4 - 2 ≡ 10 + m = omega (arith, e) in
    drop-replicate 2 (n - 4) b ∙ ap (λ j. replicate j b) rest ∙ sym (replicate-append-replicate 10 m b)

-- over zeros
filled : (m n : ℕ) (a b t : List ℕ) → n ≡ 16 + m → length a ≡ 4 → length b ≡ 2 → put 16 t (put 4 b (put 0 a (replicate n 0))) ≡ (a ++ (b ++ replicate 10 0)) ++ (t ++ replicate (m - length t) 0)
filled m n a b t e la lb =
    written_over a b (replicate 10 0) (replicate (n - 4) 0) (replicate m 0) (replicate n 0) t la lb (head_length a b la lb) (drop-replicate 4 n 0) (zeros m n 0 e)
    ∙ ap (λ l. (a ++ (b ++ replicate 10 0)) ++ (t ++ l)) (drop-replicate (length t) m 0)

pub filled_payload : (z : Payload) (next : ℕ) (t b1 b2 b3 : List ℕ) → z ≡ zero_payload Catalogue → b1 ≡ put 0 (big_bytes 4 next) z.bytes → b2 ≡ put 4 (big_bytes 2 (length t)) b1
    → b3 ≡ put 16 t b2 → record { kind = z.kind; bytes = b3 } ≡ part_payload next t
unfolding part_payload zero_payload
filled_payload z next t b1 b2 b3 e e1 e2 e3 =
    let bytes = e3 ∙ ap (put 16 t) (e2 ∙ ap (put 4 (big_bytes 2 (length t))) (e1 ∙ ap (λ (p : Payload). put 0 (big_bytes 4 next) p.bytes) e))
    ∙ filled 4040 4056 (big_bytes 4 next) (big_bytes 2 (length t)) t refl (length-big_bytes 4 next) (length-big_bytes 2 (length t)) in
    ap (λ (p : Payload). record { kind = p.kind; bytes = b3 }) e ∙ ap (λ l. record { kind = Catalogue; bytes = l }) bytes

-- a number that stands behind other bytes
number_there : (n p k : ℕ) (x y : List ℕ) → length x ≡ p → k < 256 ^ n → number_at n p (x ++ (big_bytes n k ++ y)) ≡ k
unfolding number_at part
number_there n p k x y lx h =
    ap (big_number n) (ap (take n) (drop_at x (big_bytes n k ++ y) p lx) ∙ take_at (big_bytes n k) y n (length-big_bytes n k) ∙ sym (append-nil (big_bytes n k)))
    ∙ big_number-reads_back n k [] h

same : (a b : ℕ) → a ≡ b → (a == b) ≡ true
same a b e = grind (arith, nat_tests, e)

pub next_is : (next : ℕ) (t : List ℕ) → next < 2 ^ 32 → next_in (part_payload next t) ≡ next
unfolding next_in part_payload
next_is next t h =
    let a = big_bytes 4 next in
    let b = big_bytes 2 (length t) ++ replicate 10 0 in
    ap (number_at 4 0) (append_assoc a b (t ++ replicate (4040 - length t) 0)) ∙ number_there 4 0 next [] (b ++ (t ++ replicate (4040 - length t) 0)) refl h

pub text_is : (next : ℕ) (t : List ℕ) → text_in (length t) (part_payload next t) ≡ t
unfolding text_in part_payload part
text_is next t =
    let a = big_bytes 4 next in
    let b = big_bytes 2 (length t) in
    ap (take (length t)) (drop_at (a ++ (b ++ replicate 10 0)) (t ++ replicate (4040 - length t) 0) 16 (head_length a b (length-big_bytes 4 next) (length-big_bytes 2 (length t))))
    ∙ take_at t (replicate (4040 - length t) 0) (length t) refl

used_is : (next k : ℕ) (y : List ℕ) → k < 65536 → number_at 2 4 ((big_bytes 4 next ++ (big_bytes 2 k ++ replicate 10 0)) ++ y) ≡ k
used_is next k y h =
    let a = big_bytes 4 next in
    let b = big_bytes 2 k in
    ap (number_at 2 4) (append_assoc a (b ++ replicate 10 0) y ∙ ap (λ l. a ++ l) (append_assoc b (replicate 10 0) y))
    ∙ number_there 2 4 k a (replicate 10 0 ++ y) (length-big_bytes 4 next) h

-- there is room for the text
room_is : (a b t : List ℕ) → length a ≡ 4 → length b ≡ 2 → 16 + length t ≤ length ((a ++ (b ++ replicate 10 0)) ++ (t ++ replicate (4040 - length t) 0))
room_is a b t la lb =
    let whole = length-append (a ++ (b ++ replicate 10 0)) (t ++ replicate (4040 - length t) 0) in
    let head = head_length a b la lb in
    let text = length-append t (replicate (4040 - length t) 0) in
    omega (arith, whole, head, text)

pub part_is : (next : ℕ) (t : List ℕ) → length t ≤ 4040 → is_part (length t) (part_payload next t) ≡ true
unfolding is_part part_payload number_at part
part_is next t h =
    let y = t ++ replicate (4040 - length t) 0 in
    let room = le-leb (16 + length t) _ (room_is (big_bytes 4 next) (big_bytes 2 (length t)) t (length-big_bytes 4 next) (length-big_bytes 2 (length t))) in
    let used = same _ (length t) (used_is next (length t) y (omega (arith, h))) in
    λ i. room i && used i && true

-- one page of a chain
chain_step : (at : ℕ → Option Payload) (n left p used more next : ℕ) (payload : Payload) (text t : List ℕ) → at p ≡ Some payload → used ≡ min 4040 left → is_part used payload ≡ true → text_in used payload ≡ text
    → left - 4040 ≡ more → next_in payload ≡ next → chain_text at n more next ≡ Some t → chain_text at (suc n) left p ≡ Some (text ++ t)
chain_step at n left p used more next payload text t e u part in' m to rest =
    let go : Payload → Option (List ℕ) = λ payload. cond (is_part (min 4040 left) payload) (option_map (λ t. text_in (min 4040 left) payload ++ t) (chain_text at n (left - 4040) (next_in payload))) None in
    ap (option_and_then go) e
    ∙ ap (λ k. cond (is_part k payload) (option_map (λ t. text_in k payload ++ t) (chain_text at n (left - 4040) (next_in payload))) None) (sym u)
    ∙ ap (λ b. cond b (option_map (λ t. text_in used payload ++ t) (chain_text at n (left - 4040) (next_in payload))) None) part
    ∙ ap (λ k. option_map (λ t. text_in used payload ++ t) (chain_text at n k (next_in payload))) m
    ∙ ap (λ k. option_map (λ t. text_in used payload ++ t) (chain_text at n more k)) to
    ∙ ap (option_map (λ t. text_in used payload ++ t)) rest
    ∙ ap (λ l. Some (l ++ t)) in'

-- the pages that are written, and the last one
pub chain_is : (at : ℕ → Option Payload) (p : ℕ) (pages written rest : List ℕ) → AreWritten at (p ∷ pages) written → at (get_or (p ∷ pages) (length pages) 0) ≡ Some (part_payload 0 rest) → length rest ≤ 4040
    → All (λ p. p < 2 ^ 32) pages → chain_text at (suc (length pages)) (length written + length rest) p ≡ Some (written ++ rest)
chain_is at p [] written rest w last short small =
    let used : length rest ≡ min 4040 (length written + length rest) = (let e = ap length w in let z : length {A = ℕ} [] ≡ 0 = refl in omega (arith, e, z, short)) in
    let none : length written + length rest - 4040 ≡ 0 = (let e = ap length w in let z : length {A = ℕ} [] ≡ 0 = refl in omega (arith, e, z, short)) in
    chain_step at 0 (length written + length rest) p (length rest) 0 0 (part_payload 0 rest) rest [] last used (part_is 0 rest short) (text_is 0 rest) none (next_is 0 rest (omega arith)) refl
    ∙ ap Some (append-nil rest ∙ ap (λ l. l ++ rest) (sym w))
chain_is at p (q ∷ pages) written rest w last short small =
    let part = w.0 in
    let others = w.1 in
    let n : length written ≡ 4040 + length others = ap length w.3 ∙ length-append part others ∙ ap (λ k. k + length others) w.2 in
    let used : length part ≡ min 4040 (length written + length rest) = (let e = w.2 in omega (arith, e, n)) in
    let more : length written + length rest - 4040 ≡ length others + length rest = omega (arith, n) in
    let fits : length part ≤ 4040 = (let e = w.2 in omega (arith, e)) in
    chain_step at (suc (length pages)) (length written + length rest) p (length part) (length others + length rest) q (part_payload q part) part (others ++ rest) w.4 used (part_is q part fits) (text_is q part) more
    (next_is q part (All-head (λ p. p < 2 ^ 32) q pages small))
    (chain_is at q pages others rest w.5 last short (All-tail (λ p. p < 2 ^ 32) q pages small))
    ∙ ap Some (sym (append_assoc part others rest) ∙ ap (λ l. l ++ rest) (sym w.3))

pub written_length : (at : ℕ → Option Payload) (p : ℕ) (pages written : List ℕ) → AreWritten at (p ∷ pages) written → length written ≡ 4040 * length pages
written_length at p [] written w = ap length w
written_length at p (q ∷ pages) written w =
    let rest = written_length at q pages w.1 w.5 in
    let n : length written ≡ length w.0 + length w.1 = ap length w.3 ∙ length-append w.0 w.1 in
    let e = w.2 in
    omega (arith, rest, n, e)

-- how many pages a text fills
pub pages_of : (n k : ℕ) → 0 < k → k ≤ 4040 → div_ceil (4040 * n + k) 4040 ≡ suc n
pages_of n k some few = omega arith

pub text_is_at : (at : ℕ → Option Payload) (p : ℕ) (pages written rest text : List ℕ) → text ≡ written ++ rest → AreWritten at (p ∷ pages) written → at (get_or (p ∷ pages) (length pages) 0) ≡ Some (part_payload 0 rest) → 0 < length rest → length rest ≤ 4040
    → All (λ p. p < 2 ^ 32) pages → text_at at (length text) p ≡ Some text
unfolding text_at
text_is_at at p pages written rest text all w last some short small =
    let n : length text ≡ length written + length rest = ap length all ∙ length-append written rest in
    let k : length text ≡ 4040 * length pages + length rest = n ∙ ap (λ m. m + length rest) (written_length at p pages written w) in
    ap (λ m. chain_text at m (length text) p) (ap (λ m. div_ceil m 4040) k ∙ pages_of (length pages) (length rest) some short)
    ∙ ap (λ m. chain_text at (suc (length pages)) m p) n
    ∙ chain_is at p pages written rest w last short small ∙ ap Some (sym all)
