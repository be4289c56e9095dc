-- What is put into a folder, part by part.
use Rattle.std.proofs.Common.{ℕ, ◌+◌, ◌<◌, ◌≤◌, ◌≡◌, ◌∙◌, ◌++◌, ◌∷◌, [], ap, arith, sym, refl, zero, suc, List, Option, Some, None, append_assoc, get_or, length, map, take}
use Rattle.std.specs.List.{range_with_len}
use Rattle.std.proofs.lemmas.List.{get_or-map, length-map}
use Rattle.std.proofs.lemmas.List.FromFn.{take-map-range_with_len, length-map-range_with_len}
use Rattle.parts.specs.Part.{whole_part}
use Rattle.sessions.specs.Parts.{more_puts, parts_from, numbered, with_puts, HasFirst, HasFirstTexts, PartsView, Puts}

-- nothing more, and one more and others behind it
append_none : {X : Type 0} (xs : List X) → xs ++ [] ≡ xs
append_none [] = refl
append_none (x ∷ xs) = ap (λ (l : List _). x ∷ l) (append_none xs)

none_more : (old : Option Puts) → more_puts old [] ≡ old
none_more (Some before) = ap Some (append_none before)
none_more None = refl

pub puts_none : (old : PartsView) → with_puts old [] ≡ old
puts_none old = ap (λ (p : Option Puts). record old { puts = p }) (none_more old.puts)

more_more : (old : Option Puts) (a b : Puts) → more_puts (more_puts old a) b ≡ more_puts old (a ++ b)
more_more (Some before) a b = ap Some (append_assoc before a b)
more_more None a b = refl

pub puts_more : (old : PartsView) (a b : Puts) → with_puts (with_puts old a) b ≡ with_puts old (a ++ b)
puts_more old a b = ap (λ (p : Option Puts). record old { puts = p }) (more_more old.puts a b)

-- the texts so far, and the next one
numbered_more : (part : ℕ) (texts : List (List ℕ)) (i : ℕ) (d : List ℕ) → i < length texts
    → numbered part (take i texts) ++ ((part + i, get_or texts i d) ∷ []) ≡ numbered part (take (suc i) texts)
numbered_more part [] i d less = absurd (omega (arith, less))
numbered_more part (text ∷ texts) zero d less =
    let e : part + 0 ≡ part = omega arith in ap (λ p. (p, text) ∷ []) e
numbered_more part (text ∷ texts) (suc i) d less =
    let e : part + suc i ≡ part + 1 + i = omega arith in
    ap (λ p. (part, text) ∷ (numbered (part + 1) (take i texts) ++ ((p, get_or texts i d) ∷ []))) e
    ∙ ap (λ (l : Puts). (part, text) ∷ l) (numbered_more (part + 1) texts i d (omega (arith, less)))

pub put_more : (old new : PartsView) (part here i : ℕ) (texts : List (List ℕ)) (d : List ℕ) → i < length texts → here ≡ part + i
    → new ≡ with_puts (with_puts old (numbered part (take i texts))) ((here, get_or texts i d) ∷ []) → new ≡ with_puts old (numbered part (take (i + 1) texts))
put_more old new part here i texts d less at e =
    let one : suc i ≡ i + 1 = omega arith in
    e ∙ puts_more old (numbered part (take i texts)) ((here, get_or texts i d) ∷ [])
    ∙ ap (λ p. with_puts old (numbered part (take i texts) ++ ((p, get_or texts i d) ∷ []))) at
    ∙ ap (with_puts old) (numbered_more part texts i d less)
    ∙ ap (λ j. with_puts old (numbered part (take j texts))) one

-- the texts of parts, with their numbers
numbered_parts : (first count n : ℕ) (bytes : List ℕ) → numbered first (map (λ k. whole_part k n bytes) (range_with_len first count)) ≡ map (λ k. (k, whole_part k n bytes)) (range_with_len first count)
numbered_parts first zero n bytes = refl
numbered_parts first (suc count) n bytes = ap (λ (l : Puts). (first, whole_part first n bytes) ∷ l) (numbered_parts (first + 1) count n bytes)

range_more : (a m n : ℕ) → range_with_len a (m + n) ≡ range_with_len a m ++ range_with_len (a + m) n
range_more a zero n =
    let e : zero + n ≡ n = omega arith in let f : a ≡ a + zero = omega arith in ap (range_with_len a) e ∙ ap (λ b. range_with_len b n) f
range_more a (suc m) n =
    let e : suc m + n ≡ suc (m + n) = omega arith in let f : a + 1 + m ≡ a + suc m = omega arith in
    ap (range_with_len a) e ∙ ap (λ (l : List ℕ). a ∷ l) (range_more (a + 1) m n ∙ ap (λ b. range_with_len (a + 1) m ++ range_with_len b n) f)

map_append : {X Y : Type 0} (f : X → Y) (xs ys : List X) → map f (xs ++ ys) ≡ map f xs ++ map f ys
map_append f [] ys = refl
map_append f (x ∷ xs) ys = ap (λ (l : List _). f x ∷ l) (map_append f xs ys)

parts_more : (first done next n : ℕ) (bytes : List ℕ) → parts_from first done n bytes ++ numbered (first + done) (map (λ k. whole_part k n bytes) (range_with_len (first + done) next)) ≡ parts_from first (done + next) n bytes
parts_more first done next n bytes =
    ap (λ (l : Puts). parts_from first done n bytes ++ l) (numbered_parts (first + done) next n bytes)
    ∙ sym (map_append (λ k. (k, whole_part k n bytes)) (range_with_len first done) (range_with_len (first + done) next))
    ∙ ap (map (λ k. (k, whole_part k n bytes))) (sym (range_more first done next))

-- so many parts were put, and so many more
pub all_more : (old mid new : PartsView) (first done next n : ℕ) (bytes : List ℕ) (texts : List (List ℕ)) → mid ≡ with_puts old (parts_from first done n bytes)
    → texts ≡ map (λ k. whole_part k n bytes) (range_with_len (first + done) next) → new ≡ with_puts mid (numbered (first + done) texts) → new ≡ with_puts old (parts_from first (done + next) n bytes)
all_more old mid new first done next n bytes texts before is e =
    e ∙ ap (λ (o : PartsView). with_puts o (numbered (first + done) texts)) before ∙ puts_more old (parts_from first done n bytes) (numbered (first + done) texts)
    ∙ ap (λ (ts : List (List ℕ)). with_puts old (parts_from first done n bytes ++ numbered (first + done) ts)) is
    ∙ ap (with_puts old) (parts_more first done next n bytes)

pub some_more : (old mid new : PartsView) (first count done next n : ℕ) (bytes : List ℕ) (texts : List (List ℕ)) → done + next ≤ count → mid ≡ with_puts old (parts_from first done n bytes)
    → texts ≡ map (λ k. whole_part k n bytes) (range_with_len (first + done) next) → HasFirstTexts (first + done) texts mid new → HasFirst first count n bytes old new
some_more old mid new first count done next n bytes texts within before is (some, less, e) =
    let f : ℕ → List ℕ = λ k. whole_part k n bytes in
    let few : some ≤ next = omega (arith, less, ap (λ (ts : List (List ℕ)). length ts) is, length-map-range_with_len f (first + done) next) in
    let cut : take some texts ≡ map f (range_with_len (first + done) some) = ap (take some) is ∙ take-map-range_with_len f (first + done) next some few in
    let all = all_more old mid (with_puts mid (numbered (first + done) (take some texts))) first done some n bytes (take some texts) before cut refl in
    (done + some, omega (arith, few, within), e ∙ ap (λ (v : PartsView). v.puts) all)

-- a text by its place
pub items_length : {V : Type 0} (items : V → List ℕ) (texts : List V) (i : ℕ) → i < length texts → i < length (map items texts)
items_length items texts i less = rw (length-map texts items) less

pub items_at : {V : Type 0} (items : V → List ℕ) (texts : List V) (i : ℕ) (r : V) (part : ℕ) (text : List ℕ) (now was : PartsView) → i < length texts → text ≡ items r → r ≡ get_or texts i r → now ≡ was
    → with_puts now ((part, text) ∷ []) ≡ with_puts was ((part, get_or (map items texts) i (items r)) ∷ [])
items_at items texts i r part text now was less is at e =
    ap (λ (o : PartsView). with_puts o ((part, text) ∷ [])) e
    ∙ ap (λ (t : List ℕ). with_puts was ((part, t) ∷ [])) (is ∙ ap items at ∙ sym (get_or-map items texts i r (items r) less))

-- how many texts there are
pub items_count : {V : Type 0} (items : V → List ℕ) (texts : List V) (first count n : ℕ) (bytes : List ℕ) → map items texts ≡ map (λ k. whole_part k n bytes) (range_with_len first count) → length texts ≡ count
items_count items texts first count n bytes e =
    let f : ℕ → List ℕ = λ k. whole_part k n bytes in
    sym (length-map texts items) ∙ ap (λ (ts : List (List ℕ)). length ts) e ∙ length-map-range_with_len f first count
