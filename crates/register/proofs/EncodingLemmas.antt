-- Texts that are put behind one another.
use Rattle.std.proofs.Common.{ℕ, ◌≡◌, ◌+◌, ◌<◌, ◌≤◌, List, [], ◌∷◌, ◌++◌, length, take, get_or, All, sym, ap, ◌∙◌, subst, Result, OnOk}
use Rattle.std.proofs.lemmas.List.{append_assoc, append-nil, take_all, take_more}
use Rattle.std.specs.List.{flat_map}
use Rattle.byteorder.specs.Endian.{big_bytes}
use Rattle.std.proofs.lemmas.Grind.{flat_map-append}
use Rattle.std.proofs.lemmas.List.Elements.{All-more}
use Rattle.register.specs.ChainWriter.{WriterView}
use Rattle.register.proofs.ReaderLemmas.{on_ok}

-- a writer whose text goes on with these bytes
abbrev pub extended : WriterView → List ℕ → WriterView
extended w a = record w { text = w.text ++ a }

pub both_pushed : (w v u : WriterView) (a b : List ℕ) → v ≡ extended w a → u ≡ extended v b → u ≡ extended w (a ++ b)
both_pushed w v u a b p q = q ∙ ap (λ x. extended x b) p ∙ ap (λ t. record w { text = t }) (append_assoc w.text a b)

-- where the second is put behind the first
pub then_pushed : {T E : Type 0} (r : Result T E) (w v u : WriterView) (a b : List ℕ) → v ≡ extended w a → OnOk r (u ≡ extended v b) → OnOk r (u ≡ extended w (a ++ b))
then_pushed r w v u a b p h = on_ok r (both_pushed w v u a b p) h

-- one item more of a list of such
pub all_more : {V : Type 0} (P : V → Type 0) (xs : List V) (x d : V) (n : ℕ) → n < length xs → x ≡ get_or xs n d → All P (take n xs) → P x → All P (take (n + 1) xs)
all_more P xs x d n h e all one = All-more P xs n d h all (subst P e one)

-- all of them
pub all_taken : {V : Type 0} (P : V → Type 0) (xs : List V) (n : ℕ) → length xs ≤ n → All P (take n xs) → All P xs
all_taken P xs n h all = subst (All P) (take_all n xs h) all

-- one item more of a list
pub listed_more : {V : Type 0} (text : V → List ℕ) (xs : List V) (x d : V) (front : List ℕ) (n : ℕ) → n < length xs → get_or xs n d ≡ x → (front ++ flat_map text (take n xs)) ++ text x ≡ front ++ flat_map text (take (n + 1) xs)
listed_more text xs x d front n h e =
    append_assoc front (flat_map text (take n xs)) (text x)
    ∙ ap (λ l. front ++ (flat_map text (take n xs) ++ l)) (sym (append-nil (text x)))
    ∙ ap (λ l. front ++ l) (sym (flat_map-append text (take n xs) (x ∷ [])))
    ∙ ap (λ y. front ++ flat_map text (take n xs ++ y ∷ [])) (sym e)
    ∙ ap (λ l. front ++ flat_map text l) (sym (take_more xs n d h))

pub pushed_more : {V : Type 0} (text : V → List ℕ) (w v u : WriterView) (xs : List V) (x d : V) (n : ℕ) → n < length xs → x ≡ get_or xs n d → v ≡ extended w (flat_map text (take n xs)) → u ≡ extended v (text x) → u ≡ extended w (flat_map text (take (n + 1) xs))
pushed_more text w v u xs x d n h e p q = q ∙ ap (λ y. extended y (text x)) p ∙ ap (λ t. record w { text = t }) (listed_more text xs x d w.text n h (sym e))

-- all items of a list, behind their number
pub pushed_counted : {V : Type 0} (text : V → List ℕ) (w v u : WriterView) (xs ys : List V) (n k : ℕ) → v ≡ extended w (big_bytes 8 n) → n ≡ length xs → u ≡ extended v (flat_map text (take k xs)) → length xs ≤ k → xs ≡ ys
    → u ≡ extended w (big_bytes 8 (length ys) ++ flat_map text ys)
pushed_counted text w v u xs ys n k p e q h same =
    both_pushed w v u (big_bytes 8 n) (flat_map text (take k xs)) p q
    ∙ (λ i. extended w (big_bytes 8 (e i) ++ flat_map text (take_all k xs h i)))
    ∙ ap (λ l. extended w (big_bytes 8 (length l) ++ flat_map text l)) same
