-- One value behind another, and lists of values.
use Rattle.std.proofs.Common.{ℕ, ◌≡◌, ◌≢◌, ◌+◌, ◌<◌, List, [], ◌∷◌, ◌++◌, length, sym, ap, ◌∙◌, arith, subst, refl, Option, Some, None, option_map, All, Result, Ok, Err}
use Rattle.std.specs.Prelude.{IsErrAnd}
use Rattle.std.specs.List.{flat_map}
use Rattle.std.proofs.lemmas.List.{append_assoc, append-nil, length_push}
use Rattle.std.proofs.lemmas.List.Elements.{All-push}
use Rattle.pagecache.specs.Cache.{Cache}
use Rattle.chains.specs.Reads.{OnlyReads}
use Rattle.register.specs.ChainReader.{ReaderView, rest_of, ReadsValue, Shows}
use Rattle.register.specs.Text.{AreMany}
use Rattle.pages.specs.declared.payload.Payload.{Payload}
use Rattle.register.specs.declared.fault.CatalogueFault.{CatalogueFault}
use Rattle.register.specs.declared.fault.CatalogueFault.TheVariants.{Malformed}
use Rattle.register.proofs.ReaderLemmas.{goes_on, later_fault, map_map, map_same, still_shows, on_err_and, some_none, some_same}
use Rattle.register.proofs.PrefixLemmas.{IsFree, list_split}

-- no text of such a value stands there
abbrev pub Lacks : {V : Type 0} → (V → List ℕ) → (V → Type 0) → Option (List ℕ) → Type 0
Lacks {V = V} text ok old = (v : V) (t : List ℕ) → ok v → old ≢ Some (text v ++ t)

-- one behind another
pub taken_both : (A a : List ℕ) (old mid new : Option (List ℕ)) → old ≡ option_map (λ t. A ++ t) mid → mid ≡ option_map (λ t. a ++ t) new → old ≡ option_map (λ t. (A ++ a) ++ t) new
taken_both A a old mid new p q =
    p ∙ ap (option_map (λ t. A ++ t)) q ∙ map_map (λ t. A ++ t) (λ t. a ++ t) new
    ∙ map_same (λ t. A ++ (a ++ t)) (λ t. (A ++ a) ++ t) new (λ t. sym (append_assoc A a t))

-- lists of values
module _ {V : Type 0} (text : V → List ℕ) (ok : V → Type 0) (free : IsFree text ok) where
  flat_push : (xs : List V) (x : V) → flat_map text (xs ++ x ∷ []) ≡ flat_map text xs ++ text x
  flat_push [] x = append-nil (text x)
  flat_push (y ∷ ys) x = ap (λ l. text y ++ l) (flat_push ys x) ∙ sym (append_assoc (text y) (flat_map text ys) (text x))

  more_taken : (xs : List V) (x : V) (old mid new : Option (List ℕ)) → old ≡ option_map (λ t. flat_map text xs ++ t) mid → mid ≡ option_map (λ t. text x ++ t) new → old ≡ option_map (λ t. flat_map text (xs ++ x ∷ []) ++ t) new
  more_taken xs x old mid new p q = taken_both (flat_map text xs) (text x) old mid new p q ∙ ap (λ l. option_map (λ t. l ++ t) new) (sym (flat_push xs x))

  split_at : (xs : List V) (mid : Option (List ℕ)) (ys : List V) (t : List ℕ) → All ok xs → All ok ys → length xs < length ys → option_map (λ s. flat_map text xs ++ s) mid ≡ Some (flat_map text ys ++ t) → (Lacks text ok mid → ⊥)
  split_at xs None ys t h k l e n = some_none (flat_map text ys ++ t) (sym e)
  split_at xs (Some s) ys t h k l e n =
      let x = list_split text ok free xs ys s t h k l (some_same (flat_map text xs ++ s) (flat_map text ys ++ t) e) in
      n x.0 (flat_map text x.1 ++ t) x.2 (ap Some x.3)

-- a value that is made of two: its text is theirs, and what the second is goes with the first
pub record IsPair {A B V : Type 0} (text : V → List ℕ) (ok : V → Type 0) (first : A → List ℕ) (is_first : A → Type 0) (second : B → List ℕ) (is_second : A → B → Type 0) : Type 0 where
  pub left : V → A
  pub right : V → B
  pub free : IsFree first is_first
  pub parts : (v : V) → ok v → is_first (left v) × is_second (left v) (right v)
  pub whole : (v : V) → text v ≡ first (left v) ++ second (right v)

module _ {A B V : Type 0} {text : V → List ℕ} {ok : V → Type 0} {first : A → List ℕ} {is_first : A → Type 0} {second : B → List ℕ} {is_second : A → B → Type 0} (pair : IsPair text ok first is_first second is_second) where
  -- what follows the value's text follows the second's
  in_two : (v : V) (t : List ℕ) → text v ++ t ≡ first (pair.left v) ++ (second (pair.right v) ++ t)
  in_two v t = ap (λ l. l ++ t) (pair.whole v) ∙ append_assoc (first (pair.left v)) (second (pair.right v)) t

  -- where no first of the two stands, no such value does
  no_first : (old : Option (List ℕ)) → Lacks first is_first old → Lacks text ok old
  no_first old h v t k e = h (pair.left v) (second (pair.right v) ++ t) (pair.parts v k).0 (e ∙ ap Some (in_two v t))

  -- behind the first of the two there stands the second
  behind : (x : A) (mid : Option (List ℕ)) → is_first x → (v : V) (t : List ℕ) → ok v → option_map (λ s. first x ++ s) mid ≡ Some (text v ++ t) → (x ≡ pair.left v) × (mid ≡ Some (second (pair.right v) ++ t))
  behind x None h v t k e = absurd (some_none (text v ++ t) (sym e))
  behind x (Some s) h v t k e =
      let y = pair.free x (pair.left v) s (second (pair.right v) ++ t) h (pair.parts v k).0 (some_same (first x ++ s) (text v ++ t) e ∙ in_two v t) in
      (y.0, ap Some y.1)

  -- where no second of the two stands there, no such value stands here
  no_second : (x : A) (old mid : Option (List ℕ)) → is_first x → old ≡ option_map (λ s. first x ++ s) mid → Lacks second (is_second x) mid → Lacks text ok old
  no_second x old mid h is l v t k e =
      let y = behind x mid h v t k (sym is ∙ e) in
      l (pair.right v) t (subst (λ x. is_second x (pair.right v)) (sym y.0) (pair.parts v k).1) y.1

  -- where the first of the two is refused, so is the value
  pub first_refused : {a b : Cache} {s t : ReaderView} {r : Result V CatalogueFault} {e : CatalogueFault} → IsErrAnd r (λ f. f ≡ e) → ReadsValue a b s t first is_first (Err e) → ReadsValue a b s t text ok r
  first_refused {a} {b} {s} {t} {r} {e} h p = on_err_and (λ r. ReadsValue a b s t text ok r) r e h (record {
    taken = tt;
    lacks = λ at shows k. no_first (rest_of at s) (p.lacks at shows k);
    reads = p.reads;
    caused = p.caused;
  })

  -- or where it was read and no such value has it
  pub first_unfit : {a b : Cache} {s t : ReaderView} {x : A} → ((v : V) → ok v → x ≡ pair.left v → ⊥) → ReadsValue a b s t first is_first (Ok x) → ReadsValue a b s t text ok (Err Malformed)
  first_unfit {a} {b} {s} {t} {x} unlike p = record {
    taken = tt;
    lacks = λ at shows _ v t' k e. let one = p.taken at shows in unlike v k (behind x (rest_of at t) one.0 v t' k (sym one.1 ∙ e)).0;
    reads = p.reads;
    caused = tt;
  }

  -- or where it was read and the second is refused
  pub second_refused : {a b c : Cache} {s t u : ReaderView} {r : Result V CatalogueFault} {x : A} {e : CatalogueFault} → IsErrAnd r (λ f. f ≡ e)
      → ReadsValue a b s t first is_first (Ok x) → ReadsValue b c t u second (is_second x) (Err e) → ReadsValue a c s u text ok r
  second_refused {a} {b} {c} {s} {t} {u} {r} {x} {e} h p q = on_err_and (λ r. ReadsValue a c s u text ok r) r e h (record {
    taken = tt;
    lacks = λ at shows k. let one = p.taken at shows in no_second x (rest_of at s) (rest_of at t) one.0 one.1 (q.lacks at (still_shows p.reads shows) k);
    reads = goes_on p.reads q.reads;
    caused = later_fault a b c e p.reads q.caused;
  })

  -- where both were read, so was the value
  pub both_read : {a b c : Cache} {s t u : ReaderView} {v : V} {x : A} → (is_first x → is_second x (pair.right v) → ok v × (x ≡ pair.left v))
      → ReadsValue a b s t first is_first (Ok x) → ReadsValue b c t u second (is_second x) (Ok (pair.right v)) → ReadsValue a c s u text ok (Ok v)
  both_read {a} {b} {c} {s} {t} {u} {v} {x} makes p q = record {
    taken = λ at shows.
        let one = p.taken at shows in
        let two = q.taken at (still_shows p.reads shows) in
        let made = makes one.0 two.0 in
        let text_is = ap (λ x. first x ++ second (pair.right v)) made.1 ∙ sym (pair.whole v) in
        let both = taken_both (first x) (second (pair.right v)) (rest_of at s) (rest_of at t) (rest_of at u) one.1 two.1 in
        (made.0, both ∙ ap (λ l. option_map (λ t. l ++ t) (rest_of at u)) text_is);
    lacks = tt;
    reads = goes_on p.reads q.reads;
    caused = tt;
  }

-- where the second of the two is the value itself, and the call that reads it is the last
pub last_read : {A V : Type 0} {text second : V → List ℕ} {ok : V → Type 0} {first : A → List ℕ} {is_first : A → Type 0} {is_second : A → V → Type 0} {a b c : Cache} {s t u : ReaderView} {x : A}
    (pair : IsPair text ok first is_first second is_second) (r : Result V CatalogueFault) → ((v : V) → pair.right v ≡ v) → ((v : V) → is_first x → is_second x v → ok v × (x ≡ pair.left v))
    → ReadsValue a b s t first is_first (Ok x) → ReadsValue b c t u second (is_second x) r → ReadsValue a c s u text ok r
last_read {second = second} {is_second = is_second} {b = b} {c = c} {t = t} {u = u} {x = x} pair (Ok v) own makes p q =
    both_read pair (λ h k. makes v h (subst (is_second x) (own v) k)) p (subst (λ w. ReadsValue b c t u second (is_second x) (Ok w)) (sym (own v)) q)
last_read pair (Err e) own makes p q = second_refused pair refl p q

-- what is said of a value by an equal number is said by this one
pub goes_with : {N V : Type 0} {a b : Cache} {s t : ReaderView} {text : V → List ℕ} {r : Result V CatalogueFault} (is : N → V → Type 0) {n m : N} → n ≡ m → ReadsValue a b s t text (is n) r → ReadsValue a b s t text (is m) r
goes_with {a = a} {b = b} {s = s} {t = t} {text = text} {r = r} is same h = subst (λ n. ReadsValue a b s t text (is n) r) same h

-- so many values of a list are taken, one behind another
pub record AreTaken {V : Type 0} (text : V → List ℕ) (ok : V → Type 0) (xs : List V) (n : ℕ) (old new : Option (List ℕ)) : Type 0 where
  pub are : AreMany ok n xs
  pub taken : old ≡ option_map (λ t. flat_map text xs ++ t) new

-- and a reader has taken them
pub record HasRead {V : Type 0} (a b : Cache) (s t : ReaderView) (text : V → List ℕ) (ok : V → Type 0) (xs : List V) (n : ℕ) : Type 0 where
  pub reads : OnlyReads a b
  pub taken : (at : ℕ → Option Payload) → Shows a at → AreTaken text ok xs n (rest_of at s) (rest_of at t)

module _ {V : Type 0} {text : V → List ℕ} {ok : V → Type 0} (free : IsFree text ok) {a b : Cache} {s t : ReaderView} {xs : List V} {n : ℕ} where
  -- one more that was read is put behind them
  pub one_read : {c : Cache} {u : ReaderView} {ys : List V} {x : V} → ys ≡ xs ++ x ∷ [] → HasRead a b s t text ok xs n → ReadsValue b c t u text ok (Ok x) → HasRead a c s u text ok ys (n + 1)
  one_read {u = u} {x = x} items p q = record {
    reads = goes_on p.reads q.reads;
    taken = λ at shows.
        let before = p.taken at shows in
        let one = q.taken at (still_shows p.reads shows) in
        let text_is = ap (λ l. option_map (λ t. flat_map text l ++ t) (rest_of at u)) (sym items) in
        record {
          are = record {
            each = subst (λ l. All ok l) (sym items) (All-push ok xs x before.are.each one.0);
            many = ap length items ∙ length_push xs x ∙ ap (λ n. n + 1) before.are.many;
          };
          taken = more_taken text ok free xs x (rest_of at s) (rest_of at t) (rest_of at u) before.taken one.1 ∙ text_is;
        };
  }

  -- one is refused before there are so many
  pub list_refused : {c : Cache} {u : ReaderView} {count : ℕ} {r : Result (List V) CatalogueFault} {e : CatalogueFault} → n < count → IsErrAnd r (λ f. f ≡ e)
      → HasRead a b s t text ok xs n → ReadsValue b c t u text ok (Err e) → ReadsValue a c s u (λ l. flat_map text l) (AreMany ok count) r
  list_refused {c} {u} {count} {r} {e} less is p q = on_err_and (λ r. ReadsValue a c s u (λ l. flat_map text l) (AreMany ok count) r) r e is (record {
    taken = tt;
    lacks = λ at shows k l t' h found.
        let before = p.taken at shows in
        let many = h.many in
        let own = before.are.many in
        split_at text ok free xs (rest_of at t) l t' before.are.each h.each (omega (arith, less, many, own)) (sym before.taken ∙ found) (q.lacks at (still_shows p.reads shows) k);
    reads = goes_on p.reads q.reads;
    caused = later_fault a b c e p.reads q.caused;
  })

  -- there are so many
  pub list_read : {count : ℕ} {ys : List V} → n ≡ count → ys ≡ xs → HasRead a b s t text ok xs n → ReadsValue a b s t (λ l. flat_map text l) (AreMany ok count) (Ok ys)
  list_read {count} many same p = subst (λ l. ReadsValue a b s t (λ l. flat_map text l) (AreMany ok count) (Ok l)) (sym same) (record {
    taken = λ at shows. let all = p.taken at shows in (subst (λ n. AreMany ok n xs) many all.are, all.taken);
    lacks = tt;
    reads = p.reads;
    caused = tt;
  })
