-- Values that are read one after another.
use Rattle.std.proofs.Common.{ℕ, ◌≡◌, ◌<◌, ◌≤◌, ◌^◌, List, ◌++◌, drop, take, length, sym, ap, ◌∙◌, arith, subst, Option, Some, None, option_map, Result, Ok, Err}
use Rattle.std.specs.Prelude.{IsErrAnd, IsUtf8}
use Rattle.std.proofs.lemmas.List.{append_assoc, length-append, length-take-le, take-append-drop}
use Rattle.byteorder.specs.Endian.{big_bytes, big_number}
use Rattle.byteorder.specs.Numbers.{big_number-reads_back, length-bytes_high_first}
use Rattle.pages.specs.declared.payload.Payload.{Payload}
use Rattle.pagecache.specs.Cache.{Cache}
use Rattle.register.specs.Chain.{text_at}
use Rattle.register.specs.ChainReader.{ReaderView, rest_of, IsBroken, IsShorter, IsTextFault, ReadsAhead, ReadsValue, Shows}
use Rattle.register.specs.Text.{short_text, IsNumber, IsShortText}
use Rattle.register.specs.declared.fault.CatalogueFault.{CatalogueFault}
use Rattle.header.proofs.FieldsLemmas.{same_front}
use Rattle.register.proofs.ReaderLemmas.{goes_on, later_fault, map_map, map_same, still_shows, on_err_and, some_none, some_same, text_read}

pub big_same : (n m k : ℕ) (s t : List ℕ) → m < 256 ^ n → k < 256 ^ n → big_bytes n m ++ s ≡ big_bytes n k ++ t → (m ≡ k) × (s ≡ t)
big_same n m k s t h l e =
    let both = same_front (big_bytes n m) (big_bytes n k) s t (length-bytes_high_first n m ∙ sym (length-bytes_high_first n k)) e in
    (sym (big_number-reads_back n m s h) ∙ ap (λ x. big_number n x) e ∙ big_number-reads_back n k t l, both.1)

-- a value of n bytes is not there where there are fewer
pub not_filled : {V : Type 0} (text : V → List ℕ) (ok : V → Type 0) (n : ℕ) → ((v : V) → length (text v) ≡ n) → {a b : Cache} {s t : ReaderView} {r : Result V CatalogueFault} {e : CatalogueFault}
    → IsErrAnd r (λ f. f ≡ e) → ReadsAhead a b s t (n ≤ length t.bytes) (IsShorter n) (Err e) → ReadsValue a b s t text ok r
not_filled text ok n len {a} {b} {s} {t} {r} {e} is fill = on_err_and (λ r. ReadsValue a b s t text ok r) r e is (record {
  taken = tt;
  lacks = λ at shows k v rest h found.
      let short = fill.broken at shows k (text v ++ rest) found in
      let both = length-append (text v) rest in
      let own = len v in
      absurd (omega (arith, short, both, own));
  reads = fill.reads;
  caused = fill.caused;
})

-- what stands ready, and what is behind it
pub ready : (at : ℕ → Option Payload) (r : ReaderView) (n : ℕ)
    → rest_of at r ≡ option_map (λ t. take n r.bytes ++ t) (rest_of at (record r { bytes = drop n r.bytes }))
ready at r n =
    map_same (λ t. r.bytes ++ t) (λ t. take n r.bytes ++ (drop n r.bytes ++ t)) (text_at at r.left r.next)
    (λ t. ap (λ b. b ++ t) (sym (take-append-drop n r.bytes)) ∙ append_assoc (take n r.bytes) (drop n r.bytes) t)
    ∙ sym (map_map (λ t. take n r.bytes ++ t) (λ t. drop n r.bytes ++ t) (text_at at r.left r.next))

-- a value of n bytes stands ready, and is taken
pub filled : {V : Type 0} {text : V → List ℕ} {ok : V → Type 0} {n : ℕ} {v : V} {a b : Cache} {s t u : ReaderView} → ReadsAhead a b s t (n ≤ length t.bytes) (IsShorter n) (Ok tt) → text v ≡ take n t.bytes → ok v → u ≡ record t { bytes = drop n t.bytes } → ReadsValue a b s u text ok (Ok v)
filled {text = text} {n = n} {v = v} {t = t} {u = u} fill is h end = record {
  taken = λ at shows. (h, sym (fill.same at shows) ∙ ready at t n ∙ ap (λ r. option_map (λ s. take n t.bytes ++ s) (rest_of at r)) (sym end) ∙ ap (λ l. option_map (λ s. l ++ s) (rest_of at u)) (sym is));
  lacks = tt;
  reads = fill.reads;
  caused = tt;
}

-- what stands behind a length
behind : (n : ℕ) (mid : Option (List ℕ)) (v t : List ℕ) → n < 256 ^ 8 → length v < 256 ^ 8 → option_map (λ s. big_bytes 8 n ++ s) mid ≡ Some (short_text v ++ t) → (n ≡ length v) × (mid ≡ Some (v ++ t))
behind n None v t h l e = absurd (some_none (short_text v ++ t) (sym e))
behind n (Some s) v t h l e =
    let same = some_same (big_bytes 8 n ++ s) (short_text v ++ t) e ∙ append_assoc (big_bytes 8 (length v)) v t in
    let both = big_same 8 n (length v) s (v ++ t) h l same in
    (both.0, ap Some both.1)

-- nor is a text where its length is not
pub no_length : {a b : Cache} {s t : ReaderView} {e : CatalogueFault} → ReadsValue a b s t (big_bytes 8) (IsNumber 64) (Err e) → ReadsValue a b s t short_text IsShortText (Err e)
no_length p = record {
  taken = tt;
  lacks = λ at shows k v w is found. p.lacks at shows k (length v) (v ++ w) is.short (found ∙ ap Some (append_assoc (big_bytes 8 (length v)) v w));
  reads = p.reads;
  caused = p.caused;
}

-- a text behind its length: the length was read, and pages until as many bytes stand ready
module _ {a b : Cache} {s t : ReaderView} {n : ℕ} (len : ReadsValue a b s t (big_bytes 8) (IsNumber 64) (Ok n)) where
  split : (at : ℕ → Option Payload) → Shows a at → (v w : List ℕ) → IsShortText v → rest_of at s ≡ Some (short_text v ++ w) → (n ≡ length v) × (rest_of at t ≡ Some (v ++ w))
  split at shows v w is e = let l = len.taken at shows in behind n (rest_of at t) v w l.0 is.short (sym l.1 ∙ e)

  -- the text is not there whole
  pub text_cut : {c : Cache} {u : ReaderView} {e : CatalogueFault} → ReadsAhead b c t u (n ≤ length u.bytes) (IsShorter n) (Err e) → ReadsValue a c s u short_text IsShortText (Err e)
  text_cut {c} {e = e} fill = record {
    taken = tt;
    lacks = λ at shows k v w is found.
        let l = split at shows v w is found in
        let short = fill.broken at (still_shows len.reads shows) k (v ++ w) l.1 in
        let both = length-append v w in
        let own = l.0 in
        absurd (omega (arith, short, both, own));
    reads = goes_on len.reads fill.reads;
    caused = later_fault a b c e len.reads fill.caused;
  }

  module _ {c : Cache} {u : ReaderView} (fill : ReadsAhead b c t u (n ≤ length u.bytes) (IsShorter n) (Ok tt)) where
    abbrev own : List ℕ
    own = take n u.bytes

    own_length : length own ≡ n
    own_length = length-take-le n u.bytes fill.ready

    front_is : (rest : Option (List ℕ)) (v t : List ℕ) → length own ≡ length v → option_map (λ t. own ++ t) rest ≡ Some (v ++ t) → own ≡ v
    front_is None v t l e = absurd (some_none (v ++ t) (sym e))
    front_is (Some s) v t l e = (same_front own v s t l (some_same (own ++ s) (v ++ t) e)).0

    -- it is there, and is no text
    pub no_text : {e : CatalogueFault} → IsTextFault e → (IsBroken e → IsUtf8 own → ⊥) → ReadsValue a c s u short_text IsShortText (Err e)
    no_text {e = e} fault broken = record {
      taken = tt;
      lacks = λ at shows k v w is found.
          let l = split at shows v w is found in
          let there = sym (ready at u n) ∙ fill.same at (still_shows len.reads shows) ∙ l.1 in
          let front = front_is (rest_of at (record u { bytes = drop n u.bytes })) v w (own_length ∙ l.0) there in
          broken k (subst (λ x. IsUtf8 x) (sym front) is.utf8);
      reads = goes_on len.reads fill.reads;
      caused = text_read a c e fault;
    }

    -- it is there, and is one
    pub text_taken : {w : ReaderView} {v : List ℕ} → v ≡ own → IsUtf8 v → w ≡ record u { bytes = drop n u.bytes } → ReadsValue a c s w short_text IsShortText (Ok v)
    text_taken {w} {v} is utf8 end = record {
      taken = λ at shows.
          let l = len.taken at shows in
          let mid = sym (fill.same at (still_shows len.reads shows)) ∙ ready at u n ∙ ap (λ r. option_map (λ s. own ++ s) (rest_of at r)) (sym end) in (
            record { utf8 = utf8; short = subst (λ k. k < 2 ^ 64) (sym (ap length is ∙ own_length)) l.0 },
            l.1 ∙ ap (option_map (λ s. big_bytes 8 n ++ s)) mid
                ∙ map_map (λ s. big_bytes 8 n ++ s) (λ s. own ++ s) (rest_of at w)
                ∙ map_same (λ s. big_bytes 8 n ++ (own ++ s)) (λ s. short_text v ++ s) (rest_of at w)
                (λ s. sym (append_assoc (big_bytes 8 n) own s) ∙ ap (λ k. (big_bytes 8 k ++ own) ++ s) (sym own_length ∙ sym (ap length is)) ∙ ap (λ x. (big_bytes 8 (length v) ++ x) ++ s) (sym is)),
          );
      lacks = tt;
      reads = goes_on len.reads fill.reads;
      caused = tt;
    }
