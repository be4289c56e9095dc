-- The text that is left in a chain of pages.
use Rattle.std.proofs.Common.{ℕ, suc, ◌≡◌, ◌-◌, ◌<◌, ◌≤◌, ◌==◌, min, Bool, true, false, cond, List, [], ◌++◌, drop, length, refl, sym, ap, ◌∙◌, arith, subst, IsTrue, Option, Some, None, option_map, option_and_then, Result, Ok, Err, OnOk}
use Rattle.std.specs.Prelude.{IfErr, IfOk, IsErrAnd}
use Rattle.std.specs.Int.{div_ceil}
use Rattle.std.proofs.lemmas.Grind.{div_ceil_times}
use Rattle.std.proofs.lemmas.Int.{clamps}
use Rattle.std.proofs.lemmas.List.{append-nil, append_assoc, drop-append-le}
use Rattle.pages.specs.declared.payload.Payload.{Payload}
use Rattle.pagecache.specs.Cache.{Cache, Rests, IsRefused, payload_of}
use Rattle.pagecache.specs.declared.fault.CacheFault.{CacheFault}
use Rattle.pagecache.specs.declared.fault.CacheFault.TheVariants as cache
use Rattle.chains.specs.Reads.{OnlyReads}
pub use Rattle.chains.proofs.ReadLemmas.{reads_trans}
use Rattle.register.specs.Chain.{most_used, is_part, next_in, text_in, chain_text, text_at}
use Rattle.register.specs.ChainReader.{ReaderView, fault_of, rest_of, IsBroken, IsPageFault, IsReadFault, IsTextFault, Makes, ReadsInto, ReadsPages, ReadsValue, Shows, TakesPart}
use Rattle.register.specs.declared.fault.CatalogueFault.{CatalogueFault}
use Rattle.register.specs.declared.fault.CatalogueFault.TheVariants.{Memory, Store, Damaged, Malformed}

pub some_none : {X : Type 0} (x : X) → Some x ≡ None → ⊥
some_none x e = absurd cc

pub some_same : {X : Type 0} (x y : X) → Some x ≡ Some y → x ≡ y
some_same x y e = cc

-- a page more, where some of the text is left
pages_down : (left : ℕ) → 0 < left → div_ceil left most_used ≡ suc (div_ceil (left - most_used) most_used)
pages_down left h =
    let a = div_ceil_times left most_used (omega arith) in
    let b = div_ceil_times (left - most_used) most_used (omega arith) in
    omega (arith, a.0, a.1, b.0, b.1, h)

module _ {X Y : Type 0} where
  pub map_none : (f : X → Y) (o : Option X) → o ≡ None → option_map f o ≡ None
  map_none f o e = ap (option_map f) e

module _ {X Y Z : Type 0} where
  pub map_map : (f : Y → Z) (g : X → Y) (o : Option X) → option_map f (option_map g o) ≡ option_map (λ x. f (g x)) o
  map_map f g None = refl
  map_map f g (Some x) = refl

module _ {X Y : Type 0} where
  pub map_same : (f g : X → Y) (o : Option X) → ((x : X) → f x ≡ g x) → option_map f o ≡ option_map g o
  map_same f g None h = refl
  map_same f g (Some x) h = ap Some (h x)

module _ (at : ℕ → Option Payload) where
  abbrev taken_by : ℕ → Payload → Option (List ℕ)
  taken_by left p = cond (is_part (min most_used left) p) (option_map (λ t. text_in (min most_used left) p ++ t) (text_at at (left - most_used) (next_in p))) None

  text_next : (left next : ℕ) → 0 < left → text_at at left next ≡ option_and_then (taken_by left) (at next)
  unfolding text_at
  text_next left next h = ap (λ n. chain_text at n left next) (pages_down left h)

  text_step : (left next : ℕ) (payload : Payload) → 0 < left → at next ≡ Some payload → is_part (min most_used left) payload ≡ true
      → text_at at left next ≡ option_map (λ t. text_in (min most_used left) payload ++ t) (text_at at (left - most_used) (next_in payload))
  text_step left next payload h here form =
      text_next left next h ∙ ap (option_and_then (taken_by left)) here ∙ ap (λ b. cond b (option_map (λ t. text_in (min most_used left) payload ++ t) (text_at at (left - most_used) (next_in payload))) None) form

  text_broken : (left next : ℕ) (payload : Payload) → 0 < left → at next ≡ Some payload → is_part (min most_used left) payload ≡ false → text_at at left next ≡ None
  text_broken left next payload h here form =
      text_next left next h ∙ ap (option_and_then (taken_by left)) here ∙ ap (λ b. cond b (option_map (λ t. text_in (min most_used left) payload ++ t) (text_at at (left - most_used) (next_in payload))) None) form

  text_none : (left next : ℕ) → 0 < left → at next ≡ None → text_at at left next ≡ None
  text_none left next h here = text_next left next h ∙ ap (option_and_then (taken_by left)) here

  -- at the end of the text no page more is named
  pub text_end : (next : ℕ) → text_at at 0 next ≡ cond (next == 0) (Some []) None
  unfolding text_at
  text_end next = refl

  pub rest_step : (old new : ReaderView) (payload : Payload) → 0 < old.left → at old.next ≡ Some payload → TakesPart payload old new → rest_of at new ≡ rest_of at old
  rest_step old new payload h here t =
      let used = min most_used old.left in
      let behind = text_at at (old.left - most_used) (next_in payload) in
      ap (λ b. option_map (λ t. b ++ t) (text_at at new.left new.next)) t.bytes
      ∙ ap (λ n. option_map (λ s. (old.bytes ++ text_in used payload) ++ s) (text_at at n new.next)) t.left
      ∙ ap (λ n. option_map (λ s. (old.bytes ++ text_in used payload) ++ s) (text_at at (old.left - most_used) n)) t.next
      ∙ map_same (λ s. (old.bytes ++ text_in used payload) ++ s) (λ s. old.bytes ++ (text_in used payload ++ s)) behind (λ s. append_assoc old.bytes (text_in used payload) s)
      ∙ sym (map_map (λ s. old.bytes ++ s) (λ s. text_in used payload ++ s) behind)
      ∙ ap (option_map (λ s. old.bytes ++ s)) (sym (text_step old.left old.next payload h here t.form))

  pub rest_broken : (old : ReaderView) (payload : Payload) → 0 < old.left → at old.next ≡ Some payload → is_part (min most_used old.left) payload ≡ false → rest_of at old ≡ None
  rest_broken old payload h here form = map_none (λ s. old.bytes ++ s) (text_at at old.left old.next) (text_broken old.left old.next payload h here form)

  pub rest_none : (old : ReaderView) → 0 < old.left → at old.next ≡ None → rest_of at old ≡ None
  rest_none old h here = map_none (λ s. old.bytes ++ s) (text_at at old.left old.next) (text_none old.left old.next h here)

-- pages that a cache shows it shows once they were only read
pub still_shows : {a b : Cache} {at : ℕ → Option Payload} → OnlyReads a b → Shows a at → Shows b at
still_shows reads shows = record {
  faithful = reads.store.faithful ∙ shows.faithful;
  same = λ p. shows.same p ∙ sym (reads.payloads shows.faithful p);
}

-- it shows its own
pub shows_own : (c : Cache) → IsTrue c.store.is_faithful → Shows c (payload_of c)
shows_own c f = record { faithful = f; same = λ p. refl }

-- a page of the chain is taken in
module _ (payload : Payload) (next left taken used n : ℕ) (items : List ℕ) where
  abbrev before : ReaderView
  before = record { next = next; left = left; bytes = drop taken items }

  taken_in : taken ≤ length items → used ≡ min left most_used → is_part used payload ≡ true → n ≡ next_in payload
      → TakesPart payload before (record { next = n; left = left - used; bytes = drop taken (items ++ text_in used payload) })
  taken_in h u form is =
      let same : used ≡ min most_used left = omega (arith, u) in
      record {
        form = subst (λ k. is_part k payload ≡ true) same form;
        next = is;
        left = omega (arith, u);
        bytes = drop-append-le taken items (text_in used payload) h ∙ ap (λ k. drop taken items ++ text_in k payload) same;
      }

  pub take_in : (old : ReaderView) → before ≡ old → taken ≤ length items → used ≡ min left most_used → is_part used payload ≡ true → n ≡ next_in payload
      → (more : List ℕ) → more ≡ items ++ text_in used payload
      → TakesPart payload old (record { next = n; left = left - used; bytes = drop taken more })
  take_in old e h u form is more m =
      subst (λ l. TakesPart payload old (record { next = n; left = left - used; bytes = drop taken l })) (sym m)
      (subst (λ v. TakesPart payload v (record { next = n; left = left - used; bytes = drop taken (items ++ text_in used payload) })) e (taken_in h u form is))

-- an answer, and a fault
pub on_ok : {T E P Q : Type 0} (r : Result T E) → (P → Q) → OnOk r P → OnOk r Q
on_ok {T} {E} {P} {Q} r f h = (elim r as (λ r. OnOk r P → OnOk r Q) [ Ok x ↦ λ h. f h | Err e ↦ λ h. h ]) h

pub if_ok : {T E : Type 0} (P Q : T → Type 0) (r : Result T E) → ((x : T) → P x → Q x) → IfOk r P → IfOk r Q
if_ok P Q (Ok x) f h = f x h
if_ok P Q (Err e) f h = tt

pub if_err : {T E : Type 0} (P Q : E → Type 0) (r : Result T E) → ((e : E) → P e → Q e) → IfErr r P → IfErr r Q
if_err P Q (Ok x) f h = tt
if_err P Q (Err e) f h = f e h

pub the_error : {T E : Type 0} (P : E → Type 0) (r : Result T E) (e : E) → r ≡ Err e → IfErr r P → P e
the_error P r e is h = subst (λ r. IfErr r P) is h

-- a page that is broken has no payload, or one of another form
pub page_broken : (payload : Payload) (old : ReaderView) (e : CatalogueFault) → IsPageFault payload old e → IsBroken e → is_part (min most_used old.left) payload ≡ false
page_broken payload old (Damaged n) h b = absurd h
page_broken payload old Malformed h b = h
page_broken payload old _ h b = absurd b

-- a page that is not read for a fault of its own has no payload
pub refused_none : (at : ℕ → Option Payload) (n : ℕ) (a b : Cache) (e : CacheFault) → IsRefused n e a b → IsBroken (fault_of e) → Shows a at → at n ≡ None
refused_none at n a b cache.NoPage h k shows = shows.same n ∙ h.1 shows.faithful
refused_none at n a b (cache.Damaged m) h k shows = shows.same n ∙ h.1 shows.faithful
refused_none at n a b _ h k shows = absurd k

pub refused_read : (n : ℕ) (a b : Cache) (e : CacheFault) → IsRefused n e a b → IsReadFault a b (fault_of e)
refused_read n a b cache.NoPage h = tt
refused_read n a b (cache.Damaged m) h = tt
refused_read n a b _ h = h

-- the next page is read
module _ (a : Cache) (old : ReaderView) (n : ℕ) (named : n ≡ old.next) (some : 0 < old.left) (at : ℕ → Option Payload) (shows : Shows a at) where
  there : (payload : Payload) → (IsTrue a.store.is_faithful → payload_of a n ≡ Some payload) → at old.next ≡ Some payload
  there payload here = ap at (sym named) ∙ shows.same n ∙ here shows.faithful

  pub loaded : (new : ReaderView) (payload : Payload) → (IsTrue a.store.is_faithful → payload_of a n ≡ Some payload) → TakesPart payload old new → rest_of at new ≡ rest_of at old
  loaded new payload here t = rest_step at old new payload some (there payload here) t

  pub not_taken : (payload : Payload) → (IsTrue a.store.is_faithful → payload_of a n ≡ Some payload) → is_part (min most_used old.left) payload ≡ false → rest_of at old ≡ None
  not_taken payload here form = rest_broken at old payload some (there payload here) form

  pub not_read : at n ≡ None → rest_of at old ≡ None
  not_read none = rest_none at old some (ap at (sym named) ∙ none)

-- at the end of the text there is what stands ready
module _ (at : ℕ → Option Payload) (r : ReaderView) (text : List ℕ) where
  at_last : (b : Bool) → option_map (λ t. r.bytes ++ t) (cond b (Some []) None) ≡ Some text → length text ≡ length r.bytes
  at_last true e = ap length (sym (some_same (r.bytes ++ []) text e)) ∙ ap length (append-nil r.bytes)
  at_last false e = absurd (some_none text (sym e))

  pub ended : r.left ≡ 0 → rest_of at r ≡ Some text → length text ≡ length r.bytes
  unfolding text_at
  ended z e = at_last (r.next == 0) (sym (ap (λ n. option_map (λ t. r.bytes ++ t) (text_at at n r.next)) z) ∙ e)

-- a page that is asked for is only read
pub rests_reads : (a b : Cache) → Rests a b → OnlyReads a b
rests_reads a b rests = record {
  store = rests.stays.keeps.store;
  capacity = rests.stays.keeps.capacity;
  count = rests.stays.count;
  length = rests.length;
  asked = let asks = rests.asks in omega (arith, clamps, asks);
  payloads = rests.stays.payloads;
  changed = rests.stays.changed;
  written = rests.stays.keeps.written;
  unwritten = rests.stays.unwritten;
  unsynced = rests.unsynced;
}

-- one reading after another
pub goes_on : {a b c : Cache} → OnlyReads a b → OnlyReads b c → OnlyReads a c
goes_on {a} {b} {c} p q = reads_trans a b c p q

-- what holds of a fault holds of a result that is it, at the exit of a `?`
pub on_err_and : {T E : Type 0} (P : Result T E → Type 0) (r : Result T E) (e : E) → IsErrAnd r (λ f. f ≡ e) → P (Err e) → P r
on_err_and P (Ok x) e is h = absurd is
on_err_and P (Err f) e is h = subst (λ f. P (Err f)) (sym is) h

-- what a fault says, where the result is told to be that one
pub if_err_of : {T E : Type 0} (P : E → Type 0) (r : Result T E) (f e : E) → r ≡ Err f → f ≡ e → P e → IfErr r P
if_err_of P r f e is same h = subst (λ r. IfErr r P) (sym (is ∙ ap Err same)) h

-- and what a fault says
pub if_err_and : {T E : Type 0} (P : E → Type 0) (r : Result T E) (e : E) → IsErrAnd r (λ f. f ≡ e) → P e → IfErr r P
if_err_and P r e is h = on_err_and (λ r. IfErr r P) r e is h

-- a fault of a later reading
pub later_fault : (a b c : Cache) (e : CatalogueFault) → OnlyReads a b → IsReadFault b c e → IsReadFault a c e
later_fault a b c Store reads h = let faults = reads.store.faults in omega (arith, faults, h)
later_fault a b c _ reads h = h

-- one of bytes that are read
pub text_read : (a b : Cache) (e : CatalogueFault) → IsTextFault e → IsReadFault a b e
text_read a b Memory h = tt
text_read a b Malformed h = tt
text_read a b _ h = absurd h

-- and one of a page that is taken in
pub page_read : (payload : Payload) (a b : Cache) (r : ReaderView) (e : CatalogueFault) → IsPageFault payload r e → IsReadFault a b e
page_read payload a b r Memory h = tt
page_read payload a b r Malformed h = tt
page_read payload a b r _ h = absurd h

-- a refusal that is passed on
pub refused : {V : Type 0} {text : V → List ℕ} {ok : V → Type 0} {a b : Cache} {s t : ReaderView} {r : Result V CatalogueFault} {e : CatalogueFault} → IsErrAnd r (λ f. f ≡ e) → ReadsValue a b s t text ok (Err e) → ReadsValue a b s t text ok r
refused {text = text} {ok = ok} {a = a} {b = b} {s = s} {t = t} {r = r} {e = e} is p = on_err_and (λ r. ReadsValue a b s t text ok r) r e is p

-- a list that is refused is not put anywhere
pub into_refused : {X : Type 0} {text : List X → List ℕ} {ok is_put : List X → Type 0} {a b : Cache} {s t : ReaderView} {e : CatalogueFault} {r : Result (Unit {0}) CatalogueFault}
    → IsErrAnd r (λ f. f ≡ e) → ReadsValue a b s t text ok (Err e) → ReadsInto a b s t text ok is_put r
into_refused {text = text} {ok = ok} {is_put = is_put} {a = a} {b = b} {s = s} {t = t} {e = e} {r = r} is p = on_err_and (λ r. ReadsInto a b s t text ok is_put r) r e is (record { value = []; put = tt; read = p })

-- what is read is put somewhere
pub into_read : {V : Type 0} {text : V → List ℕ} {ok is_put : V → Type 0} {a b : Cache} {s t : ReaderView} {v : V} → is_put v → ReadsValue a b s t text ok (Ok v) → ReadsInto a b s t text ok is_put (Ok tt)
into_read {v = v} put p = record { value = v; put = put; read = p }

-- nothing is made of what is refused
pub makes_refused : {T : Type 0} {is : T → Type 0} {none : Type 0} {r : Result T CatalogueFault} (e : CatalogueFault) → IsErrAnd r (λ f. f ≡ e) → (IsBroken e → none) → IsTextFault e → Makes is none r
makes_refused {is = is} {none = none} {r = r} e same broken fault = on_err_and (λ r. Makes is none r) r e same (record { is = tt; broken = broken; fault = fault })

-- nothing is read of pages that are refused
pub pages_refused : {T : Type 0} {a b : Cache} {is : (ℕ → Option Payload) → T → Type 0} {none : (ℕ → Option Payload) → Type 0} {r : Result T CatalogueFault} (e : CatalogueFault)
    → IsErrAnd r (λ f. f ≡ e) → ((at : ℕ → Option Payload) → Shows a at → IsBroken e → none at) → OnlyReads a b → IsReadFault a b e → ReadsPages a b is none r
pages_refused {a = a} {b = b} {is = is} {none = none} {r = r} e same broken reads caused = on_err_and (λ r. ReadsPages a b is none r) r e same (record { is = tt; broken = broken; reads = reads; caused = caused })
