-- Bytes that are put behind one another while a text is saved.
use Rattle.std.proofs.Common.{ℕ, zero, suc, ◌≡◌, ◌+◌, ◌<◌, ◌++◌, ◌∷◌, [], List, map, take, length, get_or, sym, ap, ◌∙◌, arith, subst, All, IsTrue, Some, Result, Ok, Err}
use Rattle.std.specs.Prelude.{IfErr, IsErrAnd, OnErr}
use Rattle.std.specs.List.{flat_map, range_with_len}
use Rattle.std.proofs.lemmas.Grind.{flat_map-append}
use Rattle.std.proofs.lemmas.List.{append_assoc, append-nil, length-append, map-append}
use Rattle.std.proofs.lemmas.List.Elements.{All-push}
use Rattle.pagecache.specs.Cache.{Cache, IsRefused}
use Rattle.pagecache.specs.declared.fault.CacheFault.{CacheFault}
use Rattle.pagecache.specs.declared.fault.CacheFault.TheVariants as cache
use Rattle.register.specs.ChainReader.{fault_of}
use Rattle.tbtree.specs.Passes.{Passes}
use Rattle.tbtree.proofs.PassLemmas.{passes_refl, passes_trans}
use Rattle.register.specs.ChainWriter.{TakesPages, WritesOn, Holds, IsAllowed, WriterView, IsCaused as IsCausedThere}
use Rattle.register.proofs.EncodingLemmas.{all_more, listed_more}
use Rattle.tbtree.specs.Nodes.{pages_of_cache}
use Rattle.register.proofs.SpareLemmas.{same_refl, spares_trans}
use Rattle.register.proofs.ReaderLemmas.{on_err_and}
use Rattle.std.specs.Prelude.{Option}
use Rattle.register.specs.declared.contents.Contents.{Contents}
use Rattle.std.specs.Option.{option_map}
use Rattle.legs.specs.declared.head.BookHead.{BookHead}
use Rattle.tbtree.specs.declared.tree.Place.{Place}
use Rattle.register.specs.Saved.{head_of, CatalogueView, SparesTree}
use Rattle.register.specs.Text.{catalogue_text, features_bytes, head_text, rows_text, AreCounted, IsFeature, IsHead, IsRow, IsShortText, IsWhole}
use Rattle.register.specs.Saving.{contents_of, features_of, HasFew, HasPageZero, IsSavingStop, IsCatalogue, IsCaused, Puts}
use Rattle.register.specs.declared.fault.CatalogueFault.{CatalogueFault}
use Rattle.register.specs.declared.fault.CatalogueFault.TheVariants.{Store}

-- a text that is not written yet grows
grown : (c : Cache) (w : WriterView) (bytes text : List ℕ) → Holds c w text → Holds c (record w { text = w.text ++ bytes }) (text ++ bytes)
grown c w bytes text h f =
    let x = h f in
    record {
      written = x.written;
      all = ap (λ l. l ++ bytes) x.all ∙ append_assoc x.written w.text bytes;
      parts = x.parts;
      own = x.own;
      apart = x.apart;
      below = x.below;
      left = λ s. let y = x.left s in let l = length-append w.text bytes in omega (arith, y, l);
    }

-- bytes that are only put behind the others
pub pushed_only : {bytes : List ℕ} {whole : Type 0} {c : Cache} {w v : WriterView} → v ≡ record w { text = w.text ++ bytes } → whole → Puts bytes (Unit {0}) whole c c w v (Ok tt)
pushed_only {bytes} {c = c} {w} {v} e whole = record {
  passes = passes_refl c;
  holds = λ text h. subst (λ v. Holds c v (text ++ bytes)) (sym e) (grown c w bytes text h);
  length = λ e. e;
  tree = λ text h f. same_refl (pages_of_cache c);
  whole = whole;
  only = λ few text h f. tt;
  caused = tt;
}

caused_after : (a b c : Cache) (e : CatalogueFault) → Passes a b → IsCaused b c e → IsCaused a c e
caused_after a b c Store p h = let f = p.store.faults in omega (arith, f, h)
caused_after a b c _ p h = h

-- some bytes, and others behind them
module _ {first second : List ℕ} {few one own whole all : Type 0} {a b c : Cache} {w v u : WriterView} (p : Puts first one own a b w v (Ok tt)) (both : own → whole → all) where
  pub puts_then : (r : Result (Unit {0}) CatalogueFault) → Puts second few whole b c v u r → Puts (first ++ second) few all a c w u r
  puts_then (Ok x) q = record {
    passes = passes_trans a b c p.passes q.passes;
    holds = λ text h. subst (λ t. Holds c u t) (append_assoc text first second) (q.holds (text ++ first) (p.holds text h));
    length = λ e. q.length (p.length e);
    tree = λ text h. spares_trans a b c p.passes (p.tree text h) (q.tree (text ++ first) (p.holds text h));
    whole = both p.whole q.whole;
    only = λ few text h f. tt;
    caused = tt;
  }
  puts_then (Err e) q = record {
    passes = passes_trans a b c p.passes q.passes;
    holds = tt;
    length = tt;
    tree = λ text h. spares_trans a b c p.passes (p.tree text h) (q.tree (text ++ first) (p.holds text h));
    whole = tt;
    only = λ few text h f. q.only few (text ++ first) (p.holds text h) (p.passes.store.faithful ∙ f);
    caused = caused_after a b c e p.passes q.caused;
  }

-- what is refused is refused in any other text, of which fewer are few
pub puts_refused : {some all : List ℕ} {few fewer own whole : Type 0} {a b : Cache} {w v : WriterView} {r : Result (Unit {0}) CatalogueFault} {e : CatalogueFault} → (fewer → few) → IsErrAnd r (λ f. f ≡ e) → Puts some few own a b w v (Err e) → Puts all fewer whole a b w v r
puts_refused {all = all} {fewer = fewer} {whole = whole} {a = a} {b = b} {w = w} {v = v} {r = r} {e = e} given is p =
    on_err_and (λ r. Puts all fewer whole a b w v r) r e is (record { passes = p.passes; holds = tt; length = tt; tree = p.tree; whole = tt; only = λ few. p.only (given few); caused = p.caused })

-- what is whole makes something else whole
pub puts_whole : {bytes : List ℕ} {few own whole : Type 0} {a b : Cache} {w v : WriterView} → (own → whole) → Puts bytes few own a b w v (Ok tt) → Puts bytes few whole a b w v (Ok tt)
puts_whole makes p = record { passes = p.passes; holds = p.holds; length = p.length; tree = p.tree; whole = makes p.whole; only = p.only; caused = p.caused }

-- where fewer are few
pub puts_fewer : {bytes : List ℕ} {few fewer whole : Type 0} {a b : Cache} {w v : WriterView} {r : Result (Unit {0}) CatalogueFault} → (fewer → few) → Puts bytes few whole a b w v r → Puts bytes fewer whole a b w v r
puts_fewer given p = record { passes = p.passes; holds = p.holds; length = p.length; tree = p.tree; whole = p.whole; only = λ few. p.only (given few); caused = p.caused }

allowed_saving : (e : CacheFault) → IsAllowed e → IsSavingStop (fault_of e)
allowed_saving cache.Store h = tt
allowed_saving _ h = h

pub caused_saving : (a b : Cache) (e : CacheFault) → IsCausedThere a b e → IsCaused a b (fault_of e)
caused_saving a b cache.Store h = h
caused_saving a b _ h = h

-- the pages that a text fills are not all written
pub refused_text : {a d : Cache} {w v : WriterView} {e : CacheFault} {f : CatalogueFault} → f ≡ fault_of e → WritesOn {T = Unit {0}} a d w (Err e) → Puts [] (Unit {0}) (Unit {0}) a d w v (Err f)
refused_text {a} {d} {e = e} is p = record {
  passes = p.passes;
  holds = tt;
  length = tt;
  tree = p.tree;
  whole = tt;
  only = λ _ text h f. subst IsSavingStop (sym is) (allowed_saving e (p.only text h f));
  caused = subst (IsCaused a d) (sym is) (caused_saving a d e p.caused);
}

-- the bytes are these
pub puts_same : {some all : List ℕ} {few whole : Type 0} {a b : Cache} {w v : WriterView} {r : Result (Unit {0}) CatalogueFault} → some ≡ all → Puts some few whole a b w v r → Puts all few whole a b w v r
puts_same {few = few} {whole = whole} {a = a} {b = b} {w = w} {v = v} {r = r} e s = subst (λ l. Puts l few whole a b w v r) e s

range_push : (a n : ℕ) → range_with_len a (suc n) ≡ range_with_len a n ++ (a + n) ∷ []
range_push a zero = ap (λ k. k ∷ []) (let e : a ≡ a + zero = omega arith in e)
range_push a (suc n) = ap (λ l. a ∷ l) (range_push (a + 1) n ∙ ap (λ k. range_with_len (a + 1) n ++ k ∷ []) (let e : a + 1 + n ≡ a + suc n = omega arith in e))

-- one item more of those that a number names
named_more : {V : Type 0} (text : V → List ℕ) (f : ℕ → V) (front : List ℕ) (n : ℕ) → (front ++ flat_map text (map f (range_with_len 0 n))) ++ text (f n) ≡ front ++ flat_map text (map f (range_with_len 0 (n + 1)))
named_more text f front n =
    append_assoc front (flat_map text (map f (range_with_len 0 n))) (text (f n))
    ∙ ap (λ l. front ++ (flat_map text (map f (range_with_len 0 n)) ++ l)) (sym (append-nil (text (f n))))
    ∙ ap (λ l. front ++ l) (sym (flat_map-append text (map f (range_with_len 0 n)) (f n ∷ [])))
    ∙ ap (λ l. front ++ flat_map text l) (sym (map-append f (range_with_len 0 n) (n ∷ [])))
    ∙ ap (λ l. front ++ flat_map text (map f l)) (ap (λ k. range_with_len 0 n ++ k ∷ []) (let e : n ≡ 0 + n = omega arith in e) ∙ sym (range_push 0 n) ∙ ap (range_with_len 0) (let e : suc n ≡ n + 1 = omega arith in e))

-- one item more of such
pub all_named : {V : Type 0} (P : V → Type 0) (f : ℕ → V) (n : ℕ) → All P (map f (range_with_len 0 n)) → P (f n) → All P (map f (range_with_len 0 (n + 1)))
all_named P f n all one =
    subst (All P)
    (sym (map-append f (range_with_len 0 n) (n ∷ []))
    ∙ ap (map f) (ap (λ k. range_with_len 0 n ++ k ∷ []) (let e : n ≡ 0 + n = omega arith in e) ∙ sym (range_push 0 n) ∙ ap (range_with_len 0) (let e : suc n ≡ n + 1 = omega arith in e)))
    (All-push P (map f (range_with_len 0 n)) (f n) all one)

-- values as many as the columns, in each row
rows_whole : (n : ℕ) (rows : List (List (List ℕ))) → All (λ row. length row ≡ n) rows → All (All IsShortText) rows → All (IsRow n) rows
rows_whole n rows many each = λ i d h. record { each = each i d h; many = many i d h }

-- the head and the lists of a catalogue are whole
pub whole_contents : (c : CatalogueView) (places : List Place) (head : BookHead) → c.head ≡ Some head → IsHead (head_of head) → AreCounted IsFeature 32 (features_of c.tracks places) × AreCounted (All IsShortText) 32 c.rows → IsCatalogue c → IsWhole (contents_of c places)
whole_contents c places head is whole lists all =
    subst (λ h. IsWhole (option_map (λ (x : BookHead). record { head = head_of x; lists = record { features = features_of c.tracks places; rows = c.rows } }) h)) (sym is) (record {
      head = whole;
      lists = record { features = lists.0; rows = record { each = rows_whole (length head.columns) c.rows (all.rows head is) lists.1.each; few = lists.1.few } };
    })

-- a page 0 that is there is not refused
pub refused_allowed : (a b : Cache) (e : CacheFault) → IsRefused 0 e a b → IsTrue a.store.is_faithful → 0 < a.count → HasPageZero a → IsSavingStop (fault_of e)
refused_allowed a b cache.NoPage h f some first = absurd (omega (arith, h.0, some))
refused_allowed a b (cache.Damaged n) h f some first = first f (h.1 f)
refused_allowed a b _ h f some first = tt

pub guarded_error : {T E : Type 0} (P : E → Type 0) (r : Result T E) (e : E) → r ≡ Err e → OnErr r (IfErr r P) → P e
guarded_error P r e is h = subst (λ r. OnErr r (IfErr r P)) is h

-- the text of a catalogue has a byte
pub some_text : (contents : Option Contents) → 0 < length (catalogue_text contents)
some_text contents = omega arith

-- a text begun, put together and written
module _ {T : Type 0} {x : T} {bytes : List ℕ} {few whole : Type 0} {a b c : Cache} {w v : WriterView} (begun : TakesPages a b (Ok x)) (held : Holds b w []) where
  pub begun_text : {r : Result (Unit {0}) CatalogueFault} → Puts bytes few whole b c w v r → Passes a c × SparesTree a c
  begun_text put = (passes_trans a b c begun.passes put.passes, spares_trans a b c begun.passes begun.tree (put.tree [] held))

  pub put_text : {d : Cache} {U : Type 0} {r : Result U CacheFault} → Puts bytes few whole b c w v (Ok tt) → WritesOn c d v r → Passes a d × SparesTree a d
  put_text {d} put last =
      let first = begun_text put in
      (passes_trans a c d first.0 last.passes, spares_trans a c d first.0 first.1 (last.tree bytes (put.holds [] held)))

-- a catalogue in which a file was accepted: its head, and its lists
pub with_head : {view saved : CatalogueView} {head : BookHead} {a b : Cache} {w v : WriterView} {r : Result (Unit {0}) CatalogueFault} (places : List Place) → view ≡ saved → view.head ≡ Some head
    → Puts ((1 ∷ head_text (head_of head)) ++ (features_bytes (features_of view.tracks places) ++ rows_text view.rows)) (HasFew view) (IsCatalogue view → IsWhole (contents_of view places)) a b w v r
    → Puts (catalogue_text (contents_of saved places)) (HasFew saved) (IsCatalogue saved → IsWhole (contents_of saved places)) a b w v r
with_head {view} {saved} {head} {a} {b} {w} {v} {r} places same is p =
    subst (λ c. Puts (catalogue_text (contents_of c places)) (HasFew c) (IsCatalogue c → IsWhole (contents_of c places)) a b w v r) same
    (puts_same (ap (λ h. catalogue_text (option_map (λ (x : BookHead). record { head = head_of x; lists = record { features = features_of view.tracks places; rows = view.rows } }) h)) (sym is)) p)

module _ {a b c : Cache} {w v u : WriterView} {V : Type 0} (text : V → List ℕ) (ok : V → Type 0) where
  -- one item more of those that a number names is put
  pub named_put : (f : ℕ → V) {n : ℕ} (front : List ℕ) → Puts (front ++ flat_map text (map f (range_with_len 0 n))) (Unit {0}) (All ok (map f (range_with_len 0 n))) a b w v (Ok tt) → Puts (text (f n)) (Unit {0}) (ok (f n)) b c v u (Ok tt)
      → Puts (front ++ flat_map text (map f (range_with_len 0 (n + 1)))) (Unit {0}) (All ok (map f (range_with_len 0 (n + 1)))) a c w u (Ok tt)
  named_put f {n} front p q = puts_same (named_more text f front n) (puts_then p (all_named ok f n) (Ok tt) q)

  -- one item more of a list is put
  pub listed_put : (xs : List V) {x : V} {n : ℕ} → n < length xs → get_or xs n x ≡ x → (front : List ℕ) → Puts (front ++ flat_map text (take n xs)) (Unit {0}) (All ok (take n xs)) a b w v (Ok tt) → Puts (text x) (Unit {0}) (ok x) b c v u (Ok tt)
      → Puts (front ++ flat_map text (take (n + 1) xs)) (Unit {0}) (All ok (take (n + 1) xs)) a c w u (Ok tt)
  listed_put xs {x} {n} less is front p q = puts_same (listed_more text xs x x front n less is) (puts_then p (all_more ok xs x x n less (sym is)) (Ok tt) q)
