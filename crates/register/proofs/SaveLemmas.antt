-- A catalogue in the pages of an index.
use Rattle.std.proofs.Common.{ℕ, ◌≡◌, ◌≢◌, ◌<◌, ◌≤◌, ◌==◌, cond, false, ⊎_elim, List, sym, ap, ◌∙◌, arith, subst, IsTrue, Some, option_map, Result, Ok, Err}
use Rattle.std.specs.Prelude.{OnErr, OnOk}
use Rattle.std.specs.Int.{div_ceil}
use Rattle.std.proofs.lemmas.Bool.{cases_lt}
use Rattle.std.proofs.lemmas.Bool.Decides.{nat_tests}
use Rattle.legs.specs.Limits.{IsLimits}
use Rattle.pagecache.specs.Cache.{Cache, Rests, payload_of}
use Rattle.chains.specs.Reads.{OnlyReads}
use Rattle.tbnode.specs.Form.{node_of}
use Rattle.tbtree.specs.Descent.{node_in}
use Rattle.tbtree.specs.Passes.{KeepsLength, Passes}
use Rattle.tbtree.specs.Shape.{IsShape}
use Rattle.tbtree.specs.declared.tree.Place.{Place}
use Rattle.tbtree.specs.declared.tree.TbTree.{TbTree}
use Rattle.register.specs.Chain.{most_used}
use Rattle.register.specs.ChainWriter.{HasText}
use Rattle.header.specs.Fields.{FitsFields, HasFields}
use Rattle.register.specs.Lasting.{Says}
use Rattle.register.specs.Saved.{fields_for, CatalogueView, KeepsFront, SparesTree}
use Rattle.register.specs.Saving.{contents_of, PutsFields, PutsText, WritesAll}
use Rattle.register.specs.Text.{catalogue_text}
use Rattle.register.specs.declared.fault.CatalogueFault.{CatalogueFault}
use Rattle.header.specs.declared.header_fields.Fields.{Fields}
use Rattle.register.proofs.ReaderLemmas.{some_none}
use Rattle.tbtree.proofs.PassLemmas.{passes_trans}
use Rattle.register.proofs.SpareLemmas.{same_spare, spares_then, spares_trans, stays_spares}

not_first : (n : ℕ) → 0 < n → (0 == n) ≡ false
not_first n h = grind (arith, nat_tests, h)

-- pages that are only read
pub reads_spare : (a b : Cache) → OnlyReads a b → SparesTree a b
reads_spare a b r = same_spare a b r.count r.payloads

reads_pass : (a b : Cache) → OnlyReads a b → Passes a b
reads_pass a b r = record {
  store = r.store;
  capacity = r.capacity;
  count = (let n = r.count in omega (arith, n));
  asked = r.asked;
  first = λ f some. r.payloads f 0;
  unmarked = λ some u. r.changed 0 u;
  written = λ f some u. r.written f 0 some u;
}

-- a text that was put into pages is there once all is written
module _ {k : CatalogueView} {places : List Place} {a x d : Cache} where
  pub put_written : {r : Result (ℕ × ℕ) CatalogueFault} {w : Result (Unit {0}) CatalogueFault} → PutsText k places a x r → WritesAll x d w → Passes a d × SparesTree a d
  put_written p w = (passes_trans a x d p.passes (reads_pass x d w.reads), spares_trans a x d p.passes p.tree (reads_spare x d w.reads))

pub not_zero : (n : ℕ) → 1 ≤ n → 0 ≢ n
not_zero n h e = omega (arith, h, e)

module _ {c d : Cache} {fields : Fields} (puts : PutsFields fields c d) where
  other : IsTrue c.store.is_faithful → (p : ℕ) → 0 < p → payload_of d p ≡ payload_of c p
  other f p h = puts.lends.writes.payloads f p ∙ ap (λ v. cond v (Some puts.now) (payload_of c p)) (not_first p h)

  pub now_is : IsTrue c.store.is_faithful → payload_of d 0 ≡ Some puts.now
  now_is f = puts.lends.writes.payloads f 0

  pub puts_length : KeepsLength c d
  puts_length e = puts.lends.writes.count ∙ e ∙ sym puts.lends.length

  pub puts_spare : SparesTree c d
  puts_spare f =
      let count = puts.lends.writes.count in
      record {
        count = omega (arith, count);
        held = λ p l e. (
          omega (arith, count, l),
          ⊎_elim
              (λ (h : 0 < p). ap (option_map node_of) (sym (other f p h)) ∙ e)
              (λ (h : p ≤ 0). let z : 0 ≡ p = omega (arith, h) in absurd (some_none (node_of puts.now) (sym (ap (option_map node_of) (now_is f)) ∙ ap (λ k. option_map node_of (payload_of d k)) z ∙ e)))
              (cases_lt 0 p),
        );
        rest = λ p h. ap (λ o. node_in (option_map node_of o)) (other f p h);
      }

  puts_count : d.count ≡ c.count
  puts_count = puts.lends.writes.count

  module _ {a b : Cache} (reads : OnlyReads a b) (passes : Passes b c) (fa : IsTrue a.store.is_faithful) where
    fc : IsTrue c.store.is_faithful
    fc = passes.store.faithful ∙ reads.store.faithful ∙ fa

    pub keeps_front : 0 < a.count → KeepsFront a d
    keeps_front some = record {
      was = puts.was;
      before = sym (passes.first (reads.store.faithful ∙ fa) (let n = reads.count in omega (arith, some, n)) ∙ reads.payloads fa 0) ∙ puts.before fc;
      payload = puts.now;
      is = now_is fc;
      kind = puts.kind;
      front = puts.front;
      rest = puts.rest;
    }

    -- page 0 says where the text is, and the text is there
    pub says : (catalogue : CatalogueView) (tree t : TbTree) (places ps : List Place) (first length : ℕ) → fields ≡ fields_for catalogue.limits catalogue.head t first length → tree ≡ t → places ≡ ps
        → HasText c length first (catalogue_text (contents_of catalogue ps)) → div_ceil length most_used ≤ c.count → Says (payload_of d) d.count catalogue tree places
    says catalogue tree t places ps first length are same same_places text few =
        let e : fields ≡ fields_for catalogue.limits catalogue.head tree first length = are ∙ ap (λ t. fields_for catalogue.limits catalogue.head t first length) (sym same) in
        let n = puts_count in
        record {
          first = first;
          length = length;
          payload = puts.now;
          is = now_is fc;
          fields = subst (λ f. HasFields puts.now f) e puts.has;
          fits = subst FitsFields e puts.fits;
          shape = subst (λ (f : Fields). IsShape f.shape) e puts.shape;
          limits = subst (λ (f : Fields). IsLimits f.limits) e puts.limits;
          few = omega (arith, few, n);
          text = text (payload_of d) (other fc) ∙ ap (λ l. Some (catalogue_text (contents_of catalogue l))) (sym same_places);
        }

-- whatever is answered, the pages that are none of a catalogue's say what they said
pub all_spare : {T E : Type 0} {a b x : Cache} (d : Cache) (fields : Fields) (r : Result T E) → OnlyReads a b → Passes b x → SparesTree b x → OnOk r (PutsFields fields x d) → OnErr r (Rests x d) → SparesTree a d
all_spare {a = a} {b = b} {x = x} d fields r reads passes tree puts rests = spares_then a x d (passes.store.faithful ∙ reads.store.faithful) (spares_then a b x reads.store.faithful (reads_spare a b reads) tree) (last r puts rests) where
  last : {T E : Type 0} (r : Result T E) → OnOk r (PutsFields fields x d) → OnErr r (Rests x d) → SparesTree x d
  last (Ok v) puts rests = puts_spare puts
  last (Err e) puts rests = stays_spares x d rests.stays
