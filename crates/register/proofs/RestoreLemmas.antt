-- What page 0 and the text say is told apart, and makes a catalogue that is kept.
use Rattle.std.proofs.Common.{ℕ, ◌≡◌, ◌++◌, [], nat_lt, true, cond, List, refl, sym, ap, ◌∙◌, arith, subst, IsTrue, Option, Some, None, Result, Ok, Err}
use Rattle.std.specs.Prelude.{IsErrAnd}
use Rattle.std.proofs.lemmas.Bool.Decides.{nat_tests}
use Rattle.byteorder.specs.Endian.{big_bytes}
use Rattle.legs.specs.Limits.{IsLimits}
use Rattle.pages.specs.declared.payload.Payload.{Payload}
use Rattle.tbtree.specs.Shape.{IsShape}
use Rattle.tbtree.specs.declared.tree.Place.{Place}
use Rattle.tbtree.specs.declared.tree.TbTree.{TbTree}
use Rattle.register.specs.Restoring.{tree_of, IsOf, HoldsContents, IsRest, ReadsStore, SaysFields}
use Rattle.header.specs.Fields.{fields_bytes, FitsFields, HasFields}
use Rattle.register.specs.Lasting.{first_fault, payload_fault, ComesFirst, IsBehindFirst, IsKept, IsReadingFault, IsStop, IsWithin}
use Rattle.register.specs.Saved.{fields_for, CatalogueView}
use Rattle.register.specs.Saving.{contents_of}
use Rattle.register.specs.Text.{catalogue_text, IsWhole}
use Rattle.register.specs.declared.contents.Contents.{Contents}
use Rattle.header.specs.declared.header_fields.Fields.{Fields}
use Rattle.pagecache.specs.Cache.{payload_of, Cache}
use Rattle.chains.specs.Reads.{OnlyReads}
use Rattle.register.specs.ChainReader.{IsBroken, IsReadFault}
use Rattle.register.specs.declared.fault.CatalogueFault.{CatalogueFault}
use Rattle.register.specs.declared.fault.CatalogueFault.TheVariants.{Memory, StoreFull, Damaged, Unfinished, Version, Malformed}
use Rattle.register.specs.declared.fault.CatalogueFault.TheVariants as fault
use Rattle.register.proofs.ReaderLemmas.{goes_on, on_err_and}
use Rattle.register.proofs.PrefixLemmas.{numbers_free, whole_free}

some_same : {X : Type 0} {x y : X} → Some x ≡ Some y → x ≡ y
some_same e = (cc)

fields_parts : (f : Fields) (s : List ℕ) → fields_bytes f ++ s ≡ big_bytes 2 f.shape.leaf ++ (big_bytes 2 f.shape.inner ++ (big_bytes 8 f.limits.legs ++ (big_bytes 8 f.limits.features
    ++ (big_bytes 4 f.root ++ (big_bytes 4 f.levels ++ (big_bytes 4 f.leaves ++ (big_bytes 4 f.first ++ (big_bytes 8 f.length ++ (big_bytes 4 f.dimension ++ s)))))))))
unfolding fields_bytes
fields_parts f s = refl

-- the bytes of fields are told apart
pub fields_free : (f g : Fields) → FitsFields f → FitsFields g → IsShape f.shape → IsShape g.shape → IsLimits f.limits → IsLimits g.limits → fields_bytes f ≡ fields_bytes g → f ≡ g
fields_free f g h k sf sg lf lg e =
    let e' = sym (fields_parts f []) ∙ ap (λ l. l ++ []) e ∙ fields_parts g [] in
    let a = numbers_free 2 16 refl f.shape.leaf g.shape.leaf _ _ (omega (arith, sf.most_leaf)) (omega (arith, sg.most_leaf)) e' in
    let b = numbers_free 2 16 refl f.shape.inner g.shape.inner _ _ (omega (arith, sf.most_inner)) (omega (arith, sg.most_inner)) a.1 in
    let c = numbers_free 8 64 refl f.limits.legs g.limits.legs _ _ (omega (arith, lf.few_legs)) (omega (arith, lg.few_legs)) b.1 in
    let d = numbers_free 8 64 refl f.limits.features g.limits.features _ _ (omega (arith, lf.few_features)) (omega (arith, lg.few_features)) c.1 in
    let r = numbers_free 4 32 refl f.root g.root _ _ h.root k.root d.1 in
    let l = numbers_free 4 32 refl f.levels g.levels _ _ h.levels k.levels r.1 in
    let v = numbers_free 4 32 refl f.leaves g.leaves _ _ h.leaves k.leaves l.1 in
    let p = numbers_free 4 32 refl f.first g.first _ _ h.first k.first v.1 in
    let n = numbers_free 8 64 refl f.length g.length _ _ h.length k.length p.1 in
    let m = numbers_free 4 32 refl f.dimension g.dimension [] [] h.dimension k.dimension n.1 in
    (λ i. record { shape = record { leaf = a.0 i; inner = b.0 i }; limits = record { legs = c.0 i; features = d.0 i }; root = r.0 i; levels = l.0 i; leaves = v.0 i; first = p.0 i; length = n.0 i; dimension = m.0 i })

-- one page 0 says one thing
pub fields_same : (count : ℕ) (first : Option Payload) (f g : Fields) → SaysFields count first f → SaysFields count first g → f ≡ g
fields_same count first f g h k =
    let same : h.payload ≡ k.payload = some_same (sym h.is ∙ k.is) in
    let has = subst (λ p. HasFields p g) (sym same) k.says.has in
    fields_free f g h.says.fits k.says.fits h.says.shape k.says.shape h.says.limits k.says.limits (sym h.says.has.fields ∙ has.fields)

-- one text has one content
pub contents_same : (at : ℕ → Option Payload) (count first length : ℕ) (a b : Option Contents) → HoldsContents at count first length a → HoldsContents at count first length b → a ≡ b
contents_same at count first length a b h k =
    (whole_free a b [] [] h.whole k.whole (ap (λ l. l ++ []) (some_same (sym h.text ∙ k.text)))).0

-- what is read is kept
pub rest_kept : (at : ℕ → Option Payload) (count : ℕ) (fields : Fields) (c : CatalogueView) (places : List Place) → SaysFields count (at 0) fields → IsRest at count fields c places → IsKept at count c (tree_of fields) places
rest_kept at count fields c places says rest =
    let same : fields ≡ fields_for c.limits c.head (tree_of fields) fields.first fields.length =
    (λ i. record fields { limits = (sym rest.of.limits) i; dimension = (sym rest.of.dimension) i }) in
    let is = rest.of.contents_are in
    record {
      says = record {
        first = fields.first;
        length = fields.length;
        payload = says.payload;
        is = says.is;
        fields = subst (λ f. HasFields says.payload f) same says.says.has;
        fits = subst FitsFields same says.says.fits;
        shape = says.says.shape;
        limits = subst IsLimits (sym rest.of.limits) says.says.limits;
        few = rest.holds.few;
        text = rest.holds.text ∙ ap (λ k. Some (catalogue_text k)) (sym is);
      };
      whole = subst (λ k. IsWhole k) (sym is) rest.holds.whole;
      finished = ap payload_fault says.is ∙ says.says.finished;
      within = rest.within;
      works = refl;
      lawful = rest.of.lawful;
    }

-- what is kept is read
module _ (at : ℕ → Option Payload) (count : ℕ) (c : CatalogueView) (tree : TbTree) (places : List Place) (k : IsKept at count c tree places) where
  abbrev pub fields_kept : Fields
  fields_kept = fields_for c.limits c.head tree k.says.first k.says.length

  pub kept_fields : SaysFields count (at 0) fields_kept
  kept_fields = record {
    some = let r = k.within.root in omega (arith, r);
    payload = k.says.payload;
    is = k.says.is;
    says = record {
      finished = sym (ap payload_fault k.says.is) ∙ k.finished;
      has = k.says.fields;
      fits = k.says.fits;
      shape = k.says.shape;
      limits = k.says.limits;
    };
  }

  pub kept_tree : tree_of fields_kept ≡ tree
  kept_tree = (λ i. record tree { spent = (sym k.works) i })

  pub kept_rest : IsRest at count fields_kept c places
  kept_rest = record {
    within = subst (IsWithin count) (sym kept_tree) k.within;
    contents = contents_of c places;
    holds = record { few = k.says.few; text = k.says.text; whole = k.whole };
    of = record { contents_are = refl; limits = refl; dimension = refl; lawful = k.lawful };
  }

-- a fault of reading that is none of memory and of the store is one of the pages
pub broken_of : (old new : Cache) (e : CatalogueFault) → IsReadFault old new e → (IsStop e → ⊥) → IsBroken e
broken_of old new Memory h not = absurd (not tt)
broken_of old new fault.Store h not = absurd (not tt)
broken_of old new (Damaged n) h not = tt
broken_of old new Malformed h not = tt
broken_of old new _ h not = absurd h

-- a text says no lawful catalogue, where what was read of it is none
pub no_rest : (at : ℕ → Option Payload) (count : ℕ) (fields : Fields) (contents : Option Contents) → HoldsContents at count fields.first fields.length contents
    → ((c : CatalogueView) (places : List Place) → IsOf count fields contents c places → ⊥) → (c : CatalogueView) (places : List Place) → IsRest at count fields c places → ⊥
no_rest at count fields contents holds none c places rest =
    none c places (subst (λ k. IsOf count fields k c places) (contents_same at count fields.first fields.length rest.contents contents rest.holds holds) rest.of)

-- pages of which page 0 says what it says keep nothing where there is nothing behind it
pub no_kept : (at : ℕ → Option Payload) (count : ℕ) (fields : Fields) → SaysFields count (at 0) fields → ((c : CatalogueView) (places : List Place) → IsRest at count fields c places → ⊥)
    → (c : CatalogueView) (tree : TbTree) (places : List Place) → IsKept at count c tree places → ⊥
no_kept at count fields says none c tree places k =
    none c places (subst (λ f. IsRest at count f c places) (fields_same count (at 0) (fields_kept at count c tree places k) fields (kept_fields at count c tree places k) says) (kept_rest at count c tree places k))

-- what is refused behind page 0 says neither its state nor its version
behind_first : (a b : Cache) (e : CatalogueFault) → IsReadFault a b e → IsBehindFirst e
behind_first a b Unfinished h = h
behind_first a b Version h = h
behind_first a b _ h = tt

-- page 0 has no fault where it says fields
none_first : (count : ℕ) (first : Option Payload) (fields : Fields) → SaysFields count first fields → first_fault count first ≡ None
none_first count first fields says =
    let some : nat_lt 0 count ≡ true = (let h = says.some in grind (arith, nat_tests, h)) in
    ap (λ b. cond b (payload_fault first) (Some Malformed)) some ∙ ap payload_fault says.is ∙ says.says.finished

-- the store failed where that is said
reading_fault : (a b c : Cache) (e : CatalogueFault) → OnlyReads a b → IsReadFault b c e → IsReadingFault a.store c.store e
reading_fault a b c fault.Store reads h = let faults = reads.store.faults in omega (arith, faults, h)
reading_fault a b c StoreFull reads h = h
reading_fault a b c _ reads h = tt

module _ {T : Type 0} {is : T → Type 0} {nothing : Type 0} {r : Result T CatalogueFault} (e : CatalogueFault) (same : IsErrAnd r (λ f. f ≡ e)) {a b : Cache} where
  -- where page 0 is refused, so is what is to be read behind it
  pub first_refused : {none : Type 0} → ReadsStore {T = Fields} a b (SaysFields a.count (payload_of a 0)) none (Err e) → (none → nothing) → ReadsStore a b is nothing r
  first_refused p says = on_err_and (λ r. ReadsStore a b is nothing r) r e same (record { kept = tt; first = p.first; broken = λ f not. says (p.broken f not); reads = p.reads; caused = p.caused })

  -- or what stands behind it
  pub rest_refused : {fields : Fields} {none : Type 0} {c : Cache} → ReadsStore a b (SaysFields a.count (payload_of a 0)) none (Ok fields) → OnlyReads b c → IsReadFault b c e
      → (IsTrue a.store.is_faithful → IsBroken e → nothing) → ReadsStore a c is nothing r
  rest_refused {fields} {c = c} p reads caused broken = on_err_and (λ r. ReadsStore a c is nothing r) r e same (record {
    kept = tt;
    first = λ f. subst (λ o. ComesFirst o e) (sym (none_first a.count (payload_of a 0) fields (p.kept f))) (behind_first b c e caused);
    broken = λ f not. broken f (broken_of b c e caused not);
    reads = goes_on p.reads reads;
    caused = reading_fault a b c e p.reads caused;
  })
