-- A catalogue that is read from a lent store of version 1.
use Rattle.std.proofs.Common.{ℕ, ◌≡◌, ◌≢◌, ◌∙◌, ◌++◌, [], List, refl, sym, ap, arith, subst, inl, inr, ⊎_elim, IsTrue, Option, Some, None, option_map, true, nat_lt, if◌then◌else◌}
use Rattle.std.proofs.lemmas.Bool.Decides.{nat_tests}
use Rattle.std.proofs.lemmas.Int.{clamps}
use Rattle.legs.specs.Limits.{IsLimits}
use Rattle.pages.specs.Store.{Store as StoreView, Stays}
use Rattle.pages.specs.declared.payload.Payload.{Payload}
use Rattle.pagecache.specs.Cache.{stored_payload}
use Rattle.tbtree.specs.declared.tree.Place.{Place}
use Rattle.tbtree.specs.declared.tree.TbTree.{TbTree}
use Rattle.register.specs.Restoring.{tree_of, HoldsContents, IsRest}
use Rattle.register.specs.Chain.{text_at}
use Rattle.register.specs.ChainReader.{rest_of, IsBroken, ReaderView}
use Rattle.header.specs.Fields.{FitsFields}
use Rattle.register.specs.Lasting.{IsBehindFirst, IsReadingFault, IsStop}
use Rattle.version1.specs.OldStore.{as_written, old_first_fault, old_payload_fault, present_shape, AnswersOld, HasOldFields, IsBringingFault, IsKeptOld, SaysOldFields}
use Rattle.version1.specs.Migrating.{IsMigratingFault}
use Rattle.register.specs.Saved.{fields_for, CatalogueView}
use Rattle.register.specs.Saving.{contents_of}
use Rattle.register.specs.Text.{catalogue_text, AreFew, IsRead, IsWhole}
use Rattle.register.specs.declared.contents.Contents.{Contents}
use Rattle.register.specs.declared.fault.CatalogueFault.{CatalogueFault}
use Rattle.register.specs.declared.fault.CatalogueFault.TheVariants.{Memory, Store, StoreFull, Damaged, Unfinished, Version, Malformed}
use Rattle.header.specs.declared.header_fields.Fields.{Fields}
use Rattle.version1.specs.declared.old_header.OldFields.{OldFields}
use Rattle.version1.proofs.LentLemmas.{stays_payload}
use Rattle.version1.proofs.OldHeaderLemmas.{old_fields_same}
use Rattle.register.proofs.ReaderLemmas.{some_none}

-- where each page of a chain is read, what is left stands ready, whatever the pages are
pub ended_same : (at bt : ℕ → Option Payload) (r : ReaderView) → r.left ≡ 0 → rest_of at r ≡ rest_of bt r
unfolding text_at
ended_same at bt r z =
    ap (λ n. option_map (λ t. r.bytes ++ t) (text_at at n r.next)) z
    ∙ sym (ap (λ n. option_map (λ t. r.bytes ++ t) (text_at bt n r.next)) z)

map_same : (o : Option (List ℕ)) → option_map (λ t. [] ++ t) o ≡ o
map_same None = refl
map_same (Some t) = refl

-- a text that is read
module _ (at bt : ℕ → Option Payload) (count first length : ℕ) where
  abbrev whole_reader : ReaderView
  whole_reader = record { next = first; left = length; bytes = [] }

  pub rest_at : rest_of at whole_reader ≡ text_at at length first
  rest_at = map_same (text_at at length first)

  -- none where a page of it is broken
  pub not_filled : rest_of at whole_reader ≡ None → (contents : Option Contents) → HoldsContents at count first length contents → ⊥
  not_filled none contents h = absurd (some_none (catalogue_text contents) (sym h.text ∙ sym rest_at ∙ none))

  module _ (r : ReaderView) (ended : r.left ≡ 0) (same : rest_of at r ≡ rest_of at whole_reader) where
    filled : rest_of bt r ≡ text_at at length first
    filled = ended_same bt at r ended ∙ same ∙ rest_at

    pub filled_text : (contents : Option Contents) → rest_of bt r ≡ Some (catalogue_text contents) → text_at at length first ≡ Some (catalogue_text contents)
    filled_text contents e = sym filled ∙ e

    pub not_parsed : (most : ℕ) → ((contents : Option Contents) → IsRead most contents → rest_of bt r ≢ Some (catalogue_text contents)) → (contents : Option Contents) → AreFew most contents → HoldsContents at count first length contents → ⊥
    not_parsed most none contents few h = none contents (record { whole = h.whole; few = few }) (filled ∙ h.text)

-- what is read is kept
pub old_rest_kept : (at : ℕ → Option Payload) (count : ℕ) (old : OldFields) (c : CatalogueView) (places : List Place) → SaysOldFields count (at 0) old → IsRest at count old.fields c places → IsKeptOld at count c (tree_of (as_written old)) places
old_rest_kept at count old c places says rest =
    let body = says.body in
    let fields = as_written old in
    let same : fields ≡ fields_for c.limits c.head (tree_of fields) fields.first fields.length =
    (λ i. record fields { limits = (sym rest.of.limits) i; dimension = (sym rest.of.dimension) i }) in
    let is = rest.of.contents_are in
    let fits : FitsFields fields =
    record { root = body.fits.root; levels = body.fits.levels; leaves = body.fits.leaves; first = body.fits.first; length = body.fits.length; dimension = body.fits.dimension } in
    record {
      says = record {
        first = fields.first;
        length = fields.length;
        payload = says.payload;
        is = says.is;
        fields = subst (λ f. HasOldFields says.payload f) same body.has;
        fits = subst FitsFields same fits;
        shape = body.shape;
        limits = subst IsLimits (sym rest.of.limits) body.limits;
        dimension = rest.of.dimension ∙ body.dimension;
        few = rest.holds.few;
        text = rest.holds.text ∙ ap (λ k. Some (catalogue_text k)) (sym is);
      };
      whole = subst (λ k. IsWhole k) (sym is) rest.holds.whole;
      finished = ap old_payload_fault says.is ∙ says.finished;
      within = record { root = rest.within.root; leaves = rest.within.leaves; levels = rest.within.levels };
      works = refl;
      lawful = rest.of.lawful;
    }

pub old_answers : (at : ℕ → Option Payload) (count : ℕ) (old : OldFields) (c : CatalogueView) (places : List Place) → SaysOldFields count (at 0) old → IsRest at count old.fields c places → AnswersOld at count c old.leaf old.fields.shape places
old_answers at count old c places says rest = record {
  tree = tree_of (as_written old);
  kept = old_rest_kept at count old c places says rest;
  leaf_is = refl;
  shape_is = (let n = says.body.nearest in λ i. record { leaf = n i; inner = old.fields.shape.inner });
}

-- what is kept is read
module _ (at : ℕ → Option Payload) (count : ℕ) (c : CatalogueView) (tree : TbTree) (places : List Place) (k : IsKeptOld at count c tree places) where
  abbrev pub old_kept : OldFields
  old_kept = record { leaf = tree.shape.leaf; fields = record (fields_for c.limits c.head tree k.says.first k.says.length) { shape = present_shape tree.shape } }

  pub old_kept_fields : SaysOldFields count (at 0) old_kept
  old_kept_fields =
      let fits = k.says.fits in
      record {
        some = (let r = k.within.root in omega (arith, r));
        payload = k.says.payload;
        is = k.says.is;
        finished = sym (ap old_payload_fault k.says.is) ∙ k.finished;
        body = record {
          has = k.says.fields;
          fits = record { root = fits.root; levels = fits.levels; leaves = fits.leaves; first = fits.first; length = fits.length; dimension = fits.dimension };
          shape = k.says.shape;
          nearest = refl;
          limits = k.says.limits;
          dimension = k.says.dimension;
        };
      }

  pub old_kept_rest : IsRest at count old_kept.fields c places
  old_kept_rest = record {
    within = record { root = k.within.root; leaves = k.within.leaves; levels = k.within.levels };
    contents = contents_of c places;
    holds = record { few = k.says.few; text = k.says.text; whole = k.whole };
    of = record { contents_are = refl; limits = refl; dimension = refl; lawful = k.lawful };
  }

-- pages of which page 0 says what it says keep nothing where there is nothing behind it
pub no_old_kept : (at : ℕ → Option Payload) (count : ℕ) (old : OldFields) → SaysOldFields count (at 0) old → ((c : CatalogueView) (places : List Place) → IsRest at count old.fields c places → ⊥)
    → (c : CatalogueView) (tree : TbTree) (places : List Place) → IsKeptOld at count c tree places → ⊥
no_old_kept at count old says none c tree places k =
    let same = old_fields_same count (at 0) (old_kept at count c tree places k) old (old_kept_fields at count c tree places k) says in
    none c places (subst (λ (f : OldFields). IsRest at count f.fields c places) same (old_kept_rest at count c tree places k))

-- what was read of a store that stayed
module _ (a b : StoreView) (s : Stays a b) (fa : IsTrue a.is_faithful) (fields : Fields) (c : CatalogueView) (places : List Place) where
  pub rest_before : IsRest (stored_payload b) b.count fields c places → IsRest (stored_payload a) a.count fields c places
  rest_before h =
      subst (λ n. IsRest (stored_payload a) n fields c places) s.count
      (subst (λ (at : ℕ → Option Payload). IsRest at b.count fields c places) (stays_payload a b s fa) h)

  pub rest_after : IsRest (stored_payload a) a.count fields c places → IsRest (stored_payload b) b.count fields c places
  rest_after h =
      subst (λ n. IsRest (stored_payload b) n fields c places) (sym s.count)
      (subst (λ (at : ℕ → Option Payload). IsRest at a.count fields c places) (sym (stays_payload a b s fa)) h)

-- a fault of bringing over that is none of memory and of the stores is one of the pages
pub bringing_breaks : (old new below after : StoreView) (e : CatalogueFault) → IsBringingFault old new below after e → (IsStop e → ⊥) → IsBroken e
bringing_breaks old new below after Memory h not = absurd (not tt)
bringing_breaks old new below after Store h not = absurd (not tt)
bringing_breaks old new below after StoreFull h not = absurd h
bringing_breaks old new below after (Damaged n) h not = tt
bringing_breaks old new below after Unfinished h not = absurd h
bringing_breaks old new below after Version h not = absurd h
bringing_breaks old new below after Malformed h not = tt

-- and does not come before one of page 0
pub bringing_behind : (old new below after : StoreView) (e : CatalogueFault) → IsBringingFault old new below after e → IsBehindFirst e
bringing_behind old new below after Memory h = tt
bringing_behind old new below after Store h = tt
bringing_behind old new below after StoreFull h = tt
bringing_behind old new below after (Damaged n) h = tt
bringing_behind old new below after Unfinished h = h
bringing_behind old new below after Version h = h
bringing_behind old new below after Malformed h = tt

-- a page 0 that says a header has no fault
pub first_none : (count : ℕ) (first : Option Payload) (old : OldFields) → SaysOldFields count first old → old_first_fault count first ≡ None
first_none count first old s =
    let there : nat_lt 0 count ≡ true = (let some = s.some in grind (arith, nat_tests, some)) in
    ap (λ b. if b then old_payload_fault first else Some Malformed) there ∙ ap old_payload_fault s.is ∙ s.finished

-- faults of reading are faults of bringing over
pub reading_brings : (a b below : StoreView) (e : CatalogueFault) → IsReadingFault a b e → IsMigratingFault a b below below e
reading_brings a b below Memory h = tt
reading_brings a b below Store h = inl h
reading_brings a b below StoreFull h = absurd h
reading_brings a b below (Damaged m) h = tt
reading_brings a b below Unfinished h = tt
reading_brings a b below Version h = tt
reading_brings a b below Malformed h = tt

pub bringing_later : (a b d below after : StoreView) (e : CatalogueFault) → Stays a b → IsBringingFault b d below after e → IsMigratingFault a d below after e
bringing_later a b d below after Memory p h = tt
bringing_later a b d below after Store p h = ⊎_elim (λ x. inl (let f = p.keeps.faults in omega (arith, clamps, x, f))) (λ x. inr x) h
bringing_later a b d below after StoreFull p h = absurd h
bringing_later a b d below after (Damaged m) p h = tt
bringing_later a b d below after Unfinished p h = tt
bringing_later a b d below after Version p h = tt
bringing_later a b d below after Malformed p h = tt
