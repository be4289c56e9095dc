-- What the pages of a store of version 1 keep is one, and is that of the book that they hold.
use Rattle.std.proofs.Common.{ℕ, ◌≡◌, ◌∙◌, List, length, sym, ap, subst, Option}
use Rattle.legs.specs.Book.{Book}
use Rattle.legs.specs.Costs.{ShapeView}
use Rattle.legs.specs.Limits.{LimitsView}
use Rattle.pages.specs.Store.{Store as StoreView}
use Rattle.pages.specs.declared.payload.Payload.{Payload}
use Rattle.pagecache.specs.Cache.{stored_payload}
use Rattle.treecheck.specs.Check.{HoldLegs}
use Rattle.tbtree.specs.declared.tree.Place.{Place}
use Rattle.tbtree.specs.declared.tree.TbTree.{TbTree}
use Rattle.register.specs.Restoring.{tree_of, IsOf, IsRest}
use Rattle.catalogue.specs.Holding.{IsOfBook}
use Rattle.register.specs.Lasting.{IsStop}
use Rattle.version1.specs.OldStore.{as_written, present_shape, AnswersOld, HoldsOldBook, IsKeptOld}
use Rattle.version1.specs.OldLegs.{pages_of_old}
use Rattle.register.specs.Saved.{CatalogueView}
use Rattle.register.specs.declared.fault.CatalogueFault.{CatalogueFault}
use Rattle.version1.specs.declared.old_header.OldFields.{OldFields}
use Rattle.version1.proofs.OldHeaderLemmas.{old_fields_same}
use Rattle.version1.proofs.OldStoreLemmas.{old_kept, old_kept_fields, old_kept_rest}
use Rattle.catalogue.proofs.OpenLemmas.{stop_of}
use Rattle.register.proofs.RestoreLemmas.{contents_same}
use Rattle.register.specs.Lasting.{IsSame}
use Rattle.register.proofs.SameLemmas.{of_same}

-- a book that is held is read but for its legs: the catalogue is its own; the leaf is that of the
-- shape, and the other shape comes nearest; and with the places the pages hold its legs, in a tree
-- of that shape
pub record AnswersOldBook (s : StoreView) (shape : ShapeView) (limits : LimitsView) (book : Book)
    (c : CatalogueView) (leaf : ℕ) (near : ShapeView) (places : List Place) : Type 0 where
  pub leaf_is : shape.leaf ≡ leaf
  pub shape_is : near ≡ present_shape shape
  pub of : IsOfBook limits book c
  pub tree : TbTree
  pub tree_shape : tree.shape ≡ shape
  pub hold : HoldLegs (pages_of_old s) tree (length book.rows) (length book.legs) places
      c.tracks.tracks
  pub legs : hold.legs ≡ book.legs

old_kept_tree : (at : ℕ → Option Payload) (count : ℕ) (c : CatalogueView) (tree : TbTree) (places : List Place) (k : IsKeptOld at count c tree places) → tree_of (as_written (old_kept at count c tree places k)) ≡ tree
old_kept_tree at count c tree places k = (λ i. record tree { spent = (sym k.works) i })

-- what the pages of a store of version 1 keep is one
pub old_kept_same : (at : ℕ → Option Payload) (count : ℕ) (c d : CatalogueView) (tree other : TbTree) (places others : List Place) → IsKeptOld at count c tree places → IsKeptOld at count d other others → IsSame c d tree other places others
old_kept_same at count c d tree other places others h k =
    let f = old_kept at count c tree places h in
    let g = old_kept at count d other others k in
    let same : f ≡ g = old_fields_same count (at 0) f g (old_kept_fields at count c tree places h) (old_kept_fields at count d other others k) in
    let first = old_kept_rest at count c tree places h in
    let second = subst (λ (x : OldFields). IsRest at count x.fields d others) (sym same) (old_kept_rest at count d other others k) in
    let text = contents_same at count f.fields.first f.fields.length first.contents second.contents first.holds second.holds in
    let both = of_same count f.fields first.contents c d places others first.of (subst (λ t. IsOf count f.fields t d others) (sym text) second.of) in
    record {
      catalogue = both.0;
      tree_is = sym (old_kept_tree at count c tree places h) ∙ ap (λ (x : OldFields). tree_of (as_written x)) same ∙ old_kept_tree at count d other others k;
      places_are = both.1;
    }

-- a book that is held is brought over
pub old_book : (s : StoreView) (c : CatalogueView) (leaf : ℕ) (near : ShapeView) (places : List Place) → AnswersOld (stored_payload s) s.count c leaf near places
    → (shape : ShapeView) (limits : LimitsView) (book : Book) → HoldsOldBook s shape limits book → AnswersOldBook s shape limits book c leaf near places
old_book s c leaf near places a shape limits book h =
    let same = old_kept_same (stored_payload s) s.count c h.catalogue a.tree h.tree places h.places a.kept h.kept in
    let shapes : a.tree.shape ≡ shape = ap (λ (t : TbTree). t.shape) same.tree_is ∙ h.shape_is in
    let rows = length book.rows in
    let total = length book.legs in
    let held = subst (λ (p : List Place). (x : HoldLegs (pages_of_old s) h.tree rows total p c.tracks.tracks) × (x.legs ≡ book.legs)) (sym same.places_are)
    (subst (λ (k : CatalogueView). (x : HoldLegs (pages_of_old s) h.tree rows total h.places k.tracks.tracks) × (x.legs ≡ book.legs)) (sym same.catalogue) (h.hold, h.legs)) in
    record {
      leaf_is = sym (ap (λ (x : ShapeView). x.leaf) shapes) ∙ a.leaf_is;
      shape_is = a.shape_is ∙ ap present_shape shapes;
      of = subst (IsOfBook limits book) (sym same.catalogue) h.of;
      tree = h.tree;
      tree_shape = h.shape_is;
      hold = held.0;
      legs = held.1;
    }

-- what is no other fault is memory or a store, where a book is held
pub old_stop : (s : StoreView) (e : CatalogueFault) → ((IsStop e → ⊥) → (c : CatalogueView) (tree : TbTree) (places : List Place) → IsKeptOld (stored_payload s) s.count c tree places → ⊥)
    → (shape : ShapeView) (limits : LimitsView) (book : Book) → HoldsOldBook s shape limits book → IsStop e
old_stop s e none shape limits book h = stop_of e (λ not. none not h.catalogue h.tree h.places h.kept)
