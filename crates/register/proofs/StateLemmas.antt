-- Another state in page 0 leaves what the pages say.
use Rattle.std.proofs.Common.{ℕ, ◌≡◌, ◌<◌, List, sym, ◌∙◌, subst, Option, Some}
use Rattle.pages.specs.declared.payload.Kind.TheVariants.{Header}
use Rattle.pages.specs.declared.payload.Payload.{Payload}
use Rattle.tbtree.specs.declared.tree.Place.{Place}
use Rattle.tbtree.specs.declared.tree.TbTree.{TbTree}
use Rattle.header.specs.Front.{with_state}
use Rattle.header.specs.Fields.{HasFields}
use Rattle.register.specs.Lasting.{Says}
use Rattle.register.specs.Saved.{fields_for, CatalogueView}
use Rattle.header.proofs.FieldsLemmas.{stated_fields}
use Rattle.register.proofs.HeaderTextLemmas.{same_text}
use Rattle.register.proofs.ReaderLemmas.{some_same}

-- so a catalogue that pages keep is kept
pub stated_says : (at now : ℕ → Option Payload) (p : Payload) (state : ℕ) → ((n : ℕ) → 0 < n → now n ≡ at n) → at 0 ≡ Some p → now 0 ≡ Some (with_state state p) → p.kind ≡ Header
    → (count : ℕ) (c : CatalogueView) (tree : TbTree) (places : List Place) → Says at count c tree places → Says now count c tree places
stated_says at now p state others is is_now kind count c tree places s =
    let fields = fields_for c.limits c.head tree s.first s.length in
    record {
      first = s.first;
      length = s.length;
      payload = with_state state p;
      is = is_now;
      fields = stated_fields p state fields (subst (λ q. HasFields q fields) (some_same s.payload p (sym s.is ∙ is)) s.fields);
      fits = s.fits;
      shape = s.shape;
      limits = s.limits;
      few = s.few;
      text = same_text at now others p (with_state state p) is is_now kind kind s.length s.first ∙ s.text;
    }
