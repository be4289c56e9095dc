use Rattle.std.proofs.Common.{ℕ, subst, List, Option}
use Rattle.pages.specs.declared.payload.Payload.{Payload}
use Rattle.tbtree.specs.declared.tree.Place.{Place}
use Rattle.register.specs.ChainReader.{IsReadFault, IsTextFault, Shows}
use Rattle.register.specs.Restoring.{tree_of, IsOf, IsRest}
use Rattle.register.specs.Lasting.{IsWithin}
use Rattle.register.specs.Saved.{CatalogueView}
use Rattle.register.proofs.BuildLemmas.{contents_few}
use Rattle.register.proofs.ReaderLemmas.{if_err, if_ok, pages_refused, text_read}
use Rattle.register.proofs.RestoreLemmas.{no_rest}
use Rattle.register.proofs.restoring.read_rest.Goals as goal

pub returns-in_err-contents : goal.returns-in_err-contents
returns-in_err-contents g c =
    let refused = c.in_err-contents.ensures in
    pages_refused c.in_err-contents.field-0.0 c.from_residual.ensures.1 (λ at shows b k places rest. refused.broken at shows b rest.contents (contents_few c.args.cache.now.count c.args.fields.now rest.contents k places rest.of) rest.holds) refused.reads refused.caused

pub returns : goal.returns
returns g c =
    let a = c.args.cache.now in
    let b = c.read_contents.new.cache in
    let count = c.count-count.ensures.value in
    let fields = c.args.fields.now in
    let contents = c.in_ok-contents.contents in
    let holds = c.in_ok-contents.ensures.is in
    let made = c.catalogue_of.ensures in
    record {
      is = if_ok (λ r. IsOf c.count-count.result fields contents r.0 r.1.items) (λ r. (at : ℕ → Option Payload) → Shows a at → IsRest at a.count fields r.0 r.1.items) c.catalogue_of.result
          (λ r of at shows. record {
            within = subst (λ n. IsWithin n (tree_of fields)) count (c.is_within.ensures.0 c.if-not-is_within.false);
            contents = contents;
            holds = holds at shows;
            of = subst (λ n. IsOf n fields contents r.0 r.1.items) count of;
          }) made.is;
      broken = if_err _ _ c.catalogue_of.result (λ e refused at shows k.
          let none = subst (λ n. (c : CatalogueView) (places : List Place) → IsOf n fields contents c places → ⊥) count (refused k) in
          no_rest at a.count fields contents (holds at shows) none) made.broken;
      reads = c.in_ok-contents.ensures.reads;
      caused = if_err (λ e. IsTextFault e) (IsReadFault a b) c.catalogue_of.result (λ e h. text_read a b e h) made.fault;
    }
