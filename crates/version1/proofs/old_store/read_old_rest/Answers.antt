use Rattle.std.proofs.Common.{ℕ, rules, subst, List, IsTrue, Option}
use Rattle.tbtree.specs.declared.tree.Place.{Place}
use Rattle.pages.specs.declared.payload.Payload.{Payload}
use Rattle.register.specs.ChainReader.{IsBroken}
use Rattle.register.specs.Restoring.{tree_of, IsOf, IsRest}
use Rattle.register.specs.Lasting.{IsWithin}
use Rattle.register.specs.Saved.{CatalogueView}
use Rattle.register.proofs.BuildLemmas.{contents_few}
use Rattle.register.proofs.ReaderLemmas.{if_err, if_ok, on_err_and}
use Rattle.register.proofs.RestoreLemmas.{no_rest}
use Rattle.version1.specs.OldStore.{ReadsLent, ShowsStored}
use Rattle.version1.proofs.old_store.read_old_rest.Goals as goal

pub returns-in_err-contents : goal.returns-in_err-contents
returns-in_err-contents g c =
    let s = g.S.PageStore.seen c.args.lent.now in
    let fields = c.args.fields.now in
    let r = c.in_err-contents.ensures in
    on_err_and (λ x. ReadsLent s (g.S.PageStore.seen c.read_old_contents.new.lent) c.args.cache.now c.read_old_contents.new.cache (λ at r. IsRest at s.count fields r.0 r.1.items)
    (λ at. (k : CatalogueView) (places : List Place) → IsRest at s.count fields k places → ⊥) x) c.from_residual.result c.in_err-contents.field-0.0 c.from_residual.ensures.1 (record {
      is = tt;
      broken = λ fb at lent b k places rest. r.broken fb at lent b rest.contents (contents_few s.count fields rest.contents k places rest.of) rest.holds;
      stays = r.stays;
      reads = r.reads;
      caused = r.caused;
    })

pub returns : goal.returns
returns g c =
    let s = g.S.PageStore.seen c.args.lent.now in
    let fields = c.args.fields.now in
    let contents = c.in_ok-contents.contents in
    let held = c.in_ok-contents.ensures.is in
    record {
      is = if_ok (λ r. IsOf c.len-count.result fields contents r.0 r.1.items)
          (λ r. IsTrue c.args.cache.now.store.is_faithful → (at : ℕ → Option Payload) → ShowsStored s at → IsRest at s.count fields r.0 r.1.items) c.catalogue_of.result
          (λ r of fb at lent. record {
            within = subst (λ n. IsWithin n (tree_of fields)) c.len-count.ensures (c.is_within.ensures.0 (search rules));
            contents = contents;
            holds = held fb at lent;
            of = subst (λ n. IsOf n fields contents r.0 r.1.items) c.len-count.ensures of;
          }) c.catalogue_of.ensures.is;
      broken = if_err (λ e. IsBroken e → (k : CatalogueView) (places : List Place) → IsOf c.len-count.result fields contents k places → ⊥)
          (λ e. IsTrue c.args.cache.now.store.is_faithful → (at : ℕ → Option Payload) → ShowsStored s at → IsBroken e → (k : CatalogueView) (places : List Place) → IsRest at s.count fields k places → ⊥) c.catalogue_of.result
          (λ e refused fb at lent b k places rest.
          let none = subst (λ n. (k : CatalogueView) (places : List Place) → IsOf n fields contents k places → ⊥) c.len-count.ensures (refused b) in
          no_rest at s.count fields contents (held fb at lent) none k places rest) c.catalogue_of.ensures.broken;
      stays = search rules;
      reads = search rules;
      caused = search rules;
    }
