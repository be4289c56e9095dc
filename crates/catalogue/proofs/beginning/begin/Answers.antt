use Rattle.std.proofs.Common.{◌≡◌, ◌<◌, ap, sym, subst, ◌∙◌, IsTrue}
use Rattle.pages.specs.Sealed.{sealed}
use Rattle.pages.specs.Store.{Writes}
use Rattle.pagecache.specs.Cache.{Cache, IsWritten, fresh}
use Rattle.tbtree.specs.Nodes.{pages_of_cache}
use Rattle.chains.specs.Chains.{AreHeld}
use Rattle.boxsearch.specs.Index.{new_index, IsSoundIndex}
use Rattle.pagecache.specs.declared.fault.CacheFault.{CacheFault}
use Rattle.header.specs.Fields.{header_payload}
use Rattle.catalogue.specs.Beginning.{IsBegun, NotBegun}
use Rattle.catalogue.proofs.BeginLemmas.{begun, left_written}
use Rattle.catalogue.proofs.beginning.begin.Goals as goal

pub returns-in-Ok-new-clause-begun : goal.returns-in-Ok-new-clause-begun
returns-in-Ok-new-clause-begun g c =
    let a = g.S.PageStore.seen c.args.store in
    let s = g.S.PageStore.seen c.write_first.new.store in
    let shape = c.args.shape in
    let limits = c.args.limits.now in
    let is = c.in-Ok-new.ensures.fresh in
    let of = c.new-in-Ok-new.ensures in
    let w = subst (λ p. Writes 0 (sealed 0 p) a s) c.new_payload-payload.ensures c.in-Ok.ensures.written in
    let written : IsWritten (fresh s c.args.cache_pages) = subst (λ v. IsWritten v) is c.in-Ok-new.ensures.written in
    subst (λ i. IsBegun shape limits c.args.cache_pages a i) (sym (of.value ∙ ap (λ k. new_index k shape) is))
    (begun shape limits a s c.args.cache_pages (g.met.S.PageStore.lawful c.args.store) c.requires.empty w written c.in-Ok.ensures.synced
    (subst (λ (k : Cache). IsTrue k.store.is_faithful → 0 < k.count → AreHeld (pages_of_cache k) → k.count ≡ k.store.count → IsSoundIndex (new_index k shape)) is
    (subst (λ i. IsTrue c.in-Ok-new.cache.store.is_faithful → 0 < c.in-Ok-new.cache.count → AreHeld (pages_of_cache c.in-Ok-new.cache) → c.in-Ok-new.cache.count ≡ c.in-Ok-new.cache.store.count → IsSoundIndex i) of.value of.sound)))

pub returns-in-Err-clause-refused : goal.returns-in-Err-clause-refused
returns-in-Err-clause-refused g c =
    subst (λ p. NotBegun p (g.S.PageStore.seen c.args.store) (g.S.PageStore.seen c.write_first.new.store) c.in-Err.fault) c.new_payload-payload.ensures c.in-Err.ensures.refused

pub returns-in-Err-new-clause-refused : goal.returns-in-Err-new-clause-refused
returns-in-Err-new-clause-refused g c =
    let a = g.S.PageStore.seen c.args.store in
    let s = g.S.PageStore.seen c.write_first.new.store in
    let w = subst (λ p. Writes 0 (sealed 0 p) a s) c.new_payload-payload.ensures c.in-Ok.ensures.written in
    subst (λ store. NotBegun (header_payload c.args.shape c.args.limits.now) a (g.S.PageStore.seen store) CacheFault.Memory) (sym c.in-Err-new.ensures.back) (record {
      kept = w.keeps;
      left = left_written c.args.shape c.args.limits.now a s (g.met.S.PageStore.lawful c.args.store) c.requires.empty w;
      caused = tt;
    })
