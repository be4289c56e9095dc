use Rattle.std.proofs.Common.{◌∙◌, ap, subst, sym}
use Rattle.catalogue.proofs.BeginLemmas.{left_over}
use Rattle.register.specs.Saved.{CatalogueView}
use Rattle.register.specs.declared.fault.CatalogueFault.{CatalogueFault}
use Rattle.version1.specs.Migrating.{NotMigrated}
use Rattle.version1.proofs.MigrateLemmas.{left_later, left_over_now, legs_as, migrated, not_begun, refused}
use Rattle.version1.proofs.migrating.migrate.Goals as goal

pub returns-in-Err-begin-clause-refused : goal.returns-in-Err-begin-clause-refused
returns-in-Err-begin-clause-refused g c =
    let s = g.S.PageStore.seen c.args.old.now in
    let mid = g.S.PageStore.seen c.read_beside.new.old in
    let new = g.T.PageStore.seen c.args.new in
    let left = g.T.PageStore.seen c.in-Err-begin.new in
    let n = c.in-Err-begin.ensures.refused in
    subst (λ (e : CatalogueFault). NotMigrated s mid new left e) (sym c.fault_of.ensures)
    (not_begun s mid new (g.T.PageStore.seen c.in-Ok.read.1) left c.in-Ok.ensures.stored n.kept (g.met.T.PageStore.lawful c.in-Err-begin.new) c.in-Err-begin.fault c.in-Ok.ensures.read.finished n.caused)

pub returns-in-Err-begin-clause-left : goal.returns-in-Err-begin-clause-left
returns-in-Err-begin-clause-left g c = λ fa fb.
    let stored = c.in-Ok.ensures.stored in
    let mid = g.T.PageStore.seen c.in-Ok.read.1 in
    let left = g.T.PageStore.seen c.in-Err-begin.new in
    left_later (g.T.PageStore.seen c.args.new) mid left stored (left_over c.in-Ok.read.0.shape c.catalogue.inside.limits mid left (stored.keeps.faithful ∙ fb) c.in-Err-begin.ensures.refused.left)

pub returns-in-Ok-legs-clause-migrated : goal.returns-in-Ok-legs-clause-migrated
returns-in-Ok-legs-clause-migrated g c =
    let read = c.in-Ok.read.0 in
    migrated (g.S.PageStore.seen c.args.old.now) (g.S.PageStore.seen c.read_beside.new.old) (g.S.PageStore.seen c.take_old_legs-legs.new.old) (g.T.PageStore.seen c.args.new) (g.T.PageStore.seen c.in-Ok.read.1)
    read.catalogue read.leaf read.shape read.places.items _ c.args.cache_pages c.in-Ok-begin.index c.take_old_legs-legs.new.index
    c.in-Ok.ensures.read c.in-Ok.ensures.stays c.in-Ok.ensures.stored c.in-Ok-begin.ensures.begun (legs_as c.from-most.result read.leaf c.row_count-rows.result c.catalogue.inside.tracks read.catalogue.tracks c.as_slice.result.now read.places.items c.from-most.ensures c.row_count-rows.ensures.value (ap (λ (v : CatalogueView). v.tracks) c.catalogue.view_is) c.as_slice.ensures.value c.in-Ok-legs.ensures)

pub returns-in-Err-legs-clause-refused : goal.returns-in-Err-legs-clause-refused
returns-in-Err-legs-clause-refused g c =
    let s = g.S.PageStore.seen c.args.old.now in
    let end = g.S.PageStore.seen c.take_old_legs-legs.new.old in
    let new = g.T.PageStore.seen c.args.new in
    let left = g.T.PageStore.seen c.store_of.result in
    let read = c.in-Ok.read.0 in
    let of = c.store_of.ensures in
    subst (λ (e : CatalogueFault). NotMigrated s end new left e) (sym c.brought.ensures)
    (refused s (g.S.PageStore.seen c.read_beside.new.old) end new (g.T.PageStore.seen c.in-Ok.read.1)
    read.catalogue read.leaf read.shape read.places.items _ c.args.cache_pages c.in-Ok-begin.index c.take_old_legs-legs.new.index
    c.in-Ok.ensures.read c.in-Ok.ensures.stays c.in-Ok.ensures.stored c.in-Ok-begin.ensures.begun c.in-Err-legs.fault (legs_as c.from-most.result read.leaf c.row_count-rows.result c.catalogue.inside.tracks read.catalogue.tracks c.as_slice.result.now read.places.items c.from-most.ensures c.row_count-rows.ensures.value (ap (λ (v : CatalogueView). v.tracks) c.catalogue.view_is) c.as_slice.ensures.value c.in-Err-legs.ensures) left of.store of.few of.lawful)

pub returns-in-Err-legs-clause-left : goal.returns-in-Err-legs-clause-left
returns-in-Err-legs-clause-left g c =
    let read = c.in-Ok.read.0 in
    let of = c.store_of.ensures in
    left_over_now (g.S.PageStore.seen c.args.old.now) (g.S.PageStore.seen c.read_beside.new.old) (g.S.PageStore.seen c.take_old_legs-legs.new.old) (g.T.PageStore.seen c.args.new) (g.T.PageStore.seen c.in-Ok.read.1)
    read.catalogue read.leaf read.shape read.places.items _ c.args.cache_pages c.in-Ok-begin.index c.take_old_legs-legs.new.index
    c.in-Ok.ensures.read c.in-Ok.ensures.stays c.in-Ok.ensures.stored c.in-Ok-begin.ensures.begun c.in-Err-legs.fault (legs_as c.from-most.result read.leaf c.row_count-rows.result c.catalogue.inside.tracks read.catalogue.tracks c.as_slice.result.now read.places.items c.from-most.ensures c.row_count-rows.ensures.value (ap (λ (v : CatalogueView). v.tracks) c.catalogue.view_is) c.as_slice.ensures.value c.in-Err-legs.ensures) (g.T.PageStore.seen c.store_of.result) of.store of.few of.lawful
