use Rattle.std.proofs.Common.{◌≡◌, ◌<◌, ◌∙◌, None, IsTrue, refl, sym, ap, arith, subst}
use Rattle.pages.specs.Unsealed.{unsealed}
use Rattle.pages.specs.declared.payload.PageFault.TheVariants.{Damaged}
use Rattle.pagecache.specs.Cache.{fresh, payload_of}
use Rattle.tbtree.specs.Faults.{NamesEach, RefusesRead}
use Rattle.version1.specs.OldLegs.{unsealing}
use Rattle.version1.proofs.OldLemmas.{payload_read, ok_some, ok_none}
use Rattle.version1.proofs.old_legs.read_payload.Goals as goal

pub returns-in-Ok-unseal-clause-value : goal.returns-in-Ok-unseal-clause-value
returns-in-Ok-unseal-clause-value g c = λ fa.
    let below : c.args.page < (g.S.PageStore.seen c.args.store.now).count = omega (arith, c.if-page-len.false, c.len.ensures) in
    payload_read (g.S.PageStore.seen c.args.store.now) c.args.page c.read.new.page below (c.in-Ok.ensures.read fa)
    ∙ ok_some (unsealed c.args.page c.read.new.page) (Damaged c.args.page) c.in-Ok-unseal.payload (sym c.unseal.ensures.value ∙ c.in-Ok-unseal.is)

pub returns-in-Err-unseal-clause-only : goal.returns-in-Err-unseal-clause-only
returns-in-Err-unseal-clause-only g c = λ fa below some.
    let n = ok_none (unsealed c.args.page c.read.new.page) (Damaged c.args.page) c.in-Err-unseal.fault (sym c.unseal.ensures.value ∙ c.in-Err-unseal.is) in
    absurd (some (payload_read (g.S.PageStore.seen c.args.store.now) c.args.page c.read.new.page below (c.in-Ok.ensures.read fa) ∙ n.0))

pub returns-in-Err-unseal-clause-caused : goal.returns-in-Err-unseal-clause-caused
returns-in-Err-unseal-clause-caused g c =
    let below : c.args.page < (g.S.PageStore.seen c.args.store.now).count = omega (arith, c.if-page-len.false, c.len.ensures) in
    let n = ok_none (unsealed c.args.page c.read.new.page) (Damaged c.args.page) c.in-Err-unseal.fault (sym c.unseal.ensures.value ∙ c.in-Err-unseal.is) in
    subst (λ fault. RefusesRead (fresh (g.S.PageStore.seen c.args.store.now) 1) (fresh (g.S.PageStore.seen c.read.new.self) 1) fault) (ap unsealing n.1 ∙ sym c.fault_of.ensures)
    (below, λ fa. payload_read (g.S.PageStore.seen c.args.store.now) c.args.page c.read.new.page below (c.in-Ok.ensures.read fa) ∙ n.0)

pub returns-in-Err-unseal-clause-named : goal.returns-in-Err-unseal-clause-named
returns-in-Err-unseal-clause-named g c =
    let below : c.args.page < (g.S.PageStore.seen c.args.store.now).count = omega (arith, c.if-page-len.false, c.len.ensures) in
    let n = ok_none (unsealed c.args.page c.read.new.page) (Damaged c.args.page) c.in-Err-unseal.fault (sym c.unseal.ensures.value ∙ c.in-Err-unseal.is) in
    subst (NamesEach (λ n. (n ≡ c.args.page) × (IsTrue (g.S.PageStore.seen c.args.store.now).is_faithful → payload_of (fresh (g.S.PageStore.seen c.args.store.now) 1) c.args.page ≡ None))
    (λ n. (n ≡ c.args.from) × (c.args.page < (g.S.PageStore.seen c.args.store.now).count → ⊥)))
    (ap unsealing n.1 ∙ sym c.fault_of.ensures)
    (refl, λ fa. payload_read (g.S.PageStore.seen c.args.store.now) c.args.page c.read.new.page below (c.in-Ok.ensures.read fa) ∙ n.0)
