use Rattle.std.proofs.Common.{◌<◌, ◌∙◌, refl, sym, arith}
use Rattle.pages.specs.Unsealed.{unsealed}
use Rattle.pages.specs.declared.payload.PageFault.TheVariants as page
use Rattle.version1.proofs.LentLemmas.{stored_read}
use Rattle.version1.proofs.OldLemmas.{ok_none, ok_some}
use Rattle.version1.proofs.lent_store.read_sealed.Goals as goal

pub returns-in-Ok-unseal-clause-payload : goal.returns-in-Ok-unseal-clause-payload
returns-in-Ok-unseal-clause-payload g c = λ fa.
    stored_read (g.S.PageStore.seen c.args.store.now) c.args.number c.read.new.page (c.in-Ok.ensures.read fa)
    ∙ ok_some (unsealed c.args.number c.read.new.page) (page.Damaged c.args.number) c.in-Ok-unseal.payload (sym c.unseal.ensures.value ∙ c.in-Ok-unseal.is)

pub returns-in-Err-unseal-clause-fault : goal.returns-in-Err-unseal-clause-fault
returns-in-Err-unseal-clause-fault g c =
    let below : c.args.number < (g.S.PageStore.seen c.args.store.now).count = omega (arith, c.if-number-len.false, c.len.ensures) in (
      refl,
      below,
      λ fa. stored_read (g.S.PageStore.seen c.args.store.now) c.args.number c.read.new.page (c.in-Ok.ensures.read fa)
          ∙ (ok_none (unsealed c.args.number c.read.new.page) (page.Damaged c.args.number) _ (sym c.unseal.ensures.value ∙ c.in-Err-unseal.is)).0,
    )
