use Rattle.std.proofs.Common.{◌≡◌, ◌<◌, All, sym, subst}
use Rattle.register.proofs.WriterLemmas.{put_behind}
use Rattle.register.proofs.chain_writer.take_page.Goals as goal

pub returns-clause-put : goal.returns-clause-put
returns-clause-put g c = λ below.
    let page = c.in_ok-page.page in
    let ks = c.reserve.new.self.keys in
    let same : ks ≡ c.args.pages.now.keys = c.reserve.ensures.keys in
    put_behind page c.args.pages.now.keys ks c.put_last.new.pages.keys same (c.in_ok-page.ensures.apart (subst (λ l. All (λ p. p < c.args.cache.now.count) l) (sym same) below)) c.put_last.ensures.keys
