use Rattle.std.proofs.Common.{ap, arith, sym, subst}
use Rattle.pagecache.specs.Cache.{IsRefused}
use Rattle.register.specs.ChainReader.{IsBroken, IsPageFault, IsReadFault}
use Rattle.register.proofs.ReaderLemmas.{on_ok, if_err, the_error, page_broken, page_read, refused_none, refused_read, rests_reads, loaded, not_taken, not_read}
use Rattle.register.proofs.chain_reader.ChainReader.load.Goals as goal

pub returns-in-Ok : goal.returns-in-Ok
returns-in-Ok g c =
    let a = c.args.cache.now in
    let old = c.args.self.now in
    let payload = c.in-Ok.payload.now in
    let named = ap (λ v. v.next) c.self.view_is in
    let here = c.in-Ok.ensures.value in
    let taken = c.take_page.ensures.taken in
    let broken = c.take_page.ensures.broken in
    record {
      same = on_ok c.take_page.result (λ t at shows. loaded a old c.self.inside.next named c.requires at shows c.take_page.new.self payload here t) taken;
      ready = on_ok c.take_page.result (λ t. let left = t.left in let some = c.requires in omega (arith, left, some)) taken;
      broken = if_err (λ e. IsPageFault payload old e) _ c.take_page.result (λ e h at shows b. not_taken a old c.self.inside.next named c.requires at shows payload here (page_broken payload old e h b)) broken;
      reads = rests_reads a c.page_ahead.follows.lender-at-none c.page_ahead.follows.holds-at-none.0;
      caused = if_err (λ e. IsPageFault payload old e) _ c.take_page.result (λ e h. page_read payload a c.page_ahead.follows.lender-at-none old e h) broken;
    }

pub returns-in-Err : goal.returns-in-Err
returns-in-Err g c =
    let a = c.args.cache.now in
    let b = c.page_ahead.follows.lender-at-none in
    let next = c.self.inside.next in
    let refused = the_error (λ e. IsRefused next e a b) c.page_ahead.result c.in-Err.fault c.in-Err.is c.page_ahead.follows.holds-at-none.1 in
    record {
      same = tt;
      ready = tt;
      broken = λ at shows k. not_read a c.args.self.now next (ap (λ v. v.next) c.self.view_is) c.requires at shows (refused_none at next a b c.in-Err.fault refused (subst (λ e. IsBroken e) c.fault_of.ensures k) shows);
      reads = rests_reads a b c.page_ahead.follows.holds-at-none.0;
      caused = subst (λ e. IsReadFault a b e) (sym c.fault_of.ensures) (refused_read next a b c.in-Err.fault refused);
    }
