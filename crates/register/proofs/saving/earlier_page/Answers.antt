use Rattle.std.proofs.Common.{rules, sym, subst}
use Rattle.pagecache.specs.Cache.{Cache, IsRefused}
use Rattle.register.specs.Saving.{IsSavingStop}
use Rattle.register.proofs.ReaderLemmas.{the_error}
use Rattle.register.proofs.SavingLemmas.{refused_allowed}
use Rattle.register.proofs.saving.earlier_page.Goals as goal

pub returns-in-Err-clause-refused : goal.returns-in-Err-clause-refused
returns-in-Err-clause-refused g c =
    let x : Cache = c.args.cache.now in
    let l : Cache = c.page.follows.lender-at-none in
    let refused : IsRefused 0 c.in-Err.fault x l = the_error (λ e. IsRefused 0 e x l) c.page.result c.in-Err.fault c.in-Err.is c.page.follows.holds-at-none.1 in
    record { only = λ fa some first. subst (λ e. IsSavingStop e) (sym c.fault_of.ensures) (refused_allowed x l c.in-Err.fault refused fa some first); caused = search rules }
