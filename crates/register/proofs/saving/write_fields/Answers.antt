use Rattle.std.proofs.Common.{ap, rules, sym, subst}
use Rattle.pagecache.specs.Cache.{Cache, Rests, IsRefused}
use Rattle.register.specs.Saving.{IsSavingStop}
use Rattle.std.specs.Result.{is_ok}
use Rattle.register.proofs.SavingLemmas.{guarded_error}
use Rattle.register.proofs.SavingLemmas.{refused_allowed}
use Rattle.register.proofs.saving.write_fields.Goals as goal

pub returns-in-Err-clause-refused : goal.returns-in-Err-clause-refused
returns-in-Err-clause-refused g c =
    let x : Cache = c.args.cache.now in
    let l : Cache = c.page_mut.follows.lender-at-none in
    let refused : IsRefused 0 c.in-Err.fault x l = (guarded_error (λ e. Rests x l × IsRefused 0 e x l) c.page_mut.result c.in-Err.fault c.in-Err.is c.page_mut.follows.holds-at-none).1 in
    record { only = λ fa some first. subst (λ e. IsSavingStop e) (sym c.fault_of.ensures) (refused_allowed x l c.in-Err.fault refused fa some first); caused = search rules }

pub returns-in-Ok-clause-puts : goal.returns-in-Ok-clause-puts
returns-in-Ok-clause-puts g c =
    let w = c.put_fields.new.payload in
    record {
      was = c.in-Ok.payload.now;
      now = w;
      before = c.in-Ok.ensures.value;
      lends = c.page_mut.follows.holds w (ap is_ok c.in-Ok.is);
      has = c.put_fields.ensures.has;
      fits = search rules;
      shape = search rules;
      limits = search rules;
      kind = c.put_fields.ensures.kind;
      front = c.put_fields.ensures.front;
      rest = c.put_fields.ensures.rest;
    }
