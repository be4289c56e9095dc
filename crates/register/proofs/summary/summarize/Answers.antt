use Rattle.std.proofs.Common.{refl, sym, subst}
use Rattle.pagecache.specs.Cache.{payload_of}
use Rattle.register.specs.Restoring.{HoldsContents}
use Rattle.register.specs.declared.fault.CatalogueFault.TheVariants.{Malformed}
use Rattle.register.proofs.ReaderLemmas.{goes_on, shows_own, still_shows}
use Rattle.register.proofs.RestoreLemmas.{fields_kept, first_refused, kept_fields, rest_refused}
use Rattle.register.proofs.SummaryLemmas.{kept_behind}
use Rattle.register.proofs.summary.summarize.Goals as goal

pub returns-in_err-fields : goal.returns-in_err-fields
returns-in_err-fields g c =
    let at = payload_of c.args.cache.now in
    let count = c.args.cache.now.count in
    first_refused c.in_err-fields.field-0.0 c.from_residual.ensures.1 c.in_err-fields.ensures (λ none k tree places kept. none (fields_kept at count k tree places kept) (kept_fields at count k tree places kept))

pub returns-in_err-before : goal.returns-in_err-before
returns-in_err-before g c =
    let a = c.args.cache.now in
    let at = payload_of a in
    let fields = c.in_ok-fields.fields in
    let header = c.in_ok-fields.ensures in
    let refused = c.in_err-before.ensures in
    rest_refused c.in_err-before.field-0.0 c.from_residual-in_err-before.ensures.1 header refused.reads refused.caused
    (λ fa broken k tree places kept.
    let rest = kept_behind at a.count fields (header.kept fa) k tree places kept in
    refused.broken at (still_shows header.reads (shows_own a fa)) broken rest.contents (subst (λ n. HoldsContents at n fields.first fields.length rest.contents) (sym header.reads.count) rest.holds))

pub returns-in-Some : goal.returns-in-Some
returns-in-Some g c =
    let a = c.args.cache.now in
    let at = payload_of a in
    let fields = c.in_ok-fields.fields in
    let reads = c.in_ok-fields.ensures.reads in
    record {
      kept = λ fa k tree places kept.
          let rest = kept_behind at a.count fields (c.in_ok-fields.ensures.kept fa) k tree places kept in
          let said = c.in_ok-before.ensures.is at (still_shows reads (shows_own a fa)) rest.contents (subst (λ n. HoldsContents at n fields.first fields.length rest.contents) (sym reads.count) rest.holds) in
          c.in-Some.ensures.some a.count rest.contents k places rest.of said;
      first = tt;
      broken = tt;
      reads = goes_on reads c.in_ok-before.ensures.reads;
      caused = tt;
    }

pub returns-in-None : goal.returns-in-None
returns-in-None g c =
    let a = c.args.cache.now in
    let at = payload_of a in
    let fields = c.in_ok-fields.fields in
    let header = c.in_ok-fields.ensures in
    rest_refused Malformed refl header c.in_ok-before.ensures.reads tt
    (λ fa broken k tree places kept.
    let rest = kept_behind at a.count fields (header.kept fa) k tree places kept in
    let said = c.in_ok-before.ensures.is at (still_shows header.reads (shows_own a fa)) rest.contents (subst (λ n. HoldsContents at n fields.first fields.length rest.contents) (sym header.reads.count) rest.holds) in
    c.in-None.ensures.none refl a.count rest.contents k places rest.of said)
