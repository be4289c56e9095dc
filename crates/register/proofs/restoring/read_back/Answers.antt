use Rattle.std.proofs.Common.{sym, subst}
use Rattle.pagecache.specs.Cache.{payload_of}
use Rattle.register.specs.Lasting.{IsKept}
use Rattle.register.specs.Restoring.{IsRest}
use Rattle.register.proofs.ReaderLemmas.{goes_on, shows_own, still_shows}
use Rattle.register.proofs.RestoreLemmas.{fields_kept, first_refused, kept_fields, no_kept, rest_kept, rest_refused}
use Rattle.register.proofs.restoring.read_back.Goals as goal

pub returns-in_err-fields : goal.returns-in_err-fields
returns-in_err-fields g c =
    let at = payload_of c.args.cache.now in
    let count = c.args.cache.now.count in
    first_refused c.in_err-fields.field-0.0 c.from_residual.ensures.1 c.in_err-fields.ensures (λ none k tree places kept. none (fields_kept at count k tree places kept) (kept_fields at count k tree places kept))

pub returns-in_err-catalogue : goal.returns-in_err-catalogue
returns-in_err-catalogue g c =
    let a = c.args.cache.now in
    let at = payload_of a in
    let header = c.in_ok-fields.ensures in
    let refused = c.in_err-catalogue.ensures in
    let fields = c.in_ok-fields.fields in
    rest_refused c.in_err-catalogue.field-0.0 c.from_residual-in_err-catalogue.ensures.1 header refused.reads refused.caused
    (λ fa broken.
    let none = refused.broken at (still_shows header.reads (shows_own a fa)) broken in
    no_kept at a.count fields (header.kept fa) (λ k places rest. none k places (subst (λ n. IsRest at n fields k places) (sym header.reads.count) rest)))

pub returns : goal.returns
returns g c =
    let a = c.args.cache.now in
    let at = payload_of a in
    let reads = c.in_ok-fields.ensures.reads in
    let fields = c.in_ok-fields.fields in
    let catalogue = c.in_ok-catalogue.catalogue in
    let places = c.in_ok-catalogue.places.items in
    record {
      kept = λ fa.
          let rest = c.in_ok-catalogue.ensures.is at (still_shows reads (shows_own a fa)) in
          let here = subst (λ n. IsRest at n fields catalogue places) reads.count rest in
          subst (λ t. IsKept at a.count catalogue t places) (sym c.tree_of.ensures) (rest_kept at a.count fields catalogue places (c.in_ok-fields.ensures.kept fa) here);
      first = tt;
      broken = tt;
      reads = goes_on reads c.in_ok-catalogue.ensures.reads;
      caused = tt;
    }
