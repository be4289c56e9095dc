use Rattle.std.proofs.Common.{◌<◌, ap, refl, ◌∙◌, arith}
use Rattle.std.specs.Prelude.{reverse}
use Rattle.std.proofs.lemmas.List.{reverse-reverse}
use Rattle.std.proofs.lemmas.Result.{err_from_is_err_and}
use Rattle.tbtree.specs.Nodes.{pages_of_cache}
use Rattle.chains.specs.Chains.{chain_legs}
use Rattle.chains.specs.Trajectory.{kept_of}
use Rattle.chains.proofs.FaultLemmas.{whole_off}
use Rattle.chains.proofs.PeriodLemmas.{asks_for, kept_by, kept_walk}
use Rattle.chains.proofs.PlaceLemmas.{whole_chain}
use Rattle.chains.proofs.ReadLemmas.{allowed_by}
use Rattle.chains.proofs.retrieval.retrieve.Goals as goal

pub returns-in_err-found : goal.returns-in_err-found
returns-in_err-found g c =
    let p = err_from_is_err_and c.from_residual.result c.from_residual.ensures.1 in
    let some : 0 < c.args.shape.now.leaf = let least = c.walk_back.ensures.shape.least_leaf in omega (arith, least) in
    let nodes = pages_of_cache c.args.cache.now in
    let shape = c.args.shape.now in
    let place = c.args.place.now in
    let period = c.args.want.now.period in
    rw (p.1, p.2) (record {
      found = λ fa legs h. allowed_by c.args.cache.now c.walk_back.new.cache _ _ (λ page off. whole_off nodes period shape c.args.feature place page (whole_chain nodes shape place c.args.feature legs some h period) off) c.in_err-found.ensures.reads.caused (c.in_err-found.ensures.named fa);
      asked = λ fa legs h. tt;
      chain = λ fa. tt;
      legs = λ fa. tt;
      named = c.in_err-found.ensures.named;
      learns = c.in_err-found.ensures.learns;
      reads = c.in_err-found.ensures.reads;
    })

pub returns : goal.returns
returns g c =
    let old = c.args.cache.now in
    let shape = c.args.shape.now in
    let place = c.args.place.now in
    let period = c.args.want.now.period in
    let sieve = c.args.want.now.sieve in
    let whole = chain_legs (pages_of_cache old) period shape place in
    let some : 0 < shape.leaf = let least = c.walk_back.ensures.shape.least_leaf in omega (arith, least) in
    record {
      found = λ fa legs h.
          let taken = c.in_ok-found.ensures.found fa in
          kept_by period sieve whole (kept_of c.args.feature period legs) taken.0 c.reverse.new.self.items (kept_walk old shape place c.args.feature legs some h period) (c.reverse.ensures.items ∙ ap reverse taken.1 ∙ reverse-reverse taken.0) taken.2;
      asked = λ fa legs h. asks_for old shape place c.args.feature legs some h period c.args.cache.now.asked c.walk_back.new.cache.asked (c.in_ok-found.ensures.asked fa) (c.in_ok-found.ensures.within fa);
      chain = c.in_ok-found.ensures.chain;
      legs = λ fa.
          let taken = c.in_ok-found.ensures.found fa in
          kept_by period sieve whole whole taken.0 c.reverse.new.self.items refl (c.reverse.ensures.items ∙ ap reverse taken.1 ∙ reverse-reverse taken.0) taken.2;
      named = λ fa. tt;
      learns = c.in_ok-found.ensures.learns;
      reads = record { only = c.walk_back.ensures.reads.only; caused = tt };
    }
