use Rattle.std.proofs.Common.{rules, refl, arith}
use Rattle.std.proofs.lemmas.Result.{IfErr-weaker}
use Rattle.chains.proofs.FaultLemmas.{node_caused, node_is, node_named}
use Rattle.boxsearch.specs.Way.{meets}
use Rattle.boxsearch.proofs.SameLemmas.{hits_there, pushed_there}
use Rattle.boxsearch.proofs.nodes.push_legs.Goals as goal

pub returns-then-page-eq0 : goal.returns-then-page-eq0
returns-then-page-eq0 g c = record {
  pushed = λ fa. tt;
  way = λ fa. tt;
  named = λ fa. (refl, λ h. let above = h.above in omega (arith, above, c.if-page-eq0.true));
  reads = search rules;
  asked = tt;
  most = omega arith;
}

pub returns-in-Err : goal.returns-in-Err
returns-in-Err g c = record {
  pushed = λ fa. tt;
  way = λ fa. tt;
  named = search rules;
  reads = record { only = search rules; caused = search rules };
  asked = tt;
  most = search rules;
}

pub returns : goal.returns
returns g c = record {
  pushed = λ fa.
      pushed_there c.push_leaf.result c.args.found.now.items c.push_leaf.new.found.items (hits_there c.args.cache.now c.args.page c.in-Ok.payload.now (meets c.args.query.now) c.if-page-eq0.false (c.in-Ok.ensures.value fa)) c.push_leaf.ensures.pushed;
  way = search rules;
  named = λ fa. IfErr-weaker c.push_leaf.result _ _ (λ fault h. node_named _ _ c.args.page fault (λ unfit. (refl, λ h. unfit (h.leaf, node_is c.args.cache.now c.args.page c.in-Ok.payload.now _ (c.in-Ok.ensures.value fa) h.is))) h) c.push_leaf.ensures.refused;
  reads = record {
    only = search rules;
    caused = IfErr-weaker c.push_leaf.result _ _ (λ fault h. node_caused c.args.cache.now c.page_ahead.follows.lender-at-none _ c.args.page fault h) c.push_leaf.ensures.refused;
  };
  asked = search rules;
  most = search rules;
}
