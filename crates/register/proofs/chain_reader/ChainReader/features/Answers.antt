use Rattle.std.proofs.Common.{arith, refl, rules}
use Rattle.register.proofs.PrefixLemmas.{feature_free}
use Rattle.register.proofs.ReaderLemmas.{goes_on}
use Rattle.register.proofs.SequenceLemmas.{list_read, list_refused, one_read}
use Rattle.register.proofs.chain_reader.ChainReader.features.Goals as goal

pub returns-in_err-feature : goal.returns-in_err-feature
returns-in_err-feature g c = list_refused feature_free c.loop-test.true c.from_residual.ensures.1 c.loop.invariant c.in_err-feature.ensures

pub loop-preserved : goal.loop-preserved
loop-preserved g c = one_read feature_free c.in_ok-push.ensures.items c.loop.invariant c.in_ok-feature.ensures

pub returns : goal.returns
returns g c = list_read feature_free (omega (arith, c.loop-test.false, c.loop.auto.counter-end)) refl c.loop.invariant

pub returns-in_err-push : goal.returns-in_err-push
returns-in_err-push g c = record {
  taken = search rules;
  lacks = search rules;
  reads = goes_on c.loop.invariant.reads c.in_ok-feature.ensures.reads;
  caused = search rules;
}
