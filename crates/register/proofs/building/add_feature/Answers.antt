use Rattle.std.proofs.Common.{subst, IsTrue}
use Rattle.std.specs.Prelude.{bytes_eq}
use Rattle.std.specs.List.{list_any}
use Rattle.register.proofs.BuildLemmas.{there_not}
use Rattle.register.proofs.building.add_feature.Goals as goal

pub returns-then-not-branch : goal.returns-then-not-branch
returns-then-not-branch c = record {
  is = tt;
  broken = λ b lawful apart.
      there_not c.args.known.now.tracks.names c.args.feature.name (subst (λ n. IsTrue (list_any (bytes_eq n) c.args.known.now.tracks.names)) c.into_string.ensures (c.in_ok-add.ensures.there c.if-not-branch.true).0) apart;
  fault = tt;
}
