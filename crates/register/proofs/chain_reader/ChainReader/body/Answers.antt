use Rattle.std.proofs.Common.{sym, subst}
use Rattle.register.specs.ChainReader.{rest_of}
use Rattle.register.specs.Text.{body_text}
use Rattle.register.proofs.SequenceLemmas.{Lacks}
use Rattle.register.proofs.WholeLemmas.{no_body, IsBody}
use Rattle.register.proofs.chain_reader.ChainReader.body.Goals as goal

pub returns-in-Err : goal.returns-in-Err
returns-in-Err g c = record {
  taken = tt;
  lacks = λ at shows b.
      let old = rest_of at c.args.self.now in
      subst (λ n. Lacks body_text (IsBody c.args.limits.now.legs n) old) (sym c.in-1.is) (no_body c.args.limits.now.legs old (c.in-Err.ensures.lacks at shows b));
  reads = c.contents.ensures.reads;
  caused = c.in-Err.ensures.caused;
}

pub returns-in-Ok : goal.returns-in-Ok
returns-in-Ok g c = record {
  taken = λ at shows. let one = c.in-Ok.ensures.taken at shows in ((one.0, sym c.in-1.is), one.1);
  lacks = tt;
  reads = c.contents.ensures.reads;
  caused = tt;
}
