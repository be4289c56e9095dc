use Rattle.std.proofs.Common.{◌∙◌, ◌≤◌, ap, sym, arith, length}
use Rattle.std.proofs.lemmas.List.{length-drop}
use Rattle.register.specs.ChainReader.{IsShorter, ReadsAhead}
use Rattle.register.proofs.ReaderLemmas.{ended, goes_on, later_fault, on_err_and, some_none, still_shows}
use Rattle.register.proofs.chain_reader.ChainReader.fill.Goals as goal

pub returns-then-self-eq0 : goal.returns-then-self-eq0
returns-then-self-eq0 g c = record {
  same = tt;
  ready = tt;
  broken = λ at shows u text e.
      let view = ap (λ v. v.left) c.self.view_is in
      let end = ended at c.loop-self.self text (sym view ∙ c.if-self-eq0.true) (c.loop-self.invariant.same at shows ∙ e) in
      let bytes = ap (λ v. length v.bytes) c.self.view_is in
      let ready = length-drop c.self.inside.taken c.self.inside.bytes.items in
      omega (arith, end, bytes, ready, c.loop-self-test.true, c.len.ensures);
  reads = c.loop-self.invariant.reads;
  caused = tt;
}

pub loop-self-preserved : goal.loop-self-preserved
loop-self-preserved g c =
    let i = c.loop-self.invariant in record {
      reads = goes_on i.reads c.load.ensures.reads;
      same = λ at shows. c.in_ok-load.ensures.same at (still_shows i.reads shows) ∙ i.same at shows;
    }

pub returns-in_err-load : goal.returns-in_err-load
returns-in_err-load g c =
    let i = c.loop-self.invariant in
    let a = c.args.cache.now in
    let d = c.load.new.cache in
    on_err_and (λ r. ReadsAhead a d c.args.self.now c.load.new.self (c.args.len ≤ length c.load.new.self.bytes) (IsShorter c.args.len) r) c.from_residual.result c.in_err-load.field-0.0 c.from_residual.ensures.1 (record {
      same = tt;
      ready = tt;
      broken = λ at shows b text e. absurd (some_none text (sym e ∙ sym (i.same at shows) ∙ c.in_err-load.ensures.broken at (still_shows i.reads shows) b));
      reads = goes_on i.reads c.load.ensures.reads;
      caused = later_fault a c.loop-self.cache d c.in_err-load.field-0.0 i.reads c.in_err-load.ensures.caused;
    })

pub returns : goal.returns
returns g c = record {
  same = c.loop-self.invariant.same;
  ready =
      let bytes = ap (λ v. length v.bytes) c.self.view_is in
      let ready = length-drop c.self.inside.taken c.self.inside.bytes.items in
      omega (arith, bytes, ready, c.loop-self-test.false, c.len.ensures);
  broken = tt;
  reads = c.loop-self.invariant.reads;
  caused = tt;
}
