use Rattle.std.proofs.Common.{◌∙◌, ◌++◌, ◌∷◌, [], ap, arith, refl, Err}
use Rattle.rows.specs.Rows.{Grown}
use Rattle.register.proofs.PrefixLemmas.{short_free}
use Rattle.register.proofs.ReaderLemmas.{into_read, into_refused}
use Rattle.register.proofs.SequenceLemmas.{list_read, list_refused, one_read}
use Rattle.register.proofs.chain_reader.ChainReader.row.Goals as goal

pub returns-in_err-value : goal.returns-in_err-value
returns-in_err-value g c =
    into_refused c.from_residual.ensures.1 (list_refused short_free {r = Err c.in_err-value.field-0.0} c.loop-test.true refl c.loop.invariant.read c.in_err-value.ensures.read)

pub loop-preserved : goal.loop-preserved
loop-preserved g c =
    let inv = c.loop.invariant in
    let one = c.in_ok-value.ensures in
    record {
      read = one_read short_free (ap (λ (r : Grown). r.row) one.put) inv.read one.read;
      others = ap (λ (r : Grown). r.rows) one.put ∙ inv.others;
    }

pub returns-in-Ok : goal.returns-in-Ok
returns-in-Ok g c =
    let inv = c.loop.invariant in
    into_read (c.in-Ok.ensures.ended ∙ (λ i. record { rows = inv.others i ++ c.loop.rows.row ∷ []; row = [] }))
    (list_read short_free (omega (arith, c.loop-test.false, c.loop.auto.counter-end)) refl inv.read)

pub returns-in-Err : goal.returns-in-Err
returns-in-Err g c = record { value = []; put = tt; read = record { taken = tt; lacks = λ at shows b. absurd b; reads = c.loop.invariant.read.reads; caused = tt } }
