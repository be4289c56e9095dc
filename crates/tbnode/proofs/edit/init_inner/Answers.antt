use Rattle.std.proofs.Common.{◌∙◌, ap, refl, arith}
use Rattle.pages.specs.Zero.{zero_payload}
use Rattle.tbnode.specs.Form.{entry_count}
use Rattle.tbnode.specs.Layout.{entry_bytes}
use Rattle.tbnode.specs.Steps.{pushed}
use Rattle.tbnode.proofs.InnerLemmas.{begun_count, inner_begun}
use Rattle.tbnode.proofs.edit.init_inner.Goals as goal

pub append_entry-requires-clause-room : goal.append_entry-requires-clause-room
unfolding zero_payload
append_entry-requires-clause-room c =
    let none = begun_count c.args.level 4056 c.zero.result.bytes (ap (λ p. p.bytes) c.zero.ensures) (omega arith) in
    let e = ap entry_count c.put_u16.ensures in
    omega (arith, none, e)

pub returns : goal.returns
unfolding zero_payload
returns c =
    let x = c.args.entry.now in
    record {
      node = inner_begun _ c.args.level x c.zero.result.bytes c.append_entry.new.bytes (ap (λ p. p.kind) c.zero.ensures) refl
          (c.append_entry.ensures.pushed ∙ ap (pushed 56 2 (entry_bytes x)) c.put_u16.ensures) (ap (λ p. p.bytes) c.zero.ensures) c.requires (omega arith)
          c.append_entry.ensures.reads_back;
    }
