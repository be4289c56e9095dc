use Rattle.register.proofs.ChainLemmas.{filled_payload}
use Rattle.register.proofs.chain_writer.payload_for.Goals as goal

pub returns : goal.returns
returns c = filled_payload c.zero-payload.result c.args.next c.args.text.now c.put_u32.new.bytes c.put_u16.new.bytes c.put.new.bytes c.zero-payload.ensures c.put_u32.ensures c.put_u16.ensures c.put.ensures
