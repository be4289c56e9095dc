use Rattle.header.proofs.FieldsLemmas.{new_is}
use Rattle.header.proofs.header_fields.new_payload.Goals as goal

pub returns : goal.returns
returns c = new_is c.args.shape c.args.limits c.zero-payload.result c.set_unfinished.new.payload c.put_fields.new.payload c.new_fields.result c.zero-payload.ensures c.set_unfinished.ensures c.new_fields.ensures c.put_fields.ensures.put
