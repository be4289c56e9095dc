use Rattle.std.proofs.Common.{◌≡◌, length, take, drop, ap, ◌∙◌, arith, rules}
use Rattle.header.specs.Fields.{fields_bytes}
use Rattle.header.proofs.FieldsLemmas.{put_has, rest_stays, take-put}
use Rattle.header.proofs.header_fields.put_fields.Goals as goal

pub returns-clause-has : goal.returns-clause-has
returns-clause-has c =
    let len : length c.args.payload.now.bytes ≡ 4056 = search rules in
    put_has (record { kind = c.args.payload.now.kind; bytes = c.put_bytes.new.bytes }) c.args.fields.now c.args.payload.now.bytes len c.put_bytes.ensures.put

pub returns-clause-front : goal.returns-clause-front
returns-clause-front c =
    let len : length c.args.payload.now.bytes ≡ 4056 = search rules in
    ap (take 12) c.put_bytes.ensures.put ∙ take-put 12 (fields_bytes c.args.fields.now) c.args.payload.now.bytes (omega (arith, len))

pub returns-clause-rest : goal.returns-clause-rest
returns-clause-rest c =
    let len : length c.args.payload.now.bytes ≡ 4056 = search rules in
    ap (drop 60) c.put_bytes.ensures.put ∙ rest_stays c.args.fields.now c.args.payload.now.bytes len
