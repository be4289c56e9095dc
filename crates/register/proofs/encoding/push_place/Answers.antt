use Rattle.std.proofs.Common.{◌++◌, rules}
use Rattle.byteorder.specs.Endian.{big_bytes}
use Rattle.register.proofs.EncodingLemmas.{then_pushed}
use Rattle.register.proofs.encoding.push_place.Goals as goal

pub returns : goal.returns
returns c =
    let w = c.args.writer.now in
    let place = c.args.place.now in
    let last = then_pushed c.push_u64.result c.push_u32-2.new.writer c.push_u32-3.new.writer c.push_u64.new.writer (big_bytes 4 place.last_index) (big_bytes 8 place.legs) c.in_ok-push_u32-3.ensures c.push_u64.ensures in
    let both = then_pushed c.push_u64.result c.push_u32.new.writer c.push_u32-2.new.writer c.push_u64.new.writer (big_bytes 4 place.last) (big_bytes 4 place.last_index ++ big_bytes 8 place.legs) c.in_ok-push_u32-2.ensures last in
    record { pushed = then_pushed c.push_u64.result w c.push_u32.new.writer c.push_u64.new.writer (big_bytes 4 place.first) (big_bytes 4 place.last ++ (big_bytes 4 place.last_index ++ big_bytes 8 place.legs)) c.in_ok-push_u32.ensures both; whole = search rules }
