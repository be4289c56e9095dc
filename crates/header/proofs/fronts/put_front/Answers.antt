use Rattle.std.proofs.Common.{◌≡◌, length, arith}
use Rattle.header.proofs.FrontLemmas.{front_put}
use Rattle.header.proofs.fronts.put_front.Goals as goal

pub returns : goal.returns
returns c =
    let n : length c.put.new.bytes ≡ 4056 = omega arith in
    front_put c.args.front c.args.bytes.now c.put.new.bytes c.put_u32.new.bytes c.put_u32-2.new.bytes c.requires n c.put.ensures c.put_u32.ensures c.put_u32-2.ensures
