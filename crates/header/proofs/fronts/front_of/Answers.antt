use Rattle.std.proofs.Common.{◌≡◌, arith}
use Rattle.std.proofs.lemmas.Bool.Decides.{nat_tests}
use Rattle.byteorder.specs.Endian.{big_number}
use Rattle.header.specs.Front.{letters}
use Rattle.header.proofs.FrontLemmas.{front_read}
use Rattle.header.proofs.fronts.front_of.Goals as goal

pub returns-else-number-letters_number-clause-bytes : goal.returns-else-number-letters_number-clause-bytes
returns-else-number-letters_number-clause-bytes c =
    let same : c.number.result ≡ big_number 4 letters = grind (arith, nat_tests) in
    front_read c.args.payload.now.bytes c.number.result c.number-in-Header.result c.number-in-Header-2.result same c.number.ensures.bytes c.number-in-Header.ensures.bytes c.number-in-Header-2.ensures.bytes
