use Rattle.std.proofs.Common.{arith}
use Rattle.bit_code.proofs.Bytes.{joined, byte_shift}
use Rattle.bit_code.proofs.packing.join_byte.Goals as goal

pub returns-clause-bits : goal.returns-clause-bits
returns-clause-bits c =
    rw (c.from.ensures, c.from-2.ensures, byte_shift c.args.rest_len c.args.byte c.requires.few (omega arith))
    (joined c.args.rest_len c.args.rest c.args.byte c.requires.rest)
