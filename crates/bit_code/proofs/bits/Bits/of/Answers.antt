use Rattle.std.proofs.Common.{arith}
use Rattle.bit_code.proofs.FileBits.{length-file_bits}
use Rattle.bit_code.proofs.bits.Bits.of.Goals as goal

pub returns-clause-len : goal.returns-clause-len
returns-clause-len c = omega (arith, length-file_bits c.args.bytes.now)
