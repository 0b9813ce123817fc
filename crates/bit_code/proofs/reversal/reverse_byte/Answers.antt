use Rattle.std.proofs.Common.{arith}
use Rattle.bit_code.proofs.OtherOrder.{reversed_byte}
use Rattle.bit_code.proofs.reversal.reverse_byte.Goals as goal

pub returns : goal.returns
returns c = reversed_byte c.args.byte (omega arith)
