use Rattle.std.proofs.Common.{arith}
use Rattle.std.proofs.lemmas.Nat.{one_shl}
use Rattle.bit_code.proofs.Bytes.{low_digits-mod}
use Rattle.bit_code.proofs.packing.low_bits.Goals as goal

pub returns-clause-bits : goal.returns-clause-bits
returns-clause-bits c = rw (one_shl c.args.len 64 (omega arith)) (low_digits-mod c.args.len c.args.bits)
