use Rattle.std.proofs.Common.{arith, ap, length}
use Rattle.std.proofs.lemmas.Nat.Bits.{shr_and_one}
use Rattle.bit_code.proofs.FileBits.{length-file_bits, slice_get-file_bits, drop-file_bits_at}
use Rattle.bit_code.proofs.bits.Bits.get.Goals as goal

pub bounds-self-inside-at : goal.bounds-self-inside-at
bounds-self-inside-at c =
    omega (arith, ap length c.self.view_is, length-file_bits c.self.inside.bytes.now)

pub returns-clause-bit : goal.returns-clause-bit
returns-clause-bit c =
    let bytes = c.self.inside.bytes.now in
    rw (shr_and_one, ← c.self.view_is) (slice_get-file_bits bytes c.args.at (omega (arith, ap length c.self.view_is, length-file_bits bytes)))

pub returns-clause-next : goal.returns-clause-next
returns-clause-next c =
    let bytes = c.self.inside.bytes.now in
    rw (shr_and_one, ← c.self.view_is) (drop-file_bits_at bytes c.args.at (omega (arith, ap length c.self.view_is, length-file_bits bytes)))
