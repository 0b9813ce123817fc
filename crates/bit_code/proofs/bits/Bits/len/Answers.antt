use Rattle.std.proofs.Common.{sym}
use Rattle.bit_code.proofs.FileBits.{length-file_bits}
use Rattle.bit_code.proofs.bits.Bits.len.Goals as goal

pub returns : goal.returns
returns c = rw (← c.self.view_is) (sym (length-file_bits c.self.inside.bytes.now))
