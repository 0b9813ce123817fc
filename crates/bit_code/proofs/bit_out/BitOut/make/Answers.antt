use Rattle.std.proofs.Common.{refl}
use Rattle.bit_code.specs.Coder.{low_digits}
use Rattle.bit_code.proofs.FileBits.{file_bits_none}
use Rattle.bit_code.proofs.bit_out.BitOut.make.Goals as goal

pub returns : goal.returns
unfolding low_digits
returns c = rw (c.new.ensures.items, file_bits_none) refl
