use Rattle.std.proofs.Common.{arith, ap, length}
use Rattle.bit_code.proofs.FileBits.{length-file_bits}
use Rattle.bit_code.proofs.Windows.{window_at}
use Rattle.bit_code.proofs.bits.Bits.window.Goals as goal

pub word_from-requires : goal.word_from-requires
word_from-requires c = omega (arith, ap length c.self.view_is, length-file_bits c.self.inside.bytes.now)

pub returns : goal.returns
returns c =
    let bytes = c.self.inside.bytes.now in
    rw (← c.self.view_is)
    (window_at bytes c.args.at c.word_from.result (omega (arith, ap length c.self.view_is, length-file_bits bytes)) c.word_from.ensures)
