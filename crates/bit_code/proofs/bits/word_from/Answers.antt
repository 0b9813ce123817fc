use Rattle.std.proofs.Common.{arith}
use Rattle.bit_code.proofs.Windows.{whole_word}
use Rattle.bit_code.proofs.bits.word_from.Goals as goal

pub returns-then-bytes-q-ge8 : goal.returns-then-bytes-q-ge8
returns-then-bytes-q-ge8 c =
    whole_word c.args.bytes.now c.args.q c.word_at.result (omega arith) c.word_at.ensures.bytes c.word_at.ensures.word
