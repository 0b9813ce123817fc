use Rattle.std.proofs.Common.{arith, ap, length, reverse}
use Rattle.std.proofs.lemmas.List.{length-reverse}
use Rattle.bit_code.proofs.FileEnds.{length-front}
use Rattle.bit_code.proofs.bit_front.BitFront.len.Goals as goal

pub returns : goal.returns
returns c =
    let o = c.self.inside in
    omega (arith, ap length c.self.view_is, length-front (reverse o.bytes.items) o.rest_len o.rest, length-reverse o.bytes.items, c.len.ensures)
