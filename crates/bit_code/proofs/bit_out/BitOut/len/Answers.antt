use Rattle.std.proofs.Common.{arith, ap, length}
use Rattle.bit_code.proofs.FileEnds.{length-rest}
use Rattle.bit_code.proofs.bit_out.BitOut.len.Goals as goal

pub returns : goal.returns
returns c =
    let o = c.self.inside in
    omega (arith, ap length c.self.view_is, length-rest o.bytes.items o.rest_len o.rest, c.len.ensures)
