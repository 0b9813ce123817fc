use Rattle.std.proofs.Common.{arith}
use Rattle.std.proofs.lemmas.Nat.{pow_pos}
use Rattle.bit_code.proofs.SpelledNumbers.{top_of, top_range}
use Rattle.bit_code.proofs.spelled.top_digit.Goals as goal

pub returns : goal.returns
returns c =
    let r = c.requires in
    let top = top_of c.args.number (omega (arith, r.some, pow_pos c.args.classes.first)) (omega arith) in
    let range = top_range c.args.number _ c.args.classes.first c.args.classes.last top.low top.high r.some r.below in
    record { low = top.low; high = top.high; least = range.0; most = range.1 }
