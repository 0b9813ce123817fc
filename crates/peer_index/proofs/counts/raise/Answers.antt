use Rattle.std.proofs.Common.{arith}
use Rattle.peer_index.proofs.Counted.{number_below, one_more}
use Rattle.peer_index.proofs.counts.raise.Goals as goal

pub returns : goal.returns
returns c = one_more c.args.counts.now c.from.result _ (omega (arith, number_below c.args.net)) (omega arith)
