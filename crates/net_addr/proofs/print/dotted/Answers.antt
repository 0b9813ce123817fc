use Rattle.std.proofs.Common.{arith}
use Rattle.net_addr.proofs.Ascii.{dotted_ascii}
use Rattle.net_addr.proofs.print.dotted.Goals as goal

pub returns-clause-ascii : goal.returns-clause-ascii
returns-clause-ascii c = dotted_ascii c.args.bytes (omega arith) (omega arith) (omega arith) (omega arith) (omega arith)
