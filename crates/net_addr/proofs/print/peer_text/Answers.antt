use Rattle.std.proofs.Common.{arith}
use Rattle.net_addr.proofs.Printed.{printed_peer}
use Rattle.net_addr.proofs.print.peer_text.Goals as goal

pub returns-clause-reads_back : goal.returns-clause-reads_back
returns-clause-reads_back c = printed_peer c.args.peer.now c.append_addr.ensures.address (omega arith)
