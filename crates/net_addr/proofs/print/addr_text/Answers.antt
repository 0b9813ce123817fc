use Rattle.net_addr.proofs.Printed.{printed_address}
use Rattle.net_addr.proofs.print.addr_text.Goals as goal

pub returns-clause-reads_back : goal.returns-clause-reads_back
returns-clause-reads_back c = printed_address c.args.addr.now c.append_addr.ensures.address
