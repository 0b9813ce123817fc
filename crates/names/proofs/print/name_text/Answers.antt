use Rattle.names.proofs.Printed.{name_reads}
use Rattle.names.proofs.print.name_text.Goals as goal

pub returns-in-Ipv6-clause-reads_back : goal.returns-in-Ipv6-clause-reads_back
returns-in-Ipv6-clause-reads_back c = name_reads c.args.addr.now c.bytes-bytes.ensures.address

pub returns-in-Onion-clause-reads_back : goal.returns-in-Onion-clause-reads_back
returns-in-Onion-clause-reads_back c = name_reads c.args.addr.now c.bytes-bytes.ensures.address

pub returns-in-I2p-clause-reads_back : goal.returns-in-I2p-clause-reads_back
returns-in-I2p-clause-reads_back c = name_reads c.args.addr.now c.bytes-bytes.ensures.address

pub returns-in-Internal-clause-reads_back : goal.returns-in-Internal-clause-reads_back
returns-in-Internal-clause-reads_back c = name_reads c.args.addr.now c.bytes-bytes.ensures.address
