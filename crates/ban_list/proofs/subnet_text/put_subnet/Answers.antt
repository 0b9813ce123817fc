use Rattle.ban_list.proofs.Forms.{printed_subnet}
use Rattle.ban_list.proofs.subnet_text.put_subnet.Goals as goal

pub returns-in_err-text-clause-reads_back : goal.returns-in_err-text-clause-reads_back
returns-in_err-text-clause-reads_back c = printed_subnet c.args.subnet.now c.requires c.in_err-text.ensures.address

pub returns-clause-reads_back : goal.returns-clause-reads_back
returns-clause-reads_back c = printed_subnet c.args.subnet.now c.requires c.in_ok-text.ensures.address

pub returns-in_err-put_text-clause-reads_back : goal.returns-in_err-put_text-clause-reads_back
returns-in_err-put_text-clause-reads_back c = printed_subnet c.args.subnet.now c.requires c.in_ok-text.ensures.address
