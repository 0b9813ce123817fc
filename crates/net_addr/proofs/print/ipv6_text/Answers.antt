use Rattle.std.proofs.Common.{ap, ◌∙◌, arith}
use Rattle.net_addr.specs.Text.{ipv6_text}
use Rattle.net_addr.proofs.Texts.{IsIpv6Text-ipv6_text}
use Rattle.net_addr.proofs.print.ipv6_text.Goals as goal

pub returns-clause-text : goal.returns-clause-text
returns-clause-text c = c.groups.ensures.text ∙ ap ipv6_text c.to_be_bytes.ensures

pub returns-clause-reads_back : goal.returns-clause-reads_back
returns-clause-reads_back c = IsIpv6Text-ipv6_text c.args.bits (omega arith)
