use Rattle.std.proofs.Common.{rules, ◌≡◌, ◌≤◌, ◌+◌, All, length, subst, arith}
use Rattle.net_addr.specs.declared.net.Net.TheVariants.{Ipv4}
use Rattle.addr_codecs.specs.Texts.{addr_entry_text, message_text}
use Rattle.gen_load.proofs.LineLaws.{are_ipv4, message-short}
use Rattle.gen_load.proofs.line.put_message.Goals as goal

pub put_addr_line-requires-clause-networks : goal.put_addr_line-requires-clause-networks
put_addr_line-requires-clause-networks c =
    subst (λ es. All (λ e. e.peer.addr.net ≡ Ipv4) es) (search rules) (are_ipv4 (1 + c.draw.result) c.draw.new.self)

pub put_addr_line-requires-clause-short : goal.put_addr_line-requires-clause-short
put_addr_line-requires-clause-short c =
    subst (λ es. length (message_text addr_entry_text es) ≤ 121) (search rules) (message-short (1 + c.draw.result) c.draw.new.self (omega (arith, c.draw.ensures.small)))
