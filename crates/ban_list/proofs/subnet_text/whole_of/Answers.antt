use Rattle.std.proofs.Common.{ap, ◌∙◌, subst}
use Rattle.ban_list.specs.Subnet.{IsWhole, width}
use Rattle.ban_list.proofs.Named.{proper_whole_of}
use Rattle.ban_list.proofs.subnet_text.whole_of.Goals as goal

pub returns-clause-proper : goal.returns-clause-proper
returns-clause-proper c =
    let whole : IsWhole c.args.addr.net = subst IsWhole c.net.ensures (c.is_whole.ensures.yes c.if-not-is_whole.false) in
    proper_whole_of _ whole c.requires (c.width.ensures ∙ ap width c.net-2.ensures)
