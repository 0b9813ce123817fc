use Rattle.std.proofs.Common.{◌++◌, ap, append_assoc}
use Rattle.net_group.proofs.Ones.{prefix_bytes-part}
use Rattle.net_group.proofs.network_group.append_bits.Goals as goal

pub returns-then-rest-ne0 : goal.returns-then-rest-ne0
returns-then-rest-ne0 c =
    rw (c.push.ensures.items, c.append.ensures.items, append_assoc) (ap (λ xs. c.args.group.now.items ++ xs) (prefix_bytes-part c.args.bits c.args.bytes.now c.if-rest-ne0.true))
