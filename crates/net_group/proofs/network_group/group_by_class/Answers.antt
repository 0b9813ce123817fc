use Rattle.std.proofs.Common.{◌≡◌, length, sym, ap, ◌∙◌, arith}
use Rattle.net_group.proofs.Classes.{internal-length}
use Rattle.net_group.proofs.network_group.group_by_class.Goals as goal

pub append-requires : goal.append-requires
append-requires c =
    let bytes = c.bytes-in-Internal.ensures in
    let ten = internal-length c.args.addr.now bytes.address (sym c.requires ∙ c.in-Internal.is) in
    let same : length c.bytes-in-Internal.result.now ≡ length c.args.addr.now.bytes = ap length bytes.value in
    let none : length c.new-group.result.items ≡ 0 = ap length c.new-group.ensures in
    omega (arith, ten, same, none, c.push.ensures.len)
