use Rattle.std.proofs.Common.{◌≡◌, ◌<◌, get_or, subst, sym, arith}
use Rattle.net_addr.specs.Address.{net_number}
use Rattle.peer_index.proofs.Counted.{number_below, one_less}
use Rattle.peer_index.proofs.counts.lower.Goals as goal

pub returns : goal.returns
returns c =
    let same : c.from.result ≡ net_number c.args.net = omega arith in
    one_less c.args.counts.now c.from.result _ (omega (arith, number_below c.args.net)) same (subst (λ k. 0 < get_or c.args.counts.now k 0) (sym same) c.requires)
