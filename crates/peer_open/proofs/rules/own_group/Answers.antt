use Rattle.std.proofs.Common.{◌+◌, [], ◌∷◌, ◌++◌, ◌∙◌, ap}
use Rattle.net_addr.specs.Address.{net_number}
use Rattle.peer_open.proofs.rules.own_group.Goals as goal

pub returns : goal.returns
returns c =
    let first = c.push.ensures.items ∙ ap (λ xs. xs ++ (128 + c.number.result) ∷ []) c.new-group.ensures in
    c.append.ensures.items ∙ (λ i. first i ++ c.bytes.ensures.value i)
    ∙ ap (λ n. (128 + n) ∷ c.args.addr.now.bytes) (c.number.ensures ∙ ap net_number c.net.ensures)
