use Rattle.std.proofs.Common.{◌∷◌, ◌++◌, ◌∙◌, []}
use Rattle.node_json.specs.Info.{counts_json}
use Rattle.node_json.specs.Inside.{tokens_of}
use Rattle.node_json.proofs.info.put_network.Goals as goal

pub returns : goal.returns
returns g c =
    c.in_ok-put_row.ensures
    ∙ (λ i. c.args.json.now ++ tokens_of ((c.network_name.ensures i, counts_json (c.counts_of-new.ensures.new i) (c.counts_of-new.ensures.tried i)) ∷ []))
