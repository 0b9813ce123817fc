use Rattle.std.proofs.Common.{◌∷◌, ◌++◌, ◌∙◌, [], codes}
use Rattle.node_json.specs.Info.{counts_json}
use Rattle.node_json.specs.Inside.{tokens_of}
use Rattle.node_json.proofs.info.put_all.Goals as goal

pub returns : goal.returns
returns g c =
    c.in_ok-put_row.ensures
    ∙ (λ i. c.args.json.now ++ tokens_of ((codes "all_networks", counts_json (c.sizes-counts.ensures.new i) (c.sizes-counts.ensures.tried i)) ∷ []))
