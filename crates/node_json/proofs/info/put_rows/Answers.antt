use Rattle.std.proofs.Common.{◌∷◌, []}
use Rattle.net_addr.specs.declared.net.Net.TheVariants.{Ipv4, Ipv6, Onion, I2p, Cjdns}
use Rattle.node_json.specs.Info.{all_row, info_json, network_row}
use Rattle.node_json.proofs.Tokens.{member_more, no_member, object_value}
use Rattle.node_json.proofs.info.put_rows.Goals as goal

pub returns : goal.returns
unfolding info_json
returns g c =
    let view = (g.T.TableView.view c.args.tables.now) in
    let row = network_row view in
    let first = c.token.new.self in
    let one = member_more [] (row Ipv4) first _ _ (no_member first) c.in_ok-put_network.ensures in
    let two = member_more (row Ipv4 ∷ []) (row Ipv6) first _ _ one c.in_ok-put_network-2.ensures in
    let three = member_more (row Ipv4 ∷ row Ipv6 ∷ []) (row Onion) first _ _ two c.in_ok-put_network-3.ensures in
    let four = member_more (row Ipv4 ∷ row Ipv6 ∷ row Onion ∷ []) (row I2p) first _ _ three c.in_ok-put_network-4.ensures in
    let five = member_more (row Ipv4 ∷ row Ipv6 ∷ row Onion ∷ row I2p ∷ []) (row Cjdns) first _ _ four c.in_ok-put_network-5.ensures in
    let six = member_more (row Ipv4 ∷ row Ipv6 ∷ row Onion ∷ row I2p ∷ row Cjdns ∷ []) (all_row view) first _ _ five c.in_ok-put_all.ensures in
    object_value (row Ipv4 ∷ row Ipv6 ∷ row Onion ∷ row I2p ∷ row Cjdns ∷ all_row view ∷ []) c.args.json.now _ _ _ c.in_ok-token.ensures.ok six c.in_ok-token-2.ensures.ok
