-- What `getaddrmaninfo` of Bitcoin Core returns (rpc/net.cpp): how many records each network has.
use Rattle.std.specs.Prelude.{ℕ, ◌+◌, [], ◌∷◌, codes, count_by, not}
use Rattle.json.specs.Json.{Json}
use Rattle.net_addr.specs.NetSet.{none, with_net}
use Rattle.net_addr.specs.declared.net.Net.{Net}
use Rattle.net_addr.specs.declared.net.Net.TheVariants.{Ipv4, Ipv6, Onion, I2p, Cjdns}
use Rattle.peer_rec.specs.Rec.{is_tried}
use Rattle.node_json.specs.Raw.{network_name}
use Rattle.node_json.specs.Value.{Member, json_number, object_of}
use Rattle.table_groups.specs.View.{View, wanted_new, wanted_tried}

-- how many records are in the new table, in the tried table, and in both
abbrev pub counts_json : ℕ → ℕ → Json
counts_json new tried =
    object_of ((codes "new", json_number new) ∷ (codes "tried", json_number tried)
    ∷ (codes "total", json_number (new + tried)) ∷ [])

-- how many routable records are of this network; an address that embeds an IPv4 address counts for
-- its own network
abbrev pub network_row : View → Net → Member
network_row view net =
    let only = with_net none net in
    (network_name net, counts_json (wanted_new view only) (wanted_tried view only))

-- all records, those that are not routable too
abbrev pub all_row : View → Member
all_row view =
    let new = count_by (λ r. not (is_tried r)) view.records in
    (codes "all_networks", counts_json new (count_by is_tried view.records))

-- The whole value: the networks in the order of `getaddrmaninfo`, then all records.
unfoldable pub info_json : View → Json
info_json view =
    object_of (network_row view Ipv4 ∷ network_row view Ipv6 ∷ network_row view Onion
    ∷ network_row view I2p ∷ network_row view Cjdns ∷ all_row view ∷ [])
