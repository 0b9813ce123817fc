-- What `getrawaddrman` of Bitcoin Core returns (rpc/net.cpp): the records of both tables by the
-- slots that they are in.
use Rattle.std.specs.Prelude.{ℕ, List, [], ◌∷◌, ◌++◌, Option, Some, None, codes, decimal}
use Rattle.std.specs.List.{flat_map, range_with_len}
use Rattle.json.specs.Json.{Json, string}
use Rattle.net_addr.specs.Address.{Address}
use Rattle.net_addr.specs.Ranges.{net_class}
use Rattle.net_addr.specs.declared.net.Net.{Net}
use Rattle.net_addr.specs.declared.net.Net.TheVariants.{Unroutable, Ipv4, Ipv6, Onion, I2p, Cjdns, Internal}
use Rattle.names.specs.Name.{name_text}
use Rattle.placing.specs.Places.{Places, asn}
use Rattle.peer_rec.specs.declared.rec.Rec.{Rec}
use Rattle.slot_grid.specs.declared.sizes.TheConstants.{NEW_BUCKETS, TRIED_BUCKETS, SLOTS}
use Rattle.table_machine.specs.State.{State, new_rec_at, tried_rec_at}
use Rattle.node_json.specs.Value.{Member, object_of, json_number, unless_zero}
use Rattle.node_json.specs.declared.table.Table.{Table}
use Rattle.node_json.specs.declared.table.Table.TheVariants.{New, Tried}

-- the name of a network (`GetNetworkName` in netbase.cpp)
abbrev pub network_name : Net → List ℕ
network_name Unroutable = codes "not_publicly_routable"
network_name Ipv4 = codes "ipv4"
network_name Ipv6 = codes "ipv6"
network_name Onion = codes "onion"
network_name I2p = codes "i2p"
network_name Cjdns = codes "cjdns"
network_name Internal = codes "internal"

-- the name of the network that an address is reached through
abbrev pub class_name : Address → List ℕ
class_name a = network_name (net_class a)

-- the members of a record, in the order of `AddrmanEntryToJSON`; AS numbers that are 0 are left out
unfoldable pub record_members : Places → Rec → List Member
record_members places r =
    (codes "address", string (name_text r.peer.addr)) ∷ []
    ++ unless_zero (codes "mapped_as") (asn places.map r.peer.addr)
    ++ (codes "port", json_number r.peer.port) ∷ (codes "services", json_number r.services)
    ∷ (codes "time", json_number r.time) ∷ (codes "network", string (class_name r.peer.addr)) ∷ []
    ++ (codes "source", string (name_text r.source))
    ∷ (codes "source_network", string (class_name r.source)) ∷ []
    ++ unless_zero (codes "source_mapped_as") (asn places.map r.source)

-- the record in a slot of a table
abbrev pub rec_at : Table → State → ℕ → ℕ → Option Rec
rec_at New st bucket slot = new_rec_at st bucket slot
rec_at Tried st bucket slot = tried_rec_at st bucket slot

-- The number of buckets of a table.
abbrev pub buckets_of : Table → ℕ
buckets_of New = NEW_BUCKETS
buckets_of Tried = TRIED_BUCKETS

-- The name of a table.
abbrev pub name_of : Table → List ℕ
name_of New = codes "new"
name_of Tried = codes "tried"

-- the bucket and the position in it
abbrev pub position_text : ℕ → ℕ → List ℕ
position_text bucket slot = decimal bucket ++ codes "/" ++ decimal slot

-- the member for a slot, if it is occupied
abbrev pub slot_member : Places → ℕ → ℕ → Option Rec → List Member
slot_member places bucket slot None = []
slot_member places bucket slot (Some r) =
    (position_text bucket slot, object_of (record_members places r)) ∷ []

-- the members for a bucket, by position
abbrev pub bucket_members : Table → State → ℕ → List Member
bucket_members table st bucket =
    flat_map (λ slot. slot_member st.places bucket slot (rec_at table st bucket slot))
    (range_with_len 0 SLOTS)

-- the members for a table, by bucket and then by position, both as numbers: a record in several
-- buckets has a member for each
abbrev pub table_members : Table → State → List Member
table_members table st = flat_map (bucket_members table st) (range_with_len 0 (buckets_of table))

-- both tables
unfoldable pub both_members : State → List Member
both_members st =
    (name_of New, object_of (table_members New st))
    ∷ (name_of Tried, object_of (table_members Tried st)) ∷ []

-- The whole value that `raw` prints: both tables.
unfoldable pub raw_json : State → Json
raw_json st = object_of (both_members st)
