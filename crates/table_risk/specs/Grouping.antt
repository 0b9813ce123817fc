-- The group of a record, as its bytes: by its source, by its peer, or by its network.
use Rattle.std.specs.Prelude.{ℕ, Bool, List, [], ◌∷◌, bytes_eq}
use Rattle.net_addr.specs.Address.{net_number}
use Rattle.peer_rec.specs.Rec.{network}
use Rattle.peer_rec.specs.declared.rec.Rec.{Rec}
use Rattle.placing.specs.Places.{Places, group}
use Rattle.table_risk.specs.declared.by.By.{By}
use Rattle.table_risk.specs.declared.by.By.TheVariants.{Source, Peer, Network}

-- The group of a record by its network: one byte, the network's number.
abbrev pub network_group : Rec → List ℕ
network_group r = net_number (network r) ∷ []

-- The group of a record, by what makes records one group.
abbrev pub group_by : By → Places → Rec → List ℕ
group_by Source places r = group places r.source
group_by Peer places r = group places r.peer.addr
group_by Network places r = network_group r

-- the record is of this group
abbrev pub is_in : By → Places → List ℕ → Rec → Bool
is_in by places g r = bytes_eq g (group_by by places r)
