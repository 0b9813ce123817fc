-- What is picked of the tables.
use Rattle.std.specs.Prelude.{◌≡◌, ℕ, List, Contains, true}
use Rattle.net_addr.specs.declared.peer.Peer.{Peer}
use Rattle.peer_rec.specs.declared.rec.Rec.{Rec}
use Rattle.table_machine.specs.State.{State}
use Rattle.table_machine.specs.Picks.{is_wanted}

-- the peer has a record in the tables, of a network of the set, with this time of the last try
abbrev pub IsPicked : State → List ℕ → Peer → ℕ → Type 0
IsPicked st nets peer last_try = (r : Rec) × Contains st.records r × (r.peer ≡ peer)
    × (r.last_try ≡ last_try) × (is_wanted nets r ≡ true)
