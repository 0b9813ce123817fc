-- What is announced of the tables. Bitcoin Core samples in `AddrManImpl::GetAddr_` in addrman.cpp.
use Rattle.std.specs.Prelude.{◌≡◌, ℕ, List, Contains, true}
use Rattle.net_addr.specs.declared.peer.Peer.{Peer}
use Rattle.peer_rec.specs.declared.rec.Rec.{Rec}
use Rattle.table_machine.specs.State.{State}
use Rattle.table_machine.specs.Picks.{is_eligible}

-- the peer has a record in the tables, which may be announced
abbrev pub IsAnnounced : State → List ℕ → ℕ → Peer → Type 0
IsAnnounced st classes now peer =
    (r : Rec) × Contains st.records r × (r.peer ≡ peer) × (is_eligible classes now r ≡ true)
