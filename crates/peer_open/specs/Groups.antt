-- The open outbound peers with their network groups, in the order in which they were opened.
-- Bitcoin Core keeps the groups apart in `CConnman::ThreadOpenConnections` in net.cpp.
use Rattle.std.specs.Prelude.{◌≢◌, ℕ, List, [], ◌∷◌, ◌++◌, map, filter, not, Bool, AllPairs, bytes_eq}
use Rattle.std.specs.List.{list_any}
use Rattle.net_addr.specs.Same.{same_peer}
use Rattle.net_addr.specs.declared.peer.Peer.{Peer}

-- An open peer, with the group that it counts in.
pub record Outbound : Type 0 where
  pub peer : Peer
  pub group : List ℕ

-- The open peer with this group.
abbrev pub outbound : Peer → List ℕ → Outbound
outbound peer group = record { peer = peer; group = group }

-- the groups of the open peers
abbrev pub groups : List Outbound → List (List ℕ)
groups open_peers = map (λ o. o.group) open_peers

-- the open peers
abbrev pub peers : List Outbound → List Peer
peers open_peers = map (λ o. o.peer) open_peers

-- no two open peers are in one group
abbrev pub AreApart : List Outbound → Type 0
AreApart open_peers = AllPairs (λ a b. a.group ≢ b.group) open_peers

-- The open peer counts in this group.
abbrev pub is_in_group : List ℕ → Outbound → Bool
is_in_group group o = bytes_eq o.group group

-- whether an open peer is in the group
abbrev pub has_group : List ℕ → List Outbound → Bool
has_group group open_peers = list_any (is_in_group group) open_peers

-- whether the peer is open
abbrev pub is_open : Peer → List Outbound → Bool
is_open peer open_peers = list_any (λ o. same_peer o.peer peer) open_peers

-- the open peers and one more, the last
abbrev pub with_peer : Peer → List ℕ → List Outbound → List Outbound
with_peer peer group open_peers = open_peers ++ outbound peer group ∷ []

-- the open peers without one, the others in their order
abbrev pub without_peer : Peer → List Outbound → List Outbound
without_peer peer open_peers = filter (λ o. not (same_peer o.peer peer)) open_peers
