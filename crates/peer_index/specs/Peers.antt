-- Peers, each once.
use Rattle.std.specs.Prelude.{List, Bool}
use Rattle.std.specs.List.{list_any}
use Rattle.net_addr.specs.Same.{same_peer}
use Rattle.net_addr.specs.declared.peer.Peer.{Peer}

-- The peer is among some peers.
abbrev pub has_peer : List Peer → Peer → Bool
has_peer peers peer = list_any (same_peer peer) peers
