-- A record to make others from: the peer, its own address as the source, in the tried table, and 0
-- in every other field.
use Rattle.net_addr.specs.declared.peer.Peer.{Peer}
use Rattle.peer_rec.specs.declared.rec.Rec.{Rec}
use Rattle.peer_rec.specs.declared.place.Place.TheVariants.{Tried}

-- The record of a peer with nothing known of it.
abbrev pub blank_record : Peer → Rec
blank_record peer = record {
  number = 0;
  peer = peer;
  source = peer.addr;
  time = 0;
  services = 0;
  last_success = 0;
  last_try = 0;
  last_count = 0;
  attempts = 0;
  place = Tried;
}
