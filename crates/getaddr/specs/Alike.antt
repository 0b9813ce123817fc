-- What an answer with hidden times tells of the tables.
use Rattle.std.specs.Prelude.{◌≡◌, ℕ, Bool, map}
use Rattle.net_addr.specs.declared.peer.Peer.{Peer}
use Rattle.peer_rec.specs.Rec.{is_terrible}
use Rattle.peer_rec.specs.declared.rec.Rec.{Rec}
use Rattle.table_machine.specs.State.{State}

-- what such an answer has of a record, and whether it may have it
pub record Seen : Type 0 where
  pub number : ℕ
  pub peer : Peer
  pub services : ℕ
  pub is_terrible : Bool

-- What such an answer has of a record, at a time.
abbrev pub seen : ℕ → Rec → Seen
seen now r = record {
  number = r.number;
  peer = r.peer;
  services = r.services;
  is_terrible = is_terrible r now;
}

-- The tables differ only in what is not in such an answer: times, sources, counts of failures and
-- places, as long as they leave the same records terrible, the marks of collisions and the key.
pub record IsAlike (now : ℕ) (st other : State) : Type 0 where
  pub order : st.order ≡ other.order
  pub records : map (seen now) st.records ≡ map (seen now) other.records
