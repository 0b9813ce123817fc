-- A time, two addresses, records and states for the worked examples.
use Rattle.std.proofs.Common.{ℕ, List, [], ◌∷◌, None, replicate}
use Rattle.net_addr.specs.Address.{Address}
use Rattle.net_addr.specs.OldForm.{address}
use Rattle.net_addr.specs.declared.net.Net.TheVariants.{Ipv4}
use Rattle.net_addr.specs.declared.peer.Peer.{Peer}
use Rattle.placing.specs.Places.{Places}
use Rattle.placing.specs.declared.sum.SumRule.TheVariants.{Bytes}
use Rattle.peer_rec.specs.Blank.{blank_record}
use Rattle.peer_rec.specs.declared.rec.Rec.{Rec}
use Rattle.peer_rec.specs.declared.place.Place.{Place}
use Rattle.table_machine.specs.State.{State, empty_state}

abbrev pub now : ℕ
now = 1700000000

abbrev pub dns : Address
dns = address Ipv4 (8 ∷ 8 ∷ 8 ∷ 8 ∷ [])

abbrev pub other : Address
other = address Ipv4 (1 ∷ 2 ∷ 3 ∷ 4 ∷ [])

-- a port of 8.8.8.8
abbrev pub peer : ℕ → Peer
peer port = record { addr = dns; port = port }

-- a record of a port of 8.8.8.8, with a number
abbrev pub rec : ℕ → ℕ → Place → Rec
rec number port place = record (blank_record (peer port)) { number = number; source = other; services = 1; place = place }

-- a record of a port of 8.8.8.8 that failed some times, the last time an hour ago
abbrev pub failed : ℕ → ℕ → ℕ → Place → Rec
failed number port attempts place = record (rec number port place) { time = 1699990000; last_try = 1699996400; last_count = 1699996400; attempts = attempts }

-- a key of zeros, and no map
abbrev pub zeros : Places
zeros = record { key = replicate 32 0; map = None; rule = Bytes }

-- a state with some records, in an order, some collisions, and a next number
abbrev pub state : List Rec → List ℕ → List ℕ → ℕ → State
state records order collisions next = record (empty_state zeros) { records = records; order = order; collisions = collisions; next_number = next }
