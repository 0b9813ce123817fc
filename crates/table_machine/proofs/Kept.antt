-- A step keeps peers: each record of an old number that is there afterwards has the peer that its
-- number had before.
use Rattle.std.proofs.Common.{◌≡◌, ℕ, ◌<◌, Bool, List, Contains, refl, sym, arith}
use Rattle.net_addr.specs.Address.{Address}
use Rattle.net_addr.specs.declared.peer.Entry.{Entry}
use Rattle.net_addr.specs.declared.peer.Peer.{Peer}
use Rattle.peer_rec.specs.declared.rec.Rec.{Rec}
use Rattle.table_machine.specs.State.{State, find_peer}
use Rattle.table_machine.specs.Entries.{add, new_record, penalty_of}
use Rattle.table_machine.specs.Tried.{after_try, attempt, connected, good, mark, set_services, still_connected, with_services}
use Rattle.table_machine.proofs.EachRec.{add-each, good-each, mark-each}
use Rattle.table_machine.proofs.Marks.{IsMark, connected-marks, services-marks, try-marks}

-- a record of a number below n is in the list, with this number and peer
abbrev pub IsKnown : ℕ → List Rec → Rec → Type 0
IsKnown n records q = q.number < n → (p : Rec) × Contains records p × (p.number ≡ q.number) × (p.peer ≡ q.peer)

-- each record of a list is known in this sense
abbrev pub AllKnown : ℕ → List Rec → List Rec → Type 0
AllKnown n old records = (q : Rec) → Contains records q → IsKnown n old q

abbrev pub KeepsPeers : State → State → Type 0
KeepsPeers old new = AllKnown old.next_number old.records new.records

known-itself : (n : ℕ) (records : List Rec) (r : Rec) → Contains records r → IsKnown n records r
known-itself n records r c low = (r, c, refl, refl)

-- an entry
pub add-keeps_peers : (st : State) (now : ℕ) (entry : Entry) (source : Address) (penalty word : ℕ) → KeepsPeers st (add st now entry source penalty word).state
add-keeps_peers st now entry source penalty word =
    let none : IsKnown st.next_number st.records (new_record st entry source (penalty_of entry source penalty)) = λ low. absurd (omega arith) in
    add-each (IsKnown st.next_number st.records) (λ r bucket known. known) st now entry source penalty word (known-itself st.next_number st.records) none
    (λ r known. known) (λ yes r same known. known)

-- a mark
mark-keeps_peers : (change : Rec → Rec) (st : State) (peer : Peer) → IsMark change → KeepsPeers st (mark change st (find_peer st peer)).state
mark-keeps_peers change st peer is =
    mark-each (IsKnown st.next_number st.records) change st peer (known-itself st.next_number st.records) (λ r c low. (r, c, sym (is.number r), sym (is.peer r)))

pub attempt-keeps_peers : (st : State) (now : ℕ) (peer : Peer) (counted : Bool) → KeepsPeers st (attempt st now peer counted).state
attempt-keeps_peers st now peer counted = mark-keeps_peers (after_try st.last_good now counted) st peer (try-marks st.last_good now counted)

pub connected-keeps_peers : (st : State) (now : ℕ) (peer : Peer) → KeepsPeers st (connected st now peer).state
connected-keeps_peers st now peer = mark-keeps_peers (still_connected now) st peer (connected-marks now)

pub services-keeps_peers : (st : State) (peer : Peer) (services : ℕ) → KeepsPeers st (set_services st peer services).state
services-keeps_peers st peer services = mark-keeps_peers (with_services services) st peer (services-marks services)

-- a success
pub good-keeps_peers : (st : State) (now : ℕ) (peer : Peer) (testing : Bool) → KeepsPeers st (good st now peer testing).state
good-keeps_peers st now peer testing =
    good-each (IsKnown st.next_number st.records) (λ r bucket known. known) st now peer testing (known-itself st.next_number st.records)
    (λ r known. known) (λ r known. known) (λ r known. known) (λ r known. known)
