-- What a success, a try, a connection and new services of a peer do to the tables
-- (`AddrManImpl::Good_`, `MakeTried`, `Attempt_`, `Connected_` and `SetServices_` in addrman.cpp of
-- Bitcoin Core).
use Rattle.std.specs.Prelude.{ℕ, ◌+◌, min, [], ◌∷◌, length, Bool, ◌&&◌, nat_lt, is_some, Option, Some, None, if◌then◌else◌}
use Rattle.net_addr.specs.declared.peer.Peer.{Peer}
use Rattle.placing.specs.Places.{new_bucket, new_slot}
use Rattle.peer_rec.specs.Rec.{is_tried}
use Rattle.peer_rec.specs.Buckets.{with_bucket}
use Rattle.peer_rec.specs.declared.answers.Good.{Good}
use Rattle.peer_rec.specs.declared.answers.Good.TheVariants.{Unknown, Already, Clash, Moved}
use Rattle.peer_rec.specs.declared.file_rec.TheConstants.{MAX_ATTEMPTS}
use Rattle.peer_rec.specs.declared.rec.Rec.{Rec}
use Rattle.peer_rec.specs.declared.place.Place.TheVariants.{New, Tried}
use Rattle.table_machine.specs.State.{State, find_peer, new_rec_at, tried_occupant, After, outcome}
use Rattle.table_machine.specs.Entries.{clear_slot, no, with_record, yes}

-- a slot of the bucket is emptied: its occupant loses the bucket (`ClearNew`)
abbrev pub clear_new : State → ℕ → Option Rec → State
clear_new st bucket None = st
clear_new st bucket (Some occupant) = clear_slot st occupant bucket

-- A record of the tried table goes back to the new table, to the bucket of its source. The occupant
-- of its slot there loses the bucket, and is deleted if it has no other.
abbrev pub back_to_new : State → Rec → State
back_to_new st r =
    let bucket = new_bucket st.places r.peer r.source in
    with_record (clear_new st bucket (new_rec_at st bucket (new_slot st.places r.peer bucket)))
    (record r { place = New (bucket ∷ []) })

-- the occupant of a tried slot, if there is one, goes back to the new table
abbrev pub displace : State → Option Rec → State
displace st None = st
displace st (Some old) = back_to_new st old

-- A record of the new table leaves all its buckets and takes its slot of the tried table; an
-- occupant goes back to the new table (`MakeTried`).
abbrev pub move_to_tried : State → Rec → State
move_to_tried st r =
    let left = with_record st (record r { place = New [] }) in
    with_record (displace left (tried_occupant left r.peer)) (record r { place = Tried })

-- the record of a peer that was reached now; the time when it was seen stays
abbrev pub after_success : Rec → ℕ → Rec
after_success r now = record r { last_success = now; last_try = now; attempts = 0 }

-- a number becomes a collision, unless there are ten already; none is there twice
abbrev pub wait : State → ℕ → State
wait st number =
    if nat_lt (length st.collisions) 10
    then record st { collisions = with_bucket number st.collisions }
    else st

-- A known peer was reached. With testing, its record becomes a collision if its tried slot is
-- occupied: the occupant is to be tested first.
abbrev pub good_known : State → Rec → Bool → After Good
good_known st r testing =
    if is_tried r then outcome Already st
    else if testing && is_some (tried_occupant st r.peer) then outcome Clash (wait st r.number)
    else outcome Moved (move_to_tried st r)

-- The peer of a record was reached, if there is a record: its times are updated before anything
-- else (`Good_`).
abbrev pub good_by : Option Rec → State → ℕ → Bool → After Good
good_by None st now testing = outcome Unknown st
good_by (Some r) st now testing =
    good_known (with_record st (after_success r now)) (after_success r now) testing

-- a peer was reached; the time of the last success is set for an unknown peer too (`Good_`)
abbrev pub good : State → ℕ → Peer → Bool → After Good
good st now peer testing =
    let later = record st { last_good = now } in
    good_by (find_peer later peer) later now testing

-- the record of a known peer is changed, and the answer is yes; it is no for an unknown peer
abbrev pub mark : (Rec → Rec) → State → Option Rec → After Bool
mark change st None = no st
mark change st (Some r) = yes (with_record st (change r))

-- A try. It counts as a failure if the last one that counted is older than the last success of any
-- peer (`Attempt_`).
abbrev pub after_try : ℕ → ℕ → Bool → Rec → Rec
after_try last_good now count r =
    if count && nat_lt r.last_count last_good
    then record r { last_try = now; last_count = now; attempts = min (r.attempts + 1) MAX_ATTEMPTS }
    else record r { last_try = now }

-- A try of a peer; the answer is whether it is known (`Attempt_`).
abbrev pub attempt : State → ℕ → Peer → Bool → After Bool
attempt st now peer count = mark (after_try st.last_good now count) st (find_peer st peer)

-- a peer is connected: the time when it was seen is updated if it is more than twenty minutes old
-- (`Connected_`)
abbrev pub still_connected : ℕ → Rec → Rec
still_connected now r = if nat_lt (r.time + 1200) now then record r { time = now } else r

-- A connection with a peer; the answer is whether it is known (`Connected_`).
abbrev pub connected : State → ℕ → Peer → After Bool
connected st now peer = mark (still_connected now) st (find_peer st peer)

-- the services of a peer are replaced (`SetServices_`)
abbrev pub with_services : ℕ → Rec → Rec
with_services services r = record r { services = services }

-- New services of a peer; the answer is whether it is known (`SetServices_`).
abbrev pub set_services : State → Peer → ℕ → After Bool
set_services st peer services = mark (with_services services) st (find_peer st peer)
