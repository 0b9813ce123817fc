-- What an entry of a message does to the tables (`AddrManImpl::AddSingle`, `Add_`, `Create`,
-- `ClearNew` and `Delete` in addrman.cpp of Bitcoin Core).
use Rattle.std.specs.Prelude.{ℕ, ◌+◌, ◌-◌, ◌%◌, ◌^◌, List, [], ◌∷◌, ◌++◌, length, map, filter, Bool, true, false, ◌&&◌, ◌||◌, not, ◌==◌, nat_lt, nat_le, Option, Some, None, bit_or, if◌then◌else◌}
use Rattle.net_addr.specs.Address.{Address}
use Rattle.net_addr.specs.Same.{same_address}
use Rattle.net_addr.specs.Ranges.{is_routable}
use Rattle.net_addr.specs.declared.peer.Entry.{Entry}
use Rattle.placing.specs.Places.{new_bucket, new_slot}
use Rattle.peer_rec.specs.Rec.{buckets_of, is_tried, is_terrible}
use Rattle.peer_rec.specs.Buckets.{with_bucket, without_bucket}
use Rattle.peer_rec.specs.Deletion.{without_first}
use Rattle.peer_rec.specs.declared.rec.Rec.{Rec}
use Rattle.peer_rec.specs.declared.place.Place.TheVariants.{New}
use Rattle.peer_rec.specs.declared.buckets.TheConstants.{MAX_LISTS}
use Rattle.table_machine.specs.State.{State, find_peer, new_rec_at, After, outcome}

-- The entry got no slot, or the peer is not known.
abbrev pub no : State → After Bool
no st = outcome false st

-- The entry got a slot, or the peer is known.
abbrev pub yes : State → After Bool
yes st = outcome true st

-- the list with each record of the number replaced
abbrev pub change_number : ℕ → Rec → List Rec → List Rec
change_number number r records = map (λ q. if q.number == number then r else q) records

-- the state with the record of the same number replaced
abbrev pub with_record : State → Rec → State
with_record st r = record st { records = change_number r.number r st.records }

-- the record gets the bucket
abbrev pub give_bucket : State → Rec → ℕ → State
give_bucket st r bucket =
    with_record st (record r { place = New (with_bucket bucket (buckets_of r)) })

-- the record loses the bucket
abbrev pub take_bucket : State → Rec → ℕ → State
take_bucket st r bucket =
    with_record st (record r { place = New (without_bucket bucket (buckets_of r)) })

-- the record is deleted, and the last number of the order takes its position
-- (`AddrManImpl::Delete`)
abbrev pub delete : State → Rec → State
delete st r = record st {
  records = filter (λ q. not (q.number == r.number)) st.records;
  order = without_first (λ number. number == r.number) st.order;
}

-- the occupant of a slot loses the bucket, and is deleted if it has none left
-- (`AddrManImpl::ClearNew`)
abbrev pub clear_slot : State → Rec → ℕ → State
clear_slot st occupant bucket =
    if length (without_bucket bucket (buckets_of occupant)) == 0
    then delete st occupant
    else take_bucket st occupant bucket

-- the occupant makes way if it is terrible, or has other buckets while the record has none
abbrev pub makes_way : Rec → Rec → ℕ → Bool
makes_way occupant r now =
    is_terrible occupant now
    || (nat_lt 1 (length (buckets_of occupant)) && length (buckets_of r) == 0)

-- An occupied slot. If it is the record's own, nothing changes. If the occupant makes way, the
-- record gets it. If the occupant stays, a record that was made for this entry is deleted.
abbrev pub enter_occupied : State → ℕ → Rec → Bool → ℕ → Rec → After Bool
enter_occupied st now r is_new bucket occupant =
    if occupant.number == r.number then no st
    else if makes_way occupant r now then yes (give_bucket (clear_slot st occupant bucket) r bucket)
    else no (if is_new then delete st r else st)

-- a slot that is empty or occupied
abbrev pub enter_slot : State → ℕ → Rec → Bool → ℕ → Option Rec → After Bool
enter_slot st now r is_new bucket None = yes (give_bucket st r bucket)
enter_slot st now r is_new bucket (Some occupant) = enter_occupied st now r is_new bucket occupant

-- The bucket of the record's peer and the source; is_new says whether the record was made for this
-- entry.
abbrev pub enter_bucket : State → ℕ → Rec → Bool → Address → After Bool
enter_bucket st now r is_new source =
    let bucket = new_bucket st.places r.peer source in
    enter_slot st now r is_new bucket (new_rec_at st bucket (new_slot st.places r.peer bucket))

-- An entry replaces the stored time if its own is later by more than this many seconds and the
-- penalty: an hour if the entry's time is less than a day old, else a day.
abbrev pub lag : ℕ → ℕ → ℕ
lag now time = if nat_lt now (time + 86400) then 3600 else 86400

-- the record of a known peer after an entry: with a later time, and more services
abbrev pub refresh : Rec → Entry → ℕ → ℕ → Rec
refresh r entry penalty now = record r {
  time =
      if nat_lt (r.time + lag now entry.time + penalty) entry.time
      then entry.time - penalty
      else r.time;
  services = bit_or r.services entry.services;
}

-- An entry for a known peer refreshes its record. The record then gets another bucket only if the
-- entry's time is still later than the record's, the record is in the new table with fewer than
-- eight buckets, and the random word selects it: one word in 2^n does, for n buckets.
abbrev pub add_known : State → ℕ → Rec → Entry → Address → ℕ → ℕ → After Bool
add_known st now r entry source penalty word =
    let known = refresh r entry penalty now in
    let kept = with_record st known in
    if nat_le entry.time known.time || is_tried known || length (buckets_of known) == MAX_LISTS
    then no kept
    else if word % 2 ^ length (buckets_of known) == 0 then enter_bucket kept now known false source
    else no kept

-- the record made of an entry for an unknown peer
abbrev pub new_record : State → Entry → Address → ℕ → Rec
new_record st entry source penalty = record {
  number = st.next_number;
  peer = entry.peer;
  source = source;
  time = entry.time - penalty;
  services = entry.services;
  last_success = 0;
  last_try = 0;
  last_count = 0;
  attempts = 0;
  place = New [];
}

-- the record is appended to the list, and its number to the order
abbrev pub with_last : State → Rec → State
with_last st r = record st {
  records = st.records ++ r ∷ [];
  order = st.order ++ r.number ∷ [];
  next_number = st.next_number + 1;
}

-- an entry for an unknown peer
abbrev pub add_unknown : State → ℕ → Entry → Address → ℕ → After Bool
add_unknown st now entry source penalty =
    let r = new_record st entry source penalty in
    enter_bucket (with_last st r) now r true source

-- an entry, by the record of its peer
abbrev pub add_by : Option Rec → State → ℕ → Entry → Address → ℕ → ℕ → After Bool
add_by None st now entry source penalty word = add_unknown st now entry source penalty
add_by (Some r) st now entry source penalty word = add_known st now r entry source penalty word

-- the penalty of an entry: none for a peer that announces itself
abbrev pub penalty_of : Entry → Address → ℕ → ℕ
penalty_of entry source penalty = if same_address entry.peer.addr source then 0 else penalty

-- One entry from a source, with a penalty in seconds and a random word. An address that is not
-- routable is refused.
abbrev pub add : State → ℕ → Entry → Address → ℕ → ℕ → After Bool
add st now entry source penalty word =
    if is_routable entry.peer.addr
    then add_by (find_peer st entry.peer) st now entry source (penalty_of entry source penalty) word
    else no st
