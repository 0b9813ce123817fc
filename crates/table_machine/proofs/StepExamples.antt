-- Worked examples of what an entry does, computed over the definitions. Buckets and slots are
-- given, and not hashed.
use Rattle.std.proofs.Common.{◌≡◌, ℕ, true, false, List, [], ◌∷◌, map, None, Some, refl, Bool}
use Rattle.net_addr.specs.declared.peer.Entry.{Entry}
use Rattle.peer_rec.specs.Rec.{buckets_of}
use Rattle.peer_rec.specs.declared.rec.Rec.{Rec}
use Rattle.peer_rec.specs.declared.place.Place.TheVariants.{New}
use Rattle.table_machine.specs.State.{State, After}
use Rattle.table_machine.specs.Entries.{add_known, delete, enter_slot, new_record, refresh, with_last}
use Rattle.table_machine.proofs.ExampleStates.{now, other, peer, rec, state}

abbrev entry : Entry
entry = record { time = now; services = 8; peer = peer 8333 }

-- a record of a port of 8.8.8.8, last seen at a time, in some buckets of the new table
abbrev seen : ℕ → ℕ → ℕ → List ℕ → Rec
seen number port time buckets = record (rec number port (New buckets)) { time = time }

-- the number of a record, and its buckets
abbrev summary : Rec → ℕ × List ℕ
summary r = (r.number, buckets_of r)

abbrev summaries : After Bool → List (ℕ × List ℕ)
summaries after = map summary after.state.records

-- an entry that is newer than the record by an hour, the penalty and a second, and by a second less
refreshed : refresh (seen 0 8333 1699989199 (3 ∷ [])) entry 7200 now ≡ record (seen 0 8333 1699992800 (3 ∷ [])) { services = 9 }
refreshed = refl

time_stays : refresh (seen 0 8333 1699989200 (3 ∷ [])) entry 7200 now ≡ record (seen 0 8333 1699989200 (3 ∷ [])) { services = 9 }
time_stays = refl

-- a known peer whose draw fails, and one that gets a second bucket
abbrev one_known : State
one_known = state (seen 0 8333 1699989199 (3 ∷ []) ∷ []) (0 ∷ []) [] 1

draw_fails : summaries (add_known one_known now (seen 0 8333 1699989199 (3 ∷ [])) entry other 7200 1) ≡ (0, 3 ∷ []) ∷ []
draw_fails = refl

no_bucket_by_it : (add_known one_known now (seen 0 8333 1699989199 (3 ∷ [])) entry other 7200 1).answer ≡ false
no_bucket_by_it = refl

second_bucket : summaries (enter_slot one_known now (seen 0 8333 1699992800 (3 ∷ [])) false 9 None) ≡ (0, 3 ∷ 9 ∷ []) ∷ []
second_bucket = refl

-- the record's own slot
own_slot : (enter_slot one_known now (seen 0 8333 1699992800 (3 ∷ [])) false 3 (Some (seen 0 8333 1699989199 (3 ∷ [])))).answer ≡ false
own_slot = refl

-- a record made of the entry is to get the slot of an occupant
abbrev newcomer : State → Rec
newcomer st = new_record st entry other 7200

abbrev takes : State → Rec → After Bool
takes st occupant = enter_slot (with_last st (newcomer st)) now (newcomer st) true 9 (Some occupant)

-- An occupant that was not seen for more than thirty days is deleted, and the last number of the
-- order takes its position.
abbrev terrible_one : State
terrible_one = state (seen 0 1 1690000000 (9 ∷ []) ∷ seen 1 2 1699999999 (4 ∷ []) ∷ seen 2 3 1699999999 (6 ∷ []) ∷ []) (0 ∷ 1 ∷ 2 ∷ []) [] 3

terrible_goes : summaries (takes terrible_one (seen 0 1 1690000000 (9 ∷ []))) ≡ (1, 4 ∷ []) ∷ (2, 6 ∷ []) ∷ (3, 9 ∷ []) ∷ []
terrible_goes = refl

order_after_it : (takes terrible_one (seen 0 1 1690000000 (9 ∷ []))).state.order ≡ 3 ∷ 1 ∷ 2 ∷ []
order_after_it = refl

-- an occupant with another bucket makes way for a record that has none
abbrev two_buckets : State
two_buckets = state (seen 0 1 1699999999 (4 ∷ 9 ∷ []) ∷ seen 1 2 1699999999 (6 ∷ []) ∷ []) (0 ∷ 1 ∷ []) [] 2

other_bucket_stays : summaries (takes two_buckets (seen 0 1 1699999999 (4 ∷ 9 ∷ []))) ≡ (0, 4 ∷ []) ∷ (1, 6 ∷ []) ∷ (2, 9 ∷ []) ∷ []
other_bucket_stays = refl

-- an occupant with one bucket stays, and the record made for the entry is deleted
abbrev one_bucket : State
one_bucket = state (seen 0 1 1699999999 (9 ∷ []) ∷ seen 1 2 1699999999 (6 ∷ []) ∷ []) (0 ∷ 1 ∷ []) [] 2

occupant_stays : summaries (takes one_bucket (seen 0 1 1699999999 (9 ∷ []))) ≡ (0, 9 ∷ []) ∷ (1, 6 ∷ []) ∷ []
occupant_stays = refl

order_as_before : (takes one_bucket (seen 0 1 1699999999 (9 ∷ []))).state.order ≡ 0 ∷ 1 ∷ []
order_as_before = refl

-- deletion of the first, a middle and the last number of the order
first_of_order : (delete terrible_one (seen 0 1 1690000000 (9 ∷ []))).order ≡ 2 ∷ 1 ∷ []
first_of_order = refl

middle_of_order : (delete terrible_one (seen 1 2 1699999999 (4 ∷ []))).order ≡ 0 ∷ 2 ∷ []
middle_of_order = refl

last_of_order : (delete terrible_one (seen 2 3 1699999999 (6 ∷ []))).order ≡ 0 ∷ 1 ∷ []
last_of_order = refl
