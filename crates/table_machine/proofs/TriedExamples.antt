-- Worked examples of what successes, tries and collisions do, computed over the definitions.
-- Buckets and slots are given, and not hashed.
use Rattle.std.proofs.Common.{◌≡◌, ℕ, ◌-◌, true, false, List, [], ◌∷◌, map, get_or, Option, None, Some, refl, ap}
use Rattle.net_addr.specs.Same.{same_address}
use Rattle.placing.specs.Places.{new_bucket, new_slot}
use Rattle.peer_rec.specs.Rec.{is_tried}
use Rattle.peer_rec.specs.declared.answers.Good.TheVariants.{Already, Clash, Moved, Unknown}
use Rattle.peer_rec.specs.declared.rec.Rec.{Rec}
use Rattle.peer_rec.specs.declared.place.Place.{Place}
use Rattle.peer_rec.specs.declared.place.Place.TheVariants.{New, Tried}
use Rattle.table_machine.specs.State.{State, new_rec_at, tried_occupant, outcome}
use Rattle.table_machine.specs.Entries.{with_record}
use Rattle.table_machine.specs.Tried.{after_try, attempt, back_to_new, clear_new, displace, good, good_known, move_to_tried, still_connected, wait, with_services}
use Rattle.table_machine.specs.Clashes.{clash_pick, fate_against, resolve}
use Rattle.peer_rec.specs.declared.answers.Fate.TheVariants.{Erased, Kept, Moved as MovesIn}
use Rattle.table_machine.proofs.ExampleStates.{now, peer, rec, state}

-- the number and the place of each record
abbrev places : State → List (ℕ × Place)
places st = map (λ r. (r.number, r.place)) st.records

-- the success of an unknown peer sets the time of the last success too
unknown : (good (state [] [] [] 20) now (peer 1) true).answer ≡ Unknown
unknown = refl

unknown_counts : (good (state [] [] [] 20) now (peer 1) true).state.last_good ≡ now
unknown_counts = refl

-- a record that is in the tried table already
already : (good (state (rec 0 1 Tried ∷ []) (0 ∷ []) [] 20) now (peer 1) false).answer ≡ Already
unfolding same_address
already = refl

-- a record moves to an empty slot of the tried table, although testing is asked for
abbrev two_new : State
two_new = state (rec 0 1 (New (3 ∷ 9 ∷ [])) ∷ rec 1 2 (New (4 ∷ [])) ∷ []) (0 ∷ 1 ∷ []) [] 20

moves : (good two_new now (peer 1) true).answer ≡ Moved
unfolding same_address
moves = refl

both_buckets_left : places (good two_new now (peer 1) true).state ≡ (0, Tried) ∷ (1, New (4 ∷ [])) ∷ []
unfolding same_address
both_buckets_left = refl

marks_of_success : get_or (good two_new now (peer 1) true).state.records 0 (rec 0 1 Tried) ≡ record (rec 0 1 Tried) { last_success = now; last_try = now; attempts = 0 }
unfolding same_address
marks_of_success = refl

-- A record of the tried table goes back to a bucket whose slot is empty or occupied, and another
-- record takes its slot.
abbrev goes_back : State → Rec → ℕ → Option Rec → State
goes_back st old bucket occupant = with_record (clear_new st bucket occupant) (record old { place = New (bucket ∷ []) })

goes_back-is : (st : State) (old : Rec)
    → back_to_new st old ≡ goes_back st old (new_bucket st.places old.peer old.source) (new_rec_at st (new_bucket st.places old.peer old.source) (new_slot st.places old.peer (new_bucket st.places old.peer old.source)))
goes_back-is st old = refl

displaces : (st : State) (r old : Rec) → tried_occupant (with_record st (record r { place = New [] })) r.peer ≡ Some old
    → move_to_tried st r ≡ with_record (back_to_new (with_record st (record r { place = New [] })) old) (record r { place = Tried })
displaces st r old is = ap (λ o. with_record (displace (with_record st (record r { place = New [] })) o) (record r { place = Tried })) is

abbrev after_displacing : State → Rec → Rec → ℕ → Option Rec → State
after_displacing st r old bucket occupant = with_record (goes_back (with_record st (record r { place = New [] })) old bucket occupant) (record r { place = Tried })

abbrev three : Place → State
three place = state (rec 0 1 (New (3 ∷ [])) ∷ rec 1 2 Tried ∷ rec 2 3 place ∷ []) (0 ∷ 1 ∷ 2 ∷ []) [] 20

empty_new_slot : places (after_displacing (three (New (5 ∷ []))) (rec 0 1 (New (3 ∷ []))) (rec 1 2 Tried) 7 None) ≡ (0, Tried) ∷ (1, New (7 ∷ [])) ∷ (2, New (5 ∷ [])) ∷ []
empty_new_slot = refl

one_bucket_deleted : places (after_displacing (three (New (7 ∷ []))) (rec 0 1 (New (3 ∷ []))) (rec 1 2 Tried) 7 (Some (rec 2 3 (New (7 ∷ []))))) ≡ (0, Tried) ∷ (1, New (7 ∷ [])) ∷ []
one_bucket_deleted = refl

two_buckets_stays : places (after_displacing (three (New (5 ∷ 7 ∷ []))) (rec 0 1 (New (3 ∷ []))) (rec 1 2 Tried) 7 (Some (rec 2 3 (New (5 ∷ 7 ∷ []))))) ≡ (0, Tried) ∷ (1, New (7 ∷ [])) ∷ (2, New (5 ∷ [])) ∷ []
two_buckets_stays = refl

-- with testing a record becomes a collision if its slot is occupied, and without testing it moves
waits_for_slot : (st : State) (r old : Rec) → is_tried r ≡ false → tried_occupant st r.peer ≡ Some old → good_known st r true ≡ outcome Clash (wait st r.number)
waits_for_slot st r old untried is = rw (untried, is) refl

moves_without_testing : (st : State) (r : Rec) → is_tried r ≡ false → good_known st r false ≡ outcome Moved (move_to_tried st r)
moves_without_testing st r untried = rw untried refl

-- A collision is added to nine, in the order of numbers, but not to ten, and not if it is there
-- already.
abbrev nine : List ℕ
nine = 0 ∷ 1 ∷ 2 ∷ 3 ∷ 4 ∷ 6 ∷ 7 ∷ 8 ∷ 9 ∷ []

tenth : (wait (state [] [] nine 20) 5).collisions ≡ 0 ∷ 1 ∷ 2 ∷ 3 ∷ 4 ∷ 5 ∷ 6 ∷ 7 ∷ 8 ∷ 9 ∷ []
tenth = refl

no_eleventh : (wait (state [] [] (0 ∷ nine) 20) 5).collisions ≡ 0 ∷ nine
no_eleventh = refl

waits_already : (wait (state [] [] nine 20) 4).collisions ≡ nine
waits_already = refl

-- a try counts if the last one that counted is before the last success of any peer
abbrev untried : Rec
untried = record (rec 0 1 Tried) { last_count = 1699990000; attempts = 2 }

before_success : after_try 1699990001 now true untried ≡ record untried { last_try = now; last_count = now; attempts = 3 }
before_success = refl

at_success : after_try 1699990000 now true untried ≡ record untried { last_try = now }
at_success = refl

not_counted : after_try 1699990001 now false untried ≡ record untried { last_try = now }
not_counted = refl

most_attempts : (after_try 1699990001 now true (record untried { attempts = 2147483647 })).attempts ≡ 2147483647
most_attempts = refl

-- an unknown peer is not marked
no_mark : (attempt two_new now (peer 5) true).answer ≡ false
unfolding same_address
no_mark = refl

-- last seen twenty minutes ago, and a second earlier
stays_seen : (still_connected now (record untried { time = 1699998800 })).time ≡ 1699998800
stays_seen = refl

seen_anew : (still_connected now (record untried { time = 1699998799 })).time ≡ now
seen_anew = refl

-- new services replace the old ones
other_services : (with_services 8 untried).services ≡ 8
other_services = refl

-- a record, by the seconds since its last success and since its last try
abbrev ago : ℕ → ℕ → Rec
ago success try = record (rec 1 2 Tried) { last_success = now - success; last_try = now - try }

reached_lately : fate_against (ago 5000 5000) (ago 14399 14399) now ≡ Erased
reached_lately = refl

reached_long_ago : fate_against (ago 2400 2400) (ago 14400 14400) now ≡ Kept
reached_long_ago = refl

reached_ahead_of_the_clock : fate_against (ago 5000 5000) (record (ago 14400 14400) { last_success = 1700000600 }) now ≡ Erased
reached_ahead_of_the_clock = refl

has_a_minute : fate_against (ago 5000 5000) (ago 20000 60) now ≡ Kept
has_a_minute = refl

minute_is_over : fate_against (ago 60 60) (ago 20000 61) now ≡ MovesIn
minute_is_over = refl

tried_lately : fate_against (ago 2400 2400) (ago 20000 14399) now ≡ MovesIn
tried_lately = refl

tried_long_ago : fate_against (ago 2400 2400) (ago 20000 14400) now ≡ Kept
tried_long_ago = refl

newcomer_after_forty_minutes : fate_against (ago 2401 2401) (ago 20000 14400) now ≡ MovesIn
newcomer_after_forty_minutes = refl

-- there is no collision, and one of a deleted record is dropped
none_waits : (clash_pick two_new 7).answer ≡ None
none_waits = refl

gone : (clash_pick (state (rec 0 1 Tried ∷ []) (0 ∷ []) (3 ∷ 5 ∷ []) 20) 7).state.collisions ≡ 3 ∷ []
gone = refl

-- of two collisions, the record of one was deleted, and the slot of the other is empty
one_of_two : (resolve (state (rec 0 1 (New (3 ∷ [])) ∷ []) (0 ∷ []) (0 ∷ 5 ∷ []) 20) now).answer ≡ record { erased = 1; moved = 1; kept = 0 }
unfolding same_address
one_of_two = refl

none_waits_on : (resolve (state (rec 0 1 (New (3 ∷ [])) ∷ []) (0 ∷ []) (0 ∷ 5 ∷ []) 20) now).state.collisions ≡ []
unfolding same_address
none_waits_on = refl
