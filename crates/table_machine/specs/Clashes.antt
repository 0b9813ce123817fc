-- How collisions are resolved (`AddrManImpl::ResolveCollisions_` and `SelectTriedCollision_` in
-- addrman.cpp of Bitcoin Core). A collision is the number of a record, the newcomer, that was
-- reached (`good` with testing) while its slot of the tried table was occupied. It stays until
-- `resolve` or `clash_pick` drops it, also if the record is deleted or moved meanwhile.
use Rattle.std.specs.Prelude.{ℕ, ◌+◌, ◌%◌, List, [], ◌∷◌, length, filter, get_or, not, ◌==◌, nat_lt, false, Option, Some, None, if◌then◌else◌}
use Rattle.net_addr.specs.declared.peer.Peer.{Peer}
use Rattle.peer_rec.specs.declared.rec.Rec.{Rec}
use Rattle.peer_rec.specs.declared.answers.Resolved.{Resolved}
use Rattle.peer_rec.specs.declared.answers.Fate.{Fate}
use Rattle.peer_rec.specs.declared.answers.Fate.TheVariants.{Erased, Kept, Moved}
use Rattle.table_machine.specs.State.{State, by_number, tried_occupant, After, outcome}
use Rattle.table_machine.specs.Tried.{good}

-- a collision is dropped
abbrev pub erase_clash : State → ℕ → State
erase_clash st number = record st { collisions = filter (λ n. not (n == number)) st.collisions }

-- An occupant that was reached within four hours keeps the slot. If it was tried within four hours,
-- the newcomer moves in as soon as that try is more than a minute old. If not, the newcomer moves
-- in as soon as its own success is more than forty minutes old.
abbrev pub fate_against : Rec → Rec → ℕ → Fate
fate_against newcomer occupant now =
    if nat_lt now (occupant.last_success + 14400) then Erased
    else if nat_lt now (occupant.last_try + 14400)
    then (if nat_lt (occupant.last_try + 60) now then Moved else Kept)
    else if nat_lt (newcomer.last_success + 2400) now then Moved
    else Kept

-- in a sound state the slot of a collision is never empty
abbrev pub fate_by : Rec → Option Rec → ℕ → Fate
fate_by newcomer None now = Moved
fate_by newcomer (Some occupant) now = fate_against newcomer occupant now

-- a collision is dropped if its record was deleted
abbrev pub fate_of : State → Option Rec → ℕ → Fate
fate_of st None now = Erased
fate_of st (Some newcomer) now = fate_by newcomer (tried_occupant st newcomer.peer) now

-- a newcomer that is in the tried table already only gets the marks of a success
abbrev pub move_in : State → Option Rec → ℕ → State
move_in st None now = st
move_in st (Some newcomer) now = (good st now newcomer.peer false).state

-- The state after the decision on a collision. Erased: the collision is dropped. Kept: it stays.
-- Moved: its peer counts as reached, without testing, and the collision is dropped.
abbrev pub after_fate : Fate → State → Option Rec → ℕ → ℕ → State
after_fate Erased st newcomer number now = erase_clash st number
after_fate Kept st newcomer number now = st
after_fate Moved st newcomer number now = erase_clash (move_in st newcomer now) number

-- the counts with another collision of the fate
abbrev pub one_more : Fate → Resolved → Resolved
one_more Erased r = record r { erased = 1 + r.erased }
one_more Kept r = record r { kept = 1 + r.kept }
one_more Moved r = record r { moved = 1 + r.moved }

-- An answer and a state, with another collision of this fate counted.
abbrev pub with_fate : Fate → After Resolved → After Resolved
with_fate fate rest = outcome (one_more fate rest.answer) rest.state

-- the decisions on some collisions, one after another
abbrev pub resolve_all : State → ℕ → List ℕ → After Resolved
resolve_all st now [] = outcome (record { erased = 0; moved = 0; kept = 0 }) st
resolve_all st now (number ∷ numbers) =
    let newcomer = by_number st number in
    let fate = fate_of st newcomer now in
    with_fate fate (resolve_all (after_fate fate st newcomer number now) now numbers)

-- the decisions on all collisions, by rising numbers (`ResolveCollisions_`)
abbrev pub resolve : State → ℕ → After Resolved
resolve st now = resolve_all st now st.collisions

-- the occupant to be tested and the time of its last try
abbrev pub pick_occupant : State → Option Rec → After (Option (Peer × ℕ))
pick_occupant st None = outcome None st
pick_occupant st (Some occupant) = outcome (Some (occupant.peer, occupant.last_try)) st

-- The occupant that the newcomer of a collision waits for. A collision whose newcomer was deleted
-- is dropped.
abbrev pub pick_newcomer : State → ℕ → Option Rec → After (Option (Peer × ℕ))
pick_newcomer st number None = outcome None (erase_clash st number)
pick_newcomer st number (Some newcomer) = pick_occupant st (tried_occupant st newcomer.peer)

-- The random word selects a collision; the answer is the occupant of its slot. A collision whose
-- record was deleted is dropped (`SelectTriedCollision_`).
abbrev pub clash_pick : State → ℕ → After (Option (Peer × ℕ))
clash_pick st word =
    if length st.collisions == 0 then outcome None st
    else (let number = get_or st.collisions (word % length st.collisions) 0 in
    pick_newcomer st number (by_number st number))
