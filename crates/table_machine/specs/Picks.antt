-- Which peer is picked for a connection, and which are sent to another node (`AddrManImpl::Select_`
-- and `GetAddr_` in addrman.cpp of Bitcoin Core). The random words are given.
use Rattle.std.specs.Prelude.{ℕ, ◌+◌, ◌-◌, ◌*◌, ◌/◌, ◌%◌, ◌^◌, min, List, [], ◌∷◌, ◌++◌, length, map, filter, filter_map, find, swap, count_by, slice_get, Bool, true, false, ◌&&◌, ◌||◌, not, ◌==◌, nat_lt, Option, Some, None, option_to_list, option_and_then, if◌then◌else◌}
use Rattle.std.specs.List.{range_with_len}
use Rattle.net_addr.specs.NetSet.{has}
use Rattle.net_addr.specs.Ranges.{net_class}
use Rattle.net_addr.specs.declared.peer.Peer.{Peer}
use Rattle.peer_rec.specs.Rec.{chance, is_terrible, is_tried, network, next_factor}
use Rattle.peer_rec.specs.declared.answers.Picked.{Picked}
use Rattle.peer_rec.specs.declared.answers.Picked.TheVariants.{One, Nothing, Exhausted}
use Rattle.peer_rec.specs.declared.rec.Rec.{Rec}
use Rattle.slot_grid.specs.declared.sizes.TheConstants.{NEW_BUCKETS, TRIED_BUCKETS, SLOTS}
use Rattle.table_machine.specs.State.{State, by_number, new_rec_at, tried_rec_at, After, outcome}

-- whether the network of a record is in the set
abbrev pub is_wanted : List ℕ → Rec → Bool
is_wanted nets r = has nets (network r)

-- The number of records of the new table that are eligible: of a network in the set.
abbrev pub wanted_new : State → List ℕ → ℕ
wanted_new st nets = count_by (λ r. not (is_tried r) && is_wanted nets r) st.records

-- The number of records of the tried table that are eligible.
abbrev pub wanted_tried : State → List ℕ → ℕ
wanted_tried st nets = count_by (λ r. is_tried r && is_wanted nets r) st.records

-- the record at a slot of a bucket, of the new table or of the tried table
abbrev pub occupant_at : State → Bool → ℕ → ℕ → Option Rec
occupant_at st true bucket slot = new_rec_at st bucket slot
occupant_at st false bucket slot = tried_rec_at st bucket slot

-- The number of buckets of the new table (`true`) or of the tried table (`false`).
abbrev pub bucket_count : Bool → ℕ
bucket_count true = NEW_BUCKETS
bucket_count false = TRIED_BUCKETS

-- the slots of a bucket in turn, from a given one on; the first follows the last
abbrev pub slots_from : ℕ → List ℕ
slots_from start = range_with_len start (SLOTS - start) ++ range_with_len 0 start

-- the first wanted record of a bucket, from a slot on
abbrev pub first_candidate : State → Bool → List ℕ → ℕ → ℕ → Option Rec
first_candidate st in_new nets bucket start =
    find (is_wanted nets) (filter_map (occupant_at st in_new bucket) (slots_from start))

-- the candidate of a round: one random word selects the bucket, another the slot to begin at
abbrev pub candidate : State → Bool → List ℕ → ℕ → ℕ → Option Rec
candidate st in_new nets bucket start =
    first_candidate st in_new nets (bucket % bucket_count in_new) (start % SLOTS)

-- The next random word decides on the candidate of a round. If the round has none, that word is not
-- used up.
abbrev pub with_candidate : Option Rec → ℕ → List (Rec × ℕ) → List (Rec × ℕ) → List (Rec × ℕ)
with_candidate None word unused rest = unused
with_candidate (Some r) word unused rest = (r, word) ∷ rest

-- The candidates of a search of one table, each with the random word that decides on it. A round
-- uses two words, and a third if it has a candidate. With fewer than three words left there is no
-- round.
abbrev pub candidates : State → Bool → List ℕ → List ℕ → List (Rec × ℕ)
candidates st in_new nets [] = []
candidates st in_new nets (bucket ∷ []) = []
candidates st in_new nets (bucket ∷ start ∷ []) = []
candidates st in_new nets (bucket ∷ start ∷ word ∷ words) =
    with_candidate (candidate st in_new nets bucket start) word
    (candidates st in_new nets (word ∷ words)) (candidates st in_new nets words)

-- a random word selects the table: the new one if the word is even
abbrev pub candidates_of_either : State → List ℕ → List ℕ → List (Rec × ℕ)
candidates_of_either st nets [] = []
candidates_of_either st nets (word ∷ words) = candidates st (word % 2 == 0) nets words

-- the candidates of a search of the new table, if only that is to be searched; else of the table
-- with wanted records, or of the one that a word selects if both have some
abbrev pub candidates_of : State → Bool → List ℕ → List ℕ → List (Rec × ℕ)
candidates_of st new_only nets words =
    if new_only || wanted_tried st nets == 0 then candidates st true nets words
    else if wanted_new st nets == 0 then candidates st false nets words
    else candidates_of_either st nets words

-- a random word accepts a record if its low 30 bits are below the chance times the factor, all
-- three in parts of 2^30
abbrev pub is_accepted : Rec → ℕ → ℕ → ℕ → Bool
is_accepted r now factor word = nat_lt ((word % 2 ^ 30) * 2 ^ 30) (chance r now * factor)

-- the factor that a search begins with
abbrev pub first_factor : ℕ
first_factor = 2 ^ 30

-- the first record that its word accepts
abbrev pub first_accepted : ℕ → ℕ → List (Rec × ℕ) → Picked
first_accepted now factor [] = Exhausted
first_accepted now factor (m ∷ ms) =
    if is_accepted m.0 now factor m.1 then One m.0.peer m.0.last_try
    else first_accepted now (next_factor factor) ms

-- A peer to connect to, of a set of networks, from the new table only or from both (`Select_`).
abbrev pub select : State → Bool → List ℕ → List ℕ → ℕ → Picked
select st new_only nets words now =
    if wanted_new st nets == 0 && (new_only || wanted_tried st nets == 0) then Nothing
    else first_accepted now first_factor (candidates_of st new_only nets words)

-- how many peers a sample has at most: a number, and a part of all in percent; 0 is no limit
abbrev pub sample_limit : ℕ → ℕ → ℕ → ℕ
sample_limit count most percent =
    let part = if percent == 0 then count else (percent * count) / 100 in
    if most == 0 then part else min most part

-- two positions of the order are exchanged
abbrev pub order_swap : State → ℕ → ℕ → State
order_swap st i j = record st { order = swap st.order i j }

-- whether a record may be in a sample: its class is in the set, and it is not terrible
abbrev pub is_eligible : List ℕ → ℕ → Rec → Bool
is_eligible classes now r = has classes (net_class r.peer.addr) && not (is_terrible r now)

-- the record at a position of the order
abbrev pub order_at : State → ℕ → Option Rec
order_at st i = option_and_then (by_number st) (slice_get st.order i)

-- the peer at a position of the order, if its record may be in a sample
abbrev pub eligible_at : State → List ℕ → ℕ → ℕ → List Peer
eligible_at st classes now i =
    map (λ r. r.peer) (filter (is_eligible classes now) (option_to_list (order_at st i)))

-- the sample with some more peers before the rest
abbrev pub with_peers : List Peer → After (List Peer) → After (List Peer)
with_peers peers rest = outcome (peers ++ rest.answer) rest.state

-- The part of a sample from position i of the order on, with at most `left` peers. The next random
-- word selects a position from i on, which is exchanged with i; then the record at i is taken if it
-- is eligible.
abbrev pub sample_from : State → List ℕ → ℕ → ℕ → ℕ → List ℕ → After (List Peer)
sample_from st classes now i left [] = outcome [] st
sample_from st classes now i left (word ∷ words) =
    if nat_lt i (length st.order) && nat_lt 0 left
    then (
    let next = order_swap st i (i + word % (length st.order - i)) in
    let peers = eligible_at next classes now i in
    with_peers peers (sample_from next classes now (i + 1) (left - length peers) words))
    else outcome [] st

-- Some of the peers of a set of classes, selected by random words (`GetAddr_`), one word for each
-- position of the order. With fewer words than records there may be fewer peers. The order stays as
-- the exchanges leave it.
abbrev pub sample : State → ℕ → ℕ → List ℕ → List ℕ → ℕ → After (List Peer)
sample st most percent classes words now =
    sample_from st classes now 0 (sample_limit (length st.order) most percent) words
