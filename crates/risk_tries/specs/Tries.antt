-- How many lists of tries open connections only to peers of a set. Each try picks a peer by random
-- words of its own (`CConnman::ThreadOpenConnections` in net.cpp of Bitcoin Core).
use Rattle.std.specs.Prelude.{◌≡◌, ℕ, zero, suc, ◌^◌, Contains, List, [], ◌∷◌, Bool, true, false, ◌&&◌, if◌then◌else◌}
use Rattle.net_addr.specs.NetSet.{all}
use Rattle.net_addr.specs.declared.peer.Peer.{Peer}
use Rattle.peer_open.specs.Groups.{Outbound, has_group, with_peer}
use Rattle.peer_open.specs.declared.opener.TheConstants.{MAX_OUTBOUND}
use Rattle.peer_rec.specs.declared.answers.Picked.{Picked}
use Rattle.peer_rec.specs.declared.answers.Picked.TheVariants.{One}
use Rattle.peer_rec.specs.declared.rec.Rec.{Rec}
use Rattle.placing.specs.Places.{group}
use Rattle.risk_laws.specs.Lists.{sum_words}
use Rattle.table_laws.specs.Searches.{one_if}
use Rattle.table_machine.specs.Picks.{select}
use Rattle.table_machine.specs.State.{State}

-- an open peer is in the group of this one
abbrev pub is_same_group : State → List Outbound → Peer → Bool
is_same_group st open_peers peer = has_group (group st.places peer.addr) open_peers

-- The next try is made if an open peer is in the group of the pick; else the pick is taken. A try
-- that finds no peer, or runs out of words, ends the tries.
abbrev pub after_pick : Picked → (Peer → Bool) → Bool → (Peer → Bool) → Bool
after_pick (One peer last_try) is_open next taken = if is_open peer then next else taken peer
after_pick other is_open next taken = false

-- the tries take so many peers one after the other, and each of them is of the set
abbrev pub takes_theirs : State → ℕ → (Peer → Bool) → ℕ → List Outbound → List (List ℕ) → Bool
takes_theirs st now theirs zero open_peers tries = true
takes_theirs st now theirs (suc count) open_peers [] = false
takes_theirs st now theirs (suc count) open_peers (words ∷ tries) =
    after_pick (select st false all words now) (is_same_group st open_peers)
    (takes_theirs st now theirs (suc count) open_peers tries)
    (λ peer. theirs peer && takes_theirs st now theirs count
    (with_peer peer (group st.places peer.addr) open_peers) tries)

-- the sum of f over all lists of m tries, each of n words below `size`
abbrev pub sum_tries : ℕ → ℕ → ℕ → (List (List ℕ) → ℕ) → ℕ
sum_tries size n zero f = f []
sum_tries size n (suc m) f =
    sum_words size n (λ words. sum_tries size n m (λ tries. f (words ∷ tries)))

-- how many lists of m tries, each of n random words, open all connections to peers of the set
abbrev pub all_theirs : State → ℕ → (Peer → Bool) → ℕ → ℕ → ℕ
all_theirs st now theirs n m =
    sum_tries (2 ^ 64) n m (λ tries. one_if (takes_theirs st now theirs MAX_OUTBOUND [] tries))

-- these groups have all peers of the set among the records
abbrev pub AreGroupsOf : State → (Peer → Bool) → List (List ℕ) → Type 0
AreGroupsOf st theirs groups =
    (r : Rec) → Contains st.records r → theirs r.peer ≡ true →
    Contains groups (group st.places r.peer.addr)
