-- What the groups of some addresses can do to a round of a search. The bounds are ours, after
-- Heilman et al., "Eclipse Attacks on Bitcoin's Peer-to-Peer Network" (2015).
use Rattle.std.specs.Prelude.{◌≡◌, ℕ, ◌<◌, ◌≤◌, ◌+◌, ◌*◌, ◌^◌, List, length, Bool, true, false, Contains, count_by, Option, Some}
use Rattle.std.specs.List.{range_with_len}
use Rattle.net_addr.specs.Address.{Address}
use Rattle.net_addr.specs.declared.peer.Peer.{Peer}
use Rattle.placing.specs.Places.{Places, group}
use Rattle.placing.specs.declared.placer.TheConstants.{GROUP_BUCKETS, SOURCE_BUCKETS}
use Rattle.peer_rec.specs.Rec.{buckets_of}
use Rattle.peer_rec.specs.Snapshot.{Snapshot}
use Rattle.peer_rec.specs.declared.rec.Rec.{Rec}
use Rattle.slot_grid.specs.declared.sizes.TheConstants.{SLOTS}
use Rattle.table_machine.specs.State.{State}
use Rattle.table_machine.specs.Picks.{bucket_count, first_candidate}
use Rattle.session.specs.History.{History}
use Rattle.session.specs.State as session
use Rattle.log_laws.specs.Accepted.{IsAccepted}
use Rattle.log_laws.specs.Buckets.{IsBy, IsCaused, IsListed, reach}
use Rattle.log_laws.specs.Kept.{IsAfter}
use Rattle.table_laws.specs.Chances.{words_for}

-- a round that selects this bucket can come to a record that is theirs: from some slot on, it is
-- the candidate
abbrev pub LeadsTo : State → Bool → List ℕ → (Rec → ℕ → Type 0) → ℕ → Type 0
LeadsTo st in_new nets IsTheirs bucket =
    (start : ℕ) × (r : Rec) × (first_candidate st in_new nets bucket start ≡ Some r)
    × IsTheirs r bucket

-- All but so many residues of the word that selects a bucket lead to no record of theirs: a test
-- that fails only for buckets which do lead to one passes for all others.
abbrev pub AllBut : ℕ → State → Bool → List ℕ → (Rec → ℕ → Type 0) → Type 0
AllBut few st in_new nets IsTheirs =
    (safe : ℕ → Bool)
    → ((bucket : ℕ) → bucket < bucket_count in_new → safe bucket ≡ false
    → LeadsTo st in_new nets IsTheirs bucket)
    → bucket_count in_new ≤ count_by safe (range_with_len 0 (bucket_count in_new)) + few

-- the record's address is of one of the groups
abbrev pub IsOf : State → List (List ℕ) → Rec → ℕ → Type 0
IsOf st groups r bucket = Contains groups (group st.places r.peer.addr)

-- the records that pass the test are theirs: in each bucket of the new table that has one, by a
-- source of theirs
abbrev pub AreBy : (Peer → Address → Type 0) → State → List (List ℕ) → (Rec → Bool) → Type 0
AreBy Accepted st groups test =
    (r : Rec) → Contains st.records r → test r ≡ true → (bucket : ℕ)
    → Contains (buckets_of r) bucket → IsBy Accepted st.places groups r bucket

-- the records that pass the test have addresses of the groups
abbrev pub AreInGroups : State → List (List ℕ) → (Rec → Bool) → Type 0
AreInGroups st groups test =
    (r : Rec) → Contains st.records r → test r ≡ true
    → Contains groups (group st.places r.peer.addr)

-- Sources of some groups have records in 64 buckets of the new table a group at most, and addresses
-- of some groups are in 8 buckets of the tried table a group at most. What is in any other bucket
-- of the new table has a cause, and is not theirs. So of the triples of residues of a round's three
-- words, which are 2^30 for each of the 64 slots of each bucket, at most those of so many buckets
-- select a record that is theirs. A source group has one bucket for all peers of a group, so if
-- theirs have addresses of some groups only, they are in one bucket a pair of groups at most.
pub record IsShared (Accepted : Peer → Address → Type 0) (Listed : ℕ → Peer → ℕ → Type 0)
    (st : State) : Type 0 where
  pub new : (nets : List ℕ) (groups : List (List ℕ))
      → AllBut (SOURCE_BUCKETS * length groups) st true nets (IsBy Accepted st.places groups)
  pub tried : (nets : List ℕ) (groups : List (List ℕ))
      → AllBut (GROUP_BUCKETS * length groups) st false nets (IsOf st groups)
  pub new_words : (nets : List ℕ) (now factor : ℕ) (groups : List (List ℕ)) (test : Rec → Bool)
      → AreBy Accepted st groups test
      → words_for st true nets now factor test ≤ SOURCE_BUCKETS * length groups * (SLOTS * 2 ^ 30)
  pub tried_words : (nets : List ℕ) (now factor : ℕ) (groups : List (List ℕ)) (test : Rec → Bool)
      → AreInGroups st groups test
      → words_for st false nets now factor test ≤ GROUP_BUCKETS * length groups * (SLOTS * 2 ^ 30)
  pub pair_words : (nets : List ℕ) (now factor : ℕ) (groups peers : List (List ℕ))
      (test : Rec → Bool) → AreBy Accepted st groups test → AreInGroups st peers test
      → words_for st true nets now factor test ≤ length groups * length peers * (SLOTS * 2 ^ 30)
  pub others : (groups : List (List ℕ)) (r : Rec) → Contains st.records r → (bucket : ℕ)
      → Contains (buckets_of r) bucket → (Contains (reach st.places groups) bucket → ⊥)
      → IsCaused Accepted Listed st.places r.number r.peer r.source bucket
      × (IsBy Accepted st.places groups r bucket → ⊥)

-- after each line of a run
abbrev pub KeepsShares : Option Snapshot → Places → session.SessionState → List (List ℕ) → Type 0
KeepsShares file places st lines =
    (before : List (List ℕ)) (h : History) → IsAfter st lines before h
    → IsShared (IsAccepted st before) (IsListed file places) h.now.machine.tables
