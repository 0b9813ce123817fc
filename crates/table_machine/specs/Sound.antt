-- Which states of the tables are sound: what holds before and after each step. Bitcoin Core checks
-- most of this in `AddrManImpl::CheckAddrman` in addrman.cpp.
use Rattle.std.specs.Prelude.{◌≡◌, ◌≢◌, ℕ, ◌<◌, ◌≤◌, ◌^◌, Bool, true, List, map, length, All, AllPairs, Contains, IsSome, IfSome, IsPermutation}
use Rattle.std.specs.List.Sorted.{IsStrictlyIncreasing}
use Rattle.net_addr.specs.Ranges.{is_valid}
use Rattle.placing.specs.Places.{IsPlaces, Places}
use Rattle.peer_rec.specs.Rec.{IsRec}
use Rattle.peer_rec.specs.declared.rec.Rec.{Rec}
use Rattle.table_machine.specs.State.{State, by_number, is_new_at, is_tried_at, tried_occupant}

-- Each slot has at most one record: two records that is_at finds at one slot of one bucket have the
-- same number.
abbrev pub AtMostOne : (ℕ → ℕ → Rec → Bool) → List Rec → Type 0
AtMostOne is_at records = (bucket slot : ℕ) (r q : Rec) → Contains records r → Contains records q →
    is_at bucket slot r ≡ true → is_at bucket slot q ≡ true → r.number ≡ q.number

-- the tried slot of a collision is occupied
abbrev pub HasOccupant : State → ℕ → Type 0
HasOccupant st number = IfSome (by_number st number) (λ r. IsSome (tried_occupant st r.peer))

-- The order names each record once; peers are distinct and valid; numbers rise and are below the
-- next number.
pub record AreListed (rs : List Rec) (ns : List ℕ) (next : ℕ) : Type 0 where
  pub order : IsPermutation (map (λ r. r.number) rs) ns
  pub peers : AllPairs (λ r q. r.peer ≢ q.peer) rs
  pub valid : All (λ r. is_valid r.peer.addr ≡ true) rs
  pub rising : IsStrictlyIncreasing (map (λ r. r.number) rs)
  pub below_next : All (λ r. r.number < next) rs

-- at most ten collisions, by rising numbers below the next number
pub record AreCollisions (ns : List ℕ) (next : ℕ) : Type 0 where
  pub collisions : IsStrictlyIncreasing ns
  pub few_collisions : length ns ≤ 10
  pub collisions_below_next : All (λ n. n < next) ns

-- key, map, the time of the last success and the next number are in their ranges
pub record AreInRange (key_and_map : Places) (time next : ℕ) : Type 0 where
  pub places : IsPlaces key_and_map
  pub last_good : time < 2 ^ 32
  pub next_number : next < 2 ^ 64

-- Besides these parts: no slot has two records, the tried slot of each collision is occupied, and
-- the records are in their ranges.
pub record IsSound (st : State) : Type 0 where
  pub listed : AreListed st.records st.order st.next_number
  pub open listed use *
  pub waiting : AreCollisions st.collisions st.next_number
  pub open waiting use *
  pub ranges : AreInRange st.places st.last_good st.next_number
  pub open ranges use *
  pub new_slots : AtMostOne (is_new_at st.places) st.records
  pub tried_slots : AtMostOne (is_tried_at st.places) st.records
  pub occupants : All (HasOccupant st) st.collisions
  pub records : All IsRec st.records
