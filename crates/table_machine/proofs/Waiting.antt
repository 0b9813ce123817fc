-- A collision is added or dropped, and the time of the last success changes.
use Rattle.std.proofs.Common.{ℕ, ◌<◌, ◌^◌, ◌==◌, ◌∷◌, not, nat_lt, List, length, filter, All, arith}
use Rattle.std.proofs.lemmas.List.Elements.{All-append, All-cons, All-filter}
use Rattle.std.proofs.lemmas.List.Kept.{IsStrictlyIncreasing-filter}
use Rattle.peer_rec.proofs.Lists.{length-below_above}
use Rattle.peer_rec.specs.Buckets.{with_bucket}
use Rattle.table_machine.specs.State.{State}
use Rattle.table_machine.specs.Sound.{AreCollisions, HasOccupant, IsSound}
use Rattle.table_machine.proofs.Buckets.{length_filter_le, long-with_bucket, rising-with_bucket}

-- other collisions of a sound state
collisions-sound : (st : State) (collisions : List ℕ) → IsSound st → AreCollisions collisions st.next_number → All (HasOccupant st) collisions → IsSound (record st { collisions = collisions })
collisions-sound st collisions sound waiting occupants = record {
  listed = sound.listed;
  waiting = waiting;
  ranges = sound.ranges;
  new_slots = sound.new_slots;
  tried_slots = sound.tried_slots;
  occupants = occupants;
  records = sound.records;
}

-- a collision is dropped
pub erase-sound : (st : State) (n : ℕ) → IsSound st → IsSound (record st { collisions = filter (λ m. not (m == n)) st.collisions })
erase-sound st n sound =
    let few = sound.few_collisions in
    let less = length_filter_le (λ m. not (m == n)) st.collisions in
    collisions-sound st (filter (λ m. not (m == n)) st.collisions) sound record {
      collisions = IsStrictlyIncreasing-filter (λ m. not (m == n)) st.collisions sound.collisions;
      few_collisions = omega arith;
      collisions_below_next = All-filter (λ m. not (m == n)) (λ m. m < st.next_number) st.collisions sound.collisions_below_next;
    }
    (All-filter (λ m. not (m == n)) (HasOccupant st) st.collisions sound.occupants)

-- a collision is added
pub wait-sound : (st : State) (n : ℕ) → IsSound st → length st.collisions < 10 → n < st.next_number → HasOccupant st n
    → IsSound (record st { collisions = with_bucket n st.collisions })
wait-sound st n sound few below occupant =
    let low = filter (λ m. nat_lt m n) st.collisions in
    let high = filter (λ m. nat_lt n m) st.collisions in
    let long = long-with_bucket n st.collisions in
    let parts = length-below_above n st.collisions in
    collisions-sound st (with_bucket n st.collisions) sound record {
      collisions = rising-with_bucket n st.collisions sound.collisions;
      few_collisions = omega arith;
      collisions_below_next = All-append (λ m. m < st.next_number) low (n ∷ high)
          (All-filter (λ m. nat_lt m n) (λ m. m < st.next_number) st.collisions sound.collisions_below_next)
          (All-cons (λ m. m < st.next_number) n high below (All-filter (λ m. nat_lt n m) (λ m. m < st.next_number) st.collisions sound.collisions_below_next));
    }
    (All-append (HasOccupant st) low (n ∷ high) (All-filter (λ m. nat_lt m n) (HasOccupant st) st.collisions sound.occupants)
    (All-cons (HasOccupant st) n high occupant (All-filter (λ m. nat_lt n m) (HasOccupant st) st.collisions sound.occupants)))

-- a later success
pub last_good-sound : (st : State) (now : ℕ) → IsSound st → now < 2 ^ 32 → IsSound (record st { last_good = now })
last_good-sound st now sound fits = record {
  listed = sound.listed;
  waiting = sound.waiting;
  ranges = record { places = sound.places; last_good = fits; next_number = sound.next_number };
  new_slots = sound.new_slots;
  tried_slots = sound.tried_slots;
  occupants = sound.occupants;
  records = sound.records;
}
