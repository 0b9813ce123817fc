-- Soundness in the middle of a step, where one record may be in no bucket and tried slots may be
-- empty that were not before.
use Rattle.std.proofs.Common.{◌≡◌, ◌≢◌, ℕ, Bool, true, List, All, Contains, Option, Some, None, IsSome, IfSome, refl, sym, subst, ⊎_elim, ◌⊎◌, inl, true≢false}
use Rattle.std.proofs.lemmas.Bool.{cases_eq}
use Rattle.std.proofs.lemmas.List.Elements.{All-contains}
use Rattle.net_addr.specs.declared.peer.Peer.{Peer}
use Rattle.placing.specs.Places.{Places, tried_bucket}
use Rattle.peer_rec.specs.Rec.{IsRec}
use Rattle.peer_rec.specs.declared.rec.Rec.{Rec}
use Rattle.table_machine.specs.State.{State, by_number, is_new_at, is_tried_at, tried_occupant}
use Rattle.table_machine.specs.Sound.{AreInRange, AreListed, AreCollisions, AtMostOne, HasOccupant, IsSound}
use Rattle.table_machine.proofs.Lists.{All-from_Contains, find-Some, find-IsSome}
use Rattle.table_machine.proofs.Records.{find-number, number_found, own_slot}

-- whether a record is at the peer's own slot of the tried table
abbrev pub is_at_own : Places → Peer → Rec → Bool
is_at_own places peer = is_tried_at places (tried_bucket places peer) (own_slot places peer)

-- some record is at the peer's own slot of the tried table
abbrev pub HasRival : Places → List Rec → Peer → Type 0
HasRival places records peer = (q : Rec) × Contains records q × (is_at_own places peer q ≡ true)

-- the tried slot of each collision is occupied, or is one that may be empty
abbrev pub HasRivals : (Peer → Type 0) → State → Type 0
HasRivals MayBeEmpty st =
    (r : Rec) → Contains st.records r → Contains st.collisions r.number → HasRival st.places st.records r.peer ⊎ MayBeEmpty r.peer

-- Sound, except that the record of one number is exempt from fitting its fields, and that the tried
-- slots of some peers may be empty.
pub record IsMidway (n : ℕ) (MayBeEmpty : Peer → Type 0) (st : State) : Type 0 where
  pub listed : AreListed st.records st.order st.next_number
  pub waiting : AreCollisions st.collisions st.next_number
  pub ranges : AreInRange st.places st.last_good st.next_number
  pub new_slots : AtMostOne (is_new_at st.places) st.records
  pub tried_slots : AtMostOne (is_tried_at st.places) st.records
  pub rivals : HasRivals MayBeEmpty st
  pub records : (r : Rec) → Contains st.records r → r.number ≢ n → IsRec r

-- no tried slot may be empty
abbrev pub Never : Peer → Type 0
Never peer = ⊥

-- sound, except that the record of one number is exempt
abbrev pub IsSoundBut : ℕ → State → Type 0
IsSoundBut n st = IsMidway n Never st

-- that the tried slots of collisions are occupied, from searches to membership and back
rivals_from_occupants : (st : State) → IsSound st → (r : Rec) → Contains st.records r → Contains st.collisions r.number → HasRival st.places st.records r.peer
rivals_from_occupants st sound r c waits =
    by (tried_occupant st r.peer) refl
    (subst (λ o. IfSome o (λ q. IsSome (tried_occupant st q.peer))) (find-number st.records r sound.rising c)
    (All-contains (HasOccupant st) st.collisions r.number sound.occupants waits))
  where
    by : (o : Option Rec) → tried_occupant st r.peer ≡ o → IsSome o → HasRival st.places st.records r.peer
    by None found some = absurd (true≢false (sym some))
    by (Some q) found some = let h = find-Some (is_at_own st.places r.peer) st.records q found in (q, h.0, h.1)

occupants_from_rivals : (st : State) → ((r : Rec) → Contains st.records r → Contains st.collisions r.number → HasRival st.places st.records r.peer) → All (HasOccupant st) st.collisions
occupants_from_rivals st rivals = All-from_Contains (HasOccupant st) st.collisions each
  where
    each : (n : ℕ) → Contains st.collisions n → HasOccupant st n
    each n waits = by (by_number st n) refl
      where
        by : (o : Option Rec) → by_number st n ≡ o → IfSome o (λ q. IsSome (tried_occupant st q.peer))
        by None found = tt
        by (Some r) found =
            let h = number_found st.records n r found in
            let rival = rivals r h.0 (subst (Contains st.collisions) (sym h.1) waits) in
            find-IsSome (is_at_own st.places r.peer) st.records rival.0 rival.1 rival.2

-- a sound state exempts no record
pub sound_but : (n : ℕ) (st : State) → IsSound st → IsSoundBut n st
sound_but n st sound = record {
  listed = sound.listed;
  waiting = sound.waiting;
  ranges = sound.ranges;
  new_slots = sound.new_slots;
  tried_slots = sound.tried_slots;
  rivals = λ r c waits. inl (rivals_from_occupants st sound r c waits);
  records = λ r c other. All-contains IsRec st.records r sound.records c;
}

-- a state is sound again once the exempt record fits and the slots that may be empty are occupied
pub sound_from_midway : (n : ℕ) (MayBeEmpty : Peer → Type 0) (st : State) → IsMidway n MayBeEmpty st → ((p : Peer) → MayBeEmpty p → HasRival st.places st.records p)
    → ((r : Rec) → Contains st.records r → r.number ≡ n → IsRec r) → IsSound st
sound_from_midway n MayBeEmpty st but closed own = record {
  listed = but.listed;
  waiting = but.waiting;
  ranges = but.ranges;
  new_slots = but.new_slots;
  tried_slots = but.tried_slots;
  occupants = occupants_from_rivals st (λ r c waits. ⊎_elim (λ h. h) (closed r.peer) (but.rivals r c waits));
  records = All-from_Contains IsRec st.records (λ r c. ⊎_elim (own r c) (but.records r c) (cases_eq r.number n));
}

pub sound_from_but : (n : ℕ) (st : State) → IsSoundBut n st → ((r : Rec) → Contains st.records r → r.number ≡ n → IsRec r) → IsSound st
sound_from_but n st but own = sound_from_midway n Never st but (λ p none. absurd none) own

-- the slots of more peers may be empty
pub midway_more : (n : ℕ) (MayBeEmpty : Peer → Type 0) (st : State) → IsSoundBut n st → IsMidway n MayBeEmpty st
midway_more n MayBeEmpty st but = record {
  listed = but.listed;
  waiting = but.waiting;
  ranges = but.ranges;
  new_slots = but.new_slots;
  tried_slots = but.tried_slots;
  rivals = λ r c waits. ⊎_elim inl (λ none. absurd none) (but.rivals r c waits);
  records = but.records;
}
