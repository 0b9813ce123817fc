-- The parts of a state that an entry, a mark and a success do not change.
use Rattle.std.proofs.Common.{◌≡◌, ℕ, ◌==◌, nat_lt, Bool, true, false, ◌&&◌, List, [], ◌∷◌, length, is_some, Option, Some, None, refl, sym, ap, ◌∙◌, inl, inr, ◌⊎◌, if◌then◌else◌}
use Rattle.std.proofs.lemmas.Bool.{and_parts}
use Rattle.net_addr.specs.Address.{Address}
use Rattle.net_addr.specs.declared.peer.Entry.{Entry}
use Rattle.net_addr.specs.declared.peer.Peer.{Peer}
use Rattle.placing.specs.Places.{new_bucket, new_slot}
use Rattle.peer_rec.specs.Buckets.{with_bucket, without_bucket}
use Rattle.peer_rec.specs.Rec.{buckets_of, is_tried}
use Rattle.peer_rec.specs.declared.rec.Rec.{Rec}
use Rattle.peer_rec.specs.declared.answers.Good.TheVariants.{Already, Clash, Moved}
use Rattle.peer_rec.specs.declared.place.Place.TheVariants.{New, Tried}
use Rattle.table_machine.specs.State.{State, find_peer, new_rec_at, tried_occupant, outcome}
use Rattle.table_machine.specs.Entries.{add, delete, take_bucket, with_record}
use Rattle.table_machine.specs.Tried.{after_success, after_try, attempt, back_to_new, clear_new, connected, displace, good, good_by, mark, move_to_tried, set_services, still_connected, wait, with_services}
use Rattle.table_machine.proofs.Buckets.{placed}
use Rattle.table_machine.proofs.Rest.{add-rest}

-- places, collisions, last success and next number are the same
abbrev SameRest : State → State → Type 0
SameRest old new = record {
  places : new.places ≡ old.places;
  collisions : new.collisions ≡ old.collisions;
  last_good : new.last_good ≡ old.last_good;
  next_number : new.next_number ≡ old.next_number;
}

rest-itself : (st : State) → SameRest st st
rest-itself st = record { places = refl; collisions = refl; last_good = refl; next_number = refl }

pub add-collisions : (st : State) (now : ℕ) (entry : Entry) (source : Address) (penalty word : ℕ) → (add st now entry source penalty word).state.collisions ≡ st.collisions
add-collisions st now entry source penalty word = (add-rest st now entry source penalty word).collisions

-- a move to tried
back-rest : (st : State) (r : Rec) → SameRest st (back_to_new st r)
back-rest st r = by (new_rec_at st bucket (new_slot st.places r.peer bucket))
  where
    bucket : ℕ
    bucket = new_bucket st.places r.peer r.source

    cleared : (occupant : Rec) (none : Bool) → SameRest st (if none then delete st occupant else take_bucket st occupant bucket)
    cleared occupant true = rest-itself st
    cleared occupant false = rest-itself st

    by : (o : Option Rec) → SameRest st (with_record (clear_new st bucket o) (placed r (New (bucket ∷ []))))
    by None = rest-itself st
    by (Some occupant) = cleared occupant (length (without_bucket bucket (buckets_of occupant)) == 0)

move-rest : (st : State) (r : Rec) → SameRest st (move_to_tried st r)
move-rest st r = by (tried_occupant left r.peer)
  where
    left : State
    left = with_record st (placed r (New []))

    by : (o : Option Rec) → SameRest st (with_record (displace left o) (placed r Tried))
    by None = rest-itself st
    by (Some old) = back-rest left old

-- a mark
mark-collisions : (change : Rec → Rec) (st : State) (o : Option Rec) → (mark change st o).state.collisions ≡ st.collisions
mark-collisions change st None = refl
mark-collisions change st (Some r) = refl

pub attempt-collisions : (st : State) (now : ℕ) (peer : Peer) (counted : Bool) → (attempt st now peer counted).state.collisions ≡ st.collisions
attempt-collisions st now peer counted = mark-collisions (after_try st.last_good now counted) st (find_peer st peer)

pub connected-collisions : (st : State) (now : ℕ) (peer : Peer) → (connected st now peer).state.collisions ≡ st.collisions
connected-collisions st now peer = mark-collisions (still_connected now) st (find_peer st peer)

pub services-collisions : (st : State) (peer : Peer) (services : ℕ) → (set_services st peer services).state.collisions ≡ st.collisions
services-collisions st peer services = mark-collisions (with_services services) st (find_peer st peer)

-- when a number becomes a collision, only the collisions change, by what they were
abbrev with_number : ℕ → List ℕ → List ℕ
with_number number collisions = if nat_lt (length collisions) 10 then with_bucket number collisions else collisions

wait-is : (st : State) (number : ℕ) → wait st number ≡ record st { collisions = with_number number st.collisions }
wait-is st number =
    elim (nat_lt (length st.collisions) 10) as (λ few. (if few then record st { collisions = with_bucket number st.collisions } else st) ≡ record st { collisions = if few then with_bucket number st.collisions else st.collisions })
    [ true ↦ refl | false ↦ refl ]

-- After a success places and next number are the same, the last success is at this time, and there
-- is at most one more collision.
pub record IsReached (old : State) (now : ℕ) (peer : Peer) (testing : Bool) (new : State) : Type 0 where
  pub places : new.places ≡ old.places
  pub collisions : (new.collisions ≡ old.collisions) ⊎ ((r : Rec) × (find_peer old peer ≡ Some r) × (testing ≡ true) × (new.collisions ≡ (wait old r.number).collisions))
  pub last_good : new.last_good ≡ now
  pub next_number : new.next_number ≡ old.next_number

pub good-rest : (st : State) (now : ℕ) (peer : Peer) (testing : Bool) → IsReached st now peer testing (good st now peer testing).state
good-rest st now peer testing = by (find_peer later peer) refl
  where
    later : State
    later = record st { last_good = now }

    reached_at : Rec → State
    reached_at r = with_record later (after_success r now)

    known : (r : Rec) → find_peer st peer ≡ Some r → (tried blocked : Bool) → (testing && is_some (tried_occupant (reached_at r) r.peer)) ≡ blocked
        → IsReached st now peer testing (if tried then outcome Already (reached_at r) else if blocked then outcome Clash (wait (reached_at r) r.number) else outcome Moved (move_to_tried (reached_at r) (after_success r now))).state
    known r found true blocked h = record { places = refl; collisions = inl refl; last_good = refl; next_number = refl }
    known r found false true h =
        let is = wait-is (reached_at r) r.number in
        let of : State → List ℕ = λ s. s.collisions in
        record {
          places = ap (λ (s : State). s.places) is;
          collisions = inr (r, found, (and_parts testing (is_some (tried_occupant (reached_at r) r.peer)) h).0, ap of is ∙ sym (ap of (wait-is st r.number)));
          last_good = ap (λ (s : State). s.last_good) is;
          next_number = ap (λ (s : State). s.next_number) is;
        }
    known r found false false h =
        let moved = move-rest (reached_at r) (after_success r now) in
        record { places = moved.places; collisions = inl moved.collisions; last_good = moved.last_good; next_number = moved.next_number }

    by : (o : Option Rec) → find_peer later peer ≡ o → IsReached st now peer testing (good_by o later now testing).state
    by None missing = record { places = refl; collisions = inl refl; last_good = refl; next_number = refl }
    by (Some r) found =
        known r found (is_tried r) (testing && is_some (tried_occupant (reached_at r) r.peer)) refl

pub good-next : (st : State) (now : ℕ) (peer : Peer) (testing : Bool) → (good st now peer testing).state.next_number ≡ st.next_number
good-next st now peer testing = (good-rest st now peer testing).next_number
