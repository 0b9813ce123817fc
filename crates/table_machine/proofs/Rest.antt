-- The parts of a state that an entry does not change.
use Rattle.std.proofs.Common.{◌≡◌, ℕ, ◌+◌, ◌%◌, ◌≤◌, ◌^◌, ◌==◌, ◌||◌, nat_le, Bool, true, false, List, length, Option, None, Some, refl, arith, if◌then◌else◌}
use Rattle.net_addr.specs.Address.{Address}
use Rattle.net_addr.specs.Ranges.{is_routable}
use Rattle.net_addr.specs.declared.peer.Entry.{Entry}
use Rattle.placing.specs.Places.{new_bucket, new_slot}
use Rattle.peer_rec.specs.Buckets.{without_bucket}
use Rattle.peer_rec.specs.Rec.{buckets_of, is_tried}
use Rattle.peer_rec.specs.declared.rec.Rec.{Rec}
use Rattle.table_machine.specs.State.{State, find_peer, new_rec_at}
use Rattle.table_machine.specs.Entries.{add, add_by, change_number, delete, enter_bucket, enter_slot, give_bucket, makes_way, new_record, no, penalty_of, refresh, take_bucket, with_last, with_record, yes}

-- places, collisions and last success are the same; the next number rises by at most one
abbrev pub KeepsRest : State → State → Type 0
KeepsRest old new = record {
  places : new.places ≡ old.places;
  collisions : new.collisions ≡ old.collisions;
  last_good : new.last_good ≡ old.last_good;
  least : old.next_number ≤ new.next_number;
  most : new.next_number ≤ old.next_number + 1;
}

enter-rest : (old st : State) (now : ℕ) (r : Rec) (is_new : Bool) (source : Address) → KeepsRest old st → KeepsRest old (enter_bucket st now r is_new source).state
enter-rest old st now r is_new source keeps = by (new_rec_at st bucket (new_slot st.places r.peer bucket))
  where
    bucket : ℕ
    bucket = new_bucket st.places r.peer source

    occupied : (occupant : Rec) (same way none : Bool)
        → KeepsRest old (if same then no st else if way then yes (give_bucket (if none then delete st occupant else take_bucket st occupant bucket) r bucket) else no (if is_new then delete st r else st)).state
    occupied occupant true way none = keeps
    occupied occupant false true true = keeps
    occupied occupant false true false = keeps
    occupied occupant false false none =
        elim is_new as (λ b. KeepsRest old (no (if b then delete st r else st)).state) [ true ↦ keeps | false ↦ keeps ]

    by : (o : Option Rec) → KeepsRest old (enter_slot st now r is_new bucket o).state
    by None = keeps
    by (Some occupant) = occupied occupant (occupant.number == r.number) (makes_way occupant r now) (length (without_bucket bucket (buckets_of occupant)) == 0)

pub add-rest : (st : State) (now : ℕ) (entry : Entry) (source : Address) (penalty word : ℕ) → KeepsRest st (add st now entry source penalty word).state
add-rest st now entry source penalty word = by (is_routable entry.peer.addr) (find_peer st entry.peer)
  where
    same : (records : List Rec) → KeepsRest st (record st { records = records })
    same records = record { places = refl; collisions = refl; last_good = refl; least = omega arith; most = omega arith }

    known : (r : Rec) (stays draw : Bool) → KeepsRest st (if stays then no (with_record st r) else if draw then enter_bucket (with_record st r) now r false source else no (with_record st r)).state
    known r true draw = same (change_number r.number r st.records)
    known r false true = enter-rest st (with_record st r) now r false source (same (change_number r.number r st.records))
    known r false false = same (change_number r.number r st.records)

    by : (routable : Bool) (o : Option Rec) → KeepsRest st (if routable then add_by o st now entry source (penalty_of entry source penalty) word else no st).state
    by true None =
        let r = new_record st entry source (penalty_of entry source penalty) in
        enter-rest st (with_last st r) now r true source record { places = refl; collisions = refl; last_good = refl; least = omega arith; most = omega arith }
    by true (Some r) =
        let fresh = refresh r entry (penalty_of entry source penalty) now in
        known fresh (nat_le entry.time fresh.time || is_tried fresh || length (buckets_of fresh) == 8) (word % 2 ^ length (buckets_of fresh) == 0)
    by false o = same st.records
