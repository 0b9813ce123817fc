-- No step makes a tried record without a success, but a success at the time 0.
use Rattle.std.proofs.Common.{◌≢◌, ℕ, ◌&&◌, ◌==◌, nat_lt, Bool, true, false, List, [], ◌∷◌, length, is_some, Option, Some, None, sym, subst, ⊎_elim, true≢false, if◌then◌else◌}
use Rattle.net_addr.specs.Address.{Address}
use Rattle.net_addr.specs.declared.peer.Entry.{Entry}
use Rattle.net_addr.specs.declared.peer.Peer.{Peer}
use Rattle.placing.specs.Places.{new_bucket, new_slot}
use Rattle.peer_rec.specs.Buckets.{with_bucket, without_bucket}
use Rattle.peer_rec.specs.Rec.{buckets_of, is_tried}
use Rattle.peer_rec.specs.declared.answers.Good.TheVariants.{Already, Clash, Moved}
use Rattle.peer_rec.specs.declared.place.Place.TheVariants.{New, Tried}
use Rattle.peer_rec.specs.declared.rec.Rec.{Rec}
use Rattle.table_machine.specs.Clashes.{resolve}
use Rattle.table_machine.specs.Entries.{add, delete, take_bucket, with_record}
use Rattle.table_machine.specs.State.{State, find_peer, new_rec_at, outcome, tried_occupant}
use Rattle.table_machine.specs.Tried.{after_success, clear_new, displace, good, good_by, move_to_tried, wait}
use Rattle.table_machine.proofs.EachRec.{EachRec, add-each}
use Rattle.table_machine.proofs.Folds.{resolve-keeps}
use Rattle.table_machine.proofs.Records.{changed_cases, without_number-cases}
use Rattle.node_check.specs.Laws.{IsReached}

pub in_new : (r : Rec) (buckets : List ℕ) → IsReached (record r { place = New buckets })
in_new r buckets tried = absurd (true≢false (sym tried))

changed : (st : State) (r : Rec) → EachRec IsReached st.records → IsReached r → EachRec IsReached (with_record st r).records
changed st r all own q c = ⊎_elim (λ is. subst IsReached is own) (λ h. all q h.0) (changed_cases r.number r st.records q c)

cleared : (st : State) (bucket : ℕ) (o : Option Rec) → EachRec IsReached st.records → EachRec IsReached (clear_new st bucket o).records
cleared st bucket None all = all
cleared st bucket (Some occupant) all = by (length (without_bucket bucket (buckets_of occupant)) == 0)
  where
    by : (b : Bool) → EachRec IsReached (if b then delete st occupant else take_bucket st occupant bucket).records
    by true = λ q c. all q (without_number-cases occupant.number st.records q c).0
    by false = changed st (record occupant { place = New (without_bucket bucket (buckets_of occupant)) }) all (in_new occupant (without_bucket bucket (buckets_of occupant)))

displaced : (st : State) (o : Option Rec) → EachRec IsReached st.records → EachRec IsReached (displace st o).records
displaced st None all = all
displaced st (Some r) all =
    let bucket = new_bucket st.places r.peer r.source in
    let o = new_rec_at st bucket (new_slot st.places r.peer bucket) in
    changed (clear_new st bucket o) (record r { place = New (bucket ∷ []) }) (cleared st bucket o all) (in_new r (bucket ∷ []))

moved : (st : State) (r : Rec) → EachRec IsReached st.records → r.last_success ≢ 0 → EachRec IsReached (move_to_tried st r).records
moved st r all success =
    let left = with_record st (record r { place = New [] }) in
    changed (displace left (tried_occupant left r.peer)) (record r { place = Tried })
    (displaced left (tried_occupant left r.peer) (changed st (record r { place = New [] }) all (in_new r []))) (λ tried. success)

pub good_reaches : (st : State) (now : ℕ) (peer : Peer) (testing : Bool) → now ≢ 0 → EachRec IsReached st.records → EachRec IsReached (good st now peer testing).state.records
good_reaches st now peer testing late all = by (find_peer later peer)
  where
    later : State
    later = record st { last_good = now }

    waits : (kept : State) (number : ℕ) (few : Bool) → EachRec IsReached kept.records → EachRec IsReached (if few then record kept { collisions = with_bucket number kept.collisions } else kept).records
    waits kept number true h = h
    waits kept number false h = h

    known : (s : Rec) → EachRec IsReached (with_record later s).records → s.last_success ≢ 0 → (in_tried blocked : Bool)
        → EachRec IsReached (if in_tried then outcome Already (with_record later s) else if blocked then outcome Clash (wait (with_record later s) s.number) else outcome Moved (move_to_tried (with_record later s) s)).state.records
    known s h success true blocked = h
    known s h success false true = waits (with_record later s) s.number (nat_lt (length (with_record later s).collisions) 10) h
    known s h success false false = moved (with_record later s) s h success

    by : (o : Option Rec) → EachRec IsReached (good_by o later now testing).state.records
    by None = all
    by (Some r) =
        let s = after_success r now in
        known s (changed later s all (λ tried. late)) late (is_tried s) (testing && is_some (tried_occupant (with_record later s) s.peer))

pub add_reaches : (st : State) (now : ℕ) (entry : Entry) (source : Address) (penalty word : ℕ) → EachRec IsReached st.records → EachRec IsReached (add st now entry source penalty word).state.records
add_reaches st now entry source penalty word all =
    add-each IsReached (λ r bucket is. in_new r (without_bucket bucket (buckets_of r))) st now entry source penalty word all
    (λ tried. absurd (true≢false (sym tried)))
    (λ r is. is)
    (λ yes r same is. in_new r (with_bucket (new_bucket st.places r.peer source) (buckets_of r)))

pub resolve_reaches : (st : State) (now : ℕ) → now ≢ 0 → EachRec IsReached st.records → EachRec IsReached (resolve st now).state.records
resolve_reaches st now late = resolve-keeps now (λ (s : State). EachRec IsReached s.records) (λ s number h. h) (λ s peer. good_reaches s now peer false late) st
