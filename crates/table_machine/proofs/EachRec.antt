-- What holds of each record still holds after a step, if it holds of each record that the step
-- changes.
use Rattle.std.proofs.Common.{◌≡◌, ℕ, ◌%◌, ◌^◌, ◌==◌, ◌||◌, nat_lt, nat_le, Bool, true, false, ◌&&◌, List, [], ◌∷◌, length, Contains, is_some, Option, Some, None, refl, subst, ⊎_elim, if◌then◌else◌}
use Rattle.std.proofs.lemmas.List.Elements.{Contains-push_cases}
use Rattle.net_addr.specs.Address.{Address}
use Rattle.net_addr.specs.Ranges.{is_routable}
use Rattle.net_addr.specs.declared.peer.Entry.{Entry}
use Rattle.net_addr.specs.declared.peer.Peer.{Peer}
use Rattle.placing.specs.Places.{new_bucket, new_slot, tried_bucket, tried_slot}
use Rattle.peer_rec.specs.Buckets.{with_bucket, without_bucket}
use Rattle.peer_rec.specs.Rec.{buckets_of, is_tried}
use Rattle.peer_rec.specs.declared.rec.Rec.{Rec}
use Rattle.peer_rec.specs.declared.answers.Good.TheVariants.{Already, Clash, Moved}
use Rattle.peer_rec.specs.declared.place.Place.TheVariants.{New, Tried}
use Rattle.table_machine.specs.State.{State, find_peer, is_new_at, is_tried_at, new_rec_at, tried_occupant, outcome}
use Rattle.table_machine.specs.Entries.{add, add_by, clear_slot, delete, enter_bucket, enter_slot, give_bucket, makes_way, new_record, no, penalty_of, refresh, take_bucket, with_last, with_record, yes}
use Rattle.table_machine.specs.Tried.{after_success, back_to_new, clear_new, displace, good, good_by, mark, move_to_tried, wait}
use Rattle.table_machine.proofs.Buckets.{placed}
use Rattle.table_machine.proofs.Lists.{find-Some}
use Rattle.table_machine.proofs.Records.{changed_cases, peer_found, without_number-cases}

abbrev pub EachRec : (Rec → Type 0) → List Rec → Type 0
EachRec P records = (r : Rec) → Contains records r → P r

-- a record that enters a bucket by a message of a source
abbrev pub entered : State → Rec → Address → Rec
entered st r source = placed r (New (with_bucket (new_bucket st.places r.peer source) (buckets_of r)))

-- a record in the bucket of its own source alone
abbrev pub alone : State → Rec → Rec
alone st r = placed r (New (new_bucket st.places r.peer r.source ∷ []))

module _ (P : Rec → Type 0) where
  changed-each : (st : State) (r : Rec) → EachRec P st.records → P r → EachRec P (with_record st r).records
  changed-each st r all own q c = ⊎_elim (λ is. subst P is own) (λ h. all q h.0) (changed_cases r.number r st.records q c)

  deleted-each : (st : State) (r : Rec) → EachRec P st.records → EachRec P (delete st r).records
  deleted-each st r all q c = all q (without_number-cases r.number st.records q c).0

  last-each : (st : State) (r : Rec) → EachRec P st.records → P r → EachRec P (with_last st r).records
  last-each st r all own q c = ⊎_elim (all q) (λ is. subst P is own) (Contains-push_cases st.records r q c)

  -- a mark
  pub mark-each : (change : Rec → Rec) (st : State) (peer : Peer) → EachRec P st.records → ((r : Rec) → Contains st.records r → P (change r))
      → EachRec P (mark change st (find_peer st peer)).state.records
  mark-each change st peer all keeps = by (find_peer st peer) refl
    where
      by : (o : Option Rec) → find_peer st peer ≡ o → EachRec P (mark change st o).state.records
      by None missing = all
      by (Some r) found = changed-each st (change r) all (keeps r (peer_found st.records peer r found).0)

-- where it still holds of a record that loses a bucket
module _ (P : Rec → Type 0) (less : (r : Rec) (bucket : ℕ) → P r → P (placed r (New (without_bucket bucket (buckets_of r))))) where
  cleared-each : (st : State) (occupant : Rec) (bucket : ℕ) → EachRec P st.records → P occupant → EachRec P (clear_slot st occupant bucket).records
  cleared-each st occupant bucket all own = by (length (without_bucket bucket (buckets_of occupant)) == 0)
    where
      by : (b : Bool) → EachRec P (if b then delete st occupant else take_bucket st occupant bucket).records
      by true = deleted-each P st occupant all
      by false = changed-each P st (placed occupant (New (without_bucket bucket (buckets_of occupant)))) all (less occupant bucket own)

  enter-each : (st : State) (now : ℕ) (r : Rec) (is_new : Bool) (source : Address) → EachRec P st.records
      → ((enter_bucket st now r is_new source).answer ≡ true → P (entered st r source))
      → EachRec P (enter_bucket st now r is_new source).state.records
  enter-each st now r is_new source all given = by (new_rec_at st bucket slot) refl given
    where
      bucket : ℕ
      bucket = new_bucket st.places r.peer source

      slot : ℕ
      slot = new_slot st.places r.peer bucket

      occupied : (occupant : Rec) → P occupant → (same way new : Bool)
          → ((if same then no st else if way then yes (give_bucket (clear_slot st occupant bucket) r bucket) else no (if new then delete st r else st)).answer ≡ true → P (entered st r source))
          → EachRec P (if same then no st else if way then yes (give_bucket (clear_slot st occupant bucket) r bucket) else no (if new then delete st r else st)).state.records
      occupied occupant is true way new one = all
      occupied occupant is false true new one = changed-each P (clear_slot st occupant bucket) (entered st r source) (cleared-each st occupant bucket all is) (one refl)
      occupied occupant is false false true one = deleted-each P st r all
      occupied occupant is false false false one = all

      by : (o : Option Rec) → new_rec_at st bucket slot ≡ o → ((enter_slot st now r is_new bucket o).answer ≡ true → P (entered st r source))
          → EachRec P (enter_slot st now r is_new bucket o).state.records
      by None none one = changed-each P st (entered st r source) all (one refl)
      by (Some occupant) is one =
          occupied occupant (all occupant (find-Some (is_new_at st.places bucket slot) st.records occupant is).0) (occupant.number == r.number) (makes_way occupant r now) is_new one

  -- an entry, which enters a bucket if it is accepted
  pub add-each : (st : State) (now : ℕ) (entry : Entry) (source : Address) (penalty word : ℕ) → EachRec P st.records
      → P (new_record st entry source (penalty_of entry source penalty))
      → ((r : Rec) → P r → P (refresh r entry (penalty_of entry source penalty) now))
      → ((add st now entry source penalty word).answer ≡ true → (r : Rec) → entry.peer ≡ r.peer → P r → P (entered st r source))
      → EachRec P (add st now entry source penalty word).state.records
  add-each st now entry source penalty word all first again gains = by (is_routable entry.peer.addr) (find_peer st entry.peer) refl gains
    where
      Gains : Type 0
      Gains = (r : Rec) → entry.peer ≡ r.peer → P r → P (entered st r source)

      known : (r : Rec) → entry.peer ≡ r.peer → P r → (stays draw : Bool)
          → ((if stays then no (with_record st r) else if draw then enter_bucket (with_record st r) now r false source else no (with_record st r)).answer ≡ true → Gains)
          → EachRec P (if stays then no (with_record st r) else if draw then enter_bucket (with_record st r) now r false source else no (with_record st r)).state.records
      known r same is true draw one = changed-each P st r all is
      known r same is false true one = enter-each (with_record st r) now r false source (changed-each P st r all is) (λ yes. one yes r same is)
      known r same is false false one = changed-each P st r all is

      by : (routable : Bool) (o : Option Rec) → find_peer st entry.peer ≡ o
          → ((if routable then add_by o st now entry source (penalty_of entry source penalty) word else no st).answer ≡ true → Gains)
          → EachRec P (if routable then add_by o st now entry source (penalty_of entry source penalty) word else no st).state.records
      by true None missing one =
          let r = new_record st entry source (penalty_of entry source penalty) in
          enter-each (with_last st r) now r true source (last-each P st r all first) (λ yes. one yes r refl first)
      by true (Some r) found one =
          let fresh = refresh r entry (penalty_of entry source penalty) now in
          let h = peer_found st.records entry.peer r found in
          known fresh h.1 (again r (all r h.0))
          (nat_le entry.time fresh.time || is_tried fresh || length (buckets_of fresh) == 8) (word % 2 ^ length (buckets_of fresh) == 0)
          one
      by false o other one = all

  -- a record goes back to the bucket of its own source
  back-each : (st : State) (r : Rec) → EachRec P st.records → P (alone st r) → EachRec P (back_to_new st r).records
  back-each st r all own = by (new_rec_at st bucket slot) refl
    where
      bucket : ℕ
      bucket = new_bucket st.places r.peer r.source

      slot : ℕ
      slot = new_slot st.places r.peer bucket

      by : (o : Option Rec) → new_rec_at st bucket slot ≡ o → EachRec P (with_record (clear_new st bucket o) (alone st r)).records
      by None none = changed-each P st (alone st r) all own
      by (Some occupant) is =
          changed-each P (clear_slot st occupant bucket) (alone st r)
          (cleared-each st occupant bucket all (all occupant (find-Some (is_new_at st.places bucket slot) st.records occupant is).0)) own

  moved-each : (st : State) (r : Rec) → EachRec P st.records → P (placed r (New [])) → P (placed r Tried) → ((q : Rec) → P q → P (alone st q))
      → EachRec P (move_to_tried st r).records
  moved-each st r all bare tried back = by (tried_occupant left r.peer) refl
    where
      left : State
      left = with_record st (placed r (New []))

      all_left : EachRec P left.records
      all_left = changed-each P st (placed r (New [])) all bare

      own : ℕ
      own = tried_bucket st.places r.peer

      by : (o : Option Rec) → tried_occupant left r.peer ≡ o → EachRec P (with_record (displace left o) (placed r Tried)).records
      by None none = changed-each P left (placed r Tried) all_left tried
      by (Some occupant) is =
          let known = all_left occupant (find-Some (is_tried_at st.places own (tried_slot st.places r.peer own)) left.records occupant is).0 in
          changed-each P (back_to_new left occupant) (placed r Tried) (back-each left occupant all_left (back occupant known)) tried

  -- a success, after which a record is tried, or in the bucket of its own source
  pub good-each : (st : State) (now : ℕ) (peer : Peer) (testing : Bool) → EachRec P st.records → ((r : Rec) → P r → P (after_success r now))
      → ((r : Rec) → P r → P (placed r (New []))) → ((r : Rec) → P r → P (placed r Tried)) → ((r : Rec) → P r → P (alone st r))
      → EachRec P (good st now peer testing).state.records
  good-each st now peer testing all success bare tried back = by (find_peer later peer) refl
    where
      later : State
      later = record st { last_good = now }

      waits : (kept : State) (number : ℕ) (few : Bool) → EachRec P kept.records → EachRec P (if few then record kept { collisions = with_bucket number kept.collisions } else kept).records
      waits kept number true h = h
      waits kept number false h = h

      known : (r : Rec) → EachRec P (with_record later r).records → P r → (in_tried blocked : Bool)
          → EachRec P (if in_tried then outcome Already (with_record later r) else if blocked then outcome Clash (wait (with_record later r) r.number) else outcome Moved (move_to_tried (with_record later r) r)).state.records
      known r h is true blocked = h
      known r h is false true = waits (with_record later r) r.number (nat_lt (length (with_record later r).collisions) 10) h
      known r h is false false = moved-each (with_record later r) r h (bare r is) (tried r is) back

      by : (o : Option Rec) → find_peer later peer ≡ o → EachRec P (good_by o later now testing).state.records
      by None missing = all
      by (Some r) found =
          let s = after_success r now in
          let is = success r (all r (peer_found st.records peer r found).0) in
          known s (changed-each P later s all is) is (is_tried s) (testing && is_some (tried_occupant (with_record later s) s.peer))
