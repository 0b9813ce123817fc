-- Each bucket of a restored record is that of its own source, or the file listed it for its peer.
use Rattle.std.proofs.Common.{◌≡◌, ℕ, ◌==◌, ◌||◌, not, Bool, true, false, List, [], ◌∷◌, length, Contains, is_some, bytes_eq, Option, Some, None, refl, sym, ap, subst, ⊎_elim, if◌then◌else◌}
use Rattle.std.specs.List.{range_with_len}
use Rattle.std.proofs.lemmas.Bool.{and_parts}
use Rattle.std.proofs.lemmas.Bool.Decides.{Decides-eqb}
use Rattle.std.proofs.lemmas.Slice.Eq.{bytes_eq-Decides}
use Rattle.std.proofs.lemmas.List.Elements.{Contains-push_cases}
use Rattle.net_addr.specs.Address.{Address}
use Rattle.net_addr.specs.Ranges.{is_valid}
use Rattle.net_addr.specs.declared.peer.Peer.{Peer}
use Rattle.placing.specs.Places.{Places, new_bucket, new_slot, sum_of}
use Rattle.peer_rec.specs.Rec.{buckets_of}
use Rattle.peer_rec.specs.Buckets.{with_bucket}
use Rattle.peer_rec.specs.Snapshot.{Snapshot}
use Rattle.peer_rec.specs.declared.file_rec.FileRec.{FileRec}
use Rattle.peer_rec.specs.declared.rec.Rec.{Rec}
use Rattle.peer_rec.specs.declared.place.Place.TheVariants.{New, Tried}
use Rattle.table_machine.specs.State.{State, empty_state, by_number, new_rec_at, tried_occupant}
use Rattle.table_machine.specs.Entries.{delete, with_last, with_record}
use Rattle.table_machine.specs.Restoring.{with_records, drop_all, drop_record, give_or, give_if_empty, place_all, place_pair, place_record, record_of, restored, uses_buckets, with_all_new, with_all_tried, with_new, with_tried}
use Rattle.table_machine.proofs.Buckets.{placed}
use Rattle.table_machine.proofs.Lists.{Contains-head, Contains-tail, none_in_nil}
use Rattle.table_machine.proofs.Records.{changed_cases, number_found, without_number-cases}
use Rattle.log_laws.specs.Buckets.{IsCaused, IsListed}
use Rattle.log_laws.specs.Buckets.IsCaused.{Own, InFile}
use Rattle.log_laws.specs.Kept.{opened}
use Rattle.log_laws.proofs.Caused.{EachBucket, one-more}
use Rattle.log_laws.proofs.Steps.{Holds}

-- what holds of each record
abbrev Each : (Rec → Type 0) → State → Type 0
Each P st = (r : Rec) → Contains st.records r → P r

changed-each : (P : Rec → Type 0) (st : State) (r : Rec) → Each P st → P r → Each P (with_record st r)
changed-each P st r all own q c = ⊎_elim (λ is. subst P is own) (λ h. all q h.0) (changed_cases r.number r st.records q c)

deleted-each : (P : Rec → Type 0) (st : State) (r : Rec) → Each P st → Each P (delete st r)
deleted-each P st r all q c = all q (without_number-cases r.number st.records q c).0

-- records that are in no bucket, under the same key and map
abbrev AreBare : Places → State → Type 0
AreBare places st = (st.places ≡ places) × Each (λ r. (b : ℕ) → Contains (buckets_of r) b → ⊥) st

last-bare : (places : Places) (st : State) (r : Rec) → AreBare places st → ((b : ℕ) → Contains (buckets_of r) b → ⊥) → AreBare places (with_last st r)
last-bare places st r h none =
    (h.0, λ q c. ⊎_elim (h.1 q) (λ is. subst (λ (t : Rec). (b : ℕ) → Contains (buckets_of t) b → ⊥) is none) (Contains-push_cases st.records r q c))

new-bare : (places : Places) (st : State) (rs : List FileRec) → AreBare places st → AreBare places (with_all_new st rs)
new-bare places st [] h = h
new-bare places st (r ∷ rs) h = new-bare places (with_new st r) rs (last-bare places st (record_of r st.next_number (New [])) h (λ b c. none_in_nil b c))

tried-bare : (places : Places) (st : State) (rs : List FileRec) → AreBare places st → AreBare places (with_all_tried st rs)
tried-bare places st [] h = h
tried-bare places st (r ∷ rs) h = tried-bare places (with_tried st r) rs (by (not (is_valid r.peer.addr) || is_some (tried_occupant st r.peer)))
  where
    by : (b : Bool) → AreBare places (if b then st else with_last st (record_of r st.next_number Tried))
    by true = h
    by false = last-bare places st (record_of r st.next_number Tried) h (λ b c. none_in_nil b c)

with_records-bare : (snap : Snapshot) (places : Places) → AreBare places (with_records snap places)
with_records-bare snap places =
    tried-bare places (with_all_new (empty_state places) snap.new_recs) snap.tried_recs
    (new-bare places (empty_state places) snap.new_recs (refl, λ r c. absurd (none_in_nil r c)))

-- a file's buckets are used if their number and the asmap are the same
used-are : (snap : Snapshot) (places : Places) → uses_buckets snap places ≡ true → (snap.bucket_count ≡ 1024) × (snap.sum ≡ sum_of places)
used-are snap places is =
    let parts = and_parts (snap.bucket_count == 1024) (bytes_eq snap.sum (sum_of places)) is in
    ((Decides-eqb snap.bucket_count 1024).0 parts.0, (bytes_eq-Decides snap.sum (sum_of places)).0 parts.1)

module _ (Accepted : Peer → Address → Type 0) (snap : Snapshot) (places : Places) where
  abbrev C : ℕ → Peer → Address → ℕ → Type 0
  C = IsCaused Accepted (IsListed (Some snap) places) places

  -- a record of the file has the number and the peer
  abbrev IsOfFile : Rec → Type 0
  IsOfFile r = (q : Rec) × Contains (with_records snap places).records q × (q.peer ≡ r.peer) × (q.number ≡ r.number)

  abbrev P : Rec → Type 0
  P r = EachBucket C r × IsOfFile r

  abbrev H : State → Type 0
  H st = (st.places ≡ places) × Each P st

  give-holds : (st : State) (r : Rec) (bucket : ℕ) (o : Option Rec) (other : State) → H st → H other → P r → C r.number r.peer r.source bucket → H (give_or st r bucket o other)
  give-holds st r bucket None other h also is one = (h.0, changed-each P st (placed r (New (with_bucket bucket (buckets_of r)))) h.1 (one-more C r bucket is.0 one, is.1))
  give-holds st r bucket (Some occupant) other h also is one = also

  place-holds : (same : Bool) (st : State) (bucket number : ℕ) → H st → (same ≡ true → (uses_buckets snap places ≡ true) × Contains snap.listed (bucket, number))
      → H (place_record same st bucket (by_number st number))
  place-holds same st bucket number h listed = by (by_number st number) refl
    where
      placing : (r : Rec) → P r → (stays used : Bool) → (used ≡ true → C r.number r.peer r.source bucket)
          → H (if stays then st else (if used then give_if_empty st r bucket (give_if_empty st r (new_bucket st.places r.peer r.source) st) else give_if_empty st r (new_bucket st.places r.peer r.source) st))
      placing r is stays used one = go stays used one
        where
          source : ℕ
          source = new_bucket st.places r.peer r.source

          own : H (give_if_empty st r (new_bucket st.places r.peer r.source) st)
          own =
              give-holds st r (new_bucket st.places r.peer r.source) (new_rec_at st (new_bucket st.places r.peer r.source) (new_slot st.places r.peer (new_bucket st.places r.peer r.source))) st h h is
              (Own (ap (λ (w : Places). new_bucket w r.peer r.source) h.0))

          go : (stays used : Bool) → (used ≡ true → C r.number r.peer r.source bucket)
              → H (if stays then st else (if used then give_if_empty st r bucket (give_if_empty st r (new_bucket st.places r.peer r.source) st) else give_if_empty st r (new_bucket st.places r.peer r.source) st))
          go true used one = h
          go false true one = give-holds st r bucket (new_rec_at st bucket (new_slot st.places r.peer bucket)) (give_if_empty st r (new_bucket st.places r.peer r.source) st) h own is (one refl)
          go false false one = own

      by : (o : Option Rec) → by_number st number ≡ o → H (place_record same st bucket o)
      by None none = h
      by (Some r) found =
          let at = number_found st.records number r found in
          let is = h.1 r at.0 in
          placing r is (not (is_valid r.peer.addr) || length (buckets_of r) == 8) same
          (λ yes.
          let l = listed yes in
          let used = used-are snap places l.0 in
          InFile (used.0, used.1, (is.1.0, is.1.1, is.1.3, is.1.2), subst (λ n. Contains snap.listed (bucket, n)) (sym at.1) l.1))

  pairs-hold : (st : State) (pairs : List (ℕ × ℕ)) → ((pair : ℕ × ℕ) → Contains pairs pair → Contains snap.listed pair) → H st → H (place_all (uses_buckets snap places) st pairs)
  pairs-hold st [] within h = h
  pairs-hold st (pair ∷ pairs) within h =
      pairs-hold (place_pair (uses_buckets snap places) st pair) pairs (λ p c. within p (Contains-tail pair pairs p c))
      (place-holds (uses_buckets snap places) st pair.0 pair.1 h (λ yes. (yes, within pair (Contains-head pair pairs))))

  dropped-hold : (st : State) (numbers : List ℕ) → H st → H (drop_all st numbers)
  dropped-hold st [] h = h
  dropped-hold st (number ∷ numbers) h = dropped-hold (drop_record st (by_number st number)) numbers (by (by_number st number))
    where
      gone : (r : Rec) (b : Bool) → H (if b then delete st r else st)
      gone r true = (h.0, deleted-each P st r h.1)
      gone r false = h

      by : (o : Option Rec) → H (drop_record st o)
      by None = h
      by (Some r) = gone r (length (buckets_of r) == 0)

  restored-holds : H (restored snap places)
  restored-holds =
      let bare = with_records-bare snap places in
      dropped-hold (place_all (uses_buckets snap places) (with_records snap places) snap.listed) (range_with_len 0 (length snap.new_recs))
      (pairs-hold (with_records snap places) snap.listed (λ p c. c) (bare.0, λ r c. (λ b l. absurd (bare.1 r c b l), (r, c, refl, refl))))

-- each bucket that a run begins with
pub opened-caused : (Accepted : Peer → Address → Type 0) (file : Option Snapshot) (places : Places)
    → Holds (IsCaused Accepted (IsListed file places) places) places (opened file places)
opened-caused Accepted None places = (refl, λ r c. absurd (none_in_nil r c))
opened-caused Accepted (Some snap) places = let h = restored-holds Accepted snap places in (h.0, λ r c. (h.1 r c).0)
