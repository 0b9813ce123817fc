-- Which steps take a record out of tried, and what takes its slot.
use Rattle.std.proofs.Common.{◌≡◌, ◌≢◌, ℕ, nat_lt, Bool, true, false, ◌&&◌, length, Contains, is_some, Option, Some, None, refl, sym, ap, ◌∙◌, inl, inr, ⊎_elim, ◌⊎◌, true≢false, if◌then◌else◌}
use Rattle.net_addr.specs.declared.peer.Peer.{Peer}
use Rattle.peer_rec.specs.Buckets.{with_bucket}
use Rattle.peer_rec.specs.Rec.{is_tried}
use Rattle.peer_rec.specs.declared.rec.Rec.{Rec}
use Rattle.peer_rec.specs.declared.answers.Good.TheVariants.{Already, Clash, Moved}
use Rattle.peer_rec.specs.declared.place.Place.TheVariants.{Tried}
use Rattle.table_machine.specs.State.{State, outcome, find_peer, tried_occupant}
use Rattle.table_machine.specs.Entries.{with_record}
use Rattle.table_machine.specs.Tried.{after_success, good, good_by, move_to_tried, wait}
use Rattle.table_machine.proofs.Lists.{find-IsSome}
use Rattle.table_machine.proofs.Records.{changed_cases, changed_own, peer_found}
use Rattle.table_machine.proofs.SoundBut.{is_at_own}
use Rattle.log_laws.proofs.Stays.{IsDisplaced, Stays, changed-stays, moved-stays}

not_testing : (t o : Bool) → (t && o) ≡ false → o ≡ true → t ≡ false
not_testing true o none some = absurd (true≢false (sym some ∙ none))
not_testing false o none some = refl

-- by a success: what displaces the record, and the peer reached is its peer
abbrev pub Displacing : ℕ → State → ℕ → Peer → Bool → State → Type 0
Displacing n st now p testing new =
    (r : Rec) × (old : Rec) × (find_peer st p ≡ Some r) × (testing ≡ false) × IsDisplaced n st (after_success r now) old new

module _ (n : ℕ) (peer : Peer) (Success : ℕ → Type 0) where
  pub reached-stays : (st : State) (now : ℕ) (p : Peer) (testing : Bool) → Success now → Stays Tried n peer Success st.records
      → Stays Tried n peer Success (good st now p testing).state.records ⊎ Displacing n st now p testing (good st now p testing).state
  reached-stays st now p testing success stays = by (find_peer st p) refl
    where
      later : State
      later = record st { last_good = now }

      waits : (kept : State) (number : ℕ) (few : Bool) → Stays Tried n peer Success kept.records
          → Stays Tried n peer Success (if few then record kept { collisions = with_bucket number kept.collisions } else kept).records
      waits kept number true h = h
      waits kept number false h = h

      known : (r : Rec) → find_peer st p ≡ Some r → (tried blocked : Bool) → is_tried r ≡ tried
          → (testing && is_some (tried_occupant (with_record later (after_success r now)) r.peer)) ≡ blocked
          → Stays Tried n peer Success (if tried then outcome Already (with_record later (after_success r now)) else if blocked then outcome Clash (wait (with_record later (after_success r now)) r.number) else outcome Moved (move_to_tried (with_record later (after_success r now)) (after_success r now))).state.records
          ⊎ Displacing n st now p testing (if tried then outcome Already (with_record later (after_success r now)) else if blocked then outcome Clash (wait (with_record later (after_success r now)) r.number) else outcome Moved (move_to_tried (with_record later (after_success r now)) (after_success r now))).state
      known r found tried blocked is_tried_by is_blocked = cases tried blocked is_tried_by is_blocked
        where
          s : Rec
          s = after_success r now

          kept : State
          kept = with_record later s

          has : Contains st.records r
          has = (peer_found st.records p r found).0

          marked : Stays Tried n peer Success kept.records
          marked =
              changed-stays Tried refl n peer Success later s stays
              (λ same. let h = stays.each r has same in (h.0, h.1, success))

          was_before : (old : Rec) → s.number ≢ n → old.number ≡ n → Contains kept.records old → Contains st.records old
          was_before old other same c = ⊎_elim (λ is. absurd (other (ap (λ (t : Rec). t.number) is ∙ same))) (λ h. h.0) (changed_cases s.number s st.records old c)

          cases : (tried blocked : Bool) → is_tried r ≡ tried → (testing && is_some (tried_occupant kept r.peer)) ≡ blocked
              → Stays Tried n peer Success (if tried then outcome Already kept else if blocked then outcome Clash (wait kept r.number) else outcome Moved (move_to_tried kept s)).state.records
              ⊎ Displacing n st now p testing (if tried then outcome Already kept else if blocked then outcome Clash (wait kept r.number) else outcome Moved (move_to_tried kept s)).state
          cases true blocked is none = inl marked
          cases false true is none = inl (waits kept r.number (nat_lt (length kept.collisions) 10) marked)
          cases false false is none =
              ⊎_elim (λ h. inl h)
              (λ d. inr (
                r,
                d.0,
                found,
                not_testing testing (is_some (tried_occupant kept r.peer)) none (find-IsSome (is_at_own st.places r.peer) kept.records d.0 d.1.was d.1.at),
                record { was = was_before d.0 d.1.other d.1.number d.1.was; number = d.1.number; at = d.1.at; there = d.1.there; other = d.1.other },
              ))
              (moved-stays n peer Success kept s marked (changed_own s.number s later.records r has refl) is)

      by : (o : Option Rec) → find_peer later p ≡ o
          → Stays Tried n peer Success (good_by o later now testing).state.records ⊎ Displacing n st now p testing (good_by o later now testing).state
      by None missing = inl stays
      by (Some r) found = known r found (is_tried r) (testing && is_some (tried_occupant (with_record later (after_success r now)) r.peer)) refl refl
