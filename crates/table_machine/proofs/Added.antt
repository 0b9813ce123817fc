-- The empty state is sound, and so is the state after an entry.
use Rattle.std.proofs.Common.{◌≡◌, ℕ, ◌+◌, ◌-◌, ◌%◌, ◌<◌, ◌^◌, Bool, true, false, not, ◌&&◌, ◌||◌, ◌==◌, nat_lt, nat_le, [], length, Contains, Option, Some, None, refl, sym, subst, ◌∙◌, inl, ⊎_elim, arith, true≢false, if◌then◌else◌}
use Rattle.std.proofs.lemmas.Bool.{and_parts, or_parts, eqb-false, cond_both}
use Rattle.std.proofs.lemmas.List.Elements.{All-contains, Contains-push}
use Rattle.std.proofs.lemmas.List.Sorted.{IsPermutation-refl}
use Rattle.std.proofs.lemmas.Nat.{or_lt}
use Rattle.net_addr.specs.Address.{Address, IsAddress}
use Rattle.net_addr.specs.Ranges.{is_valid, is_local, is_routable, reserved_by}
use Rattle.net_addr.specs.declared.peer.Entry.{Entry}
use Rattle.placing.specs.Places.{IsPlaces, Places}
use Rattle.peer_rec.specs.Rec.{IsRec, buckets_of, is_tried}
use Rattle.peer_rec.specs.declared.rec.Rec.{Rec}
use Rattle.table_machine.specs.State.{State, empty_state, find_peer}
use Rattle.table_machine.specs.Entries.{add, add_by, add_known, add_unknown, enter_bucket, lag, new_record, no, penalty_of, refresh, with_last, with_record}
use Rattle.table_machine.specs.Sound.{IsSound}
use Rattle.table_machine.proofs.Fields.{IsRec-with}
use Rattle.table_machine.proofs.Lists.{none_in_nil}
use Rattle.table_machine.proofs.Buckets.{HasRoom, HasRoom-from_IsRec, placed}
use Rattle.table_machine.proofs.Records.{changed_cases, changed_own, new_at_parts, peer_found, tried_at-same, new_at-same}
use Rattle.table_machine.proofs.SoundBut.{Never, sound_but, sound_from_but}
use Rattle.table_machine.proofs.Primitives.{change-keeps, last-keeps}
use Rattle.table_machine.proofs.Slots.{only-untried, enter-sound}

pub sound_empty : (places : Places) → IsPlaces places → IsSound (empty_state places)
sound_empty places is = record {
  listed = record {
    order = IsPermutation-refl [];
    peers = λ i j d below within. absurd (omega arith);
    valid = λ k d within. absurd (omega arith);
    rising = λ k within. absurd (omega arith);
    below_next = λ k d within. absurd (omega arith);
  };
  waiting = record {
    collisions = λ k within. absurd (omega arith);
    few_collisions = omega arith;
    collisions_below_next = λ k d within. absurd (omega arith);
  };
  ranges = record { places = is; last_good = omega arith; next_number = omega arith };
  new_slots = λ bucket slot r q c. absurd (none_in_nil r c);
  tried_slots = λ bucket slot r q c. absurd (none_in_nil r c);
  occupants = λ k d within. absurd (omega arith);
  records = λ k d within. absurd (omega arith);
}

-- a record is changed, except for its number, peer and place
pub mark-sound : (st : State) (r s : Rec) → IsSound st → Contains st.records r → s.number ≡ r.number → s.peer ≡ r.peer → s.place ≡ r.place → IsRec s
    → IsSound (with_record st s)
mark-sound st r s sound has number peer place fits =
    sound_from_but s.number (with_record st s)
    (change-keeps s.number Never st r s (sound_but s.number st sound) has number peer
    (λ bucket slot q c at_s at_q.
    sound.new_slots bucket slot q r c has at_q (new_at-same st.places bucket slot s r peer (λ listed. subst (λ p. Contains (buckets_of (placed r p)) bucket) place listed) at_s) ∙ sym number)
    (λ bucket slot q c at_s at_q.
    sound.tried_slots bucket slot q r c has at_q (tried_at-same st.places bucket slot s r peer (λ tried. subst (λ p. is_tried (placed r p) ≡ true) place tried) at_s) ∙ sym number)
    (λ tried. inl (subst (λ p. is_tried (placed r p) ≡ true) (sym place) tried)) (λ other. fits))
    (λ q c own. ⊎_elim (λ is. subst IsRec is fits) (λ h. absurd (h.1 own)) (changed_cases s.number s st.records q c))

-- a refreshed record fits
refresh-fits : (r : Rec) (entry : Entry) (penalty now : ℕ) → IsRec r → entry.time < 2 ^ 32 → entry.services < 2 ^ 64 → IsRec (refresh r entry penalty now)
refresh-fits r entry penalty now fits time services =
    IsRec-with r _ _ _ _ _ _ _ fits
    (cond_both (nat_lt (r.time + lag now entry.time + penalty) entry.time) (entry.time - penalty) r.time (λ t. t < 2 ^ 32) (λ _. omega arith) (λ _. fits.time))
    (or_lt 64 r.services entry.services fits.services services)
    fits.last_success fits.last_try fits.last_count fits.attempts fits.place

known-sound : (st : State) (now : ℕ) (r : Rec) (entry : Entry) (source : Address) (penalty word : ℕ) → IsSound st → Contains st.records r
    → entry.time < 2 ^ 32 → entry.services < 2 ^ 64 → IsSound (add_known st now r entry source penalty word).state
known-sound st now r entry source penalty word sound has time services =
    by (nat_le entry.time known.time || is_tried known || length (buckets_of known) == 8) (word % 2 ^ length (buckets_of known) == 0) refl
  where
    known : Rec
    known = refresh r entry penalty now

    fits : IsRec known
    fits = refresh-fits r entry penalty now (All-contains IsRec st.records r sound.records has) time services

    kept : IsSound (with_record st known)
    kept = mark-sound st r known sound has refl refl refl fits

    by : (stays draw : Bool) → (nat_le entry.time known.time || is_tried known || length (buckets_of known) == 8) ≡ stays
        → IsSound (if stays then no (with_record st known) else if draw then enter_bucket (with_record st known) now known false source else no (with_record st known)).state
    by true draw h = kept
    by false true h =
        let outer = or_parts (nat_le entry.time known.time || is_tried known) (length (buckets_of known) == 8) h in
        enter-sound (with_record st known) now known false source (sound_but known.number (with_record st known) kept)
        (changed_own known.number known st.records r has refl) (or_parts (nat_le entry.time known.time) (is_tried known) outer.0).1
        (HasRoom-from_IsRec known fits (eqb-false _ _ outer.1)) (λ new. absurd (true≢false (sym new))) (λ old. fits)
    by false false h = kept

-- an entry for a peer that is not known
unknown-sound : (st : State) (now : ℕ) (entry : Entry) (source : Address) (penalty : ℕ) → IsSound st → st.next_number < 2 ^ 63 → find_peer st entry.peer ≡ None
    → is_routable entry.peer.addr ≡ true → IsAddress entry.peer.addr → entry.peer.port < 2 ^ 16 → IsAddress source → entry.time < 2 ^ 32 → entry.services < 2 ^ 64
    → IsSound (add_unknown st now entry source penalty).state
unknown-sound st now entry source penalty sound next missing routable addr port from time services =
    enter-sound (with_last st r) now r true source
    (last-keeps r.number Never st r (sound_but r.number st sound) refl missing valid
    (λ bucket slot q c at other. absurd (none_in_nil bucket (new_at_parts st.places bucket slot r at).0))
    (only-untried st r refl) (λ other. absurd (other refl)) (omega arith))
    (Contains-push st.records r) refl room (λ new. refl) (λ old. absurd (true≢false old))
  where
    r : Rec
    r = new_record st entry source penalty

    valid : is_valid entry.peer.addr ≡ true
    valid =
        (and_parts (is_valid entry.peer.addr) (not (is_local entry.peer.addr))
        (and_parts (is_valid entry.peer.addr && not (is_local entry.peer.addr)) (not (reserved_by entry.peer.addr.net entry.peer.addr.bytes)) routable).0).0

    room : HasRoom r
    room = record {
      fields = record {
        addr = addr;
        port = port;
        source = from;
        time = omega arith;
        services = services;
        last_success = omega arith;
        last_try = omega arith;
        last_count = omega arith;
        attempts = omega arith;
        place = tt;
      };
      few = omega arith;
      below = λ k d within. absurd (omega arith);
      rising = λ k within. absurd (omega arith);
    }

-- the state after an entry from a source is sound
pub sound_add : (st : State) (now : ℕ) (entry : Entry) (source : Address) (penalty word : ℕ) → IsSound st → st.next_number < 2 ^ 63
    → IsAddress entry.peer.addr → entry.peer.port < 2 ^ 16 → IsAddress source → entry.time < 2 ^ 32 → entry.services < 2 ^ 64
    → IsSound (add st now entry source penalty word).state
sound_add st now entry source penalty word sound next addr port from time services =
    by (is_routable entry.peer.addr) (find_peer st entry.peer) refl refl
  where
    by : (routable : Bool) (o : Option Rec) → is_routable entry.peer.addr ≡ routable → find_peer st entry.peer ≡ o
        → IsSound (if routable then add_by o st now entry source (penalty_of entry source penalty) word else no st).state
    by true None routable missing = unknown-sound st now entry source (penalty_of entry source penalty) sound next missing routable addr port from time services
    by true (Some r) routable found =
        known-sound st now r entry source (penalty_of entry source penalty) word sound (peer_found st.records entry.peer r found).0 time services
    by false o other found = sound
