-- The state after a record has moved to tried is sound.
use Rattle.std.proofs.Common.{◌≡◌, ◌≢◌, ℕ, ◌<◌, Bool, true, false, [], ◌∷◌, length, Contains, Option, Some, None, refl, sym, ap, subst, ◌∙◌, ⊎_elim, if◌then◌else◌, ◌==◌}
use Rattle.std.proofs.lemmas.Bool.{both_ways}
use Rattle.std.proofs.lemmas.List.Elements.{All-contains}
use Rattle.net_addr.specs.declared.peer.Peer.{Peer}
use Rattle.placing.specs.Places.{new_bucket, new_slot, tried_bucket, tried_slot}
use Rattle.peer_rec.specs.Buckets.{without_bucket}
use Rattle.peer_rec.specs.Rec.{IsRec, buckets_of, is_tried}
use Rattle.peer_rec.specs.declared.rec.Rec.{Rec}
use Rattle.peer_rec.specs.declared.place.Place.TheVariants.{New, Tried}
use Rattle.table_machine.specs.State.{State, is_new_at, new_rec_at, tried_occupant}
use Rattle.table_machine.specs.Entries.{delete, take_bucket, with_record}
use Rattle.table_machine.specs.Sound.{IsSound}
use Rattle.table_machine.specs.Tried.{back_to_new, clear_new, displace, move_to_tried}
use Rattle.table_machine.proofs.Lists.{find-Some, find_none_from, none_in_nil}
use Rattle.table_machine.proofs.Buckets.{IsRec-placed, new_bucket-below, placed}
use Rattle.table_machine.proofs.Records.{changed_cases, changed_other, changed_own, new_at_parts, own_slot, same_record, tried_at-is_tried, tried_at_parts, without_number-keeps}
use Rattle.table_machine.proofs.SoundBut.{IsMidway, Never, is_at_own, midway_more, sound_but}
use Rattle.table_machine.proofs.Primitives.{IsAtTried}
use Rattle.table_machine.proofs.Slots.{clear_slot-keeps, delete-empties, take-empties, untried-listed}
use Rattle.table_machine.proofs.Tried.{SharesTried, back-keeps, bare-keeps, take_tried-sound}

-- the last two parts: the occupant of the tried slot goes back to an empty slot of the new table,
-- and the record, in no bucket, takes the tried slot
settle : (st : State) (r old : Rec) (bucket : ℕ) → IsMidway r.number (SharesTried st.places r.peer) st → Contains st.records (placed r (New []))
    → Contains st.records old → IsAtTried st r.peer old → bucket < 1024 → new_rec_at st bucket (new_slot st.places old.peer bucket) ≡ None → IsRec (placed r Tried)
    → IsSound (with_record (with_record st (placed old (New (bucket ∷ [])))) (placed r Tried))
settle st r old bucket but has_r has_old at below empty fits =
    take_tried-sound (with_record st (placed old (New (bucket ∷ [])))) (placed r (New []))
    (back-keeps r.number (SharesTried st.places r.peer) st old bucket but has_old (but.records old has_old apart) below empty opens)
    (changed_other old.number (placed old (New (bucket ∷ []))) st.records (placed r (New [])) has_r (λ same. apart (sym same)))
    refl fits none
  where
    -- the record in no bucket is not in tried
    apart : old.number ≢ r.number
    apart same =
        let is = same_record st.records old (placed r (New [])) but.listed.rising has_old has_r same in
        let tried = tried_at-is_tried st.places (tried_bucket st.places r.peer) (own_slot st.places r.peer) old at in
        both_ways false refl (subst (λ (t : Rec). is_tried t ≡ true) is tried)

    opens : (p : Peer) → IsAtTried st p old → SharesTried st.places r.peer p
    opens p at_p =
        let own_parts = tried_at_parts st.places (tried_bucket st.places r.peer) (own_slot st.places r.peer) old at in
        let parts = tried_at_parts st.places (tried_bucket st.places p) (own_slot st.places p) old at_p in
        let same = sym own_parts.0 ∙ parts.0 in
        (same, sym own_parts.1 ∙ ap (tried_slot st.places old.peer) same ∙ parts.1)

    none : tried_occupant (with_record st (placed old (New (bucket ∷ [])))) r.peer ≡ None
    none =
        find_none_from (is_at_own st.places r.peer) (with_record st (placed old (New (bucket ∷ [])))).records
        (λ q c at_q. ⊎_elim
        (λ is. both_ways false refl (subst (λ (t : Rec). is_tried t ≡ true) (sym is)
        (tried_at-is_tried st.places (tried_bucket st.places r.peer) (own_slot st.places r.peer) q at_q)))
        (λ h. h.1 (but.tried_slots (tried_bucket st.places r.peer) (own_slot st.places r.peer) q old h.0 has_old at_q at))
        (changed_cases old.number (placed old (New (bucket ∷ []))) st.records q c))

-- the slot to which that occupant goes back is cleared first
displaced : (st : State) (r old : Rec) → IsMidway r.number (SharesTried st.places r.peer) st → Contains st.records (placed r (New []))
    → Contains st.records old → IsAtTried st r.peer old → IsRec (placed r Tried) → IsSound (with_record (back_to_new st old) (placed r Tried))
displaced st r old but has_r has_old at fits = by (new_rec_at st bucket slot) refl
  where
    bucket : ℕ
    bucket = new_bucket st.places old.peer old.source

    slot : ℕ
    slot = new_slot st.places old.peer bucket

    below : bucket < 1024
    below = new_bucket-below st.places old.peer old.source

    tried : is_tried old ≡ true
    tried = tried_at-is_tried st.places (tried_bucket st.places r.peer) (own_slot st.places r.peer) old at

    by : (o : Option Rec) → new_rec_at st bucket slot ≡ o
        → IsSound (with_record (with_record (clear_new st bucket o) (placed old (New (bucket ∷ [])))) (placed r Tried))
    by None empty = settle st r old bucket but has_r has_old at below empty fits
    by (Some occupant) is = cleared (length (without_bucket bucket (buckets_of occupant)) == 0) (clear_slot-keeps r.number (SharesTried st.places r.peer) st occupant bucket slot but is occupant_fits)
      where
        lists : Contains st.records occupant × Contains (buckets_of occupant) bucket
        lists =
            let h = find-Some (is_new_at st.places bucket slot) st.records occupant is in
            (h.0, (new_at_parts st.places bucket slot occupant h.1).0)

        -- neither the record that moves nor the one that goes back
        other_r : r.number ≢ occupant.number
        other_r same =
            let one = same_record st.records (placed r (New [])) occupant but.listed.rising has_r lists.0 same in
            none_in_nil bucket (subst (λ bs. Contains bs bucket) (ap buckets_of (sym one)) lists.1)

        other_old : old.number ≢ occupant.number
        other_old same =
            let one = same_record st.records old occupant but.listed.rising has_old lists.0 same in
            both_ways (is_tried occupant) (untried-listed occupant bucket lists.1) (subst (λ (t : Rec). is_tried t ≡ true) one tried)

        occupant_fits : IsRec occupant
        occupant_fits = but.records occupant lists.0 (λ same. other_r (sym same))

        cleared : (b : Bool) → IsMidway r.number (SharesTried st.places r.peer) (if b then delete st occupant else take_bucket st occupant bucket)
            → IsSound (with_record (with_record (if b then delete st occupant else take_bucket st occupant bucket) (placed old (New (bucket ∷ [])))) (placed r Tried))
        cleared true midway =
            settle (delete st occupant) r old bucket midway (without_number-keeps occupant.number st.records (placed r (New [])) has_r other_r)
            (without_number-keeps occupant.number st.records old has_old other_old) at below
            (delete-empties r.number (SharesTried st.places r.peer) st occupant bucket slot but is occupant_fits) fits
        cleared false midway =
            settle (take_bucket st occupant bucket) r old bucket midway
            (changed_other occupant.number (placed occupant (New (without_bucket bucket (buckets_of occupant)))) st.records (placed r (New [])) has_r other_r)
            (changed_other occupant.number (placed occupant (New (without_bucket bucket (buckets_of occupant)))) st.records old has_old other_old) at below
            (take-empties r.number (SharesTried st.places r.peer) st occupant bucket slot but is occupant_fits) fits

-- a record in new moves to tried
pub move-sound : (st : State) (r : Rec) → IsSound st → Contains st.records r → is_tried r ≡ false → IsSound (move_to_tried st r)
move-sound st r sound has untried = by (tried_occupant (with_record st (placed r (New []))) r.peer) refl
  where
    midway : IsMidway r.number (SharesTried st.places r.peer) (with_record st (placed r (New [])))
    midway =
        midway_more r.number (SharesTried st.places r.peer) (with_record st (placed r (New [])))
        (bare-keeps Never st r (sound_but r.number st sound) has untried)

    there : Contains (with_record st (placed r (New []))).records (placed r (New []))
    there = changed_own r.number (placed r (New [])) st.records r has refl

    fits : IsRec (placed r Tried)
    fits = IsRec-placed r r.place Tried (All-contains IsRec st.records r sound.records has) tt

    by : (o : Option Rec) → tried_occupant (with_record st (placed r (New []))) r.peer ≡ o
        → IsSound (with_record (displace (with_record st (placed r (New []))) o) (placed r Tried))
    by None empty = take_tried-sound (with_record st (placed r (New []))) (placed r (New [])) midway there refl fits empty
    by (Some old) is =
        let h = find-Some (is_at_own st.places r.peer) (with_record st (placed r (New []))).records old is in
        displaced (with_record st (placed r (New []))) r old midway there h.0 h.1 fits
