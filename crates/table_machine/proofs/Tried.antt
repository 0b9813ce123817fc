-- The parts of a move to tried: a record leaves its buckets, the occupant of its tried slot goes
-- back to new, and the record takes the slot.
use Rattle.std.proofs.Common.{◌≡◌, ℕ, ◌<◌, true, false, [], ◌∷◌, Contains, None, refl, sym, ap, subst, ◌∙◌, inr, ⊎_elim, arith}
use Rattle.std.proofs.lemmas.Bool.{both_ways}
use Rattle.std.proofs.lemmas.List.Elements.{All-cons}
use Rattle.net_addr.specs.declared.peer.Peer.{Peer}
use Rattle.placing.specs.Places.{Places, new_slot, tried_bucket, tried_slot}
use Rattle.peer_rec.specs.Rec.{IsRec, is_tried}
use Rattle.peer_rec.specs.declared.rec.Rec.{Rec}
use Rattle.peer_rec.specs.declared.place.Place.TheVariants.{New, Tried}
use Rattle.table_machine.specs.State.{State, is_new_at, is_tried_at, new_rec_at, tried_occupant}
use Rattle.table_machine.specs.Entries.{with_record}
use Rattle.table_machine.specs.Sound.{IsSound}
use Rattle.table_machine.proofs.Lists.{find-None, none_in_nil, Contains-cases}
use Rattle.table_machine.proofs.Buckets.{IsRec-placed, placed}
use Rattle.table_machine.proofs.Records.{changed_cases, changed_own, new_at_parts, own_slot, tried_at_from, tried_at_parts}
use Rattle.table_machine.proofs.SoundBut.{IsMidway, sound_from_midway}
use Rattle.table_machine.proofs.Primitives.{IsAtTried, IsOnlyAt, change-keeps}
use Rattle.table_machine.proofs.Slots.{only-untried}

-- a record in new leaves all its buckets
pub bare-keeps : (MayBeEmpty : Peer → Type 0) (st : State) (r : Rec) → IsMidway r.number MayBeEmpty st → Contains st.records r → is_tried r ≡ false
    → IsMidway r.number MayBeEmpty (with_record st (placed r (New [])))
bare-keeps MayBeEmpty st r but has untried =
    change-keeps r.number MayBeEmpty st r (placed r (New [])) but has refl refl
    (λ bucket slot q c at other. absurd (none_in_nil bucket (new_at_parts st.places bucket slot (placed r (New [])) at).0))
    (only-untried st (placed r (New [])) refl) (λ tried. absurd (both_ways (is_tried r) untried tried)) (λ other. absurd (other refl))

-- a record in tried goes back to an empty slot of the new table, and its tried slot may be empty
pub back-keeps : (n : ℕ) (MayBeEmpty : Peer → Type 0) (st : State) (r : Rec) (bucket : ℕ) → IsMidway n MayBeEmpty st → Contains st.records r → IsRec r → bucket < 1024
    → new_rec_at st bucket (new_slot st.places r.peer bucket) ≡ None → ((p : Peer) → IsAtTried st p r → MayBeEmpty p)
    → IsMidway n MayBeEmpty (with_record st (placed r (New (bucket ∷ []))))
back-keeps n MayBeEmpty st r bucket but has fits below empty opens =
    change-keeps n MayBeEmpty st r (placed r (New (bucket ∷ []))) but has refl refl
    (λ b slot q c at at_q.
    let parts = new_at_parts st.places b slot (placed r (New (bucket ∷ []))) at in
    let is : bucket ≡ b = ⊎_elim (λ same. same) (λ none. absurd (none_in_nil b none)) (Contains-cases bucket [] b parts.0) in
    let at_own : is_new_at st.places bucket (new_slot st.places r.peer bucket) q ≡ true =
    subst (λ k. is_new_at st.places bucket k q ≡ true) (sym parts.1 ∙ ap (new_slot st.places r.peer) (sym is))
    (subst (λ k. is_new_at st.places k slot q ≡ true) (sym is) at_q) in
    absurd (both_ways _ (find-None (is_new_at st.places bucket (new_slot st.places r.peer bucket)) st.records q empty c) at_own))
    (only-untried st (placed r (New (bucket ∷ []))) refl) (λ tried. inr opens)
    (λ other. IsRec-placed r r.place (New (bucket ∷ [])) fits record {
      some = omega arith;
      most = omega arith;
      below = All-cons (λ b. b < 1024) bucket [] below (λ k d within. absurd (omega arith));
      rising = λ k within. absurd (omega arith);
    })

-- two peers share a tried slot
abbrev pub SharesTried : Places → Peer → Peer → Type 0
SharesTried places p q =
    (tried_bucket places p ≡ tried_bucket places q) × (own_slot places p ≡ own_slot places q)

-- a record takes its tried slot, which is empty, and the state is sound again
pub take_tried-sound : (st : State) (r : Rec) → IsMidway r.number (SharesTried st.places r.peer) st → Contains st.records r → is_tried r ≡ false
    → IsRec (placed r Tried) → tried_occupant st r.peer ≡ None
    → IsSound (with_record st (placed r Tried))
take_tried-sound st r but has untried fits empty =
    sound_from_midway r.number (SharesTried st.places r.peer) (with_record st (placed r Tried))
    (change-keeps r.number (SharesTried st.places r.peer) st r (placed r Tried) but has refl refl
    (λ bucket slot q c at other. absurd (none_in_nil bucket (new_at_parts st.places bucket slot (placed r Tried) at).0))
    only (λ tried. absurd (both_ways (is_tried r) untried tried)) (λ other. fits))
    (λ p shares. (
      placed r Tried,
      changed_own r.number (placed r Tried) st.records r has refl,
      tried_at_from st.places (tried_bucket st.places p) (own_slot st.places p) (placed r Tried) refl shares.0
          (ap (tried_slot st.places r.peer) (sym shares.0) ∙ shares.1),
    ))
    (λ q c own. ⊎_elim (λ is. subst IsRec is fits) (λ h. absurd (h.1 own)) (changed_cases r.number (placed r Tried) st.records q c))
  where
    only : IsOnlyAt (is_tried_at st.places) st.records (placed r Tried)
    only bucket slot q c at at_q =
        let own = tried_bucket st.places r.peer in
        let parts = tried_at_parts st.places bucket slot (placed r Tried) at in
        let at_own : is_tried_at st.places own (tried_slot st.places r.peer own) q ≡ true =
        subst (λ k. is_tried_at st.places own k q ≡ true) (sym parts.1 ∙ ap (tried_slot st.places r.peer) (sym parts.0))
        (subst (λ k. is_tried_at st.places k slot q ≡ true) (sym parts.0) at_q) in
        absurd (both_ways _ (find-None (is_tried_at st.places own (tried_slot st.places r.peer own)) st.records q empty c) at_own)
