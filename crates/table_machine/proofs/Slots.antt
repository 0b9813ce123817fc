-- A record takes a slot of the new table, and leaves one.
use Rattle.std.proofs.Common.{◌≡◌, ◌≢◌, ℕ, ◌<◌, Bool, true, false, ◌==◌, [], length, Contains, Option, Some, None, refl, sym, ap, subst, ◌∙◌, inl, inr, ⊎_elim, ◌⊎◌, arith, if◌then◌else◌}
use Rattle.std.proofs.lemmas.Bool.{both_ways, eqb-false}
use Rattle.std.proofs.lemmas.Bool.Decides.{Decides-eqb}
use Rattle.net_addr.specs.Address.{Address}
use Rattle.net_addr.specs.declared.peer.Peer.{Peer}
use Rattle.placing.specs.Places.{new_bucket, new_slot}
use Rattle.peer_rec.specs.Buckets.{with_bucket, without_bucket}
use Rattle.peer_rec.specs.Rec.{IsRec, buckets_by, buckets_of, is_tried, tried_by}
use Rattle.peer_rec.specs.declared.rec.Rec.{Rec}
use Rattle.peer_rec.specs.declared.place.Place.{Place}
use Rattle.peer_rec.specs.declared.place.Place.TheVariants.{New, Tried}
use Rattle.table_machine.specs.State.{State, is_new_at, is_tried_at, new_rec_at}
use Rattle.table_machine.specs.Entries.{delete, give_bucket, take_bucket, clear_slot, makes_way, enter_bucket, enter_slot, yes, no}
use Rattle.table_machine.specs.Sound.{IsSound}
use Rattle.table_machine.proofs.Lists.{find-Some, find-None, find_none_from, none_in_nil}
use Rattle.table_machine.proofs.Buckets.{HasRoom, IsRec-with_bucket, IsRec-without_bucket, placed, with_bucket-cases, without_bucket-cases, new_bucket-below}
use Rattle.table_machine.proofs.Records.{changed_cases, changed_other, new_at_parts, new_at_from, tried_at-is_tried, same_record, without_number-cases, without_number-keeps}
use Rattle.table_machine.proofs.SoundBut.{IsMidway, IsSoundBut, Never, sound_from_but}
use Rattle.table_machine.proofs.Primitives.{IsOnlyAt, change-keeps, delete-keeps}

-- a record that lists a bucket is not in tried
pub untried-listed : (r : Rec) (bucket : ℕ) → Contains (buckets_of r) bucket → is_tried r ≡ false
untried-listed r bucket c = by r.place c
  where
    by : (place : Place) → Contains (buckets_by place) bucket → tried_by place ≡ false
    by (New buckets) listed = refl
    by Tried listed = absurd (none_in_nil bucket listed)

-- a record that is not in tried is at no tried slot
pub only-untried : (st : State) (r : Rec) → is_tried r ≡ false → IsOnlyAt (is_tried_at st.places) st.records r
only-untried st r untried bucket slot q c at other = absurd (both_ways (is_tried r) untried (tried_at-is_tried st.places bucket slot r at))

-- a record that takes an empty slot of the new table is alone there
pub only-given : (st : State) (r : Rec) (bucket : ℕ) → IsOnlyAt (is_new_at st.places) st.records r → new_rec_at st bucket (new_slot st.places r.peer bucket) ≡ None
    → IsOnlyAt (is_new_at st.places) st.records (placed r (New (with_bucket bucket (buckets_of r))))
only-given st r bucket only empty b slot q c at_given at_q =
    let parts = new_at_parts st.places b slot (placed r (New (with_bucket bucket (buckets_of r)))) at_given in
    by parts.1 (with_bucket-cases bucket (buckets_of r) b parts.0)
  where
    by : new_slot st.places r.peer b ≡ slot → (b ≡ bucket) ⊎ Contains (buckets_of r) b → q.number ≡ r.number
    by is (inl same) =
        let slots : slot ≡ new_slot st.places r.peer bucket = sym is ∙ ap (new_slot st.places r.peer) same in
        let at : is_new_at st.places bucket (new_slot st.places r.peer bucket) q ≡ true =
        subst (λ k. is_new_at st.places bucket k q ≡ true) slots (subst (λ k. is_new_at st.places k slot q ≡ true) same at_q) in
        absurd (both_ways _ (find-None (is_new_at st.places bucket (new_slot st.places r.peer bucket)) st.records q empty c) at)
    by is (inr old) = only b slot q c (new_at_from st.places b slot r old is) at_q

-- A record takes an empty slot of the new table.
module _ (n : ℕ) (MayBeEmpty : Peer → Type 0) (st : State) (r : Rec) (bucket : ℕ) (but : IsMidway n MayBeEmpty st) (has : Contains st.records r) (untried : is_tried r ≡ false)
    (room : HasRoom r) (below : bucket < 1024) (empty : new_rec_at st bucket (new_slot st.places r.peer bucket) ≡ None) where
  pub given : Rec
  given = placed r (New (with_bucket bucket (buckets_of r)))

  pub give-keeps : IsMidway n MayBeEmpty (give_bucket st r bucket)
  give-keeps =
      change-keeps n MayBeEmpty st r (placed r (New (with_bucket bucket (buckets_of r)))) but has refl refl
      (only-given st r bucket (λ b slot q c at_r at_q. but.new_slots b slot q r c has at_q at_r) empty)
      (only-untried st (placed r (New (with_bucket bucket (buckets_of r)))) refl)
      (λ tried. absurd (both_ways (is_tried r) untried tried)) (λ other. IsRec-with_bucket r bucket room below)

-- the state is sound again if that record is the exempt one
pub give-sound : (st : State) (r : Rec) (bucket : ℕ) → IsSoundBut r.number st → Contains st.records r → is_tried r ≡ false → HasRoom r → bucket < 1024
    → new_rec_at st bucket (new_slot st.places r.peer bucket) ≡ None → IsSound (give_bucket st r bucket)
give-sound st r bucket but has untried room below empty =
    sound_from_but r.number (give_bucket st r bucket) (give-keeps r.number Never st r bucket but has untried room below empty)
    (λ q c own. ⊎_elim (λ is. subst IsRec is (IsRec-with_bucket r bucket room below)) (λ h. absurd (h.1 own))
    (changed_cases r.number (placed r (New (with_bucket bucket (buckets_of r)))) st.records q c))

-- A record leaves one of its slots in the new table.
module _ (n : ℕ) (MayBeEmpty : Peer → Type 0) (st : State) (r : Rec) (bucket : ℕ) (but : IsMidway n MayBeEmpty st) (has : Contains st.records r) (untried : is_tried r ≡ false)
    (fits : IsRec r) (some : 0 < length (without_bucket bucket (buckets_of r))) where
  pub take-keeps : IsMidway n MayBeEmpty (take_bucket st r bucket)
  take-keeps =
      change-keeps n MayBeEmpty st r (placed r (New (without_bucket bucket (buckets_of r)))) but has refl refl
      (λ b slot q c at_taken at_q.
      let parts = new_at_parts st.places b slot (placed r (New (without_bucket bucket (buckets_of r)))) at_taken in
      but.new_slots b slot q r c has at_q (new_at_from st.places b slot r (without_bucket-cases bucket (buckets_of r) b parts.0).0 parts.1))
      (only-untried st (placed r (New (without_bucket bucket (buckets_of r)))) refl)
      (λ tried. absurd (both_ways (is_tried r) untried tried)) (λ other. IsRec-without_bucket r bucket fits some)

-- The occupant of a slot leaves it, and is deleted if that was its last.
module _ (n : ℕ) (MayBeEmpty : Peer → Type 0) (st : State) (occupant : Rec) (bucket slot : ℕ) (but : IsMidway n MayBeEmpty st)
    (is : new_rec_at st bucket slot ≡ Some occupant) (fits : IsRec occupant) where
  there : Contains st.records occupant × (is_new_at st.places bucket slot occupant ≡ true)
  there = find-Some (is_new_at st.places bucket slot) st.records occupant is

  untried : is_tried occupant ≡ false
  untried = untried-listed occupant bucket (new_at_parts st.places bucket slot occupant there.1).0

  -- no other record is at the slot
  only : (q : Rec) → Contains st.records q → is_new_at st.places bucket slot q ≡ true → q.number ≡ occupant.number
  only q c at = but.new_slots bucket slot q occupant c there.0 at there.1

  pub delete-empties : new_rec_at (delete st occupant) bucket slot ≡ None
  delete-empties =
      find_none_from (is_new_at st.places bucket slot) (delete st occupant).records
      (λ q c at. let h = without_number-cases occupant.number st.records q c in h.1 (only q h.0 at))

  pub take-empties : new_rec_at (take_bucket st occupant bucket) bucket slot ≡ None
  take-empties =
      find_none_from (is_new_at st.places bucket slot) (take_bucket st occupant bucket).records
      (λ q c at. ⊎_elim
      (λ same. (without_bucket-cases bucket (buckets_of occupant) bucket
      (new_at_parts st.places bucket slot (placed occupant (New (without_bucket bucket (buckets_of occupant))))
      (subst (λ (t : Rec). is_new_at st.places bucket slot t ≡ true) (sym same) at)).0).1 refl)
      (λ h. h.1 (only q h.0 at))
      (changed_cases occupant.number (placed occupant (New (without_bucket bucket (buckets_of occupant)))) st.records q c))

  pub clear_slot-keeps : IsMidway n MayBeEmpty (clear_slot st occupant bucket)
  clear_slot-keeps = by (length (without_bucket bucket (buckets_of occupant)) == 0) refl
    where
      by : (b : Bool) → (length (without_bucket bucket (buckets_of occupant)) == 0) ≡ b → IsMidway n MayBeEmpty (if b then delete st occupant else take_bucket st occupant bucket)
      by true none = delete-keeps n MayBeEmpty st occupant but there.0 untried
      by false some =
          let differs = eqb-false _ _ some in
          take-keeps n MayBeEmpty st occupant bucket but there.0 untried fits (omega arith)

-- a record takes the slot of an occupant that makes way
pub evict-sound : (st : State) (r occupant : Rec) (bucket : ℕ) → IsSoundBut r.number st → Contains st.records r → is_tried r ≡ false → HasRoom r → bucket < 1024
    → new_rec_at st bucket (new_slot st.places r.peer bucket) ≡ Some occupant → r.number ≢ occupant.number → IsSound (give_bucket (clear_slot st occupant bucket) r bucket)
evict-sound st r occupant bucket but has untried room below is other =
    by (length (without_bucket bucket (buckets_of occupant)) == 0) (clear_slot-keeps r.number Never st occupant bucket slot but is fits)
  where
    slot : ℕ
    slot = new_slot st.places r.peer bucket

    fits : IsRec occupant
    fits = but.records occupant (find-Some (is_new_at st.places bucket slot) st.records occupant is).0 (λ same. other (sym same))

    by : (b : Bool) → IsSoundBut r.number (if b then delete st occupant else take_bucket st occupant bucket)
        → IsSound (give_bucket (if b then delete st occupant else take_bucket st occupant bucket) r bucket)
    by true cleared =
        give-sound (delete st occupant) r bucket cleared (without_number-keeps occupant.number st.records r has other) untried room below
        (delete-empties r.number Never st occupant bucket slot but is fits)
    by false cleared =
        give-sound (take_bucket st occupant bucket) r bucket cleared
        (changed_other occupant.number (placed occupant (New (without_bucket bucket (buckets_of occupant)))) st.records r has other) untried room below
        (take-empties r.number Never st occupant bucket slot but is fits)

-- A record that has room is to get a bucket. One that was made for this entry lists none; a known
-- one fits as it is.
pub enter-sound : (st : State) (now : ℕ) (r : Rec) (is_new : Bool) (source : Address) → IsSoundBut r.number st → Contains st.records r → is_tried r ≡ false → HasRoom r
    → (is_new ≡ true → buckets_of r ≡ []) → (is_new ≡ false → IsRec r) → IsSound (enter_bucket st now r is_new source).state
enter-sound st now r is_new source but has untried room none fits = by (new_rec_at st bucket (new_slot st.places r.peer bucket)) refl
  where
    bucket : ℕ
    bucket = new_bucket st.places r.peer source

    below : bucket < 1024
    below = new_bucket-below st.places r.peer source

    -- a record that fits as it is
    as_it_was : is_new ≡ false → IsSound st
    as_it_was old = sound_from_but r.number st but (λ q c own. subst IsRec (same_record st.records r q but.listed.rising has c (sym own)) (fits old))

    -- a record made for this entry is not the occupant of a slot
    own : (occupant : Rec) → new_rec_at st bucket (new_slot st.places r.peer bucket) ≡ Some occupant → occupant.number ≡ r.number → (b : Bool) → is_new ≡ b → IsSound st
    own occupant is same true new =
        let h = find-Some (is_new_at st.places bucket (new_slot st.places r.peer bucket)) st.records occupant is in
        let one = same_record st.records occupant r but.listed.rising h.0 has same in
        let listed = (new_at_parts st.places bucket (new_slot st.places r.peer bucket) occupant h.1).0 in
        absurd (none_in_nil bucket (subst (λ bs. Contains bs bucket) (ap buckets_of one ∙ none new) listed))
    own occupant is same false old = as_it_was old

    stays : (b : Bool) → is_new ≡ b → IsSound (if b then delete st r else st)
    stays true new =
        sound_from_but r.number (delete st r) (delete-keeps r.number Never st r but has untried)
        (λ q c same. absurd ((without_number-cases r.number st.records q c).1 same))
    stays false old = as_it_was old

    taken : (occupant : Rec) → new_rec_at st bucket (new_slot st.places r.peer bucket) ≡ Some occupant
        → (same way : Bool) → (occupant.number == r.number) ≡ same
        → IsSound (if same then no st else if way then yes (give_bucket (clear_slot st occupant bucket) r bucket) else no (if is_new then delete st r else st)).state
    taken occupant is true way same = own occupant is ((Decides-eqb occupant.number r.number).0 same) is_new refl
    taken occupant is false true other = evict-sound st r occupant bucket but has untried room below is (λ same. eqb-false _ _ other (sym same))
    taken occupant is false false other = stays is_new refl

    by : (o : Option Rec) → new_rec_at st bucket (new_slot st.places r.peer bucket) ≡ o → IsSound (enter_slot st now r is_new bucket o).state
    by None is = give-sound st r bucket but has untried room below is
    by (Some occupant) is = taken occupant is (occupant.number == r.number) (makes_way occupant r now) refl
