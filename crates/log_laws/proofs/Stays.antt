-- A record stays in the tried table, or another takes its slot.
use Rattle.std.proofs.Common.{◌≡◌, ◌≢◌, ℕ, ◌%◌, ◌^◌, ◌==◌, ◌||◌, nat_le, Bool, true, false, List, [], ◌∷◌, length, Contains, Option, Some, None, refl, sym, ap, subst, ◌∙◌, inl, inr, ⊎_elim, ◌⊎◌, true≢false, if◌then◌else◌}
use Rattle.std.specs.Bool.{⊤}
use Rattle.std.proofs.lemmas.Bool.{both_ways, cases_eq}
use Rattle.std.proofs.lemmas.List.Elements.{Contains-push_cases, Contains-append_left}
use Rattle.net_addr.specs.Address.{Address}
use Rattle.net_addr.specs.Ranges.{is_routable}
use Rattle.net_addr.specs.declared.peer.Entry.{Entry}
use Rattle.net_addr.specs.declared.peer.Peer.{Peer}
use Rattle.placing.specs.Places.{new_bucket, new_slot, tried_bucket}
use Rattle.peer_rec.specs.Buckets.{with_bucket, without_bucket}
use Rattle.peer_rec.specs.Rec.{buckets_by, buckets_of, is_tried, tried_by}
use Rattle.peer_rec.specs.declared.place.Place.{Place}
use Rattle.peer_rec.specs.declared.rec.Rec.{Rec}
use Rattle.peer_rec.specs.declared.place.Place.TheVariants.{New, Tried}
use Rattle.table_machine.specs.State.{State, find_peer, is_new_at, new_rec_at, tried_occupant}
use Rattle.table_machine.specs.Entries.{add, add_by, clear_slot, delete, enter_bucket, enter_slot, give_bucket, makes_way, new_record, no, penalty_of, refresh, take_bucket, with_last, with_record, yes}
use Rattle.table_machine.specs.Tried.{back_to_new, clear_new, displace, move_to_tried}
use Rattle.table_machine.proofs.Buckets.{placed}
use Rattle.table_machine.proofs.Lists.{find-Some, none_in_nil}
use Rattle.table_machine.proofs.Records.{changed_cases, changed_other, changed_own, new_at_parts, own_slot, peer_found, tried_at-is_tried, without_number-cases, without_number-keeps}
use Rattle.table_machine.proofs.SoundBut.{is_at_own}

-- a record of this peer in this place, with such a last success
abbrev pub Fits : Place → Peer → (ℕ → Type 0) → Rec → Type 0
Fits place peer Success q = (q.peer ≡ peer) × (q.place ≡ place) × Success q.last_success

-- a record of the number is there, and each one fits
pub record Stays (place : Place) (n : ℕ) (peer : Peer) (Success : ℕ → Type 0) (records : List Rec) : Type 0 where
  pub there : (q : Rec) × Contains records q × (q.number ≡ n)
  pub each : (q : Rec) → Contains records q → q.number ≡ n → Fits place peer Success q

-- a place that lists no bucket: tried, or new in the middle of a move
module _ (place : Place) (bare : buckets_by place ≡ []) (n : ℕ) (peer : Peer) (Success : ℕ → Type 0) where
  abbrev S : List Rec → Type 0
  S records = Stays place n peer Success records

  abbrev F : Rec → Type 0
  F q = Fits place peer Success q

  pub changed-stays : (st : State) (r : Rec) → S st.records → (r.number ≡ n → F r) → S (with_record st r).records
  changed-stays st r s fits = record {
    there = by (cases_eq r.number n);
    each = λ q c is. ⊎_elim (λ same. subst F same (fits (ap (λ (t : Rec). t.number) same ∙ is))) (λ h. s.each q h.0 is) (changed_cases r.number r st.records q c);
  }
    where
      by : (r.number ≡ n) ⊎ (r.number ≢ n) → (q : Rec) × Contains (with_record st r).records q × (q.number ≡ n)
      by (inl same) = (r, changed_own r.number r st.records s.there.0 s.there.1 (s.there.2 ∙ sym same), same)
      by (inr other) = (s.there.0, changed_other r.number r st.records s.there.0 s.there.1 (λ same. other (sym same ∙ s.there.2)), s.there.2)

  pub deleted-stays : (st : State) (r : Rec) → S st.records → r.number ≢ n → S (delete st r).records
  deleted-stays st r s other = record {
    there = (s.there.0, without_number-keeps r.number st.records s.there.0 s.there.1 (λ same. other (sym same ∙ s.there.2)), s.there.2);
    each = λ q c is. s.each q (without_number-cases r.number st.records q c).0 is;
  }

  pub last-stays : (st : State) (r : Rec) → S st.records → r.number ≢ n → S (with_last st r).records
  last-stays st r s other = record {
    there = (s.there.0, Contains-append_left st.records (r ∷ []) s.there.0 s.there.1, s.there.2);
    each = λ q c is. ⊎_elim (λ old. s.each q old is) (λ same. absurd (other (ap (λ (t : Rec). t.number) same ∙ is))) (Contains-push_cases st.records r q c);
  }

  -- a record that lists a bucket has another number
  pub occupant-other : (st : State) (bucket slot : ℕ) (occupant : Rec) → S st.records → new_rec_at st bucket slot ≡ Some occupant → occupant.number ≢ n
  occupant-other st bucket slot occupant s is same =
      let h = find-Some (is_new_at st.places bucket slot) st.records occupant is in
      let listed = (new_at_parts st.places bucket slot occupant h.1).0 in
      none_in_nil bucket (subst (λ bs. Contains bs bucket) (ap buckets_by (s.each occupant h.0 same).1 ∙ bare) listed)

  pub cleared-stays : (st : State) (occupant : Rec) (bucket : ℕ) → S st.records → occupant.number ≢ n → S (clear_slot st occupant bucket).records
  cleared-stays st occupant bucket s other = by (length (without_bucket bucket (buckets_of occupant)) == 0)
    where
      by : (b : Bool) → S (if b then delete st occupant else take_bucket st occupant bucket).records
      by true = deleted-stays st occupant s other
      by false = changed-stays st (placed occupant (New (without_bucket bucket (buckets_of occupant)))) s (λ same. absurd (other same))

  pub entered-stays : (st : State) (now : ℕ) (r : Rec) (is_new : Bool) (source : Address) → S st.records → r.number ≢ n
      → S (enter_bucket st now r is_new source).state.records
  entered-stays st now r is_new source s other = by (new_rec_at st bucket slot) refl
    where
      bucket : ℕ
      bucket = new_bucket st.places r.peer source

      slot : ℕ
      slot = new_slot st.places r.peer bucket

      given : Rec
      given = placed r (New (with_bucket bucket (buckets_of r)))

      occupied : (occupant : Rec) → occupant.number ≢ n → (same way new : Bool)
          → S (if same then no st else if way then yes (give_bucket (clear_slot st occupant bucket) r bucket) else no (if new then delete st r else st)).state.records
      occupied occupant apart true way new = s
      occupied occupant apart false true new = changed-stays (clear_slot st occupant bucket) given (cleared-stays st occupant bucket s apart) (λ same. absurd (other same))
      occupied occupant apart false false true = deleted-stays st r s other
      occupied occupant apart false false false = s

      by : (o : Option Rec) → new_rec_at st bucket slot ≡ o → S (enter_slot st now r is_new bucket o).state.records
      by None none = changed-stays st given s (λ same. absurd (other same))
      by (Some occupant) is = occupied occupant (occupant-other st bucket slot occupant s is) (occupant.number == r.number) (makes_way occupant r now) is_new

  pub back-stays : (st : State) (r : Rec) → S st.records → r.number ≢ n → S (back_to_new st r).records
  back-stays st r s other = by (new_rec_at st bucket slot) refl
    where
      bucket : ℕ
      bucket = new_bucket st.places r.peer r.source

      slot : ℕ
      slot = new_slot st.places r.peer bucket

      by : (o : Option Rec) → new_rec_at st bucket slot ≡ o → S (with_record (clear_new st bucket o) (placed r (New (bucket ∷ [])))).records
      by None none = changed-stays st (placed r (New (bucket ∷ []))) s (λ same. absurd (other same))
      by (Some occupant) is =
          changed-stays (clear_slot st occupant bucket) (placed r (New (bucket ∷ [])))
          (cleared-stays st occupant bucket s (occupant-other st bucket slot occupant s is)) (λ same. absurd (other same))

or_middle : (a b c : Bool) → b ≡ true → (a || b || c) ≡ true
or_middle true b c is = refl
or_middle false true c is = refl
or_middle false false c is = absurd (true≢false (sym is))

-- the record of the number leaves its tried slot for another record, which is in new
pub record IsDisplaced (n : ℕ) (st : State) (r old : Rec) (new : State) : Type 0 where
  pub was : Contains st.records old
  pub number : old.number ≡ n
  pub at : is_at_own st.places r.peer old ≡ true
  pub there : Contains new.records (placed r Tried)
  pub other : r.number ≢ n

-- in the tried table
module _ (n : ℕ) (peer : Peer) (Success : ℕ → Type 0) where
  abbrev T : List Rec → Type 0
  T records = Stays Tried n peer Success records

  untried-other : (st : State) (r : Rec) → T st.records → Contains st.records r → is_tried r ≡ false → r.number ≢ n
  untried-other st r s c untried same = both_ways (is_tried r) untried (ap tried_by (s.each r c same).1)

  -- an entry; the number is an old one
  pub added-stays : (st : State) (now : ℕ) (entry : Entry) (source : Address) (penalty word : ℕ) → n ≢ st.next_number → T st.records
      → T (add st now entry source penalty word).state.records
  added-stays st now entry source penalty word older s = by (is_routable entry.peer.addr) (find_peer st entry.peer) refl
    where
      known : (r : Rec) → (r.number ≡ n → Fits Tried peer Success r) → (stays draw : Bool) → (is_tried r ≡ true → stays ≡ true)
          → T (if stays then no (with_record st r) else if draw then enter_bucket (with_record st r) now r false source else no (with_record st r)).state.records
      known r fits true draw tried = changed-stays Tried refl n peer Success st r s fits
      known r fits false true tried =
          entered-stays Tried refl n peer Success (with_record st r) now r false source (changed-stays Tried refl n peer Success st r s fits) (λ same. true≢false (sym (tried (ap tried_by (fits same).1))))
      known r fits false false tried = changed-stays Tried refl n peer Success st r s fits

      by : (routable : Bool) (o : Option Rec) → find_peer st entry.peer ≡ o
          → T (if routable then add_by o st now entry source (penalty_of entry source penalty) word else no st).state.records
      by true None missing =
          let r = new_record st entry source (penalty_of entry source penalty) in
          entered-stays Tried refl n peer Success (with_last st r) now r true source (last-stays Tried refl n peer Success st r s (λ same. older (sym same))) (λ same. older (sym same))
      by true (Some r) found =
          let fresh = refresh r entry (penalty_of entry source penalty) now in
          known fresh (s.each r (peer_found st.records entry.peer r found).0)
          (nat_le entry.time fresh.time || is_tried fresh || length (buckets_of fresh) == 8) (word % 2 ^ length (buckets_of fresh) == 0)
          (or_middle (nat_le entry.time fresh.time) (is_tried fresh) (length (buckets_of fresh) == 8))
      by false o other = s

  pub moved-stays : (st : State) (r : Rec) → T st.records → Contains st.records r → is_tried r ≡ false
      → T (move_to_tried st r).records ⊎ ((old : Rec) × IsDisplaced n st r old (move_to_tried st r))
  moved-stays st r s has untried = by (tried_occupant left r.peer) refl
    where
      left : State
      left = with_record st (placed r (New []))

      other : r.number ≢ n
      other = untried-other st r s has untried

      s_left : T left.records
      s_left = changed-stays Tried refl n peer Success st (placed r (New [])) s (λ same. absurd (other same))

      own : (o : Option Rec) → (q : Rec) × Contains (displace left o).records q × (q.number ≡ r.number) → Contains (with_record (displace left o) (placed r Tried)).records (placed r Tried)
      own o h = changed_own r.number (placed r Tried) (displace left o).records h.0 h.1 h.2

      by : (o : Option Rec) → tried_occupant left r.peer ≡ o
          → T (with_record (displace left o) (placed r Tried)).records ⊎ ((old : Rec) × IsDisplaced n st r old (with_record (displace left o) (placed r Tried)))
      by None none = inl (changed-stays Tried refl n peer Success left (placed r Tried) s_left (λ same. absurd (other same)))
      by (Some old) is = ⊎_elim gone stays (cases_eq old.number n)
        where
          found : Contains left.records old × (is_at_own st.places r.peer old ≡ true)
          found = find-Some (is_at_own st.places r.peer) left.records old is

          tried : is_tried old ≡ true
          tried = tried_at-is_tried st.places (tried_bucket st.places r.peer) (own_slot st.places r.peer) old found.1

          was : Contains st.records old
          was =
              ⊎_elim (λ same. absurd (both_ways false refl (subst (λ (t : Rec). is_tried t ≡ true) (sym same) tried))) (λ h. h.0)
              (changed_cases r.number (placed r (New [])) st.records old found.0)

          differs : old.number ≢ r.number
          differs same =
              ⊎_elim (λ is. both_ways false refl (subst (λ (t : Rec). is_tried t ≡ true) (sym is) tried)) (λ h. h.1 same)
              (changed_cases r.number (placed r (New [])) st.records old found.0)

          -- the record that moves stays in new meanwhile
          kept : (q : Rec) × Contains (back_to_new left old).records q × (q.number ≡ r.number)
          kept =
              let there : Stays (New []) r.number r.peer (λ t. ⊤) left.records = record {
                there = (placed r (New []), changed_own r.number (placed r (New [])) st.records r has refl, refl);
                each = λ q c is. ⊎_elim (λ same. subst (Fits (New []) r.peer (λ t. ⊤)) same (refl, refl, tt)) (λ h. absurd (h.1 is)) (changed_cases r.number (placed r (New [])) st.records q c);
              } in
              (back-stays (New []) refl r.number r.peer (λ t. ⊤) left old there differs).there

          gone : old.number ≡ n → T (with_record (back_to_new left old) (placed r Tried)).records ⊎ ((q : Rec) × IsDisplaced n st r q (with_record (back_to_new left old) (placed r Tried)))
          gone same = inr (old, record { was = was; number = same; at = found.1; there = own (Some old) kept; other = other })

          stays : old.number ≢ n → T (with_record (back_to_new left old) (placed r Tried)).records ⊎ ((q : Rec) × IsDisplaced n st r q (with_record (back_to_new left old) (placed r Tried)))
          stays apart = inl (changed-stays Tried refl n peer Success (back_to_new left old) (placed r Tried) (back-stays Tried refl n peer Success left old s_left apart) (λ same. absurd (other same)))
