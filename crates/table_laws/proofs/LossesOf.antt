-- An entry of a message loses a terrible record at most.
use Rattle.std.proofs.Common.{◌≡◌, ◌≢◌, ℕ, ◌%◌, ◌^◌, ◌<◌, ◌==◌, ◌&&◌, ◌||◌, nat_le, nat_lt, not, cond, Bool, true, false, List, [], ◌∷◌, length, is_some, filter, AllPairs, Contains, Option, Some, None, refl, sym, ap, subst, ◌∙◌, inl, inr, ⊎_elim, ◌⊎◌, true≢false, arith, if◌then◌else◌}
use Rattle.std.proofs.lemmas.Bool.{both_ways, cases_eq}
use Rattle.std.proofs.lemmas.Bool.Decides.{Decides-eqb}
use Rattle.std.proofs.lemmas.List.Elements.{All-contains, Contains-push_cases, Contains-append_left, Contains-append_right}
use Rattle.std.proofs.lemmas.List.Kept.{AllPairs-from_increasing}
use Rattle.net_addr.specs.Address.{Address}
use Rattle.net_addr.specs.Ranges.{is_routable}
use Rattle.net_addr.specs.declared.peer.Entry.{Entry}
use Rattle.net_addr.specs.declared.peer.Peer.{Peer}
use Rattle.placing.specs.Places.{new_bucket, new_slot}
use Rattle.peer_rec.specs.Buckets.{with_bucket, without_bucket}
use Rattle.peer_rec.specs.Rec.{IsPlace, IsRec, buckets_by, buckets_of, is_terrible, is_tried}
use Rattle.peer_rec.specs.declared.place.Place.{Place}
use Rattle.peer_rec.specs.declared.rec.Rec.{Rec}
use Rattle.peer_rec.specs.declared.place.Place.TheVariants.{New, Tried}
use Rattle.table_machine.specs.Sound.{IsSound}
use Rattle.table_machine.specs.State.{State, find_peer, is_new_at, new_rec_at}
use Rattle.peer_rec.specs.Rec.{tried_by}
use Rattle.placing.specs.Places.{tried_bucket, tried_slot}
use Rattle.table_machine.specs.State.{is_tried_at, outcome, tried_occupant}
use Rattle.table_machine.specs.Tried.{after_success, back_to_new, clear_new, displace, good, good_by, move_to_tried, wait}
use Rattle.peer_rec.specs.declared.answers.Good.TheVariants.{Already, Clash, Moved}
use Rattle.table_machine.specs.Entries.{add, add_by, clear_slot, delete, enter_bucket, enter_slot, give_bucket, makes_way, new_record, no, penalty_of, refresh, take_bucket, with_last, with_record, yes}
use Rattle.table_machine.proofs.Buckets.{placed}
use Rattle.table_machine.proofs.Lists.{Contains-cases, Contains-head, find-Some, none_in_nil}
use Rattle.table_machine.proofs.Records.{changed_cases, changed_other, changed_own, new_at_from, new_at_parts, peer_found, same_record, tried_at-is_tried, without_number-keeps}
use Rattle.table_laws.specs.Losses.{LosesByEntry, LosesBySuccess}

-- a record of the number is in the list
abbrev pub K : ℕ → List Rec → Type 0
K n records = (q : Rec) × Contains records q × (q.number ≡ n)

pub changed-keeps : (n : ℕ) (st : State) (r : Rec) → K n st.records → K n (with_record st r).records
changed-keeps n st r k = by (cases_eq r.number n)
  where
    by : (r.number ≡ n) ⊎ (r.number ≢ n) → K n (with_record st r).records
    by (inl same) = (r, changed_own r.number r st.records k.0 k.1 (k.2 ∙ sym same), same)
    by (inr other) = (k.0, changed_other r.number r st.records k.0 k.1 (λ same. other (sym same ∙ k.2)), k.2)

deleted-keeps : (n : ℕ) (st : State) (r : Rec) → K n st.records → r.number ≢ n → K n (delete st r).records
deleted-keeps n st r k other = (k.0, without_number-keeps r.number st.records k.0 k.1 (λ same. other (sym same ∙ k.2)), k.2)

-- what is lost when a record gets a slot
record IsGone (n : ℕ) (st : State) (now : ℕ) (r : Rec) (bucket : ℕ) (new : State) (old : Rec) : Type 0 where
  pub was : Contains st.records old
  pub number : old.number ≡ n
  pub at : is_new_at st.places bucket (new_slot st.places r.peer bucket) old ≡ true
  pub last : (length (without_bucket bucket (buckets_of old)) == 0) ≡ true
  pub way : makes_way old r now ≡ true
  pub there : Contains new.records (placed r (New (with_bucket bucket (buckets_of r))))
  pub other : r.number ≢ n

module _ (n : ℕ) (st : State) (now : ℕ) (r : Rec) (source : Address) (k : K n st.records) (mine : K r.number st.records) where
  abbrev bucket : ℕ
  bucket = new_bucket st.places r.peer source

  abbrev slot : ℕ
  slot = new_slot st.places r.peer (new_bucket st.places r.peer source)

  abbrev given : Rec
  given = placed r (New (with_bucket (new_bucket st.places r.peer source) (buckets_of r)))

  abbrev Kept : State → Type 0
  Kept new = K n new.records ⊎ ((old : Rec) × IsGone n st now r (new_bucket st.places r.peer source) new old)

  cleared : (occupant : Rec) → new_rec_at st bucket slot ≡ Some occupant → (occupant.number == r.number) ≡ false → makes_way occupant r now ≡ true
      → (empty : Bool) → (length (without_bucket bucket (buckets_of occupant)) == 0) ≡ empty
      → Kept (give_bucket (if empty then delete st occupant else take_bucket st occupant bucket) r bucket)
  cleared occupant is differs way false some =
      inl (changed-keeps n (take_bucket st occupant bucket) given (changed-keeps n st (placed occupant (New (without_bucket bucket (buckets_of occupant)))) k))
  cleared occupant is differs way true last = by (cases_eq occupant.number n)
    where
      found : Contains st.records occupant × (is_new_at st.places bucket slot occupant ≡ true)
      found = find-Some (is_new_at st.places bucket slot) st.records occupant is

      apart : occupant.number ≢ r.number
      apart same = true≢false (sym ((Decides-eqb occupant.number r.number).1 same) ∙ differs)

      by : (occupant.number ≡ n) ⊎ (occupant.number ≢ n) → Kept (give_bucket (delete st occupant) r bucket)
      by (inr other) = inl (changed-keeps n (delete st occupant) given (deleted-keeps n st occupant k other))
      by (inl same) = inr (
        occupant,
        record {
          was = found.0;
          number = same;
          at = found.1;
          last = last;
          way = way;
          there =
              changed_own r.number given (delete st occupant).records mine.0
              (without_number-keeps occupant.number st.records mine.0 mine.1 (λ is_it. apart (sym is_it ∙ mine.2))) mine.2;
          other = λ is_it. apart (same ∙ sym is_it);
        },
      )

  occupied : (occupant : Rec) → new_rec_at st bucket slot ≡ Some occupant → (is_new : Bool) → (is_new ≡ true → r.number ≢ n)
      → (same way : Bool) → (occupant.number == r.number) ≡ same → makes_way occupant r now ≡ way
      → Kept (if same then no st else if way then yes (give_bucket (clear_slot st occupant bucket) r bucket) else no (if is_new then delete st r else st)).state
  occupied occupant is is_new fresh true way e h = inl k
  occupied occupant is is_new fresh false true e h = cleared occupant is e h (length (without_bucket bucket (buckets_of occupant)) == 0) refl
  occupied occupant is true fresh false false e h = inl (deleted-keeps n st r k (fresh refl))
  occupied occupant is false fresh false false e h = inl k

  entered : (is_new : Bool) → (is_new ≡ true → r.number ≢ n) → Kept (enter_bucket st now r is_new source).state
  entered is_new fresh = by (new_rec_at st bucket slot) refl
    where
      by : (o : Option Rec) → new_rec_at st bucket slot ≡ o → Kept (enter_slot st now r is_new bucket o).state
      by None none = inl (changed-keeps n st given k)
      by (Some occupant) is = occupied occupant is is_new fresh (occupant.number == r.number) (makes_way occupant r now) refl refl

-- of a rising list with nothing left without one, that is all
module _ (b : ℕ) where
  none_left : (xs : List ℕ) → Contains xs b → AllPairs (λ x y. x < y) xs → (length (without_bucket b xs) == 0) ≡ true → xs ≡ b ∷ []
  none_left [] c rising none = absurd (none_in_nil b c)
  none_left (x ∷ []) c rising none = ⊎_elim (λ (same : x ≡ b). ap (λ y. y ∷ []) same) (λ rest. absurd (none_in_nil b rest)) (Contains-cases x [] b c)
  none_left (x ∷ y ∷ xs) c rising none = by (x == b) (y == b) refl refl ((Decides-eqb _ 0).0 none)
    where
      by : (p q : Bool) → (x == b) ≡ p → (y == b) ≡ q
          → length (cond (not p) (x ∷ cond (not q) (y ∷ without_bucket b xs) (without_bucket b xs)) (cond (not q) (y ∷ without_bucket b xs) (without_bucket b xs))) ≡ 0
          → x ∷ y ∷ xs ≡ b ∷ []
      by true true e h long =
          let one : x ≡ b = (Decides-eqb x b).0 e in
          let two : y ≡ b = (Decides-eqb y b).0 h in
          let less : x < y = rising 0 1 0 (omega arith) (omega arith) in
          absurd (omega (arith, one, two, less))
      by true false e h long = absurd (omega (arith, long))
      by false q e h long = absurd (omega (arith, long))

rising_of : (place : Place) → IsPlace place → AllPairs (λ x y. x < y) (buckets_by place)
rising_of (New buckets) is = AllPairs-from_increasing buckets is.rising
rising_of Tried is = λ i j d less within. absurd (omega (arith, less, within))

or_first : (a b c : Bool) → b ≡ false → (a || (b && c)) ≡ true → a ≡ true
or_first true b c none is = refl
or_first false b c none is = absurd (true≢false (sym is ∙ ap (λ d. d && c) none))

module _ (st : State) (sound : IsSound st) (now : ℕ) (entry : Entry) where
  -- what is gone was terrible, and in its last slot
  lost : (r q : Rec) (bucket : ℕ) (mid new : State) (old : Rec) → Contains st.records r → mid.places ≡ st.places
      → (Contains mid.records old → old ≡ r) → q.peer ≡ entry.peer → IsGone r.number mid now q bucket new old → LosesByEntry st now entry new r
  lost r q bucket mid new old has same_places is_it peer gone = (
    or_first (is_terrible r now) (nat_lt 1 (length (buckets_of r))) (length (buckets_of q) == 0) (ap (λ bs. nat_lt 1 (length bs)) only) way,
    (
      placed q (New (with_bucket bucket (buckets_of q))),
      record {
        bucket = bucket;
        last = only;
        has = gone.there;
        other = gone.other;
        at = new_at_from st.places bucket (new_slot st.places r.peer bucket) (placed q (New (with_bucket bucket (buckets_of q)))) listed (sym parts.1);
      },
      peer,
    ),
  )
    where
      one : old ≡ r
      one = is_it gone.was

      at : is_new_at st.places bucket (new_slot st.places q.peer bucket) r ≡ true
      at = subst (λ p. is_new_at p bucket (new_slot p q.peer bucket) r ≡ true) same_places (subst (λ (x : Rec). is_new_at mid.places bucket (new_slot mid.places q.peer bucket) x ≡ true) one gone.at)

      parts : Contains (buckets_of r) bucket × (new_slot st.places r.peer bucket ≡ new_slot st.places q.peer bucket)
      parts = new_at_parts st.places bucket (new_slot st.places q.peer bucket) r at

      is_rec : IsRec r
      is_rec = All-contains IsRec st.records r sound.records has

      only : buckets_of r ≡ bucket ∷ []
      only = none_left bucket (buckets_of r) parts.0 (rising_of r.place is_rec.place) (subst (λ (x : Rec). (length (without_bucket bucket (buckets_of x)) == 0) ≡ true) one gone.last)

      way : makes_way r q now ≡ true
      way = subst (λ (x : Rec). makes_way x q now ≡ true) one gone.way

      listed : Contains (with_bucket bucket (buckets_of q)) bucket
      listed = Contains-append_right (filter (λ b. nat_lt b bucket) (buckets_of q)) (bucket ∷ filter (λ b. nat_lt bucket b) (buckets_of q)) bucket (Contains-head bucket (filter (λ b. nat_lt bucket b) (buckets_of q)))

  pub entry_keeps : (source : Address) (penalty word : ℕ) (r : Rec) → Contains st.records r
      → K r.number (add st now entry source penalty word).state.records ⊎ LosesByEntry st now entry (add st now entry source penalty word).state r
  entry_keeps source penalty word r has = by (is_routable entry.peer.addr) (find_peer st entry.peer) refl
    where
      K0 : K r.number st.records
      K0 = (r, has, refl)

      old_number : r.number < st.next_number
      old_number = All-contains (λ q. q.number < st.next_number) st.records r sound.below_next has

      Out : State → Type 0
      Out new = K r.number new.records ⊎ LosesByEntry st now entry new r

      unknown : (q : Rec) → q.number ≡ st.next_number → q.peer ≡ entry.peer → Out (enter_bucket (with_last st q) now q true source).state
      unknown q number peer =
          ⊎_elim inl (λ h. inr (lost r q (new_bucket st.places q.peer source) (with_last st q) (enter_bucket (with_last st q) now q true source).state h.0 has refl (is_it h.0 h.1.number) peer h.1))
          (entered r.number (with_last st q) now q source (r, Contains-append_left st.records (q ∷ []) r has, refl) (q, Contains-append_right st.records (q ∷ []) q (Contains-head q []), refl) true (λ e. apart))
        where
          apart : q.number ≢ r.number
          apart same = omega (arith, same, number, old_number)

          is_it : (old : Rec) → old.number ≡ r.number → Contains (with_last st q).records old → old ≡ r
          is_it old same c = ⊎_elim (λ h. same_record st.records old r sound.rising h has same) (λ (e : q ≡ old). absurd (apart (ap (λ (x : Rec). x.number) e ∙ same))) (Contains-push_cases st.records q old c)

      known : (p q : Rec) → Contains st.records p → q.number ≡ p.number → q.peer ≡ entry.peer → (stays draw : Bool)
          → Out (if stays then no (with_record st q) else if draw then enter_bucket (with_record st q) now q false source else no (with_record st q)).state
      known p q there number peer true draw = inl (changed-keeps r.number st q K0)
      known p q there number peer false false = inl (changed-keeps r.number st q K0)
      known p q there number peer false true =
          ⊎_elim inl (λ h. inr (lost r q (new_bucket st.places q.peer source) (with_record st q) (enter_bucket (with_record st q) now q false source).state h.0 has refl (is_it h.0 h.1.number h.1.other) peer h.1))
          (entered r.number (with_record st q) now q source (changed-keeps r.number st q K0) (q, changed_own q.number q st.records p there (sym number), refl) false (λ e. absurd (true≢false (sym e))))
        where
          is_it : (old : Rec) → old.number ≡ r.number → q.number ≢ r.number → Contains (with_record st q).records old → old ≡ r
          is_it old same other c = ⊎_elim (λ (e : q ≡ old). absurd (other (ap (λ (x : Rec). x.number) e ∙ same))) (λ h. same_record st.records old r sound.rising h.0 has same) (changed_cases q.number q st.records old c)

      by : (routable : Bool) (o : Option Rec) → find_peer st entry.peer ≡ o
          → Out (if routable then add_by o st now entry source (penalty_of entry source penalty) word else no st).state
      by true None missing = unknown (new_record st entry source (penalty_of entry source penalty)) refl refl
      by true (Some p) found =
          let q = refresh p entry (penalty_of entry source penalty) now in
          let h = peer_found st.records entry.peer p found in
          known p (refresh p entry (penalty_of entry source penalty) now) h.0 refl (sym h.1) (nat_le entry.time q.time || is_tried q || length (buckets_of q) == 8) (word % 2 ^ length (buckets_of q) == 0)
      by false o other = inl K0

-- what is lost when a tried record goes back to the new table
record IsPushedOut (n : ℕ) (st : State) (old : Rec) (new : State) (lost : Rec) : Type 0 where
  pub was : Contains st.records lost
  pub number : lost.number ≡ n
  pub at : is_new_at st.places (new_bucket st.places old.peer old.source) (new_slot st.places old.peer (new_bucket st.places old.peer old.source)) lost ≡ true
  pub last : (length (without_bucket (new_bucket st.places old.peer old.source) (buckets_of lost)) == 0) ≡ true
  pub there : Contains new.records (placed old (New (new_bucket st.places old.peer old.source ∷ [])))
  pub other : old.number ≢ n

module _ (n : ℕ) (st : State) (old : Rec) (k : K n st.records) (mine : Contains st.records old) (bare : buckets_of old ≡ [])
    (only : (q : Rec) → Contains st.records q → q.number ≡ old.number → q ≡ old) where
  abbrev home : ℕ
  home = new_bucket st.places old.peer old.source

  abbrev seat : ℕ
  seat = new_slot st.places old.peer (new_bucket st.places old.peer old.source)

  abbrev back : Rec
  back = placed old (New (new_bucket st.places old.peer old.source ∷ []))

  abbrev Pushed : State → Type 0
  Pushed new = K n new.records ⊎ ((lost : Rec) × IsPushedOut n st old new lost)

  pushed : (occupant : Rec) → new_rec_at st home seat ≡ Some occupant → (empty : Bool) → (length (without_bucket home (buckets_of occupant)) == 0) ≡ empty
      → Pushed (with_record (if empty then delete st occupant else take_bucket st occupant home) back)
  pushed occupant is false some =
      inl (changed-keeps n (take_bucket st occupant home) back (changed-keeps n st (placed occupant (New (without_bucket home (buckets_of occupant)))) k))
  pushed occupant is true last = by (cases_eq occupant.number n)
    where
      found : Contains st.records occupant × (is_new_at st.places home seat occupant ≡ true)
      found = find-Some (is_new_at st.places home seat) st.records occupant is

      apart : occupant.number ≢ old.number
      apart same =
          let one : occupant ≡ old = only occupant found.0 same in
          none_in_nil home (subst (λ bs. Contains bs home) (ap buckets_of one ∙ bare) (new_at_parts st.places home seat occupant found.1).0)

      by : (occupant.number ≡ n) ⊎ (occupant.number ≢ n) → Pushed (with_record (delete st occupant) back)
      by (inr other) = inl (changed-keeps n (delete st occupant) back (deleted-keeps n st occupant k other))
      by (inl same) = inr (
        occupant,
        record {
          was = found.0;
          number = same;
          at = found.1;
          last = last;
          there = changed_own old.number back (delete st occupant).records old (without_number-keeps occupant.number st.records old mine (λ is_it. apart (sym is_it))) refl;
          other = λ is_it. apart (same ∙ sym is_it);
        },
      )

  back-keeps : Pushed (back_to_new st old)
  back-keeps = by (new_rec_at st home seat) refl
    where
      by : (o : Option Rec) → new_rec_at st home seat ≡ o → Pushed (with_record (clear_new st home o) back)
      by None none = inl (changed-keeps n st back k)
      by (Some occupant) is = pushed occupant is (length (without_bucket home (buckets_of occupant)) == 0) refl

module _ (st : State) (sound : IsSound st) (now : ℕ) where
  pub success_keeps : (peer : Peer) (testing : Bool) (r : Rec) → Contains st.records r
      → K r.number (good st now peer testing).state.records ⊎ LosesBySuccess st (good st now peer testing).state r
  success_keeps peer testing r has = by (find_peer st peer) refl
    where
      later : State
      later = record st { last_good = now }

      K0 : K r.number st.records
      K0 = (r, has, refl)

      Out : State → Type 0
      Out new = K r.number new.records ⊎ LosesBySuccess st new r

      moved : (p : Rec) → Contains st.records p → is_tried p ≡ false → Out (move_to_tried (with_record later (after_success p now)) (after_success p now))
      moved p there untried = by_old (tried_occupant left s.peer) refl
        where
          s : Rec
          s = after_success p now

          marked : State
          marked = with_record later s

          left : State
          left = with_record marked (placed s (New []))

          K_left : K r.number left.records
          K_left = changed-keeps r.number marked (placed s (New [])) (changed-keeps r.number later s K0)

          by_old : (o : Option Rec) → tried_occupant left s.peer ≡ o → Out (with_record (displace left o) (placed s Tried))
          by_old None none = inl (changed-keeps r.number left (placed s Tried) K_left)
          by_old (Some old) is =
              ⊎_elim (λ kept. inl (changed-keeps r.number (back_to_new left old) (placed s Tried) kept)) (λ h. inr (gone h.0 h.1))
              (back-keeps r.number left old K_left found.0 (bare old.place tried) only)
            where
              found : Contains left.records old × (is_tried_at left.places (tried_bucket left.places s.peer) (tried_slot left.places s.peer (tried_bucket left.places s.peer)) old ≡ true)
              found = find-Some (is_tried_at left.places (tried_bucket left.places s.peer) (tried_slot left.places s.peer (tried_bucket left.places s.peer))) left.records old is

              tried : is_tried old ≡ true
              tried = tried_at-is_tried left.places (tried_bucket left.places s.peer) (tried_slot left.places s.peer (tried_bucket left.places s.peer)) old found.1

              bare : (place : Place) → tried_by place ≡ true → buckets_by place ≡ []
              bare (New buckets) h = absurd (true≢false (sym h))
              bare Tried h = refl

              -- a record of left is the one that moves, or one of before
              before : (q : Rec) → Contains left.records q → (placed s (New []) ≡ q) ⊎ (Contains st.records q × (q.number ≢ s.number))
              before q c =
                  ⊎_elim inl (λ h. ⊎_elim (λ (same : s ≡ q). absurd (h.1 (sym (ap (λ (x : Rec). x.number) same)))) (λ k. inr (k.0, h.1)) (changed_cases s.number s st.records q h.0))
                  (changed_cases s.number (placed s (New [])) marked.records q c)

              was : Contains st.records old × (old.number ≢ s.number)
              was = ⊎_elim (λ (same : placed s (New []) ≡ old). absurd (both_ways (is_tried old) (sym (ap is_tried same)) tried)) (λ h. h) (before old found.0)

              only : (q : Rec) → Contains left.records q → q.number ≡ old.number → q ≡ old
              only q c same =
                  ⊎_elim (λ (is_s : placed s (New []) ≡ q). absurd (was.1 (sym same ∙ sym (ap (λ (x : Rec). x.number) is_s)))) (λ h. same_record st.records q old sound.rising h.0 was.0 same)
                  (before q c)

              gone : (lost : Rec) → IsPushedOut r.number left old (back_to_new left old) lost → LosesBySuccess st (with_record (back_to_new left old) (placed s Tried)) r
              gone lost g = (
                placed old (New (b ∷ [])),
                record {
                  bucket = b;
                  last = none_left b (buckets_of r) parts.0 (rising_of r.place is_rec.place) (subst (λ (x : Rec). (length (without_bucket b (buckets_of x)) == 0) ≡ true) one g.last);
                  has = changed_other s.number (placed s Tried) (back_to_new left old).records (placed old (New (b ∷ []))) g.there was.1;
                  other = g.other;
                  at = new_at_from st.places b (new_slot st.places r.peer b) (placed old (New (b ∷ []))) (Contains-head b []) (sym parts.1);
                },
                (old, was.0, refl, tried),
              )
                where
                  b : ℕ
                  b = new_bucket st.places old.peer old.source

                  listed : Contains (buckets_of lost) b × (new_slot st.places lost.peer b ≡ new_slot st.places old.peer b)
                  listed = new_at_parts st.places b (new_slot st.places old.peer b) lost g.at

                  one : lost ≡ r
                  one =
                      ⊎_elim (λ (is_s : placed s (New []) ≡ lost). absurd (none_in_nil b (subst (λ (x : Rec). Contains (buckets_of x) b) (sym is_s) listed.0)))
                      (λ h. same_record st.records lost r sound.rising h.0 has g.number) (before lost g.was)

                  parts : Contains (buckets_of r) b × (new_slot st.places r.peer b ≡ new_slot st.places old.peer b)
                  parts = subst (λ (x : Rec). Contains (buckets_of x) b × (new_slot st.places x.peer b ≡ new_slot st.places old.peer b)) one listed

                  is_rec : IsRec r
                  is_rec = All-contains IsRec st.records r sound.records has

      waits : (kept : State) (number : ℕ) (few : Bool) → K r.number kept.records → K r.number (if few then record kept { collisions = with_bucket number kept.collisions } else kept).records
      waits kept number true h = h
      waits kept number false h = h

      known : (p : Rec) → Contains st.records p → (tried blocked : Bool) → is_tried p ≡ tried
          → Out (if tried then outcome Already (with_record later (after_success p now)) else if blocked then outcome Clash (wait (with_record later (after_success p now)) p.number) else outcome Moved (move_to_tried (with_record later (after_success p now)) (after_success p now))).state
      known p there true blocked is = inl (changed-keeps r.number later (after_success p now) K0)
      known p there false true is = inl (waits (with_record later (after_success p now)) p.number (nat_lt (length (with_record later (after_success p now)).collisions) 10) (changed-keeps r.number later (after_success p now) K0))
      known p there false false is = moved p there is

      by : (o : Option Rec) → find_peer later peer ≡ o → Out (good_by o later now testing).state
      by None missing = inl K0
      by (Some p) found = known p (peer_found st.records peer p found).0 (is_tried p) (testing && is_some (tried_occupant (with_record later (after_success p now)) p.peer)) refl
