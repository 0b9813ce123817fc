-- The three changes that the steps of the tables are made of, each of which keeps a state sound: a
-- record is replaced, appended or deleted.
use Rattle.std.proofs.Common.{◌≡◌, ◌≢◌, ℕ, ◌+◌, ◌<◌, ◌^◌, Bool, true, false, not, ◌==◌, List, [], ◌∷◌, ◌++◌, map, get_or, All, Contains, None, IsPermutation, sym, ap, subst, ◌∙◌, inl, inr, ⊎_elim, ◌⊎◌, arith}
use Rattle.std.specs.List.Sorted.{IsStrictlyIncreasing}
use Rattle.std.proofs.lemmas.Bool.{both_ways, cases_eq}
use Rattle.std.proofs.lemmas.List.Elements.{All-contains, All-map, All-filter, All-push, All-weaker, Contains-push_cases, Contains-append_left, Contains-get_or}
use Rattle.std.proofs.lemmas.List.Kept.{IsStrictlyIncreasing-filter, AllPairs-filter}
use Rattle.std.proofs.lemmas.List.Quantifiers.{all_pairs_push}
use Rattle.std.proofs.lemmas.List.Sorted.{IsPermutation-append_left}
use Rattle.std.proofs.lemmas.List.{map-append}
use Rattle.net_addr.specs.Ranges.{is_valid}
use Rattle.net_addr.specs.declared.peer.Peer.{Peer}
use Rattle.placing.specs.Places.{tried_bucket}
use Rattle.peer_rec.specs.Rec.{IsRec, is_tried}
use Rattle.peer_rec.specs.declared.rec.Rec.{Rec}
use Rattle.table_machine.specs.State.{State, find_peer, is_new_at, is_tried_at}
use Rattle.table_machine.specs.Entries.{change_number, with_record, with_last, delete}
use Rattle.table_machine.specs.Sound.{AreListed, AtMostOne}
use Rattle.table_machine.proofs.Lists.{AllPairs-same_images, All-same_images, filter-map, Contains-map, rising-push}
use Rattle.table_machine.proofs.Orders.{others, others-without_first}
use Rattle.table_machine.proofs.Records.{numbers, own_slot, same_record, changed_cases, changed_own, changed_other, change_number-images, tried_at-same, tried_at-is_tried, without_number-cases, without_number-keeps, peer_missing}
use Rattle.table_machine.proofs.SoundBut.{IsMidway, HasRival, HasRivals, is_at_own}

-- each record that the test finds at a slot of r has the number of r
abbrev pub IsOnlyAt : (ℕ → ℕ → Rec → Bool) → List Rec → Rec → Type 0
IsOnlyAt is_at records r = (bucket slot : ℕ) (q : Rec) → Contains records q → is_at bucket slot r ≡ true → is_at bucket slot q ≡ true → q.number ≡ r.number

-- If no slot has two records of the old list, and r shares none with another of its records, no
-- slot has two records of a list made of both.
pub AtMostOne-with : (is_at : ℕ → ℕ → Rec → Bool) (old new : List Rec) (r : Rec) → AtMostOne is_at old → IsOnlyAt is_at old r
    → ((q : Rec) → Contains new q → (r ≡ q) ⊎ Contains old q) → AtMostOne is_at new
AtMostOne-with is_at old new r one only from bucket slot p q has_p has_q at_p at_q = by (from p has_p) (from q has_q)
  where
    number : (t s : Rec) → t ≡ s → t.number ≡ s.number
    number t s = ap (λ (u : Rec). u.number)

    by : (r ≡ p) ⊎ Contains old p → (r ≡ q) ⊎ Contains old q → p.number ≡ q.number
    by (inl first) (inl second) = number p q (sym first ∙ second)
    by (inl first) (inr second) = sym (only bucket slot q second (subst (λ (t : Rec). is_at bucket slot t ≡ true) (sym first) at_p) at_q ∙ number r p first)
    by (inr first) (inl second) = only bucket slot p first (subst (λ (t : Rec). is_at bucket slot t ≡ true) (sym second) at_q) at_p ∙ number r q second
    by (inr first) (inr second) = one bucket slot p q first second at_p at_q

-- the record is at the peer's tried slot
abbrev pub IsAtTried : State → Peer → Rec → Type 0
IsAtTried st peer r = is_at_own st.places peer r ≡ true

-- other records with the same numbers and peers are listed too
AreListed-same : (old new : List Rec) (order : List ℕ) (next : ℕ) → AreListed old order next → numbers new ≡ numbers old
    → map (λ r. r.peer) new ≡ map (λ r. r.peer) old → AreListed new order next
AreListed-same old new order next listed same_numbers same_peers = record {
  order = subst (λ ns. IsPermutation ns order) (sym same_numbers) listed.order;
  peers = AllPairs-same_images (λ (p : Peer) (q : Peer). p ≢ q) (λ (r : Rec). r.peer) old new same_peers listed.peers;
  valid = All-same_images (λ (p : Peer). is_valid p.addr ≡ true) (λ (r : Rec). r.peer) old new same_peers listed.valid;
  rising = subst IsStrictlyIncreasing (sym same_numbers) listed.rising;
  below_next = All-same_images (λ n. n < next) (λ (r : Rec). r.number) old new same_numbers listed.below_next;
}

-- A record r is replaced by s, of the same number and peer. No other record has a slot of s. If r
-- is in tried, so is s, unless r's tried slot may be empty. s fits, unless its number is the exempt
-- one.
module _ (n : ℕ) (MayBeEmpty : Peer → Type 0) (st : State) (r s : Rec) (but : IsMidway n MayBeEmpty st) (has : Contains st.records r)
    (number : s.number ≡ r.number) (peer : s.peer ≡ r.peer)
    (only_new : IsOnlyAt (is_new_at st.places) st.records s) (only_tried : IsOnlyAt (is_tried_at st.places) st.records s)
    (stays : is_tried r ≡ true → (is_tried s ≡ true) ⊎ ((p : Peer) → IsAtTried st p r → MayBeEmpty p)) (fits : s.number ≢ n → IsRec s) where
  at : (q : Rec) → Contains (with_record st s).records q → (s ≡ q) ⊎ (Contains st.records q × (q.number ≢ s.number))
  at = changed_cases s.number s st.records

  was : (q : Rec) → Contains st.records q → q.number ≡ s.number → q ≡ r
  was q c same = same_record st.records q r but.listed.rising c has (same ∙ number)

  own : Contains (with_record st s).records s
  own = changed_own s.number s st.records r has (sym number)

  own_or_old : (q : Rec) → Contains (with_record st s).records q → (s ≡ q) ⊎ Contains st.records q
  own_or_old q c = ⊎_elim inl (λ h. inr h.0) (at q c)

  -- a tried slot that was occupied still is, or may be empty
  rival : (p : Peer) → HasRival st.places st.records p → HasRival st.places (with_record st s).records p ⊎ MayBeEmpty p
  rival p h = by (cases_eq h.0.number s.number)
    where
      by : (h.0.number ≡ s.number) ⊎ (h.0.number ≢ s.number) → HasRival st.places (with_record st s).records p ⊎ MayBeEmpty p
      by (inl same) =
          let bucket = tried_bucket st.places p in
          let slot = own_slot st.places p in
          let at_r : IsAtTried st p r = subst (IsAtTried st p) (was h.0 h.1 same) h.2 in
          ⊎_elim
          (λ tried. inl (s, own, tried_at-same st.places bucket slot r s (sym peer) (λ same_place. tried) at_r))
          (λ empties. inr (empties p at_r))
          (stays (tried_at-is_tried st.places bucket slot r at_r))
      by (inr other) = inl (h.0, changed_other s.number s st.records h.0 h.1 other, h.2)

  rivals : HasRivals MayBeEmpty (with_record st s)
  rivals q c waits = by (at q c)
    where
      by : (s ≡ q) ⊎ (Contains st.records q × (q.number ≢ s.number)) → HasRival st.places (with_record st s).records q.peer ⊎ MayBeEmpty q.peer
      by (inl is) =
          let waited = subst (Contains st.collisions) (ap (λ (t : Rec). t.number) (sym is) ∙ number) waits in
          subst (λ p. HasRival st.places (with_record st s).records p ⊎ MayBeEmpty p) (sym peer ∙ ap (λ (t : Rec). t.peer) is)
          (⊎_elim (rival r.peer) inr (but.rivals r has waited))
      by (inr other) = ⊎_elim (rival q.peer) inr (but.rivals q other.0 waits)

  pub change-keeps : IsMidway n MayBeEmpty (with_record st s)
  change-keeps = record {
    listed = AreListed-same st.records (change_number s.number s st.records) st.order st.next_number but.listed
        (change_number-images (λ (q : Rec). q.number) s.number s st.records (λ q c same. sym same))
        (change_number-images (λ (q : Rec). q.peer) s.number s st.records (λ q c same. peer ∙ ap (λ (t : Rec). t.peer) (sym (was q c same))));
    waiting = but.waiting;
    ranges = but.ranges;
    new_slots = AtMostOne-with (is_new_at st.places) st.records (with_record st s).records s but.new_slots only_new own_or_old;
    tried_slots = AtMostOne-with (is_tried_at st.places) st.records (with_record st s).records s but.tried_slots only_tried own_or_old;
    rivals = rivals;
    records = λ q c other. ⊎_elim (λ is. subst IsRec is (fits (λ same. other (ap (λ (t : Rec). t.number) (sym is) ∙ same)))) (λ h. but.records q h.0 other) (at q c);
  }

-- A record of a new peer is appended, with the next number. No other record has a slot of it.
module _ (n : ℕ) (MayBeEmpty : Peer → Type 0) (st : State) (r : Rec) (but : IsMidway n MayBeEmpty st) (number : r.number ≡ st.next_number) (missing : find_peer st r.peer ≡ None)
    (valid : is_valid r.peer.addr ≡ true) (only_new : IsOnlyAt (is_new_at st.places) st.records r) (only_tried : IsOnlyAt (is_tried_at st.places) st.records r)
    (fits : r.number ≢ n → IsRec r) (next : st.next_number + 1 < 2 ^ 64) where
  last : (q : Rec) → Contains (with_last st r).records q → Contains st.records q ⊎ (r ≡ q)
  last = Contains-push_cases st.records r

  last_or_old : (q : Rec) → Contains (with_last st r).records q → (r ≡ q) ⊎ Contains st.records q
  last_or_old q c = ⊎_elim inr inl (last q c)

  rivals_last : HasRivals MayBeEmpty (with_last st r)
  rivals_last q c waits = by (last q c)
    where
      by : Contains st.records q ⊎ (r ≡ q) → HasRival st.places (with_last st r).records q.peer ⊎ MayBeEmpty q.peer
      by (inl old) =
          ⊎_elim (λ h. inl (h.0, Contains-append_left st.records (r ∷ []) h.0 h.1, h.2)) inr (but.rivals q old waits)
      by (inr is) =
          let below = All-contains (λ m. m < st.next_number) st.collisions q.number but.waiting.collisions_below_next waits in
          absurd (omega (arith, ap (λ (t : Rec). t.number) is, number))

  numbers_last : numbers (with_last st r).records ≡ numbers st.records ++ r.number ∷ []
  numbers_last = map-append (λ (q : Rec). q.number) st.records (r ∷ [])

  below : All (λ m. m < r.number) (numbers st.records)
  below = subst (λ m. All (λ k. k < m) (numbers st.records)) (sym number) (All-map (λ m. m < st.next_number) (λ (q : Rec). q.number) st.records but.listed.below_next)

  pub last-keeps : IsMidway n MayBeEmpty (with_last st r)
  last-keeps = record {
    listed = record {
      order = subst (λ ns. IsPermutation ns (st.order ++ r.number ∷ [])) (sym numbers_last)
          (IsPermutation-append_left (r.number ∷ []) (numbers st.records) st.order but.listed.order);
      peers = all_pairs_push (λ (p : Rec) (q : Rec). p.peer ≢ q.peer) st.records r but.listed.peers
          (λ k d within. peer_missing st.records r.peer (get_or st.records k d) missing (Contains-get_or st.records k d within));
      valid = All-push (λ (q : Rec). is_valid q.peer.addr ≡ true) st.records r but.listed.valid valid;
      rising = subst IsStrictlyIncreasing (sym numbers_last) (rising-push (numbers st.records) r.number but.listed.rising below);
      below_next = All-push (λ (q : Rec). q.number < st.next_number + 1) st.records r
          (All-weaker (λ (q : Rec). q.number < st.next_number) (λ (q : Rec). q.number < st.next_number + 1) (λ q h. omega arith) st.records but.listed.below_next)
          (omega arith);
    };
    waiting = record {
      collisions = but.waiting.collisions;
      few_collisions = but.waiting.few_collisions;
      collisions_below_next = All-weaker (λ m. m < st.next_number) (λ m. m < st.next_number + 1) (λ m h. omega arith) st.collisions but.waiting.collisions_below_next;
    };
    ranges = record { places = but.ranges.places; last_good = but.ranges.last_good; next_number = next };
    new_slots = AtMostOne-with (is_new_at st.places) st.records (with_last st r).records r but.new_slots only_new last_or_old;
    tried_slots = AtMostOne-with (is_tried_at st.places) st.records (with_last st r).records r but.tried_slots only_tried last_or_old;
    rivals = rivals_last;
    records = λ q c other. ⊎_elim (λ old. but.records q old other) (λ is. subst IsRec is (fits (λ same. other (ap (λ (t : Rec). t.number) (sym is) ∙ same)))) (last q c);
  }

-- A record that is not in tried is deleted.
module _ (n : ℕ) (MayBeEmpty : Peer → Type 0) (st : State) (r : Rec) (but : IsMidway n MayBeEmpty st) (has : Contains st.records r) (untried : is_tried r ≡ false) where
  left : (q : Rec) → Contains (delete st r).records q → Contains st.records q × (q.number ≢ r.number)
  left = without_number-cases r.number st.records

  numbers_left : numbers (delete st r).records ≡ others r.number (numbers st.records)
  numbers_left = sym (filter-map (λ m. not (m == r.number)) (λ (q : Rec). q.number) st.records)

  rival_left : (p : Peer) → HasRival st.places st.records p → HasRival st.places (delete st r).records p
  rival_left p h =
      let differs : h.0.number ≢ r.number = λ same.
      (let at_r : IsAtTried st p r = subst (IsAtTried st p) (same_record st.records h.0 r but.listed.rising h.1 has same) h.2 in
      both_ways (is_tried r) untried (tried_at-is_tried st.places (tried_bucket st.places p) (own_slot st.places p) r at_r)) in
      (h.0, without_number-keeps r.number st.records h.0 h.1 differs, h.2)

  rivals_left : HasRivals MayBeEmpty (delete st r)
  rivals_left q c waits = ⊎_elim (λ h. inl (rival_left q.peer h)) inr (but.rivals q (left q c).0 waits)

  pub delete-keeps : IsMidway n MayBeEmpty (delete st r)
  delete-keeps = record {
    listed = record {
      order = subst (λ ns. IsPermutation ns (delete st r).order) (sym numbers_left)
          (others-without_first (numbers st.records) st.order r.number but.listed.rising but.listed.order (Contains-map (λ (q : Rec). q.number) st.records r has));
      peers = AllPairs-filter (λ (p : Rec) (q : Rec). p.peer ≢ q.peer) (λ (q : Rec). not (q.number == r.number)) st.records but.listed.peers;
      valid = All-filter (λ (q : Rec). not (q.number == r.number)) (λ (q : Rec). is_valid q.peer.addr ≡ true) st.records but.listed.valid;
      rising = subst IsStrictlyIncreasing (sym numbers_left) (IsStrictlyIncreasing-filter (λ m. not (m == r.number)) (numbers st.records) but.listed.rising);
      below_next = All-filter (λ (q : Rec). not (q.number == r.number)) (λ (q : Rec). q.number < st.next_number) st.records but.listed.below_next;
    };
    waiting = but.waiting;
    ranges = but.ranges;
    new_slots = λ bucket slot p q one two. but.new_slots bucket slot p q (left p one).0 (left q two).0;
    tried_slots = λ bucket slot p q one two. but.tried_slots bucket slot p q (left p one).0 (left q two).0;
    rivals = rivals_left;
    records = λ q c other. but.records q (left q c).0 other;
  }
