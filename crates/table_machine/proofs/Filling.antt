-- The states in the middle of a restore of any file: records may be in no bucket, and those may be
-- invalid or of a peer that is there twice.
use Rattle.std.proofs.Common.{◌≡◌, ◌≢◌, ℕ, ◌+◌, ◌<◌, ◌≤◌, ◌^◌, true, not, ◌==◌, [], ◌∷◌, ◌++◌, length, get_or, All, Contains, None, IsPermutation, refl, sym, ap, subst, ◌∙◌, inl, inr, ⊎_elim, ◌⊎◌, arith, true≢false}
use Rattle.std.specs.List.Sorted.{IsStrictlyIncreasing}
use Rattle.std.proofs.lemmas.List.{map-append}
use Rattle.std.proofs.lemmas.List.Elements.{All-map, All-filter, All-push, All-weaker, Contains-push_cases, Contains-get_or}
use Rattle.std.proofs.lemmas.List.Kept.{AllPairs-from_increasing, IsStrictlyIncreasing-filter}
use Rattle.std.proofs.lemmas.List.Sorted.{IsPermutation-append_left}
use Rattle.net_addr.specs.Ranges.{is_valid}
use Rattle.net_addr.specs.declared.peer.Peer.{Peer}
use Rattle.placing.specs.Places.{IsPlaces, new_slot}
use Rattle.peer_rec.specs.Buckets.{with_bucket}
use Rattle.peer_rec.specs.Rec.{IsPlace, IsRec, buckets_by, buckets_of, is_tried, tried_by}
use Rattle.peer_rec.specs.declared.rec.Rec.{Rec}
use Rattle.peer_rec.specs.declared.place.Place.{Place}
use Rattle.peer_rec.specs.declared.place.Place.TheVariants.{New, Tried}
use Rattle.table_machine.specs.State.{State, is_new_at, is_tried_at, new_rec_at}
use Rattle.table_machine.specs.Entries.{delete, give_bucket, with_last}
use Rattle.table_machine.specs.Sound.{AtMostOne, HasOccupant, IsSound}
use Rattle.table_machine.proofs.Buckets.{HasRoom, IsRec-placed, IsRec-with_bucket, placed}
use Rattle.table_machine.proofs.Lists.{All-from_Contains, AllPairs-from_map, All-same_images, Contains-map, filter-map, rising-push}
use Rattle.table_machine.proofs.Orders.{others, others-without_first}
use Rattle.table_machine.proofs.Primitives.{AtMostOne-with, IsOnlyAt}
use Rattle.table_machine.proofs.Slots.{only-given}
use Rattle.table_machine.proofs.Records.{numbers, changed_cases, change_number-images, tried_at-is_tried, without_number-cases}

-- in tried, or in a bucket of the new table
abbrev pub IsPlaced : Rec → Type 0
IsPlaced r = (is_tried r ≡ true) ⊎ (0 < length (buckets_of r))

-- a record that fits, except that it may be in no bucket, and invalid then
pub record IsHalf (r : Rec) : Type 0 where
  pub fields : IsRec (placed r Tried)
  pub few : length (buckets_of r) ≤ 8
  pub below : All (λ b. b < 1024) (buckets_of r)
  pub rising : IsStrictlyIncreasing (buckets_of r)
  pub valid : IsPlaced r → is_valid r.peer.addr ≡ true

-- Valid peers are there once. Records with a number from n on are placed.
pub record IsFilling (n : ℕ) (st : State) : Type 0 where
  pub order : IsPermutation (numbers st.records) st.order
  pub rising : IsStrictlyIncreasing (numbers st.records)
  pub below_next : All (λ r. r.number < st.next_number) st.records
  pub places : IsPlaces st.places
  pub next_number : st.next_number < 2 ^ 64
  pub last_good : st.last_good < 2 ^ 32
  pub nothing_waits : st.collisions ≡ []
  pub new_slots : AtMostOne (is_new_at st.places) st.records
  pub tried_slots : AtMostOne (is_tried_at st.places) st.records
  pub peers : (r q : Rec) → Contains st.records r → Contains st.records q → is_valid r.peer.addr ≡ true → r.peer ≡ q.peer → r.number ≡ q.number
  pub records : (r : Rec) → Contains st.records r → IsHalf r
  pub late : (r : Rec) → Contains st.records r → n ≤ r.number → IsPlaced r

-- a record that fits is half of it
pub half-from_IsRec : (r : Rec) → IsRec r → is_valid r.peer.addr ≡ true → IsHalf r
half-from_IsRec r fits valid = record {
  fields = IsRec-placed r r.place Tried fits tt;
  few = few r.place fits.place;
  below = below r.place fits.place;
  rising = rising r.place fits.place;
  valid = λ p. valid;
}
  where
    few : (place : Place) → IsPlace place → length (buckets_by place) ≤ 8
    few (New buckets) is = is.most
    few Tried is = omega arith

    below : (place : Place) → IsPlace place → All (λ b. b < 1024) (buckets_by place)
    below (New buckets) is = is.below
    below Tried is = λ k d within. absurd (omega arith)

    rising : (place : Place) → IsPlace place → IsStrictlyIncreasing (buckets_by place)
    rising (New buckets) is = is.rising
    rising Tried is = λ k within. absurd (omega arith)

-- and a half record that is placed fits
pub IsRec-from_half : (r : Rec) → IsHalf r → IsPlaced r → IsRec r
IsRec-from_half r half is = IsRec-placed r Tried r.place half.fields (by r.place half.few half.below half.rising is)
  where
    by : (place : Place) → length (buckets_by place) ≤ 8 → All (λ b. b < 1024) (buckets_by place) → IsStrictlyIncreasing (buckets_by place)
        → ((tried_by place ≡ true) ⊎ (0 < length (buckets_by place))) → IsPlace place
    by (New buckets) few below rising (inl tried) = absurd (true≢false (sym tried))
    by (New buckets) few below rising (inr some) = record { some = some; most = few; below = below; rising = rising }
    by Tried few below rising p = tt

-- a record is appended, with the next number
module _ (n : ℕ) (st : State) (r : Rec) (fill : IsFilling n st) (number : r.number ≡ st.next_number) (next : st.next_number + 1 < 2 ^ 64)
    (only_new : IsOnlyAt (is_new_at st.places) st.records r) (only_tried : IsOnlyAt (is_tried_at st.places) st.records r)
    (fresh : is_valid r.peer.addr ≡ true → (q : Rec) → Contains st.records q → q.peer ≢ r.peer) (half : IsHalf r) (late : n ≤ r.number → IsPlaced r) where
  last : (q : Rec) → Contains (with_last st r).records q → Contains st.records q ⊎ (r ≡ q)
  last = Contains-push_cases st.records r

  last_or_old : (q : Rec) → Contains (with_last st r).records q → (r ≡ q) ⊎ Contains st.records q
  last_or_old q c = ⊎_elim inr inl (last q c)

  numbers_last : numbers (with_last st r).records ≡ numbers st.records ++ r.number ∷ []
  numbers_last = map-append (λ (q : Rec). q.number) st.records (r ∷ [])

  below : All (λ m. m < r.number) (numbers st.records)
  below = subst (λ m. All (λ k. k < m) (numbers st.records)) (sym number) (All-map (λ m. m < st.next_number) (λ (q : Rec). q.number) st.records fill.below_next)

  peers_last : (p q : Rec) → Contains (with_last st r).records p → Contains (with_last st r).records q → is_valid p.peer.addr ≡ true → p.peer ≡ q.peer → p.number ≡ q.number
  peers_last p q one two valid same = by (last p one) (last q two)
    where
      by : Contains st.records p ⊎ (r ≡ p) → Contains st.records q ⊎ (r ≡ q) → p.number ≡ q.number
      by (inl old) (inl also) = fill.peers p q old also valid same
      by (inl old) (inr is) = absurd (fresh (subst (λ (t : Peer). is_valid t.addr ≡ true) (same ∙ ap (λ (t : Rec). t.peer) (sym is)) valid) p old (same ∙ ap (λ (t : Rec). t.peer) (sym is)))
      by (inr is) (inl also) = absurd (fresh (subst (λ (t : Rec). is_valid t.peer.addr ≡ true) (sym is) valid) q also (sym same ∙ ap (λ (t : Rec). t.peer) (sym is)))
      by (inr is) (inr too) = ap (λ (t : Rec). t.number) (sym is ∙ too)

  pub fill-last : IsFilling n (with_last st r)
  fill-last = record {
    order = subst (λ ns. IsPermutation ns (st.order ++ r.number ∷ [])) (sym numbers_last)
        (IsPermutation-append_left (r.number ∷ []) (numbers st.records) st.order fill.order);
    rising = subst IsStrictlyIncreasing (sym numbers_last) (rising-push (numbers st.records) r.number fill.rising below);
    below_next = All-push (λ (q : Rec). q.number < st.next_number + 1) st.records r
        (All-weaker (λ (q : Rec). q.number < st.next_number) (λ (q : Rec). q.number < st.next_number + 1) (λ q h. omega arith) st.records fill.below_next)
        (omega arith);
    places = fill.places;
    next_number = next;
    last_good = fill.last_good;
    nothing_waits = fill.nothing_waits;
    new_slots = AtMostOne-with (is_new_at st.places) st.records (with_last st r).records r fill.new_slots only_new last_or_old;
    tried_slots = AtMostOne-with (is_tried_at st.places) st.records (with_last st r).records r fill.tried_slots only_tried last_or_old;
    peers = peers_last;
    records = λ q c. ⊎_elim (λ old. fill.records q old) (λ is. subst IsHalf is half) (last q c);
    late = λ q c from. ⊎_elim (λ old. fill.late q old from) (λ is. subst IsPlaced is (late (subst (λ (t : Rec). n ≤ t.number) (sym is) from))) (last q c);
  }

-- a record with room gets a bucket whose slot is empty
module _ (n : ℕ) (st : State) (r : Rec) (bucket : ℕ) (fill : IsFilling n st) (has : Contains st.records r) (valid : is_valid r.peer.addr ≡ true)
    (room : length (buckets_of r) ≢ 8) (below : bucket < 1024) (empty : new_rec_at st bucket (new_slot st.places r.peer bucket) ≡ None) where
  half_r : IsHalf r
  half_r = fill.records r has

  given : Rec
  given = placed r (New (with_bucket bucket (buckets_of r)))

  has_room : HasRoom r
  has_room = let few = half_r.few in record { fields = half_r.fields; few = omega (arith, room); below = half_r.below; rising = half_r.rising }

  fits : IsRec (placed r (New (with_bucket bucket (buckets_of r))))
  fits = IsRec-with_bucket r bucket has_room below

  at : (q : Rec) → Contains (give_bucket st r bucket).records q → (placed r (New (with_bucket bucket (buckets_of r))) ≡ q) ⊎ (Contains st.records q × (q.number ≢ r.number))
  at = changed_cases r.number (placed r (New (with_bucket bucket (buckets_of r)))) st.records

  own_or_old : (q : Rec) → Contains (give_bucket st r bucket).records q → (placed r (New (with_bucket bucket (buckets_of r))) ≡ q) ⊎ Contains st.records q
  own_or_old q c = ⊎_elim inl (λ h. inr h.0) (at q c)

  -- each record there has the number and the peer of one that was there
  was : (q : Rec) → Contains (give_bucket st r bucket).records q → (p : Rec) × Contains st.records p × (p.number ≡ q.number) × (p.peer ≡ q.peer)
  was q c = ⊎_elim (λ is. (r, has, ap (λ (t : Rec). t.number) is, ap (λ (t : Rec). t.peer) is)) (λ h. (q, h.0, refl, refl)) (at q c)

  same_numbers : numbers (give_bucket st r bucket).records ≡ numbers st.records
  same_numbers = change_number-images (λ (q : Rec). q.number) r.number (placed r (New (with_bucket bucket (buckets_of r)))) st.records (λ q c same. sym same)

  placed_now : IsPlaced (placed r (New (with_bucket bucket (buckets_of r))))
  placed_now = inr fits.place.some

  pub fill-give : IsFilling n (give_bucket st r bucket)
  fill-give = record {
    order = subst (λ ns. IsPermutation ns st.order) (sym same_numbers) fill.order;
    rising = subst IsStrictlyIncreasing (sym same_numbers) fill.rising;
    below_next = All-same_images (λ m. m < st.next_number) (λ (q : Rec). q.number) st.records (give_bucket st r bucket).records same_numbers fill.below_next;
    places = fill.places;
    next_number = fill.next_number;
    last_good = fill.last_good;
    nothing_waits = fill.nothing_waits;
    new_slots = AtMostOne-with (is_new_at st.places) st.records (give_bucket st r bucket).records (placed r (New (with_bucket bucket (buckets_of r)))) fill.new_slots
        (only-given st r bucket (λ b slot q c at_r at_q. fill.new_slots b slot q r c has at_q at_r) empty) own_or_old;
    tried_slots = AtMostOne-with (is_tried_at st.places) st.records (give_bucket st r bucket).records (placed r (New (with_bucket bucket (buckets_of r)))) fill.tried_slots
        (λ b slot q c at_given at_q. absurd (true≢false (sym (tried_at-is_tried st.places b slot (placed r (New (with_bucket bucket (buckets_of r)))) at_given)))) own_or_old;
    peers = λ p q one two is same.
        let p_was = was p one in
        let q_was = was q two in
        sym p_was.2 ∙ fill.peers p_was.0 q_was.0 p_was.1 q_was.1 (subst (λ (t : Peer). is_valid t.addr ≡ true) (sym p_was.3) is) (p_was.3 ∙ same ∙ sym q_was.3) ∙ q_was.2;
    records = λ q c. ⊎_elim (λ is. subst IsHalf is (half-from_IsRec (placed r (New (with_bucket bucket (buckets_of r)))) fits valid)) (fill.records q) (own_or_old q c);
    late = λ q c from. ⊎_elim (λ is. subst IsPlaced is placed_now) (λ old. fill.late q old from) (own_or_old q c);
  }

-- a record is deleted
module _ (n : ℕ) (st : State) (r : Rec) (fill : IsFilling n st) (has : Contains st.records r) where
  left : (q : Rec) → Contains (delete st r).records q → Contains st.records q × (q.number ≢ r.number)
  left = without_number-cases r.number st.records

  numbers_left : numbers (delete st r).records ≡ others r.number (numbers st.records)
  numbers_left = sym (filter-map (λ m. not (m == r.number)) (λ (q : Rec). q.number) st.records)

  pub fill-delete : IsFilling n (delete st r)
  fill-delete = record {
    order = subst (λ ns. IsPermutation ns (delete st r).order) (sym numbers_left)
        (others-without_first (numbers st.records) st.order r.number fill.rising fill.order (Contains-map (λ (q : Rec). q.number) st.records r has));
    rising = subst IsStrictlyIncreasing (sym numbers_left) (IsStrictlyIncreasing-filter (λ m. not (m == r.number)) (numbers st.records) fill.rising);
    below_next = All-filter (λ (q : Rec). not (q.number == r.number)) (λ (q : Rec). q.number < st.next_number) st.records fill.below_next;
    places = fill.places;
    next_number = fill.next_number;
    last_good = fill.last_good;
    nothing_waits = fill.nothing_waits;
    new_slots = λ bucket slot p q one two. fill.new_slots bucket slot p q (left p one).0 (left q two).0;
    tried_slots = λ bucket slot p q one two. fill.tried_slots bucket slot p q (left p one).0 (left q two).0;
    peers = λ p q one two. fill.peers p q (left p one).0 (left q two).0;
    records = λ q c. fill.records q (left q c).0;
    late = λ q c. fill.late q (left q c).0;
  }

-- once all records are placed, the state is sound
pub sound_from_filling : (n : ℕ) (st : State) → IsFilling n st → ((r : Rec) → Contains st.records r → IsPlaced r) → IsSound st
sound_from_filling n st fill all = record {
  listed = record {
    order = fill.order;
    peers = λ i j d below within same.
        let rise : (get_or st.records i d).number < (get_or st.records j d).number =
        AllPairs-from_map (λ m k. m < k) (λ (r : Rec). r.number) st.records (AllPairs-from_increasing (numbers st.records) fill.rising) i j d below within in
        let c = Contains-get_or st.records i d (omega arith) in
        let e = Contains-get_or st.records j d within in
        omega (arith, fill.peers (get_or st.records i d) (get_or st.records j d) c e ((fill.records (get_or st.records i d) c).valid (all (get_or st.records i d) c)) same);
    valid = All-from_Contains (λ (r : Rec). is_valid r.peer.addr ≡ true) st.records (λ r c. (fill.records r c).valid (all r c));
    rising = fill.rising;
    below_next = fill.below_next;
  };
  waiting = record {
    collisions = subst IsStrictlyIncreasing (sym fill.nothing_waits) (λ k within. absurd (omega arith));
    few_collisions = omega (arith, ap length fill.nothing_waits);
    collisions_below_next = subst (All (λ m. m < st.next_number)) (sym fill.nothing_waits) (λ k d within. absurd (omega arith));
  };
  ranges = record { places = fill.places; last_good = fill.last_good; next_number = fill.next_number };
  new_slots = fill.new_slots;
  tried_slots = fill.tried_slots;
  occupants = subst (All (HasOccupant st)) (sym fill.nothing_waits) (λ k d within. absurd (omega arith));
  records = All-from_Contains IsRec st.records (λ r c. IsRec-from_half r (fill.records r c) (all r c));
}
