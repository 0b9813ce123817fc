-- When the turn of a listed pair comes, its slot is empty, so the record gets just that bucket.
use Rattle.std.proofs.Common.{◌≡◌, ◌≢◌, ℕ, ◌<◌, Bool, true, false, not, ◌==◌, ◌||◌, ◌&&◌, List, [], ◌∷◌, length, AllPairs, Contains, filter, Some, None, refl, sym, ap, subst, ◌∙◌, arith, true≢false, if◌then◌else◌}
use Rattle.std.specs.List.{list_any}
use Rattle.std.proofs.lemmas.Bool.{both_ways, and_parts, ne_eqb}
use Rattle.std.proofs.lemmas.Bool.Decides.{Decides-eqb}
use Rattle.std.proofs.lemmas.List.Elements.{All-contains}
use Rattle.net_addr.specs.Ranges.{is_valid}
use Rattle.placing.specs.Places.{new_bucket, new_slot}
use Rattle.peer_rec.specs.Buckets.{with_bucket}
use Rattle.peer_rec.specs.Rec.{AreBuckets, IsRec, buckets_by, buckets_of}
use Rattle.peer_rec.specs.declared.rec.Rec.{Rec}
use Rattle.peer_rec.specs.declared.place.Place.{Place}
use Rattle.peer_rec.specs.declared.place.Place.TheVariants.{New, Tried}
use Rattle.table_machine.specs.State.{State, by_number, is_new_at, new_rec_at}
use Rattle.table_machine.specs.Sound.{IsSound}
use Rattle.table_machine.proofs.Buckets.{AreBuckets-of}
use Rattle.table_machine.proofs.Lists.{Contains-from_filter, Contains-head, Contains-tail, find_none_from, none_in_nil}
use Rattle.table_machine.proofs.Records.{find-number, new_at_from, new_at_parts}
use Rattle.table_machine.specs.Restoring.{give_if_empty, give_or, place_all, place_pair, place_record}
use Rattle.table_machine.proofs.Part.{At, at-Contains, at-one, at-same, entry, entry-buckets, kept_place, part, part-cases, part-has, part-map, part-rising}
use Rattle.table_machine.proofs.Grown.{all_of, all_of-apart, all_of-from, grown}
use Rattle.table_machine.proofs.Rising.{fewer, filter-with_bucket, pairs_head, pairs_tail}

-- the pairs that were placed, with one more
abbrev pub plus : (ℕ → ℕ → Bool) → ℕ → ℕ → ℕ → ℕ → Bool
plus has bucket index b n = has b n || (b == bucket && n == index)

listed_place : (p : ℕ → Bool) (place : Place) (b : ℕ) → Contains (buckets_by place) b → New (filter p (buckets_by place)) ≡ kept_place p place
listed_place p (New buckets) b c = refl
listed_place p Tried b c = absurd (none_in_nil b c)

or-with : (x y z : Bool) → z ≡ false → x ≡ (x || (y && z))
or-with true y z none = refl
or-with false true z none = sym none
or-with false false z none = refl

or-more : (x y : Bool) → x ≡ true → (x || y) ≡ true
or-more true y h = refl
or-more false y h = absurd (true≢false (sym h))

or-own : (x y z : Bool) → y ≡ true → z ≡ true → (x || (y && z)) ≡ true
or-own true y z one two = refl
or-own false true z one two = two
or-own false false z one two = one

or-first : (x y z : Bool) → (x || (y && z)) ≡ true → y ≡ false → x ≡ true
or-first true y z h none = refl
or-first false true z h none = absurd (true≢false none)
or-first false false z h none = h

-- the middle states that a pair of a bucket and a record's index meets
module _ (st : State) (sound : IsSound st) (has : ℕ → ℕ → Bool) (bucket index : ℕ) (r : Rec) (at : At 0 (all_of st) index r) (listed : Contains (buckets_of r) bucket)
    (open_yet : has bucket index ≡ false) where
  middle : State
  middle = grown st.places has (all_of st)

  own : Rec
  own = entry has index r

  there : Contains st.records r
  there = all_of-from st r (at-Contains 0 (all_of st) index r at)

  are : AreBuckets (buckets_of r)
  are = AreBuckets-of r.place (All-contains IsRec st.records r sound.records there).place (some (buckets_of r) listed)
    where
      some : (bs : List ℕ) → Contains bs bucket → 0 < length bs
      some [] c = absurd (none_in_nil bucket c)
      some (b ∷ bs) c = omega arith

  found : by_number (grown st.places has (all_of st)) index ≡ Some (entry has index r)
  found = find-number (part has 0 (all_of st)) (entry has index r) (part-rising has 0 (all_of st)) (part-has has 0 (all_of st) index r at)

  room : (not (is_valid r.peer.addr) || length (buckets_of (entry has index r)) == 8) ≡ false
  room =
      let valid : is_valid r.peer.addr ≡ true = All-contains (λ (q : Rec). is_valid q.peer.addr ≡ true) st.records r sound.valid there in
      let less = fewer (λ b. has b index) (buckets_of r) bucket listed open_yet in
      let most = are.most in
      let few : (length (buckets_of (entry has index r)) == 8) ≡ false = ne_eqb (length (buckets_of (entry has index r))) 8 (λ same. omega (arith, same, ap length (entry-buckets has index r))) in
      λ i. not (valid i) || few i

  pub slot-empty : new_rec_at (grown st.places has (all_of st)) bucket (new_slot st.places r.peer bucket) ≡ None
  slot-empty =
      find_none_from (is_new_at st.places bucket (new_slot st.places r.peer bucket)) (part has 0 (all_of st)) (λ x c at_x.
      let slot = new_slot st.places r.peer bucket in
      let h = part-cases has 0 (all_of st) x c in
      let k = h.0 in
      let q = h.1 in
      let parts = new_at_parts st.places bucket slot (entry has k q) (subst (λ (t : Rec). is_new_at st.places bucket slot t ≡ true) (sym h.3) at_x) in
      let placed = Contains-from_filter (λ b. has b k) (buckets_of q) bucket (subst (λ bs. Contains bs bucket) (entry-buckets has k q) parts.0) in
      let same = sound.new_slots bucket slot q r (all_of-from st q (at-Contains 0 (all_of st) k q h.2)) there
      (new_at_from st.places bucket slot q placed.0 parts.1) (new_at_from st.places bucket slot r listed refl) in
      let one : k ≡ index = at-one 0 (all_of st) k index q r (all_of-apart st sound) h.2 at same in
      both_ways (has bucket index) open_yet (subst (λ m. has bucket m ≡ true) one placed.1))

  -- the record with the bucket is the entry of the next middle state
  given : Rec
  given = record (entry has index r) { place = New (with_bucket bucket (buckets_of (entry has index r))) }

  given-is : (record (entry has index r) { place = New (with_bucket bucket (buckets_of (entry has index r))) }) ≡ entry (plus has bucket index) index r
  given-is =
      let more = filter-with_bucket (λ b. has b index) (λ b. plus has bucket index b index) bucket (buckets_of r) are.rising listed
      (or-own (has bucket index) (bucket == bucket) (index == index) ((Decides-eqb bucket bucket).1 refl) ((Decides-eqb index index).1 refl))
      (λ b h. or-more (has b index) (b == bucket && index == index) h)
      (λ b h other. or-first (has b index) (b == bucket) (index == index) h (ne_eqb b bucket other)) in
      let place : New (with_bucket bucket (buckets_of (entry has index r))) ≡ kept_place (λ b. plus has bucket index b index) r.place =
      ap (λ bs. New (with_bucket bucket bs)) (entry-buckets has index r) ∙ ap New more ∙ listed_place (λ b. plus has bucket index b index) r.place bucket listed in
      λ i. record (entry has index r) { place = place i }

  each : (m : ℕ) (x : Rec) → At 0 (all_of st) m x
      → (if m == index then record (entry has index r) { place = New (with_bucket bucket (buckets_of (entry has index r))) } else entry has m x) ≡ entry (plus has bucket index) m x
  each m x at_x = by (m == index) refl
    where
      by : (b : Bool) → (m == index) ≡ b
          → (if b then record (entry has index r) { place = New (with_bucket bucket (buckets_of (entry has index r))) } else entry has m x) ≡ entry (plus has bucket index) m x
      by true h =
          let number : m ≡ index = (Decides-eqb m index).0 h in
          let same : x ≡ r = at-same 0 (all_of st) index x r (subst (λ k. At 0 (all_of st) k x) number at_x) at in
          given-is ∙ (λ i. entry (plus has bucket index) (sym number i) (sym same i))
      by false h = λ i. record x { number = m; last_try = 0; last_count = 0; place = kept_place (λ b. or-with (has b m) (b == bucket) (m == index) h i) x.place }

  pub place-step : place_pair true (grown st.places has (all_of st)) (bucket, index) ≡ grown st.places (plus has bucket index) (all_of st)
  place-step =
      let start = grown st.places has (all_of st) in
      let e = entry has index r in
      let by_source = give_if_empty start e (new_bucket st.places r.peer r.source) start in
      let records = part-map (λ (q : Rec). if q.number == index then record (entry has index r) { place = New (with_bucket bucket (buckets_of (entry has index r))) } else q) has (plus has bucket index) 0 (all_of st) each in
      ap (place_record true start bucket) found
      ∙ ap (λ b. if b then start else give_if_empty start e bucket by_source) room
      ∙ ap (λ o. give_or start e bucket o by_source) slot-empty
      ∙ (λ i. record start { records = records i })

-- the pair is of a bucket and of the index of a record that lists it
abbrev pub IsListed : State → ℕ × ℕ → Type 0
IsListed st pair = (r : Rec) × At 0 (all_of st) pair.1 r × Contains (buckets_of r) pair.0

-- whether the pair of a bucket and an index is one of some
abbrev pub is_pair : List (ℕ × ℕ) → ℕ → ℕ → Bool
is_pair pairs b n = list_any (λ (p : ℕ × ℕ). b == p.0 && n == p.1) pairs

or-nothing : (x : Bool) → x ≡ (x || false)
or-nothing true = refl
or-nothing false = refl

or-chain : (x y z : Bool) → (x || y || z) ≡ (x || (y || z))
or-chain true y z = refl
or-chain false y z = refl

-- another pair is still to be placed
pub still : (x y z : Bool) → x ≡ false → ((y && z) ≡ true → ⊥) → (x || (y && z)) ≡ false
still true y z h other = absurd (true≢false h)
still false true true h other = absurd (other refl)
still false true false h other = refl
still false false z h other = refl

-- all pairs, one after another
pub place-all : (st : State) → IsSound st → (has : ℕ → ℕ → Bool) (pairs : List (ℕ × ℕ)) → ((p : ℕ × ℕ) → Contains pairs p → IsListed st p) → AllPairs (λ p q. p ≢ q) pairs
    → ((p : ℕ × ℕ) → Contains pairs p → has p.0 p.1 ≡ false)
    → place_all true (grown st.places has (all_of st)) pairs ≡ grown st.places (λ b n. has b n || is_pair pairs b n) (all_of st)
place-all st sound has [] listed apart open_yet = λ i. grown st.places (λ b n. or-nothing (has b n) i) (all_of st)
place-all st sound has (p ∷ ps) listed apart open_yet =
    let first = listed p (Contains-head p ps) in
    let more = plus has p.0 p.1 in
    ap (λ s. place_all true s ps) (place-step st sound has p.0 p.1 first.0 first.1 first.2 (open_yet p (Contains-head p ps)))
    ∙ place-all st sound more ps (λ q c. listed q (Contains-tail p ps q c)) (pairs_tail (λ (x : ℕ × ℕ) (y : ℕ × ℕ). x ≢ y) p ps apart)
    (λ q c. still (has q.0 q.1) (q.0 == p.0) (q.1 == p.1) (open_yet q (Contains-tail p ps q c)) (λ both.
    let h = and_parts (q.0 == p.0) (q.1 == p.1) both in
    pairs_head (λ (x : ℕ × ℕ) (y : ℕ × ℕ). x ≢ y) p q ps apart c (λ i. (sym ((Decides-eqb q.0 p.0).0 h.0) i, sym ((Decides-eqb q.1 p.1).0 h.1) i))))
    ∙ (λ i. grown st.places (λ b n. or-chain (has b n) (b == p.0 && n == p.1) (is_pair ps b n) i) (all_of st))
