-- How many records a sound state can have. Each bucket that a record lists, and each record in
-- tried, has a slot of its own, so there are no more of them than slots.
use Rattle.std.proofs.Common.{◌≡◌, ◌≢◌, ℕ, suc, ◌+◌, ◌*◌, ◌<◌, ◌≤◌, Bool, true, false, not, ◌==◌, List, [], ◌∷◌, map, length, get_or, All, AllPairs, Contains, count_by, sum_by, flat_map, refl, sym, ap, subst, ◌∙◌, arith, if◌then◌else◌}
use Rattle.std.proofs.lemmas.Bool.{eqb-true}
use Rattle.std.proofs.lemmas.Bool.Decides.{Decides-eqb}
use Rattle.std.proofs.lemmas.List.{length-map}
use Rattle.std.proofs.lemmas.List.Concat.{length-flat_map}
use Rattle.std.proofs.lemmas.List.Elements.{All-append, All-cons, All-contains, All-head, All-map, All-tail, Contains-get_or}
use Rattle.std.proofs.lemmas.List.Filters.{length-filter_both}
use Rattle.std.proofs.lemmas.List.Folds.{Any-from_list_any}
use Rattle.std.proofs.lemmas.List.Kept.{AllPairs-from_increasing}
use Rattle.std.proofs.lemmas.List.Sorted.{length_permutation}
use Rattle.std.proofs.lemmas.List.Sums.{length-filter, sum_by-cons}
use Rattle.std.proofs.lemmas.Map.Made.{IsDistinct-from_AllPairs}
use Rattle.std.proofs.lemmas.Map.Steps.{length-le_from_distinct_below}
use Rattle.std.proofs.lemmas.Nat.{mod_below, same_from_place}
use Rattle.net_addr.specs.declared.peer.Peer.{Peer}
use Rattle.placing.specs.Places.{Places, new_slot, tried_bucket, tried_slot}
use Rattle.peer_rec.specs.Rec.{IsPlace, IsRec, buckets_by, buckets_of, is_tried, tried_by}
use Rattle.peer_rec.specs.declared.rec.Rec.{Rec}
use Rattle.peer_rec.specs.declared.place.Place.{Place}
use Rattle.peer_rec.specs.declared.place.Place.TheVariants.{New, Tried}
use Rattle.table_machine.specs.State.{State}
use Rattle.table_machine.specs.Sound.{IsSound}
use Rattle.table_machine.proofs.Buckets.{AreBuckets-of}
use Rattle.table_machine.proofs.Lists.{All-from_Contains, AllPairs-from_map, AllPairs-map, pairs_append_by}
use Rattle.table_machine.proofs.Records.{new_at_from, own_slot, tried_at_from}

-- a slot of a bucket is below 64, a bucket of the tried table below 256
pub new_slot-below : (places : Places) (peer : Peer) (bucket : ℕ) → new_slot places peer bucket < 64
unfolding new_slot
new_slot-below places peer bucket = mod_below _ 64 (omega arith)

pub tried_slot-below : (places : Places) (peer : Peer) (bucket : ℕ) → tried_slot places peer bucket < 64
unfolding tried_slot
tried_slot-below places peer bucket = mod_below _ 64 (omega arith)

pub tried_bucket-below : (places : Places) (peer : Peer) → tried_bucket places peer < 256
unfolding tried_bucket
tried_bucket-below places peer = mod_below _ 256 (omega arith)

-- what holds of the elements of each part holds of all of them
All-flat_map : {X Y : Type 0} (P : Y → Type 0) (f : X → List Y) (xs : List X) → All (λ x. All P (f x)) xs → All P (flat_map f xs)
All-flat_map P f [] each = λ k d within. absurd (omega arith)
All-flat_map {X} P f (x ∷ xs) each =
    All-append P (f x) (flat_map f xs) (All-head (λ (y : X). All P (f y)) x xs each) (All-flat_map P f xs (All-tail (λ (y : X). All P (f y)) x xs each))

-- pairs within one part, and pairs across two parts, are all pairs
pub AllPairs-flat_map : {X Y : Type 0} (R : Y → Y → Type 0) (f : X → List Y) (xs : List X) → All (λ x. AllPairs R (f x)) xs
    → AllPairs (λ x y. All (λ m. All (R m) (f y)) (f x)) xs → AllPairs R (flat_map f xs)
AllPairs-flat_map R f [] each apart = λ i j d below within. absurd (omega arith)
AllPairs-flat_map {X} {Y} R f (x ∷ xs) each apart =
    let rest = AllPairs-flat_map R f xs (All-tail (λ (y : X). AllPairs R (f y)) x xs each) (λ i j d below within. apart (suc i) (suc j) d (omega arith) (omega arith)) in
    pairs_append_by R (f x) (flat_map f xs) (All-head (λ (y : X). AllPairs R (f y)) x xs each) rest (across (f x) (λ k d within. apart 0 (suc k) d (omega arith) (omega arith)))
  where
    across : (ms : List Y) → All (λ (y : X). All (λ m. All (R m) (f y)) ms) xs → All (λ m. All (R m) (flat_map f xs)) ms
    across ms h = λ k d within. All-flat_map (R (get_or ms k d)) f xs (λ j e inside. h j e inside k d within)

-- a sum whose terms are no greater is no greater
sum_by-le-each : {X : Type 0} (f g : X → ℕ) (xs : List X) → All (λ x. f x ≤ g x) xs → sum_by f xs ≤ sum_by g xs
sum_by-le-each f g [] less = omega arith
sum_by-le-each {X} f g (x ∷ xs) less =
    let rest = sum_by-le-each f g xs (All-tail (λ (y : X). f y ≤ g y) x xs less) in
    let first = All-head (λ (y : X). f y ≤ g y) x xs less in
    omega (arith, sum_by-cons f x xs, sum_by-cons g x xs)

-- distinct numbers below n are at most n
few_below : (ns : List ℕ) (n : ℕ) → AllPairs (λ i j. i ≢ j) ns → All (λ m. m < n) ns → length ns ≤ n
few_below ns n apart below =
    length-le_from_distinct_below ns n (IsDistinct-from_AllPairs Decides-eqb ns apart)
    (λ q any. let h = Any-from_list_any (λ m. q == m) ns any in
    let same : q ≡ h.1 = eqb-true q h.1 h.4 in
    subst (λ m. m < n) (h.3 ∙ sym same) (below h.0 h.1 h.2))

-- the slots that a record has in the new table, numbered across the buckets
abbrev new_slots : Places → Rec → List ℕ
new_slots places r = map (λ b. b * 64 + new_slot places r.peer b) (buckets_of r)

-- the slot that it has in the tried table, if it is there
abbrev tried_slots : Places → Rec → List ℕ
tried_slots places r =
    let bucket = tried_bucket places r.peer in
    if is_tried r then (bucket * 64 + tried_slot places r.peer bucket) ∷ [] else []

-- no two records of the list have one number
pub numbers_apart : (st : State) → IsSound st → AllPairs (λ (r : Rec) (q : Rec). r.number ≢ q.number) st.records
numbers_apart st sound i j d below within same =
    let rise : (get_or st.records i d).number < (get_or st.records j d).number =
    AllPairs-from_map (λ m n. m < n) (λ (r : Rec). r.number) st.records (AllPairs-from_increasing (map (λ r. r.number) st.records) sound.rising) i j d below within in
    omega arith

new_slots-apart : (st : State) → IsSound st → (r q : Rec) → Contains st.records r → Contains st.records q → r.number ≢ q.number
    → All (λ m. All (λ n. m ≢ n) (new_slots st.places q)) (new_slots st.places r)
new_slots-apart st sound r q has_r has_q apart =
    All-map (λ m. All (λ n. m ≢ n) (new_slots st.places q)) (λ b. b * 64 + new_slot st.places r.peer b) (buckets_of r)
    (All-from_Contains (λ b. All (λ n. b * 64 + new_slot st.places r.peer b ≢ n) (new_slots st.places q)) (buckets_of r)
    (λ b listed_b. All-map (λ n. b * 64 + new_slot st.places r.peer b ≢ n) (λ c. c * 64 + new_slot st.places q.peer c) (buckets_of q)
    (All-from_Contains (λ c. b * 64 + new_slot st.places r.peer b ≢ c * 64 + new_slot st.places q.peer c) (buckets_of q)
    (λ c listed_c same.
    let parts = same_from_place b (new_slot st.places r.peer b) c (new_slot st.places q.peer c) 64 (new_slot-below st.places r.peer b) (new_slot-below st.places q.peer c) same in
    apart (sound.new_slots b (new_slot st.places r.peer b) r q has_r has_q
    (new_at_from st.places b (new_slot st.places r.peer b) r listed_b refl)
    (new_at_from st.places b (new_slot st.places r.peer b) q (subst (Contains (buckets_of q)) (sym parts.0) listed_c)
    (ap (new_slot st.places q.peer) parts.0 ∙ sym parts.1)))))))

new_slots-distinct : (places : Places) (r : Rec) → IsRec r → AllPairs (λ m n. m ≢ n) (new_slots places r)
new_slots-distinct places r fits =
    AllPairs-map (λ m n. m ≢ n) (λ b. b * 64 + new_slot places r.peer b) (buckets_of r)
    (λ i j d below within same.
    let are = AreBuckets-of r.place fits.place (omega arith) in
    let rise : get_or (buckets_of r) i d < get_or (buckets_of r) j d = AllPairs-from_increasing (buckets_of r) are.rising i j d below within in
    let parts = same_from_place (get_or (buckets_of r) i d) (new_slot places r.peer (get_or (buckets_of r) i d)) (get_or (buckets_of r) j d) (new_slot places r.peer (get_or (buckets_of r) j d)) 64
    (new_slot-below places r.peer (get_or (buckets_of r) i d)) (new_slot-below places r.peer (get_or (buckets_of r) j d)) same in
    omega (arith, parts.0))

new_slots-below : (places : Places) (r : Rec) → IsRec r → All (λ m. m < 65536) (new_slots places r)
new_slots-below places r fits =
    All-map (λ m. m < 65536) (λ b. b * 64 + new_slot places r.peer b) (buckets_of r)
    (λ k d within.
    let are = AreBuckets-of r.place fits.place (omega arith) in
    let low = are.below k d within in
    let slot = new_slot-below places r.peer (get_or (buckets_of r) k d) in
    omega arith)

-- the records list at most 1024 * 64 buckets together
pub few_buckets : (st : State) → IsSound st → sum_by (λ r. length (buckets_of r)) st.records ≤ 65536
few_buckets st sound =
    let slots = flat_map (new_slots st.places) st.records in
    let fits : (r : Rec) → Contains st.records r → IsRec r = λ r c. All-contains IsRec st.records r sound.records c in
    let few = few_below slots 65536
    (AllPairs-flat_map (λ m n. m ≢ n) (new_slots st.places) st.records
    (All-from_Contains (λ r. AllPairs (λ m n. m ≢ n) (new_slots st.places r)) st.records (λ r c. new_slots-distinct st.places r (fits r c)))
    (λ i j d below within. new_slots-apart st sound (get_or st.records i d) (get_or st.records j d)
    (Contains-get_or st.records i d (omega arith)) (Contains-get_or st.records j d within) (numbers_apart st sound i j d below within)))
    (All-flat_map (λ m. m < 65536) (new_slots st.places) st.records
    (All-from_Contains (λ r. All (λ m. m < 65536) (new_slots st.places r)) st.records (λ r c. new_slots-below st.places r (fits r c)))) in
    let long = length-flat_map (new_slots st.places) st.records in
    let each = sum_by-le-each (λ (r : Rec). length (buckets_of r)) (λ (r : Rec). length (new_slots st.places r)) st.records
    (λ k d within. omega (arith, length-map (buckets_of (get_or st.records k d)) (λ b. b * 64 + new_slot st.places (get_or st.records k d).peer b))) in
    omega arith

-- at most 1024 * 64 records are in new, since each lists a bucket
pub few_new : (st : State) → IsSound st → count_by (λ r. not (is_tried r)) st.records ≤ 65536
few_new st sound =
    let each = sum_by-le-each (λ (r : Rec). if not (is_tried r) then 1 else 0) (λ (r : Rec). length (buckets_of r)) st.records
    (λ k d within. let fits = sound.records k d within in by (get_or st.records k d).place fits.place) in
    let few = few_buckets st sound in
    omega arith
  where
    by : (place : Place) → IsPlace place → (if not (tried_by place) then 1 else 0) ≤ length (buckets_by place)
    by (New buckets) is = let some = is.some in omega arith
    by Tried is = omega arith

-- the peer's slot in the tried table, numbered across the buckets
abbrev tried_number : Places → Peer → ℕ
tried_number places peer = tried_bucket places peer * 64 + own_slot places peer

tried_numbers-differ : (st : State) → IsSound st → (r q : Rec) → Contains st.records r → Contains st.records q → r.number ≢ q.number
    → is_tried r ≡ true → is_tried q ≡ true → tried_number st.places r.peer ≢ tried_number st.places q.peer
tried_numbers-differ st sound r q has_r has_q apart r_tried q_tried same =
    let bucket = tried_bucket st.places r.peer in
    let slot = tried_slot st.places r.peer bucket in
    let parts = same_from_place bucket slot (tried_bucket st.places q.peer) (own_slot st.places q.peer) 64
    (tried_slot-below st.places r.peer bucket) (tried_slot-below st.places q.peer (tried_bucket st.places q.peer)) same in
    apart (sound.tried_slots bucket slot r q has_r has_q
    (tried_at_from st.places bucket slot r r_tried refl refl)
    (tried_at_from st.places bucket slot q q_tried (sym parts.0) (ap (tried_slot st.places q.peer) parts.0 ∙ sym parts.1)))

tried_slots-apart : (st : State) → IsSound st → (r q : Rec) → Contains st.records r → Contains st.records q → r.number ≢ q.number
    → All (λ m. All (λ n. m ≢ n) (tried_slots st.places q)) (tried_slots st.places r)
tried_slots-apart st sound r q has_r has_q apart = by (is_tried r) (is_tried q) refl refl
  where
    by : (a b : Bool) → is_tried r ≡ a → is_tried q ≡ b
        → All (λ m. All (λ n. m ≢ n) (if b then tried_number st.places q.peer ∷ [] else [])) (if a then tried_number st.places r.peer ∷ [] else [])
    by true true r_tried q_tried =
        All-cons (λ m. All (λ n. m ≢ n) (tried_number st.places q.peer ∷ [])) (tried_number st.places r.peer) []
        (All-cons (λ n. tried_number st.places r.peer ≢ n) (tried_number st.places q.peer) [] (tried_numbers-differ st sound r q has_r has_q apart r_tried q_tried)
        (λ k d within. absurd (omega arith)))
        (λ k d within. absurd (omega arith))
    by true false r_tried q_new = λ k d within j e inside. absurd (omega arith)
    by false b r_new h = λ k d within. absurd (omega arith)

tried_slots-one : (places : Places) (r : Rec) → AllPairs (λ m n. m ≢ n) (tried_slots places r) × All (λ m. m < 16384) (tried_slots places r)
tried_slots-one places r = by (is_tried r)
  where
    by : (b : Bool) → AllPairs (λ m n. m ≢ n) (if b then tried_number places r.peer ∷ [] else []) × All (λ m. m < 16384) (if b then tried_number places r.peer ∷ [] else [])
    by true = (
      λ i j d below within. absurd (omega arith),
      All-cons (λ m. m < 16384) (tried_number places r.peer) []
          (let bucket = tried_bucket-below places r.peer in let slot = tried_slot-below places r.peer (tried_bucket places r.peer) in omega arith)
          (λ k d within. absurd (omega arith)),
    )
    by false = (λ i j d below within. absurd (omega arith), λ k d within. absurd (omega arith))

-- at most 256 * 64 records are in tried
pub few_tried : (st : State) → IsSound st → count_by is_tried st.records ≤ 16384
few_tried st sound =
    let few = few_below (flat_map (tried_slots st.places) st.records) 16384
    (AllPairs-flat_map (λ m n. m ≢ n) (tried_slots st.places) st.records
    (λ k d within. (tried_slots-one st.places (get_or st.records k d)).0)
    (λ i j d below within. tried_slots-apart st sound (get_or st.records i d) (get_or st.records j d)
    (Contains-get_or st.records i d (omega arith)) (Contains-get_or st.records j d within) (numbers_apart st sound i j d below within)))
    (All-flat_map (λ m. m < 16384) (tried_slots st.places) st.records (λ k d within. (tried_slots-one st.places (get_or st.records k d)).1)) in
    let long = length-flat_map (tried_slots st.places) st.records in
    let each = sum_by-le-each (λ (r : Rec). if is_tried r then 1 else 0) (λ (r : Rec). length (tried_slots st.places r)) st.records
    (λ k d within. by (is_tried (get_or st.records k d)) (tried_number st.places (get_or st.records k d).peer)) in
    omega arith
  where
    by : (b : Bool) (n : ℕ) → (if b then 1 else 0) ≤ length (if b then n ∷ [] else [])
    by true n = omega arith
    by false n = omega arith

-- at most 81,920 records in all, and as many numbers in the order
pub few_records : (st : State) → IsSound st → length st.records ≤ 81920
few_records st sound =
    let new = few_new st sound in let tried = few_tried st sound in
    omega (
      arith,
      length-filter_both is_tried (λ r. not (is_tried r)) (λ r. refl) st.records,
      length-filter is_tried st.records,
      length-filter (λ r. not (is_tried r)) st.records,
    )

pub few_in_order : (st : State) → IsSound st → length st.order ≤ 81920
few_in_order st sound =
    let few = few_records st sound in
    omega (arith, length_permutation (map (λ r. r.number) st.records) st.order sound.order, length-map st.records (λ r. r.number))
