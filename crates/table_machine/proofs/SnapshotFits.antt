-- What a save writes of a sound state meets the conditions of a snapshot and of the file, and the
-- state after a restart is sound.
use Rattle.std.proofs.Common.{All, Bool, filter, ◌≡◌, ℕ, ◌+◌, ◌*◌, ◌<◌, ◌≤◌, not, List, [], ◌∷◌, length, map, get_or, AllPairs, Contains, flat_map, Option, Some, None, refl, subst, arith, length-append}
use Rattle.std.specs.List.{range_with_len}
use Rattle.std.proofs.lemmas.List.{length-map}
use Rattle.std.proofs.lemmas.List.Elements.{All-contains, All-filter, All-map, All-weaker, Contains-get_or}
use Rattle.std.proofs.lemmas.List.FromFn.{length-range_with_len, get_or-range_with_len}
use Rattle.std.proofs.lemmas.List.Sums.{length-filter}
use Rattle.peer_rec.specs.Rec.{IsRec, buckets_of, is_tried}
use Rattle.peer_rec.specs.declared.file_rec.FileRec.{FileRec}
use Rattle.peer_rec.specs.declared.rec.Rec.{Rec}
use Rattle.table_machine.specs.State.{State, new_rec_at}
use Rattle.table_machine.specs.Sound.{IsSound}
use Rattle.table_machine.proofs.Buckets.{AreBuckets-of}
use Rattle.table_machine.proofs.Counts.{AllPairs-flat_map, few_new, few_tried}
use Rattle.table_machine.proofs.Lists.{All-from_Contains, none_in_nil}
use Rattle.peer_rec.specs.Snapshot.{IsFileRec, Snapshot}
use Rattle.table_machine.specs.Snapshot.{file_rec, listed_in, listed_of, new_records, pair_at, pair_of, snapshot_of, tried_records}
use Rattle.table_machine.specs.Restart.{restart}
use Rattle.table_machine.proofs.Part.{at-Contains, at-one, at_below, Contains-at}
use Rattle.table_machine.proofs.Grown.{all_of, all_of-apart, all_of-from}
use Rattle.table_machine.proofs.Listed.{Contains-from_flat_map, at-append, listed-from, new-there, pair-from}
use Rattle.table_machine.proofs.RestartLaw.{no_duplicate, restart_law}
use Rattle.table_machine.proofs.RestoredSound.{IsFile, restored_sound}

file_rec-fits : (r : Rec) → IsRec r → IsFileRec (file_rec r)
file_rec-fits r fits = record {
  addr = fits.addr;
  port = fits.port;
  source = fits.source;
  time = fits.time;
  services = fits.services;
  last_success = fits.last_success;
  attempts = fits.attempts;
}

-- if each part has at most k elements, there are at most k for each part
length-flat_map-le : {X Y : Type 0} (f : X → List Y) (k : ℕ) (xs : List X) → ((x : X) → length (f x) ≤ k) → length (flat_map f xs) ≤ k * length xs
length-flat_map-le f k [] few = omega arith
length-flat_map-le f k (x ∷ xs) few =
    let rest = length-flat_map-le f k xs few in
    omega (arith, few x, length-append (f x) (flat_map f xs))

one : (st : State) (bucket : ℕ) (o : Option Rec) → length (pair_of st bucket o) ≤ 1
one st bucket None = omega arith
one st bucket (Some r) = omega arith

-- the pairs are no more than the slots
pub few_pairs : (st : State) → length (listed_of st) ≤ 65536
unfolding listed_in listed_of
few_pairs st =
    let all = length-flat_map-le (listed_in st) 64 (range_with_len 0 1024) (λ bucket.
    let few = length-flat_map-le (pair_at st bucket) 1 (range_with_len 0 64) (λ slot. one st bucket (new_rec_at st bucket slot)) in
    omega (arith, length-range_with_len 0 64)) in
    omega (arith, length-range_with_len 0 1024)

bucket-of : (st : State) → IsSound st → (bucket : ℕ) (m : ℕ × ℕ) → Contains (listed_in st bucket) m → m.0 ≡ bucket
unfolding listed_in
bucket-of st sound bucket m c =
    let two = Contains-from_flat_map (pair_at st bucket) (range_with_len 0 64) m c in
    (pair-from st sound bucket two.0 m two.2).bucket_is

pairs-in : (st : State) → IsSound st → (p : ℕ × ℕ) → Contains (listed_of st) p → (p.0 < 1024) × (p.1 < length (map file_rec (new_records st)))
pairs-in st sound p c =
    let h = listed-from st sound p c in
    let r = h.0 in
    let there = all_of-from st r (at-Contains 0 (all_of st) p.1 r h.1) in
    let are = AreBuckets-of r.place (All-contains IsRec st.records r sound.records there).place (some (buckets_of r) h.2) in
    let k = Contains-at 0 (new_records st) r (new-there st r p.0 there h.2) in
    let same : p.1 ≡ k.0 = at-one 0 (all_of st) p.1 k.0 r r (all_of-apart st sound) h.1 (at-append 0 (new_records st) (tried_records st) k.0 r k.1) refl in
    (All-contains (λ n. n < 1024) (buckets_of r) p.0 are.below h.2, omega (arith, same, at_below 0 (new_records st) k.0 r k.1, length-map (new_records st) file_rec))
  where
    some : (bs : List ℕ) → Contains bs p.0 → 0 < length bs
    some [] c = absurd (none_in_nil p.0 c)
    some (x ∷ bs) c = omega arith

pairs-rising : (st : State) → IsSound st → AllPairs (λ (p : ℕ × ℕ) (q : ℕ × ℕ). p.0 ≤ q.0) (listed_of st)
unfolding listed_in listed_of
pairs-rising st sound =
    AllPairs-flat_map (λ (p : ℕ × ℕ) (q : ℕ × ℕ). p.0 ≤ q.0) (listed_in st) (range_with_len 0 1024)
    (λ k d within i j e below inside.
    let bucket = get_or (range_with_len 0 1024) k d in
    omega (arith, bucket-of st sound bucket (get_or (listed_in st bucket) i e) (Contains-get_or (listed_in st bucket) i e (omega arith)), bucket-of st sound bucket (get_or (listed_in st bucket) j e) (Contains-get_or (listed_in st bucket) j e inside)))
    (λ i j d below within k e one_in l f two_in.
    let long = length-range_with_len 0 1024 in
    let b = get_or (range_with_len 0 1024) i d in
    let c = get_or (range_with_len 0 1024) j d in
    let first : b ≡ 0 + i = get_or-range_with_len 0 1024 i d (omega arith) in
    let second : c ≡ 0 + j = get_or-range_with_len 0 1024 j d (omega arith) in
    omega (arith, first, second, bucket-of st sound b (get_or (listed_in st b) k e) (Contains-get_or (listed_in st b) k e one_in), bucket-of st sound c (get_or (listed_in st c) l f) (Contains-get_or (listed_in st c) l f two_in)))

-- what a snapshot is made with
pub record Fits (snap : Snapshot) : Type 0 where
  pub few_new : length snap.new_recs ≤ 65536
  pub few_tried : length snap.tried_recs ≤ 16384
  pub new_attempts : All (λ r. r.attempts ≤ 2147483647) snap.new_recs
  pub tried_attempts : All (λ r. r.attempts ≤ 2147483647) snap.tried_recs
  pub few_buckets : snap.bucket_count ≤ 65536
  pub buckets : All (λ pair. pair.0 < snap.bucket_count) snap.listed
  pub indexes : All (λ pair. pair.1 < length snap.new_recs) snap.listed
  pub rising : AllPairs (λ pair later. pair.0 ≤ later.0) snap.listed

file_recs-fit : (st : State) → IsSound st → (keeps : Rec → Bool) → All IsFileRec (map file_rec (filter keeps st.records))
file_recs-fit st sound keeps =
    All-map IsFileRec file_rec (filter keeps st.records)
    (All-weaker IsRec (λ (r : Rec). IsFileRec (file_rec r)) file_rec-fits (filter keeps st.records) (All-filter keeps IsRec st.records sound.records))

pub snapshot_is_file : (st : State) → IsSound st → IsFile (snapshot_of st)
snapshot_is_file st sound =
    let new = few_new st sound in
    let tried = few_tried st sound in
    record {
      few_new = omega (arith, length-map (new_records st) file_rec, length-filter (λ (r : Rec). not (is_tried r)) st.records);
      few_tried = omega (arith, length-map (tried_records st) file_rec, length-filter is_tried st.records);
      new_recs = file_recs-fit st sound (λ r. not (is_tried r));
      tried_recs = file_recs-fit st sound is_tried;
      buckets = All-from_Contains (λ (p : ℕ × ℕ). p.0 < 1024) (listed_of st) (λ p c. (pairs-in st sound p c).0);
    }

pub snapshot_fits : (st : State) → IsSound st → Fits (snapshot_of st)
snapshot_fits st sound =
    let is = snapshot_is_file st sound in
    record {
      few_new = is.few_new;
      few_tried = is.few_tried;
      new_attempts = All-weaker IsFileRec (λ (r : FileRec). r.attempts ≤ 2147483647) (λ r h. h.attempts) (map file_rec (new_records st)) is.new_recs;
      tried_attempts = All-weaker IsFileRec (λ (r : FileRec). r.attempts ≤ 2147483647) (λ r h. h.attempts) (map file_rec (tried_records st)) is.tried_recs;
      few_buckets = omega arith;
      buckets = is.buckets;
      indexes = All-from_Contains (λ (p : ℕ × ℕ). p.1 < length (map file_rec (new_records st))) (listed_of st) (λ p c. (pairs-in st sound p c).1);
      rising = pairs-rising st sound;
    }

pub restart_sound : (st : State) → IsSound st → IsSound (restart st)
restart_sound st sound =
    subst IsSound (restart_law st sound) (restored_sound (snapshot_of st) st.places (snapshot_is_file st sound) sound.places (no_duplicate st sound))
