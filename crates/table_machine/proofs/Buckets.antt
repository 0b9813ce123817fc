-- A record's list of buckets with another one, and without one.
use Rattle.std.proofs.Common.{◌≡◌, ◌≢◌, ℕ, suc, ◌+◌, ◌<◌, ◌≤◌, Bool, not, ◌==◌, nat_lt, List, ◌∷◌, length, get_or, All, Contains, filter, sym, ap, ◌∙◌, inl, inr, ⊎_elim, ◌⊎◌, arith, length-append}
use Rattle.std.specs.List.Sorted.{IsStrictlyIncreasing}
use Rattle.std.proofs.lemmas.Bool.{both_ways, ltb-true}
use Rattle.std.proofs.lemmas.Bool.Decides.{Decides-eqb}
use Rattle.std.proofs.lemmas.List.Elements.{All-filter, All-append, All-cons, filter_passes, Contains-append_cases}
use Rattle.std.proofs.lemmas.List.Kept.{IsStrictlyIncreasing-filter, AllPairs-from_increasing, AllPairs-cons, AllPairs-filter}
use Rattle.std.proofs.lemmas.List.Sums.{count_by-le-length, length-filter}
use Rattle.std.proofs.lemmas.Nat.{mod_below}
use Rattle.net_addr.specs.Address.{Address}
use Rattle.net_addr.specs.declared.peer.Peer.{Peer}
use Rattle.placing.specs.Places.{Places, new_bucket}
use Rattle.peer_rec.specs.Rec.{AreBuckets, IsPlace, IsRec, buckets_by, buckets_of}
use Rattle.peer_rec.specs.declared.rec.Rec.{Rec}
use Rattle.peer_rec.specs.declared.place.Place.{Place}
use Rattle.peer_rec.specs.declared.place.Place.TheVariants.{New, Tried}
use Rattle.peer_rec.proofs.Lists.{length-below_above}
use Rattle.peer_rec.specs.Buckets.{with_bucket, without_bucket}
use Rattle.table_machine.proofs.Fields.{IsRec-with}
use Rattle.table_machine.proofs.Lists.{Contains-cases, Contains-from_filter, increasing_from_pairs, pairs_append_by}

pub length_filter_le : {X : Type 0} (p : X → Bool) (xs : List X) → length (filter p xs) ≤ length xs
length_filter_le p xs = let few = count_by-le-length p xs in omega (arith, length-filter p xs)

-- a list with another bucket
pub with_bucket-cases : (bucket : ℕ) (buckets : List ℕ) (b : ℕ) → Contains (with_bucket bucket buckets) b → (b ≡ bucket) ⊎ Contains buckets b
with_bucket-cases bucket buckets b c =
    ⊎_elim
    (λ low. inr (Contains-from_filter (λ n. nat_lt n bucket) buckets b low).0)
    (λ rest. ⊎_elim (λ (one : bucket ≡ b). inl (sym one)) (λ high. inr (Contains-from_filter (λ n. nat_lt bucket n) buckets b high).0)
    (Contains-cases bucket (filter (λ n. nat_lt bucket n) buckets) b rest))
    (Contains-append_cases (filter (λ n. nat_lt n bucket) buckets) (bucket ∷ filter (λ n. nat_lt bucket n) buckets) b c)

pub rising-with_bucket : (bucket : ℕ) (buckets : List ℕ) → IsStrictlyIncreasing buckets → IsStrictlyIncreasing (with_bucket bucket buckets)
rising-with_bucket bucket buckets rising =
    let low = filter (λ n. nat_lt n bucket) buckets in
    let high = filter (λ n. nat_lt bucket n) buckets in
    let pairs = AllPairs-from_increasing buckets rising in
    let above : All (λ n. bucket < n) high = λ k d within. ltb-true bucket (get_or high k d) (filter_passes (λ n. nat_lt bucket n) buckets k d within) in
    let below : All (λ n. n < bucket) low = λ k d within. ltb-true (get_or low k d) bucket (filter_passes (λ n. nat_lt n bucket) buckets k d within) in
    increasing_from_pairs (with_bucket bucket buckets)
    (pairs_append_by (λ m n. m < n) low (bucket ∷ high) (AllPairs-filter (λ m n. m < n) (λ n. nat_lt n bucket) buckets pairs)
    (AllPairs-cons (λ m n. m < n) bucket high above (AllPairs-filter (λ m n. m < n) (λ n. nat_lt bucket n) buckets pairs))
    (λ k d within.
    let first = below k d within in
    All-cons (λ n. get_or low k d < n) bucket high first (λ j e inside. let second = above j e inside in omega arith)))

pub long-with_bucket : (bucket : ℕ) (buckets : List ℕ) → length (with_bucket bucket buckets) ≡ suc (length (filter (λ n. nat_lt n bucket) buckets) + length (filter (λ n. nat_lt bucket n) buckets))
long-with_bucket bucket buckets =
    length-append (filter (λ n. nat_lt n bucket) buckets) (bucket ∷ filter (λ n. nat_lt bucket n) buckets) ∙ omega arith

-- a list without one bucket
pub without_bucket-cases : (bucket : ℕ) (buckets : List ℕ) (b : ℕ) → Contains (without_bucket bucket buckets) b → Contains buckets b × (b ≢ bucket)
without_bucket-cases bucket buckets b c =
    let h = Contains-from_filter (λ n. not (n == bucket)) buckets b c in
    (h.0, λ same. both_ways (not (b == bucket)) (ap not ((Decides-eqb b bucket).1 same)) h.1)

-- a record that can list another bucket: it fits except for its place, and lists fewer than eight
pub record HasRoom (r : Rec) : Type 0 where
  pub fields : IsRec (record r { place = Tried })
  pub few : length (buckets_of r) < 8
  pub below : All (λ b. b < 1024) (buckets_of r)
  pub rising : IsStrictlyIncreasing (buckets_of r)

-- the record at another place
abbrev pub placed : Rec → Place → Rec
placed r place = record r { place = place }

pub IsRec-placed : (r : Rec) (old new : Place) → IsRec (placed r old) → IsPlace new → IsRec (placed r new)
IsRec-placed r old new fits is =
    IsRec-with (placed r old) _ _ _ _ _ _ new fits fits.time fits.services fits.last_success fits.last_try fits.last_count fits.attempts is

pub AreBuckets-of : (place : Place) → IsPlace place → 0 < length (buckets_by place) → AreBuckets (buckets_by place)
AreBuckets-of (New buckets) is some = is
AreBuckets-of Tried is some = absurd (omega arith)

-- with another bucket it fits
pub IsRec-with_bucket : (r : Rec) (bucket : ℕ) → HasRoom r → bucket < 1024 → IsRec (placed r (New (with_bucket bucket (buckets_of r))))
IsRec-with_bucket r bucket room below =
    let buckets = buckets_of r in
    let long = long-with_bucket bucket buckets in
    let most = length-below_above bucket buckets in
    let few = room.few in
    IsRec-placed r Tried (New (with_bucket bucket buckets)) room.fields record {
      some = omega arith;
      most = omega arith;
      below = All-append (λ b. b < 1024) (filter (λ n. nat_lt n bucket) buckets) (bucket ∷ filter (λ n. nat_lt bucket n) buckets)
          (All-filter (λ n. nat_lt n bucket) (λ b. b < 1024) buckets room.below)
          (All-cons (λ b. b < 1024) bucket (filter (λ n. nat_lt bucket n) buckets) below (All-filter (λ n. nat_lt bucket n) (λ b. b < 1024) buckets room.below));
      rising = rising-with_bucket bucket buckets room.rising;
    }

-- without one of its buckets it fits, if it has another
pub IsRec-without_bucket : (r : Rec) (bucket : ℕ) → IsRec r → 0 < length (without_bucket bucket (buckets_of r)) → IsRec (placed r (New (without_bucket bucket (buckets_of r))))
IsRec-without_bucket r bucket fits some =
    let buckets = buckets_of r in
    let few : length (without_bucket bucket buckets) ≤ length buckets = length_filter_le (λ b. not (b == bucket)) buckets in
    let are = AreBuckets-of r.place fits.place (omega arith) in
    let most = are.most in
    IsRec-placed r r.place (New (without_bucket bucket buckets)) fits record {
      some = some;
      most = omega arith;
      below = All-filter (λ b. not (b == bucket)) (λ b. b < 1024) buckets are.below;
      rising = IsStrictlyIncreasing-filter (λ b. not (b == bucket)) buckets are.rising;
    }

-- a record that fits has room unless it lists eight buckets
pub HasRoom-from_IsRec : (r : Rec) → IsRec r → length (buckets_of r) ≢ 8 → HasRoom r
HasRoom-from_IsRec r fits other = record {
  fields = IsRec-placed r r.place Tried fits tt;
  few = (few r.place fits.place other);
  below = (below r.place fits.place);
  rising = (rising r.place fits.place);
}
  where
    few : (place : Place) → IsPlace place → length (buckets_by place) ≢ 8 → length (buckets_by place) < 8
    few (New buckets) is other = let most = is.most in omega arith
    few Tried is other = omega arith

    below : (place : Place) → IsPlace place → All (λ b. b < 1024) (buckets_by place)
    below (New buckets) is = is.below
    below Tried is = λ k d within. absurd (omega arith)

    rising : (place : Place) → IsPlace place → IsStrictlyIncreasing (buckets_by place)
    rising (New buckets) is = is.rising
    rising Tried is = λ k within. absurd (omega arith)

-- a bucket of the new table is below 1024
pub new_bucket-below : (places : Places) (peer : Peer) (source : Address) → new_bucket places peer source < 1024
unfolding new_bucket
new_bucket-below places peer source = mod_below _ 1024 (omega arith)
