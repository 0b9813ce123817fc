-- The buckets of a file that is read list only records that it has.
use Rattle.std.proofs.Common.{◌≡◌, ℕ, zero, suc, ◌+◌, ◌<◌, Bool, true, false, nat_lt, List, [], ◌∷◌, length, map, filter, flat_map, All, refl, sym, ap, subst, ◌∙◌, if◌then◌else◌}
use Rattle.std.proofs.lemmas.Bool.{ltb-true}
use Rattle.std.proofs.lemmas.List.Elements.{All-append, All-cons, All-head, All-nil, All-tail}
use Rattle.wire_num.specs.Format.{Format, sequence, times, value}
use Rattle.peer_rec.specs.Snapshot.{Snapshot}
use Rattle.peers_file.specs.Layout.{IsFile, body, between, bucket_of, buckets_of, pairs_with, record_in}
use Rattle.peers_file.specs.declared.chain.Chain.{Chain}

module _ {F A : Type 0} (p : ℕ → Format F A) where
  -- so many values
  times-long : (n i : ℕ) (bytes : List ℕ) (xs : List A) → (times i n p).spells bytes xs → length xs ≡ n
  unfolding times sequence value
  times-long zero i bytes xs h = ap length (sym h.1)
  times-long (suc n) i bytes xs h = ap length (sym h.3.3.1) ∙ ap suc (times-long n (i + 1) h.3.2.front h.3.0 h.3.2.spelled)

module _ {F A : Type 0} (P : A → Type 0) (p : ℕ → Format F A) (each : (i : ℕ) (bytes : List ℕ) (a : A) → (p i).spells bytes a → P a) where
  -- and what holds of each
  times-each : (n i : ℕ) (bytes : List ℕ) (xs : List A) → (times i n p).spells bytes xs → All P xs
  unfolding times sequence value
  times-each zero i bytes xs h = subst (All P) h.1 (All-nil P)
  times-each (suc n) i bytes xs h =
      subst (All P) h.3.3.1 (All-cons P h.0 h.3.0 (each i h.2.front h.0 h.2.spelled) (times-each n (i + 1) h.3.2.front h.3.0 h.3.2.spelled))

abbrev pub AreBelow : ℕ → List (ℕ × ℕ) → Type 0
AreBelow k = All (λ pair. pair.1 < k)

with-below : (k bucket : ℕ) (indexes : List ℕ) → AreBelow k (pairs_with k bucket indexes)
with-below k bucket [] = All-nil (λ (pair : ℕ × ℕ). pair.1 < k)
with-below k bucket (i ∷ indexes) = by (nat_lt i k) refl (with-below k bucket indexes)
  where
    by : (b : Bool) → nat_lt i k ≡ b → AreBelow k (pairs_with k bucket indexes)
        → AreBelow k (map (λ (j : ℕ). (bucket, j)) (if b then i ∷ filter (λ j. nat_lt j k) indexes else filter (λ j. nat_lt j k) indexes))
    by true is rest = All-cons (λ (pair : ℕ × ℕ). pair.1 < k) (bucket, i) (pairs_with k bucket indexes) (ltb-true i k is) rest
    by false is rest = rest

bucket-below : (k bucket : ℕ) (bytes : List ℕ) (pairs : List (ℕ × ℕ)) → (bucket_of k bucket).spells bytes pairs → AreBelow k pairs
unfolding bucket_of sequence value
bucket-below k bucket bytes pairs h = subst (AreBelow k) h.3.3.1 (with-below k bucket h.3.0)

joined-below : (k : ℕ) (lists : List (List (ℕ × ℕ))) → All (AreBelow k) lists → AreBelow k (flat_map (λ pairs. pairs) lists)
joined-below k [] h = All-nil (λ (pair : ℕ × ℕ). pair.1 < k)
joined-below k (pairs ∷ lists) h =
    All-append (λ (pair : ℕ × ℕ). pair.1 < k) pairs (flat_map (λ pairs. pairs) lists) (All-head (AreBelow k) pairs lists h) (joined-below k lists (All-tail (AreBelow k) pairs lists h))

buckets-below : (k count : ℕ) (bytes : List ℕ) (pairs : List (ℕ × ℕ)) → (buckets_of k count).spells bytes pairs → AreBelow k pairs
unfolding buckets_of sequence value
buckets-below k count bytes pairs h = subst (AreBelow k) h.3.1 (joined-below k h.0 (times-each (AreBelow k) (bucket_of k) (bucket-below k) count 0 h.2.front h.0 h.2.spelled))

body-below : (bytes : List ℕ) (snap : Snapshot) → body.spells bytes snap → AreBelow (length snap.new_recs) snap.listed
unfolding body sequence value
body-below bytes snap h =
    let new = h.3 in
    let listed = new.3.3 in
    let long = times-long (record_in h.0.format) h.0.new_count 0 new.2.front new.0 new.2.spelled in
    subst (λ (s : Snapshot). AreBelow (length s.new_recs) s.listed) listed.3.3.1
    (subst (λ k. AreBelow k listed.0) (sym long) (buckets-below h.0.new_count h.0.bucket_count listed.2.front listed.0 listed.2.spelled))

pub file-below : (chain : Chain) (bytes : List ℕ) (snap : Snapshot) → IsFile chain bytes snap → AreBelow (length snap.new_recs) snap.listed
file-below chain bytes snap is = body-below (between bytes) snap is.1
