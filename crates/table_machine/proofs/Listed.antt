-- The pairs that a save writes: each bucket of each record of the new table, once.
use Rattle.std.proofs.Common.{◌≡◌, ◌≢◌, ℕ, ◌+◌, ◌<◌, Bool, true, false, not, ◌==◌, List, [], ◌∷◌, ◌++◌, length, get_or, All, AllPairs, Contains, flat_map, Option, Some, None, refl, sym, ap, subst, ◌∙◌, inl, inr, ⊎_elim, arith, if◌then◌else◌}
use Rattle.std.specs.List.{range_with_len}
use Rattle.std.proofs.lemmas.Bool.{eqb-false}
use Rattle.std.proofs.lemmas.Bool.Decides.{Decides-eqb}
use Rattle.std.proofs.lemmas.List.Elements.{All-contains, Contains-append_cases, Contains-append_left, Contains-append_right}
use Rattle.std.proofs.lemmas.List.FromFn.{get_or-range_with_len, length-range_with_len}
use Rattle.placing.specs.Places.{new_slot}
use Rattle.peer_rec.specs.Rec.{IsRec, buckets_of, is_tried}
use Rattle.peer_rec.specs.declared.rec.Rec.{Rec}
use Rattle.table_machine.specs.State.{State, is_new_at, new_rec_at}
use Rattle.table_machine.specs.Sound.{IsSound}
use Rattle.table_machine.proofs.Buckets.{AreBuckets-of}
use Rattle.table_machine.proofs.Counts.{AllPairs-flat_map, new_slot-below, numbers_apart}
use Rattle.table_machine.proofs.Lists.{All-from_Contains, Contains-cases, Contains-filter, Contains-head, Contains-tail, find-Some, find_only, none_in_nil}
use Rattle.table_machine.proofs.Records.{new_at_from, new_at_parts, same_record}
use Rattle.table_machine.proofs.Slots.{untried-listed}
use Rattle.table_machine.specs.Snapshot.{index_in, listed_in, listed_of, new_records, pair_at, pair_of, tried_records}
use Rattle.table_machine.proofs.Part.{AreApart, At, at-Contains, at-one, at-same, Contains-at}
use Rattle.table_machine.proofs.Rising.{pairs_head, pairs_tail}
use Rattle.std.proofs.lemmas.List.Kept.{AllPairs-filter}
use Rattle.table_machine.proofs.Grown.{all_of, all_of-apart, all_of-from}
use Rattle.table_machine.proofs.Placed.{IsListed}

-- what the parts of a list contain
Contains-flat_map : {X Y : Type 0} (f : X → List Y) (xs : List X) (x : X) (y : Y) → Contains xs x → Contains (f x) y → Contains (flat_map f xs) y
Contains-flat_map f [] x y c e = absurd (none_in_nil x c)
Contains-flat_map {X} {Y} f (z ∷ zs) x y c e =
    ⊎_elim (λ (is : z ≡ x). Contains-append_left (f z) (flat_map f zs) y (subst (λ (w : X). Contains (f w) y) (sym is) e))
    (λ rest. Contains-append_right (f z) (flat_map f zs) y (Contains-flat_map f zs x y rest e)) (Contains-cases z zs x c)

pub Contains-from_flat_map : {X Y : Type 0} (f : X → List Y) (xs : List X) (y : Y) → Contains (flat_map f xs) y → (x : X) × Contains xs x × Contains (f x) y
Contains-from_flat_map f [] y c = absurd (none_in_nil y c)
Contains-from_flat_map f (z ∷ zs) y c =
    ⊎_elim (λ here. (z, Contains-head z zs, here)) (λ there. let h = Contains-from_flat_map f zs y there in (h.0, Contains-tail z zs h.0 h.1, h.2))
    (Contains-append_cases (f z) (flat_map f zs) y c)

pub in_range : (n k : ℕ) → k < n → Contains (range_with_len 0 n) k
in_range n k below = let long = length-range_with_len 0 n in (k, omega arith, get_or-range_with_len 0 n k k below ∙ omega arith)

range_apart : (n : ℕ) → AllPairs (λ i j. i ≢ j) (range_with_len 0 n)
range_apart n i j d below within same =
    let long = length-range_with_len 0 n in
    omega (arith, get_or-range_with_len 0 n i d (omega arith), get_or-range_with_len 0 n j d (omega arith))

-- the index of a record is its position
pub at-index : (n : ℕ) (rs : List Rec) (r : Rec) (m : ℕ) → AreApart rs → At n rs m r → m ≡ n + index_in rs r
at-index n [] r m apart at = absurd at
at-index n (x ∷ xs) r m apart at =
    by (x.number == r.number) refl (at-index (n + 1) xs r m (pairs_tail (λ (s : Rec) (t : Rec). s.number ≢ t.number) x xs apart)) at
  where
    by : (b : Bool) → (x.number == r.number) ≡ b → (At (n + 1) xs m r → m ≡ n + 1 + index_in xs r) → At n (x ∷ xs) m r
        → m ≡ n + (if not b then 1 + index_in xs r else 0)
    by true h more (inl e) = omega (arith, e.0)
    by true h more (inr rest) =
        absurd (pairs_head (λ (s : Rec) (t : Rec). s.number ≢ t.number) x r xs apart (at-Contains (n + 1) xs m r rest) ((Decides-eqb x.number r.number).0 h))
    by false h more (inl e) = absurd (eqb-false _ _ h (ap (λ (t : Rec). t.number) e.1))
    by false h more (inr rest) = let is = more rest in omega arith

pub at-append : (n : ℕ) (xs ys : List Rec) (m : ℕ) (r : Rec) → At n xs m r → At n (xs ++ ys) m r
at-append n [] ys m r at = absurd at
at-append n (x ∷ xs) ys m r (inl h) = inl h
at-append n (x ∷ xs) ys m r (inr rest) = inr (at-append (n + 1) xs ys m r rest)

-- a record of the new table has its index in the file
pub index-at : (st : State) → IsSound st → (r : Rec) → Contains (new_records st) r → At 0 (all_of st) (index_in (new_records st) r) r
index-at st sound r c =
    let apart = AllPairs-filter (λ (q : Rec) (s : Rec). q.number ≢ s.number) (λ (q : Rec). not (is_tried q)) st.records (numbers_apart st sound) in
    let h = Contains-at 0 (new_records st) r c in
    let is : h.0 ≡ index_in (new_records st) r = at-index 0 (new_records st) r h.0 apart h.1 ∙ omega arith in
    subst (λ m. At 0 (all_of st) m r) is (at-append 0 (new_records st) (tried_records st) h.0 r h.1)

pub new-there : (st : State) (r : Rec) (b : ℕ) → Contains st.records r → Contains (buckets_of r) b → Contains (new_records st) r
new-there st r b c listed = Contains-filter (λ (q : Rec). not (is_tried q)) st.records r c (ap not (untried-listed r b listed))

-- the record that a pair is written for, which is at the slot
pub record IsPairAt (st : State) (bucket slot : ℕ) (pair : ℕ × ℕ) : Type 0 where
  pub r : Rec
  pub there : Contains st.records r
  pub listed : Contains (buckets_of r) bucket
  pub slot_is : new_slot st.places r.peer bucket ≡ slot
  pub bucket_is : pair.0 ≡ bucket
  pub at : At 0 (all_of st) pair.1 r

pub pair-from : (st : State) → IsSound st → (bucket slot : ℕ) (pair : ℕ × ℕ) → Contains (pair_at st bucket slot) pair → IsPairAt st bucket slot pair
pair-from st sound bucket slot pair = by (new_rec_at st bucket slot) refl
  where
    by : (o : Option Rec) → new_rec_at st bucket slot ≡ o → Contains (pair_of st bucket o) pair → IsPairAt st bucket slot pair
    by None is c = absurd (none_in_nil pair c)
    by (Some r) is c =
        let h = find-Some (is_new_at st.places bucket slot) st.records r is in
        let parts = new_at_parts st.places bucket slot r h.1 in
        let same : (bucket, index_in (new_records st) r) ≡ pair =
        ⊎_elim (λ e. e) (λ rest. absurd (none_in_nil pair rest)) (Contains-cases (bucket, index_in (new_records st) r) [] pair c) in
        record {
          r = r;
          there = h.0;
          listed = parts.0;
          slot_is = parts.1;
          bucket_is = sym (ap (λ (p : ℕ × ℕ). p.0) same);
          at = subst (λ (p : ℕ × ℕ). At 0 (all_of st) p.1 r) same (index-at st sound r (new-there st r bucket h.0 parts.0));
        }

pub listed-from : (st : State) → IsSound st → (pair : ℕ × ℕ) → Contains (listed_of st) pair → IsListed st pair
unfolding listed_in listed_of
listed-from st sound pair c =
    let one = Contains-from_flat_map (listed_in st) (range_with_len 0 1024) pair c in
    let two = Contains-from_flat_map (pair_at st one.0) (range_with_len 0 64) pair one.2 in
    let h = pair-from st sound one.0 two.0 pair two.2 in
    (h.r, h.at, subst (Contains (buckets_of h.r)) (sym h.bucket_is) h.listed)

-- each bucket of each record is listed
pub listed-all : (st : State) → IsSound st → (m : ℕ) (r : Rec) → At 0 (all_of st) m r → (b : ℕ) → Contains (buckets_of r) b → Contains (listed_of st) (b, m)
unfolding listed_in listed_of
listed-all st sound m r at b listed =
    let there = all_of-from st r (at-Contains 0 (all_of st) m r at) in
    let slot = new_slot st.places r.peer b in
    let index = index_in (new_records st) r in
    let is : index ≡ m = at-one 0 (all_of st) index m r r (all_of-apart st sound) (index-at st sound r (new-there st r b there listed)) at refl in
    let occupant : new_rec_at st b slot ≡ Some r =
    find_only (is_new_at st.places b slot) st.records r there (new_at_from st.places b slot r listed refl)
    (λ q c at_q. same_record st.records q r sound.rising c there (sound.new_slots b slot q r c there at_q (new_at_from st.places b slot r listed refl))) in
    let here : Contains (pair_at st b slot) (b, index) = subst (λ o. Contains (pair_of st b o) (b, index)) (sym occupant) (Contains-head (b, index) []) in
    let are = AreBuckets-of r.place (All-contains IsRec st.records r sound.records there).place (some (buckets_of r) listed) in
    subst (λ k. Contains (listed_of st) (b, k)) is
    (Contains-flat_map (listed_in st) (range_with_len 0 1024) b (b, index) (in_range 1024 b (All-contains (λ n. n < 1024) (buckets_of r) b are.below listed))
    (Contains-flat_map (pair_at st b) (range_with_len 0 64) slot (b, index) (in_range 64 slot (new_slot-below st.places r.peer b)) here))
  where
    some : (bs : List ℕ) → Contains bs b → 0 < length bs
    some [] c = absurd (none_in_nil b c)
    some (x ∷ bs) c = omega arith

-- each pair is listed once
slots-apart : (st : State) → IsSound st → (bucket s t : ℕ) → s ≢ t → (m n : ℕ × ℕ) → Contains (pair_at st bucket s) m → Contains (pair_at st bucket t) n → m ≢ n
slots-apart st sound bucket s t apart m n one two same =
    let h = pair-from st sound bucket s m one in
    let k = pair-from st sound bucket t n two in
    let is : h.r ≡ k.r = at-same 0 (all_of st) n.1 h.r k.r (subst (λ (p : ℕ × ℕ). At 0 (all_of st) p.1 h.r) same h.at) k.at in
    apart (sym h.slot_is ∙ ap (λ (r : Rec). new_slot st.places r.peer bucket) is ∙ k.slot_is)

one_pair : (st : State) (bucket : ℕ) (o : Option Rec) → AllPairs (λ m n. m ≢ n) (pair_of st bucket o)
one_pair st bucket None i j d below within = absurd (omega arith)
one_pair st bucket (Some r) i j d below within = absurd (omega arith)

pub listed-apart : (st : State) → IsSound st → AllPairs (λ m n. m ≢ n) (listed_of st)
unfolding listed_in listed_of
listed-apart st sound =
    AllPairs-flat_map (λ m n. m ≢ n) (listed_in st) (range_with_len 0 1024)
    (λ k d within. inside (get_or (range_with_len 0 1024) k d))
    (λ i j d below within. across (get_or (range_with_len 0 1024) i d) (get_or (range_with_len 0 1024) j d) (range_apart 1024 i j d below within))
  where
    inside : (bucket : ℕ) → AllPairs (λ m n. m ≢ n) (listed_in st bucket)
    inside bucket =
        AllPairs-flat_map (λ m n. m ≢ n) (pair_at st bucket) (range_with_len 0 64)
        (λ k d within. one_pair st bucket (new_rec_at st bucket (get_or (range_with_len 0 64) k d)))
        (λ i j d below within.
        let s = get_or (range_with_len 0 64) i d in
        let t = get_or (range_with_len 0 64) j d in
        All-from_Contains (λ (m : ℕ × ℕ). All (λ (n : ℕ × ℕ). m ≢ n) (pair_at st bucket t)) (pair_at st bucket s) (λ m one.
        All-from_Contains (λ (n : ℕ × ℕ). m ≢ n) (pair_at st bucket t) (λ n two. slots-apart st sound bucket s t (range_apart 64 i j d below within) m n one two)))

    bucket-of : (bucket : ℕ) (m : ℕ × ℕ) → Contains (listed_in st bucket) m → m.0 ≡ bucket
    bucket-of bucket m c =
        let two = Contains-from_flat_map (pair_at st bucket) (range_with_len 0 64) m c in
        (pair-from st sound bucket two.0 m two.2).bucket_is

    across : (b c : ℕ) → b ≢ c → All (λ (m : ℕ × ℕ). All (λ (n : ℕ × ℕ). m ≢ n) (listed_in st c)) (listed_in st b)
    across b c apart =
        All-from_Contains (λ (m : ℕ × ℕ). All (λ (n : ℕ × ℕ). m ≢ n) (listed_in st c)) (listed_in st b) (λ m one.
        All-from_Contains (λ (n : ℕ × ℕ). m ≢ n) (listed_in st c) (λ n two same. apart (sym (bucket-of b m one) ∙ ap (λ (p : ℕ × ℕ). p.0) same ∙ bucket-of c n two)))
