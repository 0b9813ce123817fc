-- How long the file is that keeps the tables: what each record adds, summed in any order.
use Rattle.std.proofs.Common.{◌≡◌, ◌≢◌, ℕ, suc, ◌+◌, ◌*◌, ◌<◌, ◌≤◌, Bool, not, ◌&&◌, ◌==◌, List, [], ◌∷◌, ◌++◌, map, length, take, All, AllPairs, Contains, sum_by, Option, Some, None, refl, sym, ap, subst, ◌∙◌, inl, inr, ⊎_elim, arith, length-append}
use Rattle.std.specs.Prelude.{IsPermutation, slice_get}
use Rattle.std.specs.Bool.{Decides}
use Rattle.std.specs.Cmp.{IsEquivalence}
use Rattle.std.specs.List.{flat_map}
use Rattle.std.proofs.lemmas.Bool.Decides.{Decides-and, Decides-eqb, Decides-like, same_from_decides}
use Rattle.std.proofs.lemmas.List.{length-map, take_more}
use Rattle.std.proofs.lemmas.List.Elements.{All-contains, Contains-append_cases, Contains-append_left, Contains-append_right}
use Rattle.std.proofs.lemmas.List.Filters.{sum_by-filter_both}
use Rattle.std.proofs.lemmas.List.Kept.{AllPairs-from_increasing}
use Rattle.std.proofs.lemmas.List.Sorted.{sum_by-IsPermutation}
use Rattle.std.proofs.lemmas.List.Sums.{sum_by-append, sum_by-cons, sum_by_push}
use Rattle.std.proofs.lemmas.Map.Made.{IsDistinct-from_AllPairs, is_member-Decides, length-le_from_is_member}
use Rattle.std.proofs.lemmas.Option.{get_or_from_slice_get}
use Rattle.asmap_vm.specs.Asmap.{Asmap}
use Rattle.placing.specs.Places.{sum_by as checksum, sum_input}
use Rattle.placing.specs.declared.sum.SumRule.{SumRule}
use Rattle.peer_rec.specs.Rec.{IsRec, buckets_of, is_tried}
use Rattle.peer_rec.specs.declared.rec.Rec.{Rec}
use Rattle.peers_file.specs.Texts.{file_text, record_text}
use Rattle.peers_file.specs.declared.chain.Chain.{Chain}
use Rattle.peers_file.proofs.WholeLaws.{length-file, length-sum}
use Rattle.table_machine.specs.Snapshot.{file_rec, listed_of, new_records, snapshot_of, tried_records}
use Rattle.table_machine.specs.Sound.{IsSound}
use Rattle.table_machine.specs.State.{State}
use Rattle.table_machine.proofs.Buckets.{AreBuckets-of}
use Rattle.table_machine.proofs.Grown.{all_of, all_of-from}
use Rattle.table_machine.proofs.Listed.{listed-all, listed-apart, listed-from}
use Rattle.table_machine.proofs.Lists.{All-from_Contains, AllPairs-map, Contains-cases, Contains-head, Contains-tail, none_in_nil, pairs_append_by}
use Rattle.table_machine.proofs.Part.{At, at_from}
use Rattle.table_machine.proofs.SnapshotFits.{snapshot_fits}

-- what a record adds to the file: its text, and an index in each of its buckets
abbrev pub own : Rec → ℕ
own r = length (record_text (file_rec r))

abbrev pub added : Rec → ℕ
added r = own r + 4 * length (buckets_of r)

-- ---- the pairs are as many as the buckets of all records

abbrev same : ℕ × ℕ → ℕ × ℕ → Bool
same p q = p.0 == q.0 && p.1 == q.1

Decides-same : (p q : ℕ × ℕ) → Decides (same p q) (p ≡ q)
Decides-same p q =
    Decides-like (same p q) (λ h i. (h.0 i, h.1 i)) (λ e. (ap (λ (x : ℕ × ℕ). x.0) e, ap (λ (x : ℕ × ℕ). x.1) e))
    (Decides-and (p.0 == q.0) (p.1 == q.1) (Decides-eqb p.0 q.0) (Decides-eqb p.1 q.1))

IsEquivalence-same : IsEquivalence same
IsEquivalence-same = record {
  refl = λ x. (Decides-same x x).1 refl;
  symm = λ x y. same_from_decides (same x y) (same y x) (Decides-same x y) (Decides-like (same y x) (λ e. sym e) (λ e. sym e) (Decides-same y x));
  congr = λ x y z one. ap (λ (p : ℕ × ℕ). same p z) ((Decides-same x y).0 one);
}

-- no more pairs than another list has, if they are distinct and among its own
fewer : (xs ys : List (ℕ × ℕ)) → AllPairs (λ p q. p ≢ q) xs → ((p : ℕ × ℕ) → Contains xs p → Contains ys p) → length xs ≤ length ys
fewer xs ys apart within =
    length-le_from_is_member IsEquivalence-same xs ys (IsDistinct-from_AllPairs Decides-same xs apart)
    (λ p is. (is_member-Decides Decides-same ys p).1 (within p ((is_member-Decides Decides-same xs p).0 is)))

-- a bucket, and the number of a record that it lists
abbrev listing : ℕ → ℕ → ℕ × ℕ
listing n b = (b, n)

-- the pairs of records that are numbered from n on
abbrev pairs : ℕ → List Rec → List (ℕ × ℕ)
pairs n [] = []
pairs n (r ∷ rs) = map (listing n) (buckets_of r) ++ pairs (n + 1) rs

length-pairs : (n : ℕ) (rs : List Rec) → length (pairs n rs) ≡ sum_by (λ r. length (buckets_of r)) rs
length-pairs n [] = refl
length-pairs n (r ∷ rs) =
    omega (
      arith,
      length-append (map (listing n) (buckets_of r)) (pairs (n + 1) rs),
      length-map (buckets_of r) (listing n),
      length-pairs (n + 1) rs,
      sum_by-cons (λ r. length (buckets_of r)) r rs,
    )

Contains-pair : (bs : List ℕ) (n : ℕ) (b : ℕ) → Contains bs b → Contains (map (listing n) bs) (listing n b)
Contains-pair [] n b c = absurd (none_in_nil b c)
Contains-pair (x ∷ bs) n b c =
    ⊎_elim (λ (is : x ≡ b). subst (λ k. Contains (listing n x ∷ map (listing n) bs) (listing n k)) is (Contains-head (listing n x) (map (listing n) bs)))
    (λ rest. Contains-tail (listing n x) (map (listing n) bs) (listing n b) (Contains-pair bs n b rest)) (Contains-cases x bs b c)

pair-bucket : (bs : List ℕ) (n : ℕ) (p : ℕ × ℕ) → Contains (map (listing n) bs) p → Contains bs p.0 × (p.1 ≡ n)
pair-bucket [] n p c = absurd (none_in_nil p c)
pair-bucket (x ∷ bs) n p c =
    ⊎_elim (λ (is : listing n x ≡ p). (subst (Contains (x ∷ bs)) (ap (λ (q : ℕ × ℕ). q.0) is) (Contains-head x bs), sym (ap (λ (q : ℕ × ℕ). q.1) is)))
    (λ rest. let h = pair-bucket bs n p rest in (Contains-tail x bs p.0 h.0, h.1)) (Contains-cases (listing n x) (map (listing n) bs) p c)

pairs-from : (n : ℕ) (rs : List Rec) (p : ℕ × ℕ) → Contains (pairs n rs) p → (r : Rec) × At n rs p.1 r × Contains (buckets_of r) p.0
pairs-from n [] p c = absurd (none_in_nil p c)
pairs-from n (r ∷ rs) p c =
    ⊎_elim (λ here. let h = pair-bucket (buckets_of r) n p here in (r, inl (sym h.1, refl), h.0))
    (λ there. let h = pairs-from (n + 1) rs p there in (h.0, inr h.1, h.2)) (Contains-append_cases (map (listing n) (buckets_of r)) (pairs (n + 1) rs) p c)

pairs-all : (n : ℕ) (rs : List Rec) (m : ℕ) (r : Rec) (b : ℕ) → At n rs m r → Contains (buckets_of r) b → Contains (pairs n rs) (listing m b)
pairs-all n [] m r b at c = absurd at
pairs-all n (x ∷ xs) m r b (inl h) c =
    Contains-append_left (map (listing n) (buckets_of x)) (pairs (n + 1) xs) (listing m b)
    (subst (λ k. Contains (map (listing n) (buckets_of x)) (listing k b)) h.0 (Contains-pair (buckets_of x) n b (subst (λ q. Contains (buckets_of q) b) (sym h.1) c)))
pairs-all n (x ∷ xs) m r b (inr rest) c = Contains-append_right (map (listing n) (buckets_of x)) (pairs (n + 1) xs) (listing m b) (pairs-all (n + 1) xs m r b rest c)

rising : (r : Rec) → IsRec r → AllPairs (λ b c. b ≢ c) (buckets_of r)
rising r is = by (buckets_of r) (λ some. AllPairs-from_increasing (buckets_of r) (AreBuckets-of r.place is.place some).rising)
  where
    by : (bs : List ℕ) → (0 < length bs → AllPairs (λ b c. b < c) bs) → AllPairs (λ b c. b ≢ c) bs
    by bs rise i j d below within same = let h = rise (omega arith) i j d below within in omega (arith, h, same)

pairs-apart : (n : ℕ) (rs : List Rec) → All IsRec rs → AllPairs (λ p q. p ≢ q) (pairs n rs)
pairs-apart n [] are = λ i j d below within. absurd (omega arith)
pairs-apart n (r ∷ rs) are =
    pairs_append_by (λ p q. p ≢ q) (map (listing n) (buckets_of r)) (pairs (n + 1) rs)
    (AllPairs-map (λ p q. p ≢ q) (listing n) (buckets_of r)
    (λ i j d below within is. rising r (are 0 r (omega arith)) i j d below within (ap (λ (p : ℕ × ℕ). p.0) is)))
    (pairs-apart (n + 1) rs (λ k d within. are (suc k) d (omega arith)))
    (All-from_Contains (λ p. All (λ q. p ≢ q) (pairs (n + 1) rs)) (map (listing n) (buckets_of r)) (λ p one.
    All-from_Contains (λ q. p ≢ q) (pairs (n + 1) rs) (λ q two is.
    let h = pair-bucket (buckets_of r) n p one in
    let k = pairs-from (n + 1) rs q two in
    let from = at_from (n + 1) rs q.1 k.0 k.1 in
    omega (arith, from, h.1, ap (λ (x : ℕ × ℕ). x.1) is))))

-- the records of a file are those of the tables
both_tables : (f : Rec → ℕ) (st : State) → sum_by f (new_records st) + sum_by f (tried_records st) ≡ sum_by f st.records
both_tables f st =
    let both = sum_by-filter_both is_tried (λ r. not (is_tried r)) (λ r. refl) f st.records in
    omega (arith, both)

length-listed : (st : State) → IsSound st → length (listed_of st) ≡ sum_by (λ r. length (buckets_of r)) st.records
length-listed st sound =
    let are : All IsRec (all_of st) = All-from_Contains IsRec (all_of st) (λ r c. All-contains IsRec st.records r sound.records (all_of-from st r c)) in
    let few = fewer (listed_of st) (pairs 0 (all_of st)) (listed-apart st sound)
    (λ p c. let h = listed-from st sound p c in pairs-all 0 (all_of st) p.1 h.0 p.0 h.1 h.2) in
    let most = fewer (pairs 0 (all_of st)) (listed_of st) (pairs-apart 0 (all_of st) are)
    (λ p c. let h = pairs-from 0 (all_of st) p c in listed-all st sound p.1 h.0 h.1 p.0 h.2) in
    omega (
      arith,
      few,
      most,
      length-pairs 0 (all_of st),
      sum_by-append (λ r. length (buckets_of r)) (new_records st) (tried_records st),
      both_tables (λ r. length (buckets_of r)) st,
    )

-- ---- the file

length-texts : (rs : List Rec) → length (flat_map record_text (map file_rec rs)) ≡ sum_by own rs
length-texts [] = refl
length-texts (r ∷ rs) =
    omega (arith, length-append (record_text (file_rec r)) (flat_map record_text (map file_rec rs)), length-texts rs, sum_by-cons own r rs)

sum-added : (rs : List Rec) → sum_by added rs ≡ sum_by own rs + 4 * sum_by (λ r. length (buckets_of r)) rs
sum-added [] = refl
sum-added (r ∷ rs) =
    omega (arith, sum_by-cons added r rs, sum_by-cons own r rs, sum_by-cons (λ r. length (buckets_of r)) r rs, sum-added rs)

length-checksum : (rule : SumRule) (map : Option Asmap) → length (checksum rule map) ≡ 32
length-checksum rule None = refl
length-checksum rule (Some m) = length-sum (sum_input rule m.file)

-- the length of the file is what its records add, in any order
pub whole : (st : State) (rs : List Rec) → IsSound st → IsPermutation st.records rs → (chain : Chain) → 4210 + sum_by added rs ≡ length (file_text chain (snapshot_of st))
whole st rs sound same_records chain =
    let fits = snapshot_fits st sound in
    let long = length-file chain (snapshot_of st) sound.places.key_length (length-checksum st.places.rule st.places.map) refl fits.buckets fits.rising in
    omega (
      arith,
      long,
      sum_by-IsPermutation added st.records rs same_records,
      sum-added st.records,
      length-texts (new_records st),
      length-texts (tried_records st),
      both_tables own st,
      length-listed st sound,
    )

-- one record more
pub one_more : (rs : List Rec) (i : ℕ) (r : Rec) → slice_get rs i ≡ Some r → i < length rs → sum_by added (take (i + 1) rs) ≡ sum_by added (take i rs) + added r
one_more rs i r is within =
    ap (sum_by added) (take_more rs i r within ∙ ap (λ x. take i rs ++ x ∷ []) (get_or_from_slice_get rs i r r is)) ∙ sum_by_push added (take i rs) r
