-- The states in the middle of a restart of a sound state: the records of that state, renumbered,
-- each with those of its buckets whose pair was placed.
use Rattle.std.proofs.Common.{◌≡◌, ◌≢◌, ℕ, suc, ◌+◌, ◌<◌, ◌≤◌, Bool, true, List, [], ◌∷◌, ◌++◌, map, length, AllPairs, Contains, filter, refl, sym, ap, subst, ◌∙◌, inl, inr, ◌⊎◌, arith}
use Rattle.std.specs.List.{range_with_len}
use Rattle.std.specs.List.Sorted.{IsStrictlyIncreasing}
use Rattle.std.proofs.lemmas.List.FromFn.{get_or-range_with_len, length-range_with_len}
use Rattle.peer_rec.specs.Rec.{buckets_by, buckets_of, is_tried, tried_by}
use Rattle.peer_rec.specs.declared.rec.Rec.{Rec}
use Rattle.peer_rec.specs.declared.place.Place.{Place}
use Rattle.peer_rec.specs.declared.place.Place.TheVariants.{New, Tried}
use Rattle.table_machine.proofs.Lists.{Contains-cases, Contains-head, Contains-tail, none_in_nil}
use Rattle.table_machine.proofs.Records.{numbers}
use Rattle.table_machine.specs.Restart.{with_numbers}
use Rattle.table_machine.proofs.Rising.{filter_whole, pairs_head, pairs_tail}

-- the place with those buckets that pass
abbrev pub kept_place : (ℕ → Bool) → Place → Place
kept_place p (New buckets) = New (filter p buckets)
kept_place p Tried = Tried

-- the record with a number, and with the buckets that were placed for it
abbrev pub entry : (ℕ → ℕ → Bool) → ℕ → Rec → Rec
entry has n r = record r { number = n; last_try = 0; last_count = 0; place = kept_place (λ b. has b n) r.place }

abbrev pub part : (ℕ → ℕ → Bool) → ℕ → List Rec → List Rec
part has n [] = []
part has n (r ∷ rs) = entry has n r ∷ part has (n + 1) rs

-- in a list that is numbered from n on, the record has number m
abbrev pub At : ℕ → List Rec → ℕ → Rec → Type 0
At n [] m r = ⊥
At n (x ∷ xs) m r = ((n ≡ m) × (x ≡ r)) ⊎ At (n + 1) xs m r

pub at_from : (n : ℕ) (rs : List Rec) (m : ℕ) (r : Rec) → At n rs m r → n ≤ m
at_from n [] m r at = absurd at
at_from n (x ∷ xs) m r (inl h) = omega (arith, h.0)
at_from n (x ∷ xs) m r (inr rest) = let h = at_from (n + 1) xs m r rest in omega arith

pub at_below : (n : ℕ) (rs : List Rec) (m : ℕ) (r : Rec) → At n rs m r → m < n + length rs
at_below n [] m r at = absurd at
at_below n (x ∷ xs) m r (inl h) = omega (arith, h.0)
at_below n (x ∷ xs) m r (inr rest) = let h = at_below (n + 1) xs m r rest in omega arith

pub at-Contains : (n : ℕ) (rs : List Rec) (m : ℕ) (r : Rec) → At n rs m r → Contains rs r
at-Contains n [] m r at = absurd at
at-Contains n (x ∷ xs) m r (inl h) = subst (Contains (x ∷ xs)) h.1 (Contains-head x xs)
at-Contains n (x ∷ xs) m r (inr rest) = Contains-tail x xs r (at-Contains (n + 1) xs m r rest)

pub Contains-at : (n : ℕ) (rs : List Rec) (r : Rec) → Contains rs r → (m : ℕ) × At n rs m r
Contains-at n [] r c = absurd (none_in_nil r c)
Contains-at n (x ∷ xs) r c =
    elim (Contains-cases x xs r c) [ inl same ↦ (n, inl (refl, same)) | inr rest ↦ (let h = Contains-at (n + 1) xs r rest in (h.0, inr h.1)) ]

-- one record at each number
pub at-same : (n : ℕ) (rs : List Rec) (m : ℕ) (r q : Rec) → At n rs m r → At n rs m q → r ≡ q
at-same n [] m r q one two = absurd one
at-same n (x ∷ xs) m r q (inl h) (inl k) = sym h.1 ∙ k.1
at-same n (x ∷ xs) m r q (inl h) (inr k) = let from = at_from (n + 1) xs m q k in absurd (omega (arith, h.0))
at-same n (x ∷ xs) m r q (inr h) (inl k) = let from = at_from (n + 1) xs m r h in absurd (omega (arith, k.0))
at-same n (x ∷ xs) m r q (inr h) (inr k) = at-same (n + 1) xs m r q h k

-- one number for each record, if the records' own numbers differ
abbrev pub AreApart : List Rec → Type 0
AreApart rs = AllPairs (λ (r : Rec) (q : Rec). r.number ≢ q.number) rs

pub at-one : (n : ℕ) (rs : List Rec) (m k : ℕ) (r q : Rec) → AreApart rs → At n rs m r → At n rs k q → r.number ≡ q.number → m ≡ k
at-one n [] m k r q apart one two same = absurd one
at-one n (x ∷ xs) m k r q apart (inl h) (inl e) same = sym h.0 ∙ e.0
at-one n (x ∷ xs) m k r q apart (inl h) (inr e) same =
    absurd (pairs_head (λ (s : Rec) (t : Rec). s.number ≢ t.number) x q xs apart (at-Contains (n + 1) xs k q e) (ap (λ (t : Rec). t.number) h.1 ∙ same))
at-one n (x ∷ xs) m k r q apart (inr h) (inl e) same =
    absurd (pairs_head (λ (s : Rec) (t : Rec). s.number ≢ t.number) x r xs apart (at-Contains (n + 1) xs m r h) (ap (λ (t : Rec). t.number) e.1 ∙ sym same))
at-one n (x ∷ xs) m k r q apart (inr h) (inr e) same =
    at-one (n + 1) xs m k r q (pairs_tail (λ (s : Rec) (t : Rec). s.number ≢ t.number) x xs apart) h e same

-- the records of a part
pub part-has : (has : ℕ → ℕ → Bool) (n : ℕ) (rs : List Rec) (m : ℕ) (r : Rec) → At n rs m r → Contains (part has n rs) (entry has m r)
part-has has n [] m r at = absurd at
part-has has n (x ∷ xs) m r (inl h) =
    subst (Contains (part has n (x ∷ xs))) (λ i. entry has (h.0 i) (h.1 i)) (Contains-head (entry has n x) (part has (n + 1) xs))
part-has has n (x ∷ xs) m r (inr rest) = Contains-tail (entry has n x) (part has (n + 1) xs) (entry has m r) (part-has has (n + 1) xs m r rest)

pub part-cases : (has : ℕ → ℕ → Bool) (n : ℕ) (rs : List Rec) (q : Rec) → Contains (part has n rs) q → (m : ℕ) × (r : Rec) × At n rs m r × (entry has m r ≡ q)
part-cases has n [] q c = absurd (none_in_nil q c)
part-cases has n (x ∷ xs) q c =
    elim (Contains-cases (entry has n x) (part has (n + 1) xs) q c) [
      | inl same ↦ (n, x, inl (refl, refl), same)
      | inr rest ↦ (let h = part-cases has (n + 1) xs q rest in (h.0, h.1, inr h.2, h.3))
    ]

-- a change of each record that makes the entries of another part of them
pub part-map : (f : Rec → Rec) (has next : ℕ → ℕ → Bool) (n : ℕ) (rs : List Rec) → ((m : ℕ) (r : Rec) → At n rs m r → f (entry has m r) ≡ entry next m r)
    → map f (part has n rs) ≡ part next n rs
part-map f has next n [] same = refl
part-map f has next n (x ∷ xs) same =
    let first = same n x (inl (refl, refl)) in
    let rest = part-map f has next (n + 1) xs (λ m r at. same m r (inr at)) in
    λ i. first i ∷ rest i

pub part-numbers : (has : ℕ → ℕ → Bool) (n : ℕ) (rs : List Rec) → numbers (part has n rs) ≡ range_with_len n (length rs)
part-numbers has n [] = refl
part-numbers has n (x ∷ xs) = ap (λ ns. n ∷ ns) (part-numbers has (n + 1) xs)

pub range_rising : (n len : ℕ) → IsStrictlyIncreasing (range_with_len n len)
range_rising n len k within =
    let long = length-range_with_len n len in
    omega (arith, get_or-range_with_len n len k 0 (omega arith), get_or-range_with_len n len (k + 1) 0 (omega arith))

pub part-rising : (has : ℕ → ℕ → Bool) (n : ℕ) (rs : List Rec) → IsStrictlyIncreasing (numbers (part has n rs))
part-rising has n rs = subst IsStrictlyIncreasing (sym (part-numbers has n rs)) (range_rising n (length rs))

pub part-length : (has : ℕ → ℕ → Bool) (n : ℕ) (rs : List Rec) → length (part has n rs) ≡ length rs
part-length has n [] = refl
part-length has n (x ∷ xs) = ap suc (part-length has (n + 1) xs)

pub part-append : (has : ℕ → ℕ → Bool) (n : ℕ) (rs qs : List Rec) (m : ℕ) → m ≡ n + length rs → part has n (rs ++ qs) ≡ part has n rs ++ part has m qs
part-append has n [] qs m is = ap (λ k. part has k qs) (omega (arith, is))
part-append has n (x ∷ xs) qs m is = ap (λ l. entry has n x ∷ l) (part-append has (n + 1) xs qs m (omega (arith, is)))

-- what an entry keeps of its record
pub entry-buckets : (has : ℕ → ℕ → Bool) (n : ℕ) (r : Rec) → buckets_of (entry has n r) ≡ filter (λ b. has b n) (buckets_of r)
entry-buckets has n r = by r.place
  where
    by : (p : Place) → buckets_by (kept_place (λ b. has b n) p) ≡ filter (λ b. has b n) (buckets_by p)
    by (New buckets) = refl
    by Tried = refl

pub entry-tried : (has : ℕ → ℕ → Bool) (n : ℕ) (r : Rec) → is_tried (entry has n r) ≡ is_tried r
entry-tried has n r = by r.place
  where
    by : (p : Place) → tried_by (kept_place (λ b. has b n) p) ≡ tried_by p
    by (New buckets) = refl
    by Tried = refl

pub kept_place-whole : (p : ℕ → Bool) (place : Place) → ((b : ℕ) → Contains (buckets_by place) b → p b ≡ true) → kept_place p place ≡ place
kept_place-whole p (New buckets) all = ap New (filter_whole p buckets all)
kept_place-whole p Tried all = refl

-- once all buckets are placed, the part is the records renumbered
pub part-whole : (has : ℕ → ℕ → Bool) (n : ℕ) (rs : List Rec) → ((m : ℕ) (r : Rec) → At n rs m r → (b : ℕ) → Contains (buckets_of r) b → has b m ≡ true)
    → part has n rs ≡ with_numbers n rs
part-whole has n [] all = refl
part-whole has n (x ∷ xs) all =
    let first = kept_place-whole (λ b. has b n) x.place (all n x (inl (refl, refl))) in
    let rest = part-whole has (n + 1) xs (λ m r at. all m r (inr at)) in
    λ i. (record x { number = n; last_try = 0; last_count = 0; place = first i }) ∷ rest i
