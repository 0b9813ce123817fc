-- Sums over the records in the slots of a table.
use Rattle.std.proofs.Common.{◌≡◌, ℕ, zero, suc, ◌+◌, ◌*◌, ◌-◌, ◌≤◌, ◌<◌, Bool, true, false, cond, ◌==◌, ◌||◌, List, [], ◌∷◌, ◌++◌, append_assoc, All, Contains, filter_map, find, length, count_by, sum_by, is_some, Option, Some, None, refl, sym, ap, subst, ◌∙◌, inl, inr, arith, if◌then◌else◌}
use Rattle.std.specs.List.{flat_map, list_any, range_with_len}
use Rattle.std.proofs.lemmas.Bool.{both_ways, cases_lt, ne_eqb}
use Rattle.std.proofs.lemmas.Bool.Decides.{Decides-eqb}
use Rattle.std.proofs.lemmas.List.{append-nil}
use Rattle.std.proofs.lemmas.List.Concat.{flat_map-append}
use Rattle.std.proofs.lemmas.List.Folds.{list_any-append}
use Rattle.std.proofs.lemmas.List.Elements.{All-append, All-cons, All-head, All-nil, All-tail}
use Rattle.std.proofs.lemmas.List.FromFn.{length-range_with_len}
use Rattle.std.proofs.lemmas.List.Sums.{sum_by-append, sum_by-cons}
use Rattle.peer_rec.specs.declared.rec.Rec.{Rec}
use Rattle.table_groups.specs.View.{View, occupant_at}
use Rattle.table_laws.specs.Rounds.{around, gap, holds, idle_below}
use Rattle.table_laws.proofs.Balance.{sum_nothing, sum_swap}
use Rattle.table_laws.proofs.BoundOf.{sum_at_most}
use Rattle.table_laws.proofs.Counts.{all_range, count_not, range_split, sum_agree}
use Rattle.table_laws.proofs.Draws.{sum_over}
use Rattle.table_laws.proofs.Rounds.{count-gap}
use Rattle.table_laws.proofs.SearchOf.{sum_constant}
use Rattle.table_machine.specs.Picks.{bucket_count}
use Rattle.table_risk.specs.Occupants.{bucket_occupants, occupant_in, occupants_of, slot_occupant, starts_at, starts_in}
use Rattle.table_risk.specs.declared.occupants.Occupant.{Occupant}

pub sum_flat : {X Y : Type 0} (g : Y → ℕ) (f : X → List Y) (xs : List X) → sum_by g (flat_map f xs) ≡ sum_by (λ x. sum_by g (f x)) xs
sum_flat g f [] = refl
sum_flat g f (x ∷ xs) =
    sum_by-append g (f x) (flat_map f xs) ∙ ap (λ n. sum_by g (f x) + n) (sum_flat g f xs) ∙ sym (sum_by-cons (λ y. sum_by g (f y)) x xs)

pub none_plus : (n : ℕ) → 0 + n ≡ n
none_plus n = omega arith

abbrev pub one_if : Bool → ℕ
one_if b = cond b 1 0

-- the starts that lead to a record that passes a test
abbrev pub passing : (Rec → Bool) → Occupant → ℕ
passing test o = cond (test o.rec) o.starts 0

one_slot : (test : Rec → Bool) (o : Option Rec) (n : ℕ) → sum_by (passing test) (occupant_in o n) ≡ cond (holds test o) n 0
one_slot test None n = refl
one_slot test (Some r) n = none_plus (cond (test r) n 0)

module _ (view : View) (in_new : Bool) where
  -- by bucket and slot
  abbrev pub slot_sum : (Rec → Bool) → ℕ → ℕ
  slot_sum test bucket =
      sum_by (λ s. cond (holds test (occupant_at view in_new bucket s)) (starts_at view in_new bucket s) 0) (range_with_len 0 64)

  in_bucket : (test : Rec → Bool) (bucket : ℕ) → sum_by (passing test) (bucket_occupants view in_new bucket) ≡ slot_sum test bucket
  unfolding bucket_occupants
  in_bucket test bucket =
      sum_flat (passing test) (slot_occupant view in_new bucket) (range_with_len 0 64)
      ∙ (λ i. sum_by (λ s. one_slot test (occupant_at view in_new bucket s) (starts_at view in_new bucket s) i) (range_with_len 0 64))

  pub by_slots : (test : Rec → Bool) → sum_by (passing test) (occupants_of view in_new) ≡ sum_by (slot_sum test) (range_with_len 0 (bucket_count in_new))
  unfolding occupants_of
  by_slots test =
      sum_flat (passing test) (bucket_occupants view in_new) (range_with_len 0 (bucket_count in_new))
      ∙ (λ i. sum_by (λ b. in_bucket test b i) (range_with_len 0 (bucket_count in_new)))

-- ---- how many slots below one have no record

pub idle_step : (w : ℕ → Bool) (at : ℕ) → 0 < at → idle_below w at ≡ (if w (at - 1) then 0 else 1 + idle_below w (at - 1))
idle_step w zero some = absurd (omega (arith, some))
idle_step w (suc n) some = let back : n ≡ suc n - 1 = omega arith in λ i. if w (back i) then 0 else 1 + idle_below w (back i)

pub idle_found : (w : ℕ → Bool) (slot at count : ℕ) → 0 < at → w (at - 1) ≡ true → count + idle_below w at ≡ idle_below w slot → count ≡ idle_below w slot
idle_found w slot at count some found is =
    let none : idle_below w at ≡ 0 = idle_step w at some ∙ (λ i. if found i then 0 else 1 + idle_below w (at - 1)) in
    omega (arith, none, is)

pub idle_more : (w : ℕ → Bool) (slot at count : ℕ) → 0 < at → w (at - 1) ≡ false → count + idle_below w at ≡ idle_below w slot
    → count + 1 + idle_below w (at - 1) ≡ idle_below w slot
idle_more w slot at count some free is =
    let one : idle_below w at ≡ 1 + idle_below w (at - 1) = idle_step w at some ∙ (λ i. if free i then 0 else 1 + idle_below w (at - 1)) in
    omega (arith, one, is)

-- ---- loops over slots and buckets

-- what one number more appends
pub one_more : {X : Type 0} (f : ℕ → List X) (head : List X) (i : ℕ) (old new : List X) → old ≡ head ++ flat_map f (range_with_len 0 i) → new ≡ old ++ f i
    → new ≡ head ++ flat_map f (range_with_len 0 (i + 1))
one_more {X} f head i old new so_far more =
    more ∙ ap (λ (t : List X). t ++ f i) so_far ∙ append_assoc head (flat_map f (range_with_len 0 i)) (f i)
    ∙ ap (λ (t : List X). head ++ t)
    (sym (ap (flat_map f) (range_split 0 i 1) ∙ flat_map-append f (range_with_len 0 i) (range_with_len (0 + i) 1) ∙ ap (λ (t : List X). flat_map f (range_with_len 0 i) ++ t) last))
  where
    last : flat_map f (range_with_len (0 + i) 1) ≡ f i
    last = append-nil (f (0 + i)) ∙ ap f (none_plus i)

-- one of some slots passes
pub any_there : (v : ℕ → Bool) (from n at : ℕ) → from ≤ at → at < from + n → v at ≡ true → list_any v (range_with_len from n) ≡ true
any_there v from zero at after low is = absurd (omega (arith, after, low))
any_there v from (suc n) at after low is = elim (cases_lt from at) [
  | inl less ↦ or_right (v from) (any_there v (from + 1) n at (omega (arith, less)) (omega (arith, low)) is)
  | inr more ↦ let here : at ≡ from = omega (arith, after, more) in ap (λ b. b || list_any v (range_with_len (from + 1) n)) (ap v (sym here) ∙ is)
]
  where
    or_right : (a : Bool) {b : Bool} → b ≡ true → (a || b) ≡ true
    or_right true is = refl
    or_right false is = is

-- one slot more that does not pass
pub any_more : (p : ℕ → Bool) (i : ℕ) → list_any p (range_with_len 0 i) ≡ false → p i ≡ false → list_any p (range_with_len 0 (i + 1)) ≡ false
any_more p i none not_here =
    ap (list_any p) (range_split 0 i 1) ∙ list_any-append p (range_with_len 0 i) (range_with_len (0 + i) 1)
    ∙ (λ j. none j || (p (none_plus i j) || false)) ∙ (λ j. not_here j || false)

-- ---- the starts of one bucket

-- of numbers below n, only k adds something
single : (k n : ℕ) (h : ℕ → ℕ) → k < n → sum_by (λ s. cond (k == s) (h s) 0) (range_with_len 0 (n - 0)) ≡ h k
single k n h low =
    sum_over (λ s. cond (k == s) (h s) 0) (k ∷ []) 0 n (omega arith) (λ i j d less within. absurd (omega (arith, less, within)))
    (All-cons (λ b. 0 ≤ b) k [] (omega arith) (All-nil (λ b. 0 ≤ b))) (All-cons (λ b. b < n) k [] low (All-nil (λ b. b < n)))
    (λ b from to other. ap (λ c. cond c (h b) 0) (ne_eqb k b (λ is. other (subst (λ m. Contains (k ∷ []) m) is (0, omega arith, refl)))))
    ∙ none_plus (cond (k == k) (h k) 0) ∙ ap (λ c. cond c (h k) 0) ((Decides-eqb k k).1 refl)

nothing_if : (b : Bool) → ◌≡◌ {A = ℕ} (cond b 0 0) 0
nothing_if true = refl
nothing_if false = refl

turned : (a b : Bool) → cond a (one_if b) 0 ≡ cond b (one_if a) 0
turned true true = refl
turned true false = refl
turned false true = refl
turned false false = refl

module _ (at : ℕ → Option Rec) (test wanted : Rec → Bool) (all_wanted : (r : Rec) → wanted r ≡ true) where
  abbrev pair : ℕ → Option Rec → Option (ℕ × Rec)
  pair s None = None
  pair s (Some r) = Some (s, r)

  abbrev wants : ℕ × Rec → Bool
  wants p = wanted p.1

  abbrev is_slot : ℕ → ℕ × Rec → Bool
  is_slot s p = p.0 == s

  -- the first record of some slots, and with its slot
  abbrev found : List ℕ → Option Rec
  found slots = find wanted (filter_map at slots)

  abbrev first_pair : List ℕ → Option (ℕ × Rec)
  first_pair slots = find wants (filter_map (λ s. pair s (at s)) slots)

  same_first : (slots : List ℕ) → holds (λ p. test p.1) (first_pair slots) ≡ holds test (found slots)
  same_first [] = refl
  same_first (s ∷ slots) = by (at s) refl (same_first slots)
    where
      by : (o : Option Rec) → at s ≡ o → holds (λ p. test p.1) (first_pair slots) ≡ holds test (found slots)
          → holds (λ p. test p.1) (first_pair (s ∷ slots)) ≡ holds test (found (s ∷ slots))
      by None is rest = rw is rest
      by (Some r) is rest = rw is (here (wanted r))
        where
          here : (b : Bool) → holds (λ p. test p.1) (if b then Some (s, r) else first_pair slots) ≡ holds test (if b then Some r else found slots)
          here true = refl
          here false = rest

  pair_there : (slots : List ℕ) (n : ℕ) (p : ℕ × Rec) → All (λ s. s < n) slots → first_pair slots ≡ Some p → (p.0 < n) × (at p.0 ≡ Some p.1)
  pair_there [] n p low is = absurd (cc)
  pair_there (s ∷ slots) n p low is = by (at s) refl (pair_there slots n p (All-tail (λ t. t < n) s slots low))
    where
      by : (o : Option Rec) → at s ≡ o → (first_pair slots ≡ Some p → (p.0 < n) × (at p.0 ≡ Some p.1)) → (p.0 < n) × (at p.0 ≡ Some p.1)
      by None h later = let skip : first_pair (s ∷ slots) ≡ first_pair slots = rw h refl in later (sym skip ∙ is)
      by (Some r) h later =
          let here : first_pair (s ∷ slots) ≡ (if wanted r then Some (s, r) else first_pair slots) = rw h refl in
          let one : Some (s, r) ≡ Some p = (λ i. if sym (all_wanted r) i then Some (s, r) else first_pair slots) ∙ sym here ∙ is in
          let same : (s, r) ≡ p = cc in
          subst (λ (q : ℕ × Rec). (q.0 < n) × (at q.0 ≡ Some q.1)) same (All-head (λ t. t < n) s slots low, h)

  -- a start that leads to a record that passes leads to one slot
  split : (slots : List ℕ) → All (λ s. s < 64) slots
      → one_if (holds test (found slots)) ≡ sum_by (λ s. cond (holds test (at s)) (one_if (holds (is_slot s) (first_pair slots))) 0) (range_with_len 0 64)
  split slots low = ap one_if (sym (same_first slots)) ∙ by (first_pair slots) refl
    where
      by : (o : Option (ℕ × Rec)) → first_pair slots ≡ o
          → one_if (holds (λ p. test p.1) o) ≡ sum_by (λ s. cond (holds test (at s)) (one_if (holds (is_slot s) o)) 0) (range_with_len 0 64)
      by None is = sym (sum_nothing (range_with_len 0 64)) ∙ sym (λ i. sum_by (λ s. nothing_if (holds test (at s)) i) (range_with_len 0 64))
      by (Some p) is =
          let there = pair_there slots 64 p low is in
          ap (λ o. one_if (holds test o)) (sym there.1)
          ∙ sym (single p.0 64 (λ s. one_if (holds test (at s))) there.0)
          ∙ (λ i. sum_by (λ s. turned (p.0 == s) (holds test (at s)) i) (range_with_len 0 64))

  wanted_some : (o : Option Rec) → holds wanted o ≡ is_some o
  wanted_some None = refl
  wanted_some (Some r) = all_wanted r

  pair_some : (t : ℕ) (o : Option Rec) → holds wants (pair t o) ≡ is_some o
  pair_some t None = refl
  pair_some t (Some r) = all_wanted r

  -- the starts that lead to one slot
  to_slot : (s : ℕ) → s < 64
      → sum_by (λ start. cond (holds test (at s)) (one_if (holds (is_slot s) (first_pair (around 64 start)))) 0) (range_with_len 0 64)
      ≡ cond (holds test (at s)) (gap (λ t. is_some (at t)) 64 s) 0
  to_slot s low = by (holds test (at s)) refl
    where
      there : (o : Option Rec) → holds test o ≡ true → is_some o ≡ true
      there None is = absurd (both_ways false refl is)
      there (Some r) is = refl

      own : (o : Option Rec) → is_some o ≡ true → holds (is_slot s) (pair s o) ≡ true
      own None is = absurd (both_ways false refl is)
      own (Some r) is = (Decides-eqb s s).1 refl

      only : (t : ℕ) (o : Option Rec) → holds (is_slot s) (pair t o) ≡ true → t ≡ s
      only t None is = absurd (both_ways false refl is)
      only t (Some r) is = (Decides-eqb t s).0 is

      by : (b : Bool) → holds test (at s) ≡ b
          → sum_by (λ start. cond b (one_if (holds (is_slot s) (first_pair (around 64 start)))) 0) (range_with_len 0 64) ≡ cond b (gap (λ t. is_some (at t)) 64 s) 0
      by true is =
          count-gap (λ t. pair t (at t)) wants (is_slot s) s (pair_some s (at s) ∙ there (at s) is) (own (at s) (there (at s) is)) (λ t. only t (at t)) 64 low
          ∙ (λ i. gap (λ t. pair_some t (at t) i) 64 s)
      by false is = sum_nothing (range_with_len 0 64)

  -- as many starts of a bucket lead to records that pass as lead to their slots
  pub by_starts : count_by (λ start. holds test (found (around 64 start))) (range_with_len 0 64)
      ≡ sum_by (λ s. cond (holds test (at s)) (gap (λ t. is_some (at t)) 64 s) 0) (range_with_len 0 64)
  by_starts =
      sum_agree (λ start. one_if (holds test (found (around 64 start)))) (λ start. sum_by (hit start) (range_with_len 0 64)) (range_with_len 0 64)
      (all_range (λ start. one_if (holds test (found (around 64 start))) ≡ sum_by (hit start) (range_with_len 0 64)) 0 64 (λ start from to. split (around 64 start) (below start (omega (arith, to)))))
      ∙ sum_swap hit (range_with_len 0 64) (range_with_len 0 64)
      ∙ sum_agree (λ s. sum_by (λ start. hit start s) (range_with_len 0 64)) (λ s. cond (holds test (at s)) (gap (λ t. is_some (at t)) 64 s) 0) (range_with_len 0 64)
      (all_range (λ s. sum_by (λ start. hit start s) (range_with_len 0 64) ≡ cond (holds test (at s)) (gap (λ t. is_some (at t)) 64 s) 0) 0 64 (λ s from to. to_slot s (omega (arith, to))))
    where
      hit : ℕ → ℕ → ℕ
      hit start s = cond (holds test (at s)) (one_if (holds (is_slot s) (first_pair (around 64 start)))) 0

      below : (start : ℕ) → start < 64 → All (λ s. s < 64) (around 64 start)
      below start to =
          All-append (λ s. s < 64) (range_with_len start (64 - start)) (range_with_len 0 start)
          (all_range (λ s. s < 64) start (64 - start) (λ i low high. omega (arith, low, high, to)))
          (all_range (λ s. s < 64) 0 start (λ i low high. omega (arith, high, to)))

-- ---- how many there are

count_most : {X : Type 0} (p : X → Bool) (xs : List X) → count_by p xs ≤ length xs
count_most p xs = let all = count_not p xs in omega (arith, all)

module _ (view : View) (in_new : Bool) where
  bucket_few : (bucket : ℕ) → slot_sum view in_new (λ r. true) bucket ≤ 64
  bucket_few bucket =
      let at = occupant_at view in_new bucket in
      low (by_starts at (λ r. true) (λ r. true) (λ r. refl)) (count_most (λ start. holds (λ r. true) (find (λ r. true) (filter_map at (around 64 start)))) (range_with_len 0 64)) (length-range_with_len 0 64)
    where
      low : {a b c : ℕ} → a ≡ b → a ≤ c → c ≡ 64 → b ≤ 64
      low one two three = omega (arith, one, two, three)

  -- no table has more starts than slots
  pub few : starts_in (occupants_of view in_new) ≤ 65536
  few =
      let most = sum_at_most (slot_sum view in_new (λ r. true)) (λ b. 64) (range_with_len 0 (bucket_count in_new)) (λ k d within. bucket_few _) in
      low (by_slots view in_new (λ r. true)) most (sum_constant 64 (range_with_len 0 (bucket_count in_new))) (length-range_with_len 0 (bucket_count in_new)) (buckets in_new)
    where
      buckets : (n : Bool) → bucket_count n ≤ 1024
      buckets true = omega arith
      buckets false = omega arith

      low : {a b c n k : ℕ} → a ≡ b → b ≤ c → c ≡ n * 64 → n ≡ k → k ≤ 1024 → a ≤ 65536
      low one two three four five = omega (arith, one, two, three, four, five)

  gap_some : (w : ℕ → Bool) (n slot : ℕ) → 1 ≤ gap w n slot
  gap_some w n slot = by (idle_below w slot) (if idle_below w slot == slot then idle_below w n else 0)
    where
      by : (a b : ℕ) → 1 ≤ 1 + a + b
      by a b = omega arith

  -- each record has a start
  pub some_each : All (λ o. 1 ≤ o.starts) (occupants_of view in_new)
  unfolding occupants_of bucket_occupants
  some_each = flat (bucket_occupants view in_new) (λ b. flat (slot_occupant view in_new b) (λ s. one (occupant_at view in_new b s) (starts_at view in_new b s) (gap_some (λ t. is_some (occupant_at view in_new b t)) 64 s)) (range_with_len 0 64)) (range_with_len 0 (bucket_count in_new))
    where
      one : (o : Option Rec) (n : ℕ) → 1 ≤ n → All (λ q. 1 ≤ q.starts) (occupant_in o n)
      one None n some = All-nil (λ q. 1 ≤ q.starts)
      one (Some r) n some = All-cons (λ q. 1 ≤ q.starts) (record { rec = r; starts = n }) [] some (All-nil (λ q. 1 ≤ q.starts))

      flat : (f : ℕ → List Occupant) → ((n : ℕ) → All (λ q. 1 ≤ q.starts) (f n)) → (ns : List ℕ) → All (λ q. 1 ≤ q.starts) (flat_map f ns)
      flat f each [] = All-nil (λ q. 1 ≤ q.starts)
      flat f each (n ∷ ns) = All-append (λ q. 1 ≤ q.starts) (f n) (flat_map f ns) (each n) (flat f each ns)
