-- The changes cover as many addresses as there are with two numbers.
use Rattle.std.proofs.Common.{◌≡◌, ℕ, zero, suc, ◌==◌, ◌+◌, ◌-◌, ◌^◌, ◌≤◌, Bool, true, false, List, [], ◌∷◌, map, cond, refl, ap, sym, ◌∙◌, arith, inl, inr, sum_by}
use Rattle.std.proofs.lemmas.List.Sums.{sum_by-append, sum_by-cons}
use Rattle.std.proofs.Math.Nat.{pow-suc}
use Rattle.std.proofs.lemmas.Bool.{cases_Bool}
use Rattle.std.specs.Prelude.{not}
use Rattle.asmap_vm.specs.Code.{Tree}
use Rattle.map_diff.specs.Diff.{Change, Part, Same, Mixed, after_bit, under_bit, unless_equal, changes_of, same_pair, both, joined, part, changes, span_of, differing, map_of, changed_at, changed_prefixes}
use Rattle.map_diff.specs.Text.{is_ipv4, is_counted, span, count_of}
use Rattle.map_diff.specs.declared.changed.ChangedPrefix.{ChangedPrefix}
use Rattle.map_diff.proofs.DiffLaws.{same_first, same_second}

span_under : (n : ℕ) (b : Bool) (c : Change) → span_of (suc n) (under_bit b c) ≡ span_of n c
span_under n b c = ap (λ k. 2 ^ k) (omega arith)

count_under : (n : ℕ) (b : Bool) (cs : List Change) → sum_by (span_of (suc n)) (map (under_bit b) cs) ≡ sum_by (span_of n) cs
count_under n b [] = refl
count_under n b (c ∷ cs) =
    sum_by-cons (span_of (suc n)) (under_bit b c) (map (under_bit b) cs)
    ∙ (λ i. span_under n b c i + count_under n b cs i)
    ∙ sym (sum_by-cons (span_of n) c cs)

abbrev spans : ℕ → Part → ℕ
spans n p = sum_by (span_of n) (changes_of p)

both_count : (n : ℕ) (l r : Part) → spans (suc n) (both l r) ≡ spans n l + spans n r
unfolding changes_of
both_count n l r =
    omega (arith, sum_by-append (span_of (suc n)) (map (under_bit false) (changes_of l)) (map (under_bit true) (changes_of r)), count_under n false (changes_of l), count_under n true (changes_of r))

minus_zero : (n : ℕ) → n - 0 ≡ n
minus_zero n = omega arith

twice : (n : ℕ) → 0 + 2 ^ (suc n - 0) ≡ 0 + 2 ^ (n - 0) + (0 + 2 ^ (n - 0))
twice n =
    omega (arith, ap (λ k. 2 ^ k) (minus_zero (suc n)), ap (λ k. 2 ^ k) (minus_zero n), pow-suc 2 n)

equal_count : (n a b : ℕ) → spans (suc n) (Same a b) ≡ spans n (Same a b) + spans n (Same a b)
unfolding changes_of unless_equal
equal_count n a b = elim (cases_Bool (a == b)) [ inl h ↦ rw h refl | inr h ↦ rw h (twice n) ]

joined_count : (n : ℕ) (l r : Part) → spans (suc n) (joined l r) ≡ spans n l + spans n r
unfolding joined
joined_count n (Same a b) (Same c d) =
    elim (cases_Bool (same_pair a b c d)) [
      | inl h ↦ ap (λ t. spans (suc n) (cond t (Same a b) (both (Same a b) (Same c d)))) h ∙ equal_count n a b ∙ (λ i. spans n (Same a b) + spans n (Same (same_first a b c d h i) (same_second a b c d h i)))
      | inr h ↦ ap (λ t. spans (suc n) (cond t (Same a b) (both (Same a b) (Same c d)))) h ∙ both_count n (Same a b) (Same c d)
    ]
joined_count n (Same a b) (Mixed cs) = both_count n (Same a b) (Mixed cs)
joined_count n (Mixed cs) r = both_count n (Mixed cs) r

leaf_count : (a b : ℕ) → spans 0 (Same a b) ≡ cond (a == b) 0 1
unfolding changes_of unless_equal
leaf_count a b = elim (cases_Bool (a == b)) [ inl h ↦ rw h refl | inr h ↦ rw h refl ]

-- the changes cover each address with two numbers once
pub counted : (n : ℕ) (f g : List Bool → ℕ) → sum_by (span_of n) (changes n f g) ≡ differing n f g
unfolding part differing
counted zero f g = leaf_count (f []) (g [])
counted (suc n) f g =
    let l = part n (after_bit false f) (after_bit false g) in
    let r = part n (after_bit true f) (after_bit true g) in
    joined_count n l r ∙ (λ i. counted n (after_bit false f) (after_bit false g) i + counted n (after_bit true f) (after_bit true g) i)

one_most : (b : Bool) → cond b 0 1 ≤ 1
one_most true = omega arith
one_most false = omega arith

-- there are no more than there are addresses
pub differing_most : (n : ℕ) (f g : List Bool → ℕ) → differing n f g ≤ 2 ^ n
unfolding differing
differing_most zero f g = one_most (f [] == g [])
differing_most (suc n) f g = omega (arith, differing_most n (after_bit false f) (after_bit false g), differing_most n (after_bit true f) (after_bit true g), pow-suc 2 n)

-- ---- the counts that are printed

abbrev part_of : Bool → ChangedPrefix → ℕ
part_of ipv4 row = cond (is_counted ipv4 row) (span row) 0

-- each prefix is counted once
once : (b : Bool) (n : ℕ) → cond b n 0 + cond (not b) n 0 ≡ n
once true n = omega arith
once false n = omega arith

both_counts : (cs : List Change) → count_of true (map (changed_at []) cs) + count_of false (map (changed_at []) cs) ≡ sum_by (span_of 128) cs
unfolding count_of
both_counts [] = refl
both_counts (c ∷ cs) =
    let row = changed_at [] c in
    let rows = map (changed_at []) cs in
    omega (
      arith,
      sum_by-cons (part_of true) row rows,
      sum_by-cons (part_of false) row rows,
      sum_by-cons (span_of 128) c cs,
      once (is_ipv4 row) (span row),
      both_counts cs,
    )

-- the printed counts are those of the addresses with two numbers
pub counts_are : (old new : Tree) → count_of true (changed_prefixes old new) + count_of false (changed_prefixes old new) ≡ differing 128 (map_of old) (map_of new)
counts_are old new = both_counts (changes 128 (map_of old) (map_of new)) ∙ counted 128 (map_of old) (map_of new)

-- and each of them has at most 129 bits
pub count_most : (old new : Tree) (ipv4 : Bool) → count_of ipv4 (changed_prefixes old new) ≤ 2 ^ 128
count_most old new true = omega (arith, counts_are old new, differing_most 128 (map_of old) (map_of new))
count_most old new false = omega (arith, counts_are old new, differing_most 128 (map_of old) (map_of new))
