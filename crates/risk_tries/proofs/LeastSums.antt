-- Least sums from those with a number less, and the product over them.
use Rattle.std.proofs.Common.{◌≡◌, ℕ, zero, suc, ◌+◌, ◌-◌, ◌^◌, ◌≤◌, ◌<◌, min, All, List, [], ◌∷◌, ◌++◌, fold, get_or, set, drop, length, map, take, sum, refl, sym, ap, subst, ◌∙◌, arith, if◌then◌else◌}
use Rattle.std.specs.List.{range_with_len}
use Rattle.std.specs.Prelude.{nat_lt}
use Rattle.std.proofs.Math.Nat.{min-le_right}
use Rattle.std.proofs.lemmas.Bool.{le-ltb, lt-ltb}
use Rattle.std.proofs.lemmas.List.{drop_more, take_all, take_more_set}
use Rattle.std.proofs.lemmas.List.FromFn.{get_or-map-range_with_len, length-map-range_with_len, map-range_with_len_more}
use Rattle.risk_tries.specs.TenBound.{least_sum, part_from, ten_bound}
use Rattle.risk_tries.specs.Inside.{after_one, least_sums, with_share}

-- one number more of the array
pub one_more : (share : ℕ) (least more : List ℕ) (i v : ℕ) → 0 < i → i < length more → take i more ≡ map (with_share share least) (range_with_len 0 i)
    → v ≡ min (share + get_or least (i - 1) 0) (get_or least i 0) → take (i + 1) (set more i v) ≡ map (with_share share least) (range_with_len 0 (i + 1))
one_more share least more i v some low so_far is =
    take_more_set more i v low ∙ (λ j. so_far j ++ (is ∙ there i some) j ∷ [])
    ∙ sym (map-range_with_len_more (with_share share least) 0 i i (omega arith))
  where
    there : (i : ℕ) → 0 < i → min (share + get_or least (i - 1) 0) (get_or least i 0) ≡ with_share share least i
    there zero some = absurd (omega (arith, some))
    there (suc n) some = let back : suc n - 1 ≡ n = omega arith in λ j. min (share + get_or least (back j) 0) (get_or least (suc n) 0)

pub whole_array : (share : ℕ) (least more : List ℕ) (i : ℕ) → 10 ≤ i → i ≤ 10 → length more ≡ 10 → take i more ≡ map (with_share share least) (range_with_len 0 i)
    → more ≡ map (with_share share least) (range_with_len 0 10)
whole_array share least more i low high long is =
    let end : i ≡ 10 = omega (arith, low, high) in
    sym (take_all 10 more (omega (arith, long))) ∙ subst (λ n. take n more ≡ map (with_share share least) (range_with_len 0 n)) end is

-- with one share more
all_added : (none share : ℕ) (shares : List ℕ) → map (with_share share (least_sums none shares)) (range_with_len 0 10) ≡ least_sums none (share ∷ shares)
all_added none share shares = refl

pub one_before : (none : ℕ) (shares : List ℕ) (from share : ℕ) (least next : List ℕ) → 0 < from → from ≤ length shares → share ≡ get_or shares (from - 1) share
    → least ≡ least_sums none (drop from shares) → next ≡ map (with_share share least) (range_with_len 0 10) → next ≡ least_sums none (drop (from - 1) shares)
one_before none shares from share least next some low is so_far made =
    let up : from - 1 + 1 ≡ from = omega (arith, some) in
    made ∙ (λ i. map (with_share share (so_far i)) (range_with_len 0 10)) ∙ all_added none share (drop from shares)
    ∙ ap (least_sums none) (sym (drop_more shares (from - 1) share (omega (arith, some, low)) ∙ (λ i. sym is i ∷ drop (up i) shares)))

-- no least sum is more than that of all
low : (none count : ℕ) (shares : List ℕ) → least_sum none count shares ≤ none
low none zero shares = omega arith
low none (suc count) [] = omega arith
low none (suc count) (share ∷ shares) =
    lower (min-le_right (share + least_sum none count shares) (least_sum none (suc count) shares)) (low none (suc count) shares)
  where
    lower : {a b c : ℕ} → a ≤ b → b ≤ c → a ≤ c
    lower one two = omega (arith, one, two)

pub all_low : (none bound : ℕ) (shares least : List ℕ) → none ≤ bound → least ≡ least_sums none shares → All (λ s. s ≤ bound) least
all_low none bound shares least few is = subst (All (λ s. s ≤ bound)) (sym is) each
  where
    each : All (λ s. s ≤ bound) (least_sums none shares)
    each = λ k d within.
        let below : k < 10 = omega (arith, within, length-map-range_with_len (λ c. least_sum none c shares) 0 10) in
        let at : get_or (least_sums none shares) k d ≡ least_sum none k shares = get_or-map-range_with_len (λ c. least_sum none c shares) 0 10 k k d below (omega arith) in
        omega (arith, at, low none k shares, few)

pub at_end : (none : ℕ) (shares least : List ℕ) (from : ℕ) → from ≤ 0 → least ≡ least_sums none (drop from shares) → least ≡ least_sums none shares
at_end none shares least from end is = let zero_is : from ≡ 0 = omega (arith, end) in subst (λ n. least ≡ least_sums none (drop n shares)) zero_is is

-- ---- the product

product_is : (shares : List ℕ) (total whole unit : ℕ) → fold (after_one total whole) unit (least_sums total shares) ≡ part_from shares total whole 0 10 unit
product_is shares total whole unit = refl

pub by_product : (shares lows : List ℕ) (total whole result : ℕ) → total ≡ sum shares → total < whole → lows ≡ least_sums total shares
    → result ≡ fold (after_one total whole) (2 ^ 62) lows → result ≡ ten_bound shares whole (2 ^ 62)
by_product shares lows total whole result is less are made =
    made ∙ ap (fold (after_one total whole) (2 ^ 62)) are ∙ product_is shares total whole (2 ^ 62)
    ∙ (λ i. if sym (lt-ltb total whole less) i then part_from shares total whole 0 10 (2 ^ 62) else 2 ^ 62)
    ∙ (λ i. if nat_lt (is i) whole then part_from shares (is i) whole 0 10 (2 ^ 62) else 2 ^ 62)

pub by_all : (shares : List ℕ) (whole : ℕ) → whole ≤ sum shares → 2 ^ 62 ≡ ten_bound shares whole (2 ^ 62)
by_all shares whole most = λ i. if sym (le-ltb (sum shares) whole most) i then part_from shares (sum shares) whole 0 10 (2 ^ 62) else 2 ^ 62
