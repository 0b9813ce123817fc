-- The number of a match and the bits that it wants.
use Rattle.std.proofs.Common.{◌≡◌, ℕ, zero, suc, ◌+◌, ◌-◌, ◌*◌, ◌^◌, ◌<◌, ◌≤◌, Bool, true, List, ◌∷◌, length, refl, inl, inr, arith}
use Rattle.std.specs.Int.Count.{count_leading_zeros, leading_unique}
use Rattle.std.proofs.lemmas.Nat.{leading_top}
use Rattle.std.proofs.lemmas.Bool.{cases_lt}
use Rattle.std.proofs.Math.Nat.{pow-suc}
use Rattle.std.proofs.Math.Pow.{pow_mono}
use Rattle.bit_code.specs.declared.coder.Coder.TheVariants as coders
use Rattle.bit_code.specs.Coder.{number_of, digits, HasValue, values_of, sizes}
use Rattle.bit_code.proofs.DigitLaws.{number_of-lt, digits-number_of, digits_low, number_of-digits, length-digits}
use Rattle.asmap_vm.specs.Matches.{match_size, match_bits}

pub match_size_is : (n k : ℕ) → 2 ^ k ≤ n → n < 2 ^ suc k → k < 32 → match_size n ≡ k
unfolding match_size
match_size_is n k low high small =
    let lead : 31 - k ≡ count_leading_zeros 32 n = leading_unique 32 n (31 - k) (suc k) (omega arith) high (omega (arith, pow-suc 2 k)) in
    omega (arith, lead)

-- a number of a match, by the offset of its leading one
pub record Leads (n k : ℕ) : Type 0 where
  pub some : 0 < k
  pub most : k ≤ 8
  pub low : 2 ^ k ≤ n
  pub high : n < 2 ^ suc k

leads : (n k : ℕ) → 2 ^ k ≤ n → n < 2 ^ suc k → 2 ≤ n → n < 512 → Leads n k
leads n zero low high two most = absurd (omega arith)
leads n (suc k) low high two most =
    record {
      some = omega arith;
      most = elim (cases_lt (suc k) 9) [ inl below ↦ omega arith | inr above ↦ absurd (omega (arith, pow_mono above)) ];
      low = low;
      high = high;
    }

pub leads_at : (n : ℕ) → 2 ≤ n → n < 512 → Leads n (match_size n)
leads_at n low high =
    let small : n < 2 ^ 32 = omega arith in
    let top = leading_top 32 n (omega arith) small in
    rw (match_size_is n top.0 top.2 top.3 (omega arith)) (leads n top.0 top.2 top.3 low high)

pub match_values : values_of (sizes coders.Match) ≡ 510
unfolding values_of sizes
match_values = refl

pub match_range : (n : ℕ) → HasValue coders.Match n → (2 ≤ n) × (n < 512)
match_range n h = (h.low, omega (arith, h.high, match_values))

pub number_of_wanted : (wanted : List Bool) → number_of (true ∷ wanted) ≡ 2 ^ length wanted + number_of wanted
unfolding number_of
number_of_wanted wanted = refl

pub match_size-wanted : (wanted : List Bool) → length wanted ≤ 8 → match_size (number_of (true ∷ wanted)) ≡ length wanted
match_size-wanted wanted h =
    match_size_is (number_of (true ∷ wanted)) (length wanted) (omega (arith, number_of_wanted wanted)) (number_of-lt (true ∷ wanted)) (omega arith)

pub match_bits-wanted : (wanted : List Bool) → length wanted ≤ 8 → match_bits (number_of (true ∷ wanted)) ≡ wanted
unfolding match_bits
match_bits-wanted wanted h =
    let one : 2 ^ length wanted + number_of wanted ≡ 1 * 2 ^ length wanted + number_of wanted = omega arith in
    let low = digits_low (length wanted) (length wanted) 1 (number_of wanted) (omega arith) in
    rw (match_size-wanted wanted h, number_of_wanted, one, low) (digits-number_of wanted)

pub match_value : (wanted : List Bool) → 0 < length wanted → length wanted ≤ 8 → HasValue coders.Match (number_of (true ∷ wanted))
match_value wanted some most =
    record {
      low = omega (arith, number_of_wanted wanted, pow_mono some);
      high = omega (arith, number_of-lt (true ∷ wanted), pow_mono most, pow-suc 2 (length wanted), match_values);
    }

whole : (n k : ℕ) → Leads n k → number_of (true ∷ digits k n) ≡ n
whole n k h =
    let below : n - 2 ^ k < 2 ^ k = omega (arith, h.low, h.high, pow-suc 2 k) in
    let split : 1 * 2 ^ k + (n - 2 ^ k) ≡ n = omega (arith, h.low) in
    let same : digits k n ≡ digits k (n - 2 ^ k) = rw split at (digits_low k k 1 (n - 2 ^ k) (omega arith)) in
    let number : number_of (digits k n) ≡ n - 2 ^ k = rw same (number_of-digits k (n - 2 ^ k) below) in
    rw (number_of_wanted, length-digits, number) (omega (arith, h.low))

-- a number is that of the bits that it says
pub number_of-match_bits : (n : ℕ) → 2 ≤ n → n < 512 → number_of (true ∷ match_bits n) ≡ n
unfolding match_bits
number_of-match_bits n low high = whole n (match_size n) (leads_at n low high)
