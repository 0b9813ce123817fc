-- The first set bit of a number, from one bit on.
use Rattle.std.proofs.Common.{◌≡◌, ℕ, ◌+◌, ◌-◌, ◌/◌, ◌%◌, ◌^◌, ◌<◌, ◌≤◌, sym, ap, ◌∙◌, arith, w64, inl, inr}
use Rattle.std.specs.Int.{bit_at, trailing_zeros}
use Rattle.std.specs.Int.Count.{trailing_of_zero}
use Rattle.std.proofs.lemmas.Bool.{cases_lt}
use Rattle.std.proofs.lemmas.Nat.{shr-shr}
use Rattle.std.proofs.lemmas.Nat.Bits.{bit_at-trailing_zeros, bit_at-zero}

-- the bits of a number that is shifted
shifted : (n s i : ℕ) → bit_at (n / 2 ^ s) i ≡ bit_at n (s + i)
shifted n s i = ap (λ x. x % 2) (shr-shr n s i)

from_shifted : (n s i : ℕ) → s ≤ i → bit_at n i ≡ bit_at (n / 2 ^ s) (i - s)
from_shifted n s i after = sym (shifted n s (i - s) ∙ ap (bit_at n) (omega arith))

none_from : (n s i : ℕ) → n / 2 ^ s ≡ 0 → s ≤ i → bit_at n i ≡ 0
none_from n s i none after = from_shifted n s i after ∙ ap (λ m. bit_at m (i - s)) none ∙ bit_at-zero (i - s)

-- the bit at s + t is the first set bit from s on
pub record IsFirst (n s t : ℕ) : Type 0 where
  pub set : bit_at n (s + t) ≡ 1
  pub before : (i : ℕ) → s ≤ i → i < s + t → bit_at n i ≡ 0

first_from : (n s : ℕ) → 0 < n / 2 ^ s → n / 2 ^ s < 2 ^ 64 → IsFirst n s (trailing_zeros w64 (n / 2 ^ s))
first_from n s some small =
    let found = bit_at-trailing_zeros w64 (n / 2 ^ s) (omega (arith, some)) small in
    record {
      set = sym (shifted n s (trailing_zeros w64 (n / 2 ^ s))) ∙ found.1;
      before = λ i after less. from_shifted n s i after ∙ found.2 (i - s) (omega arith);
    }

-- the first set bit, if it is below 64
pub first_bit : (n s : ℕ) → n / 2 ^ s < 2 ^ 64 → s + trailing_zeros w64 (n / 2 ^ s) < 64 → IsFirst n s (trailing_zeros w64 (n / 2 ^ s))
first_bit n s small below = elim (cases_lt 0 (n / 2 ^ s)) [
  | inl some ↦ first_from n s some small
  | inr none ↦
      let zero : n / 2 ^ s ≡ 0 = omega arith in
      absurd (omega (arith, ap (trailing_zeros w64) zero, trailing_of_zero 64))
]

-- no bit before the first one is set
pub no_bit : (n s to i : ℕ) → n / 2 ^ s < 2 ^ 64 → to ≤ s + trailing_zeros w64 (n / 2 ^ s) → s ≤ i → i < to → bit_at n i ≡ 0
no_bit n s to i small after high low = elim (cases_lt 0 (n / 2 ^ s)) [
  | inl some ↦ (first_from n s some small).before i high (omega arith)
  | inr none ↦ none_from n s i (omega arith) high
]
