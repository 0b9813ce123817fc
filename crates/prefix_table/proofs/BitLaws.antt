-- Prefixes of 128 bits as numbers.
use Rattle.std.proofs.Common.{◌≡◌, ℕ, ◌+◌, ◌-◌, ◌*◌, ◌/◌, ◌%◌, ◌^◌, ◌<◌, ◌≤◌, ◌↔◌, ◌∙◌, ap, sym, arith, inl, inr}
use Rattle.std.proofs.Math.Nat.{div-mul-le_self, div-eq_of_lt, le_trans, eq-or-lt_of_le}
use Rattle.std.proofs.lemmas.Bool.{cases_lt}
use Rattle.std.proofs.lemmas.Nat.{le-div, shr_split, shr-shr, xor_shr, xor_lt, pow-add, pow_pos, pow_below, leading_length, mul-le, mod_below}
use Rattle.std.proofs.lemmas.Grind.{pow_more}
use Rattle.std.specs.Int.Bits.{bit_xor, xor_self, xor_assoc, xor_zero_r, xor_zero_l}
use lib.Count.{count_leading_zeros}
use Rattle.prefix_table.specs.Rows.{first_bits}
use Rattle.prefix_table.specs.Inside.{cut}

-- quotients rise
pub div-le-div : (a b k : ℕ) → 0 < k → a ≤ b → a / k ≤ b / k
div-le-div a b k p l = le-div (a / k) b k p (le_trans (div-mul-le_self a k) l)

-- what lies between two numbers of the same first bits has these too
pub first_bits_between : (len a b c : ℕ) → a ≤ b → b ≤ c → first_bits len a ≡ first_bits len c → first_bits len b ≡ first_bits len c
first_bits_between len a b c ab bc same =
    let p = pow_pos (128 - len) in
    let low = div-le-div a b (2 ^ (128 - len)) p ab in
    let high = div-le-div b c (2 ^ (128 - len)) p bc in
    omega (arith, same, low, high)

-- a number with no bit after its prefix is the prefix and zeros
pub cut_clear : (bits len : ℕ) → bits % 2 ^ (128 - len) ≡ 0 → bits ≡ cut bits len
cut_clear bits len clear = omega (arith, shr_split bits (128 - len), clear)

-- a shorter prefix with zeros is no greater
pub cut_rises : (bits m n : ℕ) → m ≤ n → n ≤ 128 → cut bits m ≤ cut bits n
cut_rises bits m n mn top =
    let x = first_bits n bits in
    let shorter : first_bits m bits ≡ x / 2 ^ (n - m) =
    let k : 128 - m ≡ (128 - n) + (n - m) = omega arith in
    ap (λ k. bits / 2 ^ k) k ∙ sym (shr-shr bits (128 - n) (n - m)) in
    let wider : 2 ^ (128 - m) ≡ 2 ^ (n - m) * 2 ^ (128 - n) =
    let k : 128 - m ≡ (n - m) + (128 - n) = omega arith in
    ap (λ k. 2 ^ k) k ∙ pow-add 2 (n - m) (128 - n) in
    let less = mul-le (x / 2 ^ (n - m) * 2 ^ (n - m)) (2 ^ (128 - n)) x (2 ^ (128 - n)) (div-mul-le_self x (2 ^ (n - m))) (omega arith) in
    omega (arith, ap (λ f. f * 2 ^ (128 - m)) shorter, ap (λ w. x / 2 ^ (n - m) * w) wider, less)

-- a prefix with zeros is no greater than the number
pub cut_le : (bits len : ℕ) → cut bits len ≤ bits
cut_le bits len = div-mul-le_self bits (2 ^ (128 - len))

same_from_xor : (a b : ℕ) → bit_xor a b ≡ 0 → a ≡ b
same_from_xor a b none =
    sym (xor_zero_r a) ∙ ap (bit_xor a) (sym (xor_self b)) ∙ sym (xor_assoc a b b) ∙ ap (λ n. bit_xor n b) none ∙ xor_zero_l b

pow_upto : (i j : ℕ) → i ≤ j → 2 ^ i ≤ 2 ^ j
pow_upto i j h = elim (eq-or-lt_of_le h) [ inl e ↦ omega (arith, ap (λ k. 2 ^ k) e) | inr l ↦ omega (arith, pow_below i j l) ]

-- a number that has no digit from 2 ^ k on
below_from_div : (x k : ℕ) → x / 2 ^ k ≡ 0 → x < 2 ^ k
below_from_div x k none = let p = pow_pos k in omega (arith, shr_split x k, ap (λ q. q * 2 ^ k) none, mod_below x (2 ^ k) p)

leading_when : (x k len : ℕ) → x < 2 ^ 128 → k + len ≡ 128 → x < 2 ^ k → len ≤ count_leading_zeros 128 x
leading_when x k len whole long small =
    elim (cases_lt (count_leading_zeros 128 x) len) [
      | inl short ↦
          let digits = leading_length 128 x whole in
          let more : k + 1 ≤ digits.0 = omega (arith, digits.1) in
          absurd (omega (arith, pow_upto (k + 1) digits.0 more, pow_more 2 k, digits.3, small))
      | inr done ↦ done
    ]

small_when : (x k len : ℕ) → x < 2 ^ 128 → k + len ≡ 128 → len ≤ count_leading_zeros 128 x → x < 2 ^ k
small_when x k len whole long zeros =
    let digits = leading_length 128 x whole in
    let fewer : digits.0 ≤ k = omega (arith, digits.1) in
    omega (arith, digits.2, pow_upto digits.0 k fewer)

-- two numbers agree in their first bits as far as their difference begins with zeros
pub common_is : (a b len : ℕ) → a < 2 ^ 128 → b < 2 ^ 128 → len ≤ 128 → (first_bits len a ≡ first_bits len b) ↔ (len ≤ count_leading_zeros 128 (bit_xor a b))
common_is a b len la lb top =
    let k = 128 - len in
    let x = bit_xor a b in
    let whole : x < 2 ^ 128 = xor_lt 128 a b la lb in
    let long : k + len ≡ 128 = omega arith in (
      λ same.
          let none : x / 2 ^ k ≡ 0 = xor_shr a b k ∙ ap (λ n. bit_xor n (b / 2 ^ k)) same ∙ xor_self (b / 2 ^ k) in
          leading_when x k len whole long (below_from_div x k none),
      λ zeros.
          let small = small_when x k len whole long zeros in
          same_from_xor (a / 2 ^ k) (b / 2 ^ k) (sym (xor_shr a b k) ∙ div-eq_of_lt small),
    )
