-- Numbers over classes whose sizes rise by one: the bits before the digits, and then the digits.
use Rattle.std.proofs.Common.{◌≡◌, ℕ, zero, suc, ◌+◌, ◌-◌, ◌*◌, ◌/◌, ◌%◌, ◌^◌, ◌<◌, ◌≤◌, Bool, true, false, List, [], ◌∷◌, ◌++◌, length, Option, None, Some, refl, ap, sym, ◌∙◌, arith, inl, inr, max, eqb, bit_or}
use Rattle.std.specs.List.{range_with_len}
use Rattle.std.specs.Int.{bit_at, bit_not, trailing_zeros, w64}
use Rattle.std.proofs.Math.Nat.{pow-suc}
use Rattle.std.proofs.Math.Pow.{pow_mono}
use Rattle.std.proofs.lemmas.Nat.Bits.{bit_at-suc, bit_at-trailing_zeros, bit_at_or, bit_at_not, bit_at-pow_same, bit_at-pow_other, bit_at-zero, bit_at-lt}
use Rattle.std.proofs.lemmas.Nat.{one_shl, or_lt, pow_below}
use Rattle.std.proofs.lemmas.Bool.{cases_lt}
use Rattle.bit_code.specs.Coder.{has_bit, low_digits}
use Rattle.bit_code.specs.Inside.{class_head, IsClass}
use Rattle.bit_code.specs.Reading.{digits_at, read_by, after_values}
use Rattle.bit_code.proofs.LowDigits.{low_digits_split}

after_zero : (read : Option (ℕ × List Bool)) (n : ℕ) → n ≡ 0 → after_values n read ≡ read
after_zero None n e = refl
after_zero (Some r) n e = let same : n + r.0 ≡ r.0 = omega arith in ap (λ x. Some (x, r.1)) same

pub after_twice : (a b : ℕ) (read : Option (ℕ × List Bool)) → after_values a (after_values b read) ≡ after_values (a + b) read
after_twice a b None = refl
after_twice a b (Some r) = let e : a + (b + r.0) ≡ a + b + r.0 = omega arith in ap (λ x. Some (x, r.1)) e

-- a first class
read_first : (first : ℕ) (rest : List Bool) → digits_at first rest ≡ after_values (2 ^ (first + 0) - 2 ^ first) (digits_at (first + 0) rest)
read_first first rest =
    let e : first + 0 ≡ first = omega arith in
    rw e (sym (after_zero (digits_at first rest) (2 ^ first - 2 ^ first) (omega arith)))

-- after the bits of the class come its digits
pub read_class : (class last first : ℕ) (rest : List Bool) → class ≤ last → read_by (range_with_len first (suc last)) (class_head class last ++ rest) ≡ after_values (2 ^ (first + class) - 2 ^ first) (digits_at (first + class) rest)
unfolding read_by
read_class zero zero first rest h = read_first first rest
read_class zero (suc last) first rest h = read_first first rest
read_class (suc class) zero first rest h = absurd (omega arith)
read_class (suc class) (suc last) first rest h =
    let e : first + 1 + class ≡ first + suc class = omega arith in
    let more : 2 ^ (first + 1) ≤ 2 ^ (first + suc class) = pow_mono (omega arith) in
    let next : first + 1 ≡ suc first = omega arith in
    let two : 2 ^ (first + 1) ≡ 2 * 2 ^ first = rw next (omega (arith, pow-suc 2 first)) in
    let sum : 2 ^ first + (2 ^ (first + suc class) - 2 ^ (first + 1)) ≡ 2 ^ (first + suc class) - 2 ^ first = omega (arith, more, two) in
    ap (after_values (2 ^ first)) (rw e at (read_class class last (first + 1) rest (omega arith)))
    ∙ after_twice (2 ^ first) (2 ^ (first + suc class) - 2 ^ (first + 1)) (digits_at (first + suc class) rest)
    ∙ ap (λ n. after_values n (digits_at (first + suc class) rest)) sum

length-class_head_low : (class last : ℕ) → class < last → length (class_head class last) ≡ class + 1
length-class_head_low zero zero h = absurd (omega arith)
length-class_head_low zero (suc last) h = refl
length-class_head_low (suc class) zero h = absurd (omega arith)
length-class_head_low (suc class) (suc last) h = omega (arith, length-class_head_low class last (omega arith))

length-class_head_last : (class : ℕ) → length (class_head class class) ≡ class
length-class_head_last zero = refl
length-class_head_last (suc class) = omega (arith, length-class_head_last class)

-- the one-bits and the zero-bit after them
pub head_length : (class last more : ℕ) → class ≤ last → (class < last → more ≡ 1) → (class ≡ last → more ≡ 0) → class + more ≡ length (class_head class last)
head_length class last more h one none =
    elim (cases_lt class last) [
      | inl low ↦ omega (arith, one low, length-class_head_low class last low)
      | inr high ↦
          let e : last ≡ class = omega arith in
          rw e (omega (arith, none (sym e), length-class_head_last class))
    ]

half_bit : (n i : ℕ) → has_bit (n / 2) i ≡ has_bit n (suc i)
half_bit n i = ap (λ b. eqb b 1) (sym (bit_at-suc n i))

pub low_digits_head : (class last n : ℕ) → IsClass n class last → low_digits (length (class_head class last)) n ≡ class_head class last
unfolding low_digits
low_digits_head zero zero n c = refl
low_digits_head zero (suc last) n c = ap (λ b. b ∷ []) (c.stop (omega arith))
low_digits_head (suc class) zero n c = absurd (omega (arith, c.within))
low_digits_head (suc class) (suc last) n c =
    let size = length (class_head class last) in
    let e : suc size ≡ 1 + size = omega arith in
    let rest : IsClass (n / 2) class last = record {
      within = omega (arith, c.within);
      ones = λ i h. half_bit n i ∙ c.ones (suc i) (omega arith);
      stop = λ h. half_bit n class ∙ c.stop (omega arith);
    } in
    let split : low_digits (1 + size) n ≡ has_bit n 0 ∷ low_digits size (n / 2 ^ 1) = low_digits_split 1 size n in
    ap (λ k. low_digits k n) e ∙ split ∙ ap (λ b. b ∷ low_digits size (n / 2)) (c.ones 0 (omega arith)) ∙ ap (λ xs. true ∷ xs) (low_digits_head class last (n / 2) rest)

pub one_bit : (b : ℕ) → b ≡ 1 → eqb b 1 ≡ true
one_bit b e = rw e refl

pub no_bit : (b : ℕ) → b ≡ 0 → eqb b 1 ≡ false
no_bit b e = rw e refl

module _ (n last : ℕ) (h : n < 2 ^ 64) (small : last < 64) where
  abbrev other : ℕ
  other = bit_or (bit_not w64 n) (2 ^ last)

  other_bit : (i : ℕ) → i < 64 → bit_at other i ≡ max (1 - bit_at n i) (bit_at (2 ^ last) i)
  other_bit i room = bit_at_or (bit_not w64 n) (2 ^ last) i ∙ ap (λ b. max b (bit_at (2 ^ last) i)) (bit_at_not w64 n i h room)

  last_bit : bit_at other last ≡ 1
  last_bit = other_bit last small ∙ ap (λ b. max (1 - bit_at n last) b) (bit_at-pow_same last) ∙ omega arith

  some : 0 < other
  some =
      elim (cases_lt 0 other) [
        | inl more ↦ more
        | inr none ↦
            let zero_is : other ≡ 0 = omega arith in
            let bit : bit_at other last ≡ 0 = ap (λ m. bit_at m last) zero_is ∙ bit_at-zero last in
            absurd (omega (arith, bit, last_bit))
      ]

  complement_class : IsClass n (trailing_zeros w64 other) last
  complement_class =
      let fits : bit_not w64 n < 2 ^ 64 = omega arith in
      let t = bit_at-trailing_zeros w64 other some (or_lt 64 (bit_not w64 n) (2 ^ last) fits (pow_below last 64 small)) in
      record {
        within =
            elim (cases_lt last (trailing_zeros w64 other)) [
              | inl past ↦ absurd (omega (arith, t.2 last past, last_bit))
              | inr fine ↦ fine
            ];
        ones = λ i less. one_bit _ (omega (arith, t.2 i less, other_bit i (omega arith), bit_at-lt n i));
        stop = λ less. no_bit _ (omega (arith, t.1, other_bit (trailing_zeros w64 other) (omega arith), bit_at-pow_other last (trailing_zeros w64 other) (omega arith), bit_at-lt n (trailing_zeros w64 other)));
      }

-- the lowest digit set in the complement, with one at the last class
pub class_of : (n last : ℕ) → n < 2 ^ 64 → last < 64 → IsClass n (trailing_zeros w64 (bit_or (bit_not w64 n) (1 * 2 ^ last % 2 ^ 64))) last
class_of n last h small = rw (one_shl last 64 small) (complement_class n last h small)
