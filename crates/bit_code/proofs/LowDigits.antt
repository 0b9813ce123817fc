-- The digits of a number, low digit first.
use Rattle.std.proofs.Common.{◌≡◌, ℕ, zero, suc, ◌+◌, ◌-◌, ◌*◌, ◌/◌, ◌%◌, ◌^◌, ◌<◌, ◌≤◌, Bool, [], ◌∷◌, ◌++◌, length, reverse, get_or, refl, ap, sym, ◌∙◌, inl, inr, arith, append_assoc, append-nil, length-append, eqb}
use Rattle.std.proofs.Math.ListN.{get_or-append}
use Rattle.std.proofs.lemmas.List.{get_or-append_right, reverse-append}
use Rattle.std.proofs.lemmas.Bool.{cases_lt}
use Rattle.std.proofs.lemmas.Nat.{shr-shr, shr_high}
use Rattle.bit_code.specs.Coder.{has_bit, digits, low_digits}
use Rattle.bit_code.proofs.DigitLaws.{digits_low}

pub length-low_digits : (k n : ℕ) → length (low_digits k n) ≡ k
unfolding low_digits
length-low_digits zero n = refl
length-low_digits (suc k) n =
    omega (arith, length-append (low_digits k n) (has_bit n k ∷ []), length-low_digits k n)

-- the last digit, and those before it
low_digits_last : (k n i : ℕ) (d : Bool) → i ≡ k → get_or (low_digits k n ++ has_bit n k ∷ []) i d ≡ has_bit n i
low_digits_last k n i d e =
    let z : i - k ≡ 0 = omega arith in
    get_or-append_right (low_digits k n) (has_bit n k ∷ []) k i d (length-low_digits k n) (omega arith) ∙ (rw (z, e) refl)

-- digit i is bit i
pub get_or-low_digits : (k n i : ℕ) (d : Bool) → i < k → get_or (low_digits k n) i d ≡ has_bit n i
unfolding low_digits
get_or-low_digits zero n i d h = absurd (omega arith)
get_or-low_digits (suc k) n i d h =
    elim (cases_lt i k) [
      | inl below ↦ get_or-append (low_digits k n) (has_bit n k ∷ []) d i (omega (arith, length-low_digits k n)) ∙ get_or-low_digits k n i d below
      | inr last ↦ low_digits_last k n i d (omega arith)
    ]

-- the low digits, and those above them
pub low_digits_split : (j k n : ℕ) → low_digits (j + k) n ≡ low_digits j n ++ low_digits k (n / 2 ^ j)
unfolding low_digits
low_digits_split j zero n = let e : j + 0 ≡ j = omega arith in rw (e, append-nil) refl
low_digits_split j (suc k) n =
    let e : j + suc k ≡ suc (j + k) = omega arith in
    let top : has_bit n (j + k) ≡ has_bit (n / 2 ^ j) k = ap (λ m. eqb (m % 2) 1) (sym (shr-shr n j k)) in
    rw (e, low_digits_split j k n, top) (append_assoc (low_digits j n) (low_digits k (n / 2 ^ j)) (has_bit (n / 2 ^ j) k ∷ []))

-- the digits in the other order
pub low_digits-reverse : (k n : ℕ) → low_digits k n ≡ reverse (digits k n)
unfolding low_digits digits
low_digits-reverse zero n = refl
low_digits-reverse (suc k) n = ap (λ xs. xs ++ has_bit n k ∷ []) (low_digits-reverse k n) ∙ sym (reverse-append (has_bit n k ∷ []) (digits k n))

-- the low digits don't depend on the high part
pub low_digits_low : (j k a m : ℕ) → j ≤ k → low_digits j (a * 2 ^ k + m) ≡ low_digits j m
low_digits_low j k a m h =
    low_digits-reverse j (a * 2 ^ k + m) ∙ ap reverse (digits_low j k a m h) ∙ sym (low_digits-reverse j m)

-- the digits of a low part and of a high part
pub low_digits_cat : (j k a m : ℕ) → m < 2 ^ j → low_digits (j + k) (a * 2 ^ j + m) ≡ low_digits j m ++ low_digits k a
low_digits_cat j k a m h =
    rw (low_digits_split, low_digits_low j j a m (omega arith), shr_high a j m h) refl
