-- The spelling of a number as a number.
use Rattle.std.proofs.Common.{◌≡◌, ℕ, zero, suc, ◌+◌, ◌-◌, ◌*◌, ◌^◌, ◌<◌, ◌≤◌, [], ◌++◌, length, reverse, refl, ap, sym, ◌∙◌, arith, inl, inr, append-nil, add-one, Some}
use Rattle.std.specs.List.{range_with_len}
use Rattle.std.specs.Int.Count.{count_leading_zeros}
use Rattle.std.proofs.Math.Nat.{pow-suc}
use Rattle.std.proofs.Math.Pow.{pow_mono}
use Rattle.std.proofs.lemmas.List.{reverse-reverse}
use Rattle.std.proofs.lemmas.Nat.{pow_pos, leading_top}
use Rattle.std.proofs.lemmas.Bool.{cases_lt}
use Rattle.std.proofs.lemmas.Nat.Bits.{bit_at_ones, bit_at_ones_above}
use Rattle.bit_code.specs.declared.coder.Coder.TheVariants as coders
use Rattle.bit_code.specs.Coder.{low_digits, digits, number_of, spelling, spelling_by, sizes, values_of}
use Rattle.bit_code.specs.Inside.{class_head, IsClass}
use Rattle.bit_code.specs.Reading.{read_by, after_values}
use Rattle.bit_code.proofs.LowDigits.{length-low_digits, low_digits-reverse}
use Rattle.bit_code.proofs.DigitLaws.{length-digits, digits_low, digits-number_of, number_of-digits}
use Rattle.bit_code.proofs.RisingClasses.{low_digits_head, read_class, one_bit, no_bit}
use Rattle.bit_code.proofs.FrontNumbers.{digits_at_front, kind_len}
use Rattle.bit_code.proofs.ReadingLaws.{read_by-takes, values_of_none, values_of_cons}

pub pow_cancel : (i j : ℕ) → 2 ^ i < 2 ^ j → i < j
pow_cancel i j h =
    elim (cases_lt i j) [
      | inl less ↦ less
      | inr more ↦ let rises : 2 ^ j ≤ 2 ^ i = pow_mono more in absurd (omega arith)
    ]

-- the index of the highest digit that is set
pub record IsTop (n top : ℕ) : Type 0 where
  pub low : 2 ^ top ≤ n
  pub high : n < 2 * 2 ^ top

pub top_of : (n : ℕ) → 0 < n → n < 2 ^ 32 → IsTop n (31 - count_leading_zeros 32 n)
top_of n some small =
    let t = leading_top 32 n some small in
    let e : 31 - count_leading_zeros 32 n ≡ t.0 = omega (arith, t.1) in
    rw e (record { low = t.2; high = omega (arith, t.3, pow-suc 2 t.0) })

-- a number of some class has its highest digit at the size of the class
pub top_range : (n top first last : ℕ) → 2 ^ top ≤ n → n < 2 * 2 ^ top → 2 ^ first ≤ n → n < 2 ^ (first + last + 1) → (first ≤ top) × (top ≤ first + last)
top_range n top first last low high some below =
    let least : first < suc top = pow_cancel first (suc top) (omega (arith, low, high, some, pow-suc 2 top)) in
    let most : top < first + last + 1 = pow_cancel top (first + last + 1) (omega arith) in
    (omega arith, omega arith)

pub low_digits-front : (k n : ℕ) → low_digits k (number_of (low_digits k n)) ≡ digits k n
low_digits-front k n =
    let bs = low_digits k n in
    let again : digits k (number_of bs) ≡ bs = rw length-low_digits at (digits-number_of bs) in
    low_digits-reverse k (number_of bs) ∙ ap reverse (again ∙ low_digits-reverse k n) ∙ reverse-reverse (digits k n)

ones_class : (class last : ℕ) → class ≤ last → IsClass (2 ^ class - 1) class last
ones_class class last h =
    record {
      within = h;
      ones = λ i less. one_bit _ (bit_at_ones class i less);
      stop = λ less. no_bit _ (bit_at_ones_above class class (omega arith));
    }

-- a number with its top digit at this index
spelled_class : (first class last n : ℕ) → class ≤ last → 2 ^ (first + class) ≤ n → n < 2 * 2 ^ (first + class) → class_head class last ++ digits (first + class) n ≡ spelling_by (range_with_len first (suc last)) (n - 2 ^ first)
spelled_class first class last n h low high =
    let size = first + class in
    let ds = digits size n in
    let top : n ≡ 1 * 2 ^ size + (n - 2 ^ size) = omega arith in
    let below : n - 2 ^ size < 2 ^ size = omega arith in
    let same : ds ≡ digits size (n - 2 ^ size) = ap (digits size) top ∙ digits_low size size 1 (n - 2 ^ size) (omega arith) in
    let number : number_of ds ≡ n - 2 ^ size = ap number_of same ∙ number_of-digits size (n - 2 ^ size) below in
    let rises : 2 ^ first ≤ 2 ^ size = pow_mono (omega arith) in
    let sum : 2 ^ size - 2 ^ first + number_of ds ≡ n - 2 ^ first = omega (arith, number) in
    let read : read_by (range_with_len first (suc last)) (class_head class last ++ (ds ++ [])) ≡ Some (n - 2 ^ first, []) =
    read_class class last first (ds ++ []) h
    ∙ ap (after_values (2 ^ size - 2 ^ first)) (digits_at_front size ds [] (length-digits size n))
    ∙ ap (λ x. Some (x, [])) sum in
    let begins = read_by-takes (range_with_len first (suc last)) (n - 2 ^ first) (class_head class last ++ (ds ++ [])) [] read in
    ap (λ xs. class_head class last ++ xs) (sym (append-nil ds)) ∙ begins.spelled ∙ append-nil _

pub spelled_rising : (first class last n : ℕ) → class ≤ last → 2 ^ (first + class) ≤ n → n < 2 * 2 ^ (first + class) → low_digits (length (class_head class last)) (2 ^ class - 1) ++ low_digits (first + class) (number_of (low_digits (first + class) n)) ≡ spelling_by (range_with_len first (last + 1)) (n - 2 ^ first)
spelled_rising first class last n h low high =
    let size = first + class in
    let turned = number_of (low_digits size n) in
    rw add-one
    (ap (λ xs. xs ++ low_digits size turned) (low_digits_head class last (2 ^ class - 1) (ones_class class last h))
    ∙ ap (λ xs. class_head class last ++ xs) (low_digits-front size n)
    ∙ spelled_class first class last n h low high)

pub ones-lt : (class head : ℕ) → class ≤ head → 2 ^ class - 1 < 2 ^ head
ones-lt class head h =
    let rises : 2 ^ class ≤ 2 ^ head = pow_mono h in
    omega (arith, rises, pow_pos head)

pub spelled_kind : (n : ℕ) → n < 4 → low_digits (kind_len n) (2 ^ n - 1) ≡ spelling coders.Kind n
unfolding low_digits spelling spelling_by sizes digits
spelled_kind zero h = refl
spelled_kind (suc zero) h = refl
spelled_kind (suc (suc zero)) h = refl
spelled_kind (suc (suc (suc zero))) h = refl
spelled_kind (suc (suc (suc (suc n)))) h = absurd (omega arith)

pub kind_values : values_of (sizes coders.Kind) ≡ 4
unfolding sizes values_of
kind_values = refl

-- how many values classes of rising sizes have
pub rising_values : (first last : ℕ) → values_of (range_with_len first (last + 1)) + 2 ^ first ≡ 2 ^ (first + last + 1)
rising_values first zero =
    let e : first + 0 + 1 ≡ suc first = omega arith in
    rw e (omega (arith, values_of_cons first [], values_of_none, pow-suc 2 first))
rising_values first (suc last) =
    let count : suc last + 1 ≡ suc (last + 1) = omega arith in
    let e : first + suc last + 1 ≡ first + 1 + last + 1 = omega arith in
    let next : first + 1 ≡ suc first = omega arith in
    let two : 2 ^ (first + 1) ≡ 2 * 2 ^ first = rw next (omega (arith, pow-suc 2 first)) in
    let more = rising_values (first + 1) last in
    rw (count, e) (omega (arith, values_of_cons first (range_with_len (first + 1) (last + 1)), two, more))
