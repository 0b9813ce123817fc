-- The laws of binary digits and of the numbers that they are the digits of. The crates above cite
-- them too.
use Rattle.std.proofs.Common.{◌≡◌, ℕ, zero, suc, ◌+◌, ◌-◌, ◌*◌, ◌/◌, ◌%◌, ◌^◌, ◌<◌, ◌≤◌, Bool, true, false, List, [], ◌∷◌, ◌++◌, length, refl, ap, sym, ◌∙◌, inl, inr, arith, eqb}
use Rattle.std.specs.Int.{bit_at}
use Rattle.std.proofs.Math.Nat.{pow-suc}
use Rattle.std.proofs.lemmas.Nat.{shr-shr}
use Rattle.std.proofs.lemmas.Nat.Bits.{bit_at_cat_low, bit_at_cat_high}
use Rattle.std.proofs.lemmas.Bool.{cases_lt}
use Rattle.bit_code.specs.Coder.{has_bit, digits, number_of}

pub length-digits : (k n : ℕ) → length (digits k n) ≡ k
unfolding digits
length-digits zero n = refl
length-digits (suc k) n = ap suc (length-digits k n)

pub digits_cons : (k n : ℕ) → digits (suc k) n ≡ has_bit n k ∷ digits k n
unfolding digits
digits_cons k n = refl

same_shift : (size left a : ℕ) → a / 2 ^ (size + left) ≡ a / 2 ^ left / 2 ^ size
same_shift size left a = let e : size + left ≡ left + size = omega arith in rw e (sym (shr-shr a left size))

-- the digits above the lowest ones, and then those
pub digits_above : (size left a : ℕ) → digits (size + left) a ≡ digits size (a / 2 ^ left) ++ digits left a
digits_above zero left a = let e : 0 + left ≡ left = omega arith in rw e (unfold digits in refl)
digits_above (suc size) left a =
    let e : suc size + left ≡ suc (size + left) = omega arith in
    let top : has_bit a (size + left) ≡ has_bit (a / 2 ^ left) size = ap (λ n. eqb (n % 2) 1) (same_shift size left a) in
    rw e (digits_cons (size + left) a ∙ ap (λ b. b ∷ digits (size + left) a) top ∙ ap (λ xs. has_bit (a / 2 ^ left) size ∷ xs) (digits_above size left a) ∙ sym (ap (λ xs. xs ++ digits left a) (digits_cons size (a / 2 ^ left))))

-- the low digits don't depend on the high part
pub digits_low : (j k a m : ℕ) → j ≤ k → digits j (a * 2 ^ k + m) ≡ digits j m
unfolding digits
digits_low zero k a m h = refl
digits_low (suc j) k a m h =
    let e : has_bit (a * 2 ^ k + m) j ≡ has_bit m j = ap (λ b. eqb b 1) (bit_at_cat_low a k m j (omega arith)) in
    let s : digits j (a * 2 ^ k + m) ≡ digits j m = digits_low j k a m (omega arith) in
    cc

-- a bit as a number
abbrev pub bit : Bool → ℕ
bit true = 1
bit false = 0

pub number_of-lt : (bs : List Bool) → number_of bs < 2 ^ length bs
unfolding number_of
number_of-lt [] = omega arith
number_of-lt (true ∷ bs) = omega (arith, number_of-lt bs, pow-suc 2 (length bs))
number_of-lt (false ∷ bs) = omega (arith, number_of-lt bs, pow-suc 2 (length bs))

-- the top digit of b 2 ^ k + m
top_digit : (b : Bool) (k m : ℕ) → m < 2 ^ k → has_bit (bit b * 2 ^ k + m) k ≡ b
top_digit true k m h =
    let z : k - k ≡ 0 = omega arith in
    let one : bit_at 1 (k - k) ≡ 1 = rw z refl in
    ap (λ x. eqb x 1) (bit_at_cat_high 1 k m k h (omega arith) ∙ one)
top_digit false k m h =
    let z : k - k ≡ 0 = omega arith in
    let none : bit_at 0 (k - k) ≡ 0 = rw z refl in
    ap (λ x. eqb x 1) (bit_at_cat_high 0 k m k h (omega arith) ∙ none)

-- a number below 2 ^ (k + 1) is a bit and a number below 2 ^ k
data Split (k n : ℕ) : Type 0 where
  split : (b : Bool) (m : ℕ) → m < 2 ^ k → bit b * 2 ^ k + m ≡ n → Split k n

split_at : (k n : ℕ) → n < 2 ^ suc k → Split k n
split_at k n h =
    elim (cases_lt n (2 ^ k)) [
      | inl low ↦ split false n low (omega arith)
      | inr high ↦ split true (n - 2 ^ k) (omega (arith, pow-suc 2 k)) (omega arith)
    ]

-- the digits of a bit and a number below 2 ^ k
digits_split : (k n : ℕ) (b : Bool) (m : ℕ) → m < 2 ^ k → bit b * 2 ^ k + m ≡ n → digits (suc k) n ≡ b ∷ digits k m
unfolding digits
digits_split k n b m h e =
    let top = top_digit b k m h in
    let low = digits_low k k (bit b) m (omega arith) in
    rw (← e) (ap (λ x. x ∷ digits k (bit b * 2 ^ k + m)) top ∙ ap (λ xs. b ∷ xs) low)

-- the digits of the number are the digits
pub digits-number_of : (bs : List Bool) → digits (length bs) (number_of bs) ≡ bs
unfolding number_of
digits-number_of [] = unfold digits in refl
digits-number_of (true ∷ bs) =
    digits_split (length bs) (2 ^ length bs + number_of bs) true (number_of bs) (number_of-lt bs) (omega arith) ∙ ap (λ xs. true ∷ xs) (digits-number_of bs)
digits-number_of (false ∷ bs) =
    digits_split (length bs) (0 + number_of bs) false (number_of bs) (number_of-lt bs) (omega arith) ∙ ap (λ xs. false ∷ xs) (digits-number_of bs)

number_of_cons : (b : Bool) (bs : List Bool) → number_of (b ∷ bs) ≡ bit b * 2 ^ length bs + number_of bs
unfolding number_of
number_of_cons true bs = omega arith
number_of_cons false bs = omega arith

joined : (k n : ℕ) → Split k n → ((m : ℕ) → m < 2 ^ k → number_of (digits k m) ≡ m) → number_of (digits (suc k) n) ≡ n
joined k n (split b m h e) same =
    rw (digits_split k n b m h e, number_of_cons, length-digits, same) e

-- the number of the digits is the number
pub number_of-digits : (k n : ℕ) → n < 2 ^ k → number_of (digits k n) ≡ n
number_of-digits zero n h = unfold digits in unfold number_of in omega arith
number_of-digits (suc k) n h = joined k n (split_at k n h) (number_of-digits k)
