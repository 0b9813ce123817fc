-- The digits of a number in the other order.
use Rattle.std.proofs.Common.{◌≡◌, ℕ, ◌+◌, ◌-◌, ◌*◌, ◌/◌, ◌%◌, ◌^◌, ◌<◌, ◌≤◌, Bool, true, false, List, [], ◌∷◌, ◌++◌, length, get_or, map, refl, ap, sym, ◌∙◌, arith, length-append}
use Rattle.std.specs.List.{range_with_len}
use Rattle.std.proofs.lemmas.List.FromFn.{get_or-map-range_with_len}
use Rattle.std.proofs.lemmas.Nat.{shr_high, pow-add}
use Rattle.bit_code.specs.declared.reversal.TheConstants.{REVERSED}
use Rattle.bit_code.specs.Coder.{low_digits, number_of}
use Rattle.bit_code.proofs.LowDigits.{length-low_digits, low_digits_split, low_digits_low}
use Rattle.bit_code.proofs.DigitLaws.{number_of-lt}

table : map (λ b. number_of (low_digits 8 b)) (range_with_len 0 256) ≡ REVERSED
unfolding low_digits number_of
table = refl

pub reversed_byte : (b : ℕ) → b < 256 → get_or REVERSED b 0 ≡ number_of (low_digits 8 b)
reversed_byte b h =
    ap (λ xs. get_or xs b 0) (sym table) ∙ get_or-map-range_with_len (λ k. number_of (low_digits 8 k)) 0 256 b b 0 h (omega arith)

pub number_of-append : (xs ys : List Bool) → number_of (xs ++ ys) ≡ number_of xs * 2 ^ length ys + number_of ys
unfolding number_of
number_of-append [] ys = omega arith
number_of-append (true ∷ xs) ys =
    let e : 2 ^ length (xs ++ ys) ≡ 2 ^ length xs * 2 ^ length ys = rw length-append (pow-add 2 (length xs) (length ys)) in
    omega (arith, number_of-append xs ys, e)
number_of-append (false ∷ xs) ys = omega (arith, number_of-append xs ys)

-- the digits of a byte of a number
low_byte : (m : ℕ) → low_digits 8 (m % 256) ≡ low_digits 8 m
low_byte m =
    let e : m / 256 * 2 ^ 8 + m % 256 ≡ m = omega arith in
    sym (low_digits_low 8 8 (m / 256) (m % 256) (omega arith)) ∙ ap (low_digits 8) e

next_byte : (k n : ℕ) → low_digits (8 + k) n ≡ low_digits 8 (n % 256) ++ low_digits k (n / 256)
next_byte k n = low_digits_split 8 k n ∙ ap (λ xs. xs ++ low_digits k (n / 256)) (sym (low_byte n))

number_next : (k n : ℕ) → number_of (low_digits (8 + k) n) ≡ number_of (low_digits 8 (n % 256)) * 2 ^ k + number_of (low_digits k (n / 256))
number_next k n =
    ap number_of (next_byte k n)
    ∙ number_of-append (low_digits 8 (n % 256)) (low_digits k (n / 256))
    ∙ ap (λ j. number_of (low_digits 8 (n % 256)) * 2 ^ j + number_of (low_digits k (n / 256))) (length-low_digits k (n / 256))

-- the reversed bytes, the first the highest
pub reversed_word : (n : ℕ) → number_of (low_digits 32 n) ≡ number_of (low_digits 8 (n % 256)) * 16777216 + number_of (low_digits 8 (n / 256 % 256)) * 65536 + number_of (low_digits 8 (n / 65536 % 256)) * 256 + number_of (low_digits 8 (n / 16777216 % 256))
reversed_word n =
    let second : n / 256 / 256 ≡ n / 65536 = omega arith in
    let third : n / 65536 / 256 ≡ n / 16777216 = omega arith in
    let a : number_of (low_digits 32 n) ≡ number_of (low_digits 8 (n % 256)) * 16777216 + number_of (low_digits 24 (n / 256)) = number_next 24 n in
    let b : number_of (low_digits 24 (n / 256)) ≡ number_of (low_digits 8 (n / 256 % 256)) * 65536 + number_of (low_digits 16 (n / 65536)) = rw second at (number_next 16 (n / 256)) in
    let c : number_of (low_digits 16 (n / 65536)) ≡ number_of (low_digits 8 (n / 65536 % 256)) * 256 + number_of (low_digits 8 (n / 16777216)) = rw third at (number_next 8 (n / 65536)) in
    let d : number_of (low_digits 8 (n / 16777216 % 256)) ≡ number_of (low_digits 8 (n / 16777216)) = ap number_of (low_byte (n / 16777216)) in
    omega (arith, a, b, c, d)

-- the first digits are the highest ones
pub front_of_word : (n len : ℕ) → len ≤ 32 → number_of (low_digits 32 n) / 2 ^ (32 - len) ≡ number_of (low_digits len n)
front_of_word n len h =
    let k = 32 - len in
    let e : 32 ≡ len + k = omega arith in
    let low = number_of-lt (low_digits k (n / 2 ^ len)) in
    let below : number_of (low_digits k (n / 2 ^ len)) < 2 ^ k = rw length-low_digits at low in
    let split : low_digits 32 n ≡ low_digits len n ++ low_digits k (n / 2 ^ len) = ap (λ j. low_digits j n) e ∙ low_digits_split len k n in
    let sum : number_of (low_digits 32 n) ≡ number_of (low_digits len n) * 2 ^ k + number_of (low_digits k (n / 2 ^ len)) = ap number_of split ∙ number_of-append (low_digits len n) (low_digits k (n / 2 ^ len)) ∙ ap (λ j. number_of (low_digits len n) * 2 ^ j + number_of (low_digits k (n / 2 ^ len))) (length-low_digits k (n / 2 ^ len)) in
    rw sum (shr_high (number_of (low_digits len n)) k (number_of (low_digits k (n / 2 ^ len))) below)
