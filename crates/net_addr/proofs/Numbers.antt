-- Decimal numbers, digit by digit.
use Rattle.std.proofs.Common.{◌≡◌, ◌≢◌, ℕ, ◌+◌, ◌-◌, ◌*◌, ◌<◌, ◌≤◌, ◌^◌, All, List, length, get_or, take, decimal, sym, ap, ◌∙◌, subst, arith, inl, inr}
use Rattle.std.proofs.lemmas.Bool.{cases_lt}
use Rattle.std.proofs.lemmas.Fmt.{decimal_is_IsNumeral, decimal_digit, first_decimal, decimal-digits_value}
use Rattle.std.proofs.lemmas.Int.Digits.{digits_value_more, digits_more}
use Rattle.std.proofs.lemmas.Str.{digit_value_digit}
use Rattle.std.proofs.lemmas.Str.Parse.{IsNumeralModel, numerals_by_value, tells_digits, digit_at, digits_value-take-le}
use Rattle.std.proofs.lemmas.List.{take_all}
use Rattle.std.proofs.lemmas.List.Elements.{All-from_get_or}
use Rattle.std.specs.Char.{digit_value}
use Rattle.std.specs.Int.{IsInRange}
use Rattle.std.specs.Str.Parse.{IsNumeral, AllDigits, digits_value}

own : IsNumeralModel (AllDigits 10) (digits_value 10)
own = numerals_by_value (AllDigits 10) tells_digits

-- the first i bytes are digits that write the value
pub record Reads (text : List ℕ) (i value : ℕ) : Type 0 where
  pub digits : AllDigits 10 (take i text)
  pub number : value ≡ digits_value 10 (take i text)

pub Reads-more : (text : List ℕ) (i value next : ℕ) → i < length text → Reads text i value → IsInRange 48 57 (get_or text i 0) → next ≡ value * 10 + (get_or text i 0 - 48) → Reads text (i + 1) next
Reads-more text i value next lt so_far digit e =
    let worth = digit_value_digit (get_or text i 0) digit in
    let below : digit_value (get_or text i 0) < 10 = omega arith in
    record {
      digits = digits_more 10 text i lt so_far.digits below;
      number = omega (arith, digits_value_more 10 text i lt, so_far.number);
    }

-- a numeral of n
numeral : (text : List ℕ) (n : ℕ) → text ≡ decimal n → n < 2 ^ 64 → IsNumeral 10 text × (digits_value 10 text ≡ n)
numeral text n e h = rw e (decimal_is_IsNumeral n h)

-- digits with no leading zero are what is written of their number
pub decimal-read : (text : List ℕ) (value : ℕ) → Reads text (length text) value → 0 < length text → (get_or text 0 0 ≡ 48 → length text ≡ 1) → value < 2 ^ 64 → text ≡ decimal value
decimal-read text value h some plain small =
    let whole = take_all (length text) text (omega arith) in
    let digits = subst (AllDigits 10) whole h.digits in
    let number = h.number ∙ ap (digits_value 10) whole in
    sym (decimal-digits_value own text digits some plain (omega (arith, number))) ∙ ap decimal (sym number)

-- no number is written with a leading zero
pub decimal-no_zero_first : (text : List ℕ) (n : ℕ) → text ≡ decimal n → n < 2 ^ 64 → get_or text 0 0 ≡ 48 → length text ≡ 1
decimal-no_zero_first text n e h zero_first =
    elim (cases_lt 0 n) [
      | inl some ↦ absurd (omega (arith, first_decimal n some h, ap (λ ds. get_or ds 0 0) e))
      | inr none ↦
          let zero_itself : n ≡ 0 = omega arith in
          ap length (e ∙ ap decimal zero_itself ∙ decimal_digit 0 (omega arith))
    ]

-- at each index of a numeral there is a digit, and no prefix is larger
pub decimal-next : (text : List ℕ) (n i value : ℕ) → text ≡ decimal n → n < 2 ^ 64 → i < length text → Reads text i value → IsInRange 48 57 (get_or text i 0) × (value * 10 + (get_or text i 0 - 48) ≤ n)
decimal-next text n i value e h lt so_far =
    let known = numeral text n e h in
    let digit = digit_at text i known.0.1 lt in
    let worth = digit_value_digit (get_or text i 0) digit in
    (digit, omega (arith, digits_value_more 10 text i lt, so_far.number, digits_value-take-le 10 text (i + 1) (omega arith), known.1))

-- what is read of a number is the number
pub decimal-all : (text : List ℕ) (n value : ℕ) → text ≡ decimal n → n < 2 ^ 64 → Reads text (length text) value → value ≡ n
decimal-all text n value e h so_far =
    so_far.number ∙ ap (digits_value 10) (take_all (length text) text (omega arith)) ∙ (numeral text n e h).1

-- a number has a digit
pub decimal-some : (text : List ℕ) (n : ℕ) → text ≡ decimal n → n < 2 ^ 64 → 0 < length text
decimal-some text n e h = (numeral text n e h).0.0

-- no digit is a colon
pub decimal-no_colon : (n : ℕ) → n < 2 ^ 64 → All (λ c. c ≢ 58) (decimal n)
decimal-no_colon n h =
    All-from_get_or (λ c. c ≢ 58) (decimal n) 0 λ i lt.
    let digit = digit_at (decimal n) i (decimal_is_IsNumeral n h).0.1 lt in
    omega arith
