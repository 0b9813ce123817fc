-- The bits of an address from some offset on.
use Rattle.std.proofs.Common.{◌≡◌, ℕ, ◌+◌, ◌-◌, ◌*◌, ◌/◌, ◌%◌, ◌^◌, ◌≤◌, Bool, true, false, List, [], ◌∷◌, ◌++◌, length, take, drop, refl, ap, sym, ◌∙◌, arith, eqb, eq-eqb, bit_and}
use Rattle.std.proofs.Math.Seq.{take-append_seam, drop-append_seam}
use Rattle.std.proofs.lemmas.Nat.{shr_split, pow_pos, one_shl, and_mask}
use Rattle.std.proofs.Math.Pow.{mod-mod-pow}
use Rattle.std.proofs.lemmas.Bool.{eqb-true}
use Rattle.bit_code.specs.Coder.{digits, number_of}
use Rattle.bit_code.proofs.DigitLaws.{length-digits, digits_above, digits_low, number_of-digits}
use Rattle.bit_code.specs.Prefixes.{begins_with}
use Rattle.bit_code.proofs.PrefixLaws.{same_tests}

-- the low digits of a number are those of its low part
pub digits_mod : (k n : ℕ) → digits k n ≡ digits k (n % 2 ^ k)
digits_mod k n = ap (digits k) (sym (shr_split n k)) ∙ digits_low k k (n / 2 ^ k) (n % 2 ^ k) (omega arith)

pub number_of-mod : (k n : ℕ) → number_of (digits k n) ≡ n % 2 ^ k
number_of-mod k n = ap number_of (digits_mod k n) ∙ number_of-digits k (n % 2 ^ k) (omega (arith, pow_pos k))

begins_with_start : (xs ys : List Bool) → begins_with (xs ++ ys) xs ≡ true
unfolding begins_with
begins_with_start [] ys = refl
begins_with_start (true ∷ xs) ys = begins_with_start xs ys
begins_with_start (false ∷ xs) ys = begins_with_start xs ys

start_begins : (bits wanted : List Bool) → begins_with bits wanted ≡ true → take (length wanted) bits ≡ wanted
unfolding begins_with
start_begins bits [] h = refl
start_begins [] (w ∷ wanted) h = cc
start_begins (true ∷ bits) (true ∷ wanted) h = ap (λ xs. true ∷ xs) (start_begins bits wanted h)
start_begins (false ∷ bits) (false ∷ wanted) h = ap (λ xs. false ∷ xs) (start_begins bits wanted h)
start_begins (true ∷ bits) (false ∷ wanted) h = cc
start_begins (false ∷ bits) (true ∷ wanted) h = cc

there : (size left a n : ℕ) → eqb (a / 2 ^ left % 2 ^ size) (n % 2 ^ size) ≡ true → begins_with (digits size (a / 2 ^ left) ++ digits left a) (digits size n) ≡ true
there size left a n h =
    let same = eqb-true (a / 2 ^ left % 2 ^ size) (n % 2 ^ size) h in
    let e : digits size n ≡ digits size (a / 2 ^ left) = digits_mod size n ∙ ap (digits size) (sym same) ∙ sym (digits_mod size (a / 2 ^ left)) in
    rw e (begins_with_start (digits size (a / 2 ^ left)) (digits left a))

back : (size left a n : ℕ) → begins_with (digits size (a / 2 ^ left) ++ digits left a) (digits size n) ≡ true → eqb (a / 2 ^ left % 2 ^ size) (n % 2 ^ size) ≡ true
back size left a n h =
    let front = start_begins (digits size (a / 2 ^ left) ++ digits left a) (digits size n) h in
    let size_is : length (digits size n) ≡ length (digits size (a / 2 ^ left)) = length-digits size n ∙ sym (length-digits size (a / 2 ^ left)) in
    let e : digits size (a / 2 ^ left) ≡ digits size n = sym (take-append_seam (digits size (a / 2 ^ left)) (digits left a)) ∙ (rw size_is at front) in
    eq-eqb (a / 2 ^ left % 2 ^ size) (n % 2 ^ size) (sym (number_of-mod size (a / 2 ^ left)) ∙ ap number_of e ∙ number_of-mod size n)

-- the address bits begin with those of a number if the two agree in as many low digits
pub begins_with_digits : (size left a n : ℕ) → eqb (a / 2 ^ left % 2 ^ size) (n % 2 ^ size) ≡ begins_with (digits (left + size) a) (digits size n)
begins_with_digits size left a n =
    let e : left + size ≡ size + left = omega arith in
    rw (e, digits_above)
    (same_tests (eqb (a / 2 ^ left % 2 ^ size) (n % 2 ^ size)) (begins_with (digits size (a / 2 ^ left) ++ digits left a) (digits size n)) (there size left a n) (back size left a n))

-- the digits after the top ones
pub digits_past : (size left a : ℕ) → size ≤ left → drop size (digits left a) ≡ digits (left - size) a
digits_past size left a h =
    let e : left ≡ size + (left - size) = omega arith in
    let whole : digits left a ≡ digits size (a / 2 ^ (left - size)) ++ digits (left - size) a = ap (λ n. digits n a) e ∙ digits_above size (left - size) a in
    let seam = drop-append_seam (digits size (a / 2 ^ (left - size))) (digits (left - size) a) in
    rw whole (rw length-digits at seam)

-- the test of the code
pub is_matched_by : (size left a n : ℕ) → size ≤ 8 → eqb (bit_and (a / 2 ^ left % 256) (1 * 2 ^ size % 2 ^ 32 - 1)) (bit_and n (1 * 2 ^ size % 2 ^ 32 - 1)) ≡ begins_with (digits (left + size) a) (digits size n)
is_matched_by size left a n small =
    let sum : 8 ≡ 8 - size + size = omega arith in
    let low : a / 2 ^ left % 256 % 2 ^ size ≡ a / 2 ^ left % 2 ^ size = ap (λ k. a / 2 ^ left % 2 ^ k % 2 ^ size) sum ∙ mod-mod-pow (a / 2 ^ left) (8 - size) size in
    rw (one_shl size 32 (omega arith), and_mask, and_mask, low) (begins_with_digits size left a n)
