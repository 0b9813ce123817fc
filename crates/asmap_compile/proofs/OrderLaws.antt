-- Rows that rise, and the bits that they have in common.
use Rattle.std.proofs.Common.{◌≡◌, ℕ, suc, ◌+◌, ◌-◌, ◌/◌, ◌%◌, ◌^◌, ◌<◌, ◌≤◌, Bool, true, List, [], ◌∷◌, ◌++◌, length, take, inl, inr, refl, ap, sym, ◌∙◌, subst, arith, eqb, eq-eqb}
use Rattle.std.proofs.lemmas.Bool.{eqb-true}
use Rattle.std.proofs.lemmas.List.{take_at}
use Rattle.std.proofs.lemmas.Nat.{shr-shr, pow_pos}
use Rattle.bit_code.specs.Coder.{digits, number_of}
use Rattle.bit_code.proofs.DigitLaws.{number_of-digits}
use Rattle.bit_code.specs.Prefixes.{begins_with}
use Rattle.prefix_table.specs.declared.rows.Row.{Row}
use Rattle.prefix_table.specs.Rows.{path, first_bits, Precedes}
use Rattle.asmap_compile.specs.Inside.{bits_between, bit_of}
use Rattle.asmap_compile.proofs.BetweenLaws.{between_long, between_split}
use Rattle.bit_code.proofs.PrefixLaws.{begins_cut, begins_from, begins_long}
use Rattle.prefix_table.proofs.BitLaws.{div-le-div}
use Rattle.prefix_table.proofs.PathLaws.{path_long, first_below}

pub bits_rise : (a b : Row) → Precedes a b → a.bits ≤ b.bits
bits_rise a b (inl less) = omega arith
bits_rise a b (inr both) = omega (arith, both.0)

-- the first bits of a row, as bits
abbrev pub start : ℕ → ℕ → List Bool
start len bits = bits_between bits 0 len

pub start_is : (len bits : ℕ) → start len bits ≡ digits len (first_bits len bits)
unfolding bits_between
start_is len bits = let e : len - 0 ≡ len = omega arith in ap (λ n. digits n (bits / 2 ^ (128 - len))) e

pub path_start : (row : Row) → path row ≡ start row.len row.bits
unfolding path
path_start row = sym (start_is row.len row.bits)

pub start_begins : (row : Row) (len : ℕ) → row.len ≤ 128 → len ≤ row.len → begins_with (path row) (start len row.bits) ≡ true
start_begins row len top low =
    begins_from (path row) (start len row.bits) (bits_between row.bits len row.len) (path_start row ∙ between_split row.bits 0 len row.len (omega arith) low top)

-- the first bits, as bits and as a number
pub start_same : (len a b : ℕ) → first_bits len a ≡ first_bits len b → start len a ≡ start len b
start_same len a b e = start_is len a ∙ ap (digits len) e ∙ sym (start_is len b)

pub first_same : (len a b : ℕ) → len ≤ 128 → a < 2 ^ 128 → b < 2 ^ 128 → start len a ≡ start len b → first_bits len a ≡ first_bits len b
first_same len a b top la lb e =
    sym (number_of-digits len (first_bits len a) (first_below len a top la)) ∙ ap number_of (sym (start_is len a) ∙ e ∙ start_is len b) ∙ number_of-digits len (first_bits len b) (first_below len b top lb)

-- a path that a row begins with is its first bits
pub begun_start : (row : Row) (p : List Bool) → row.len ≤ 128 → begins_with (path row) p ≡ true → p ≡ start (length p) row.bits
begun_start row p top h =
    let c = begins_cut (path row) p h in
    let low : length p ≤ row.len = omega (arith, begins_long (path row) p h, path_long row) in
    let d = begins_cut (path row) (start (length p) row.bits) (start_begins row (length p) top low) in
    sym (take_at p c.rest (length p) refl) ∙ ap (take (length p)) (sym c.is ∙ d.is) ∙ take_at (start (length p) row.bits) d.rest (length p) (between_long row.bits 0 (length p) ∙ (let e : length p - 0 ≡ length p = omega arith in e))

-- the next bit, as what is left over of one more first bit
pub next_first : (k bits : ℕ) → k < 128 → first_bits (k + 1) bits / 2 ≡ first_bits k bits
next_first k bits low =
    let one : (128 - (k + 1)) + 1 ≡ 128 - k = omega arith in
    shr-shr bits (128 - (k + 1)) 1 ∙ ap (λ j. bits / 2 ^ j) one

pub bit_first : (k bits : ℕ) → k < 128 → bit_of bits k ≡ eqb (first_bits (k + 1) bits % 2) 1
bit_first k bits low = let e : 127 - k ≡ 128 - (k + 1) = omega arith in ap (λ j. eqb (bits / 2 ^ j % 2) 1) e

-- of two numbers with the same first bits, the next bit doesn't fall
pub bit_rises : (k a b : ℕ) → k < 128 → first_bits k a ≡ first_bits k b → a ≤ b → bit_of a k ≡ true → bit_of b k ≡ true
bit_rises k a b low same le h =
    let one = eqb-true (first_bits (k + 1) a % 2) 1 (sym (bit_first k a low) ∙ h) in
    let rise = div-le-div a b (2 ^ (128 - (k + 1))) (pow_pos (128 - (k + 1))) le in
    let half_a = next_first k a low in
    let half_b = next_first k b low in
    bit_first k b low ∙ eq-eqb (first_bits (k + 1) b % 2) 1 (omega (arith, one, rise, half_a, half_b, same))

one_bit : (k bits : ℕ) → k < 128 → bits_between bits k (suc k) ≡ bit_of bits k ∷ []
unfolding bits_between digits
one_bit k bits low =
    let one : suc k - k ≡ 1 = omega arith in
    let at : (128 - suc k) + 0 ≡ 127 - k = omega arith in
    ap (λ j. digits j (bits / 2 ^ (128 - suc k))) one ∙ ap (λ x. eqb (x % 2) 1 ∷ []) (shr-shr bits (128 - suc k) 0 ∙ ap (λ j. bits / 2 ^ j) at)

-- a prefix of one more bit
pub start_next : (k bits : ℕ) → k < 128 → start (suc k) bits ≡ start k bits ++ bit_of bits k ∷ []
start_next k bits low = between_split bits 0 k (suc k) (omega arith) (omega arith) (omega arith) ∙ ap (λ xs. start k bits ++ xs) (one_bit k bits low)

-- a row that is longer than a path it begins with goes on by its next bit
pub next_bit : (row : Row) (p : List Bool) → row.len ≤ 128 → begins_with (path row) p ≡ true → length p < row.len → begins_with (path row) (p ++ bit_of row.bits (length p) ∷ []) ≡ true
next_bit row p top h long =
    subst (λ q. begins_with (path row) q ≡ true)
    (start_next (length p) row.bits (omega arith) ∙ ap (λ q. q ++ bit_of row.bits (length p) ∷ []) (sym (begun_start row p top h)))
    (start_begins row (suc (length p)) top (omega arith))
