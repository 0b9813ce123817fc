-- The bits of a file by their offsets, and of some bytes as a number.
use Rattle.std.proofs.Common.{◌≡◌, ℕ, zero, suc, ◌+◌, ◌-◌, ◌*◌, ◌/◌, ◌%◌, ◌^◌, ◌<◌, Bool, true, List, [], ◌∷◌, ◌++◌, length, get_or, drop, Some, refl, ap, sym, ◌∙◌, arith, length-append, append_assoc, add-one, drop-cons}
use Rattle.std.specs.List.{slice_get}
use Rattle.std.proofs.Math.ListN.{get_or-append, drop_of_length-le}
use Rattle.std.proofs.Math.Seq.{drop-append-add}
use Rattle.std.proofs.lemmas.List.{get_or-append_right}
use Rattle.std.proofs.lemmas.Option.{slice_get-get_or, get_or_from_slice_get}
use Rattle.bit_code.specs.Coder.{has_bit, low_digits, file_bits}
use Rattle.bit_code.specs.Inside.{AreBytes}
use Rattle.bit_code.proofs.LowDigits.{length-low_digits, get_or-low_digits, low_digits_cat}

pub file_bits_none : file_bits [] ≡ []
unfolding file_bits
file_bits_none = refl

pub file_bits_cons : (b : ℕ) (bytes : List ℕ) → file_bits (b ∷ bytes) ≡ low_digits 8 b ++ file_bits bytes
unfolding file_bits
file_bits_cons b bytes = refl

pub file_bits-append : (xs ys : List ℕ) → file_bits (xs ++ ys) ≡ file_bits xs ++ file_bits ys
file_bits-append [] ys = rw file_bits_none refl
file_bits-append (x ∷ xs) ys = rw (file_bits_cons, file_bits_cons, file_bits-append xs ys) (sym (append_assoc (low_digits 8 x) (file_bits xs) (file_bits ys)))

pub length-file_bits : (bytes : List ℕ) → length (file_bits bytes) ≡ length bytes * 8
unfolding file_bits
length-file_bits [] = refl
length-file_bits (b ∷ bytes) =
    omega (arith, length-append (low_digits 8 b) (file_bits bytes), length-low_digits 8 b, length-file_bits bytes)

-- bit r of byte q is at offset 8 q + r
pub get_or-file_bits : (bytes : List ℕ) (q r : ℕ) (d : Bool) → q < length bytes → r < 8 → get_or (file_bits bytes) (8 * q + r) d ≡ has_bit (get_or bytes q 0) r
unfolding file_bits
get_or-file_bits [] q r d hq hr = absurd (omega arith)
get_or-file_bits (b ∷ bytes) zero r d hq hr =
    let e : 8 * 0 + r ≡ r = omega arith in
    rw e (get_or-append (low_digits 8 b) (file_bits bytes) d r (omega (arith, length-low_digits 8 b)) ∙ get_or-low_digits 8 b r d hr)
get_or-file_bits (b ∷ bytes) (suc q) r d hq hr =
    let e : 8 * suc q + r - 8 ≡ 8 * q + r = omega arith in
    get_or-append_right (low_digits 8 b) (file_bits bytes) 8 (8 * suc q + r) d (length-low_digits 8 b) (omega arith) ∙ (rw e (get_or-file_bits bytes q r d (omega arith) hr))

-- the bit at an offset is a bit of the byte there
pub slice_get-file_bits : (bytes : List ℕ) (at : ℕ) → at < length bytes * 8 → slice_get (file_bits bytes) at ≡ Some (has_bit (get_or bytes (at / 8) 0) (at % 8))
slice_get-file_bits bytes at h =
    let e : 8 * (at / 8) + at % 8 ≡ at = omega arith in
    slice_get-get_or (file_bits bytes) at true (omega (arith, length-file_bits bytes))
    ∙ ap Some (rw e at (get_or-file_bits bytes (at / 8) (at % 8) true (omega arith) (omega arith)))

-- and the bits from there on begin with it
pub drop-file_bits_at : (bytes : List ℕ) (at : ℕ) → at < length bytes * 8 → drop at (file_bits bytes) ≡ has_bit (get_or bytes (at / 8) 0) (at % 8) ∷ drop (at + 1) (file_bits bytes)
drop-file_bits_at bytes at h =
    let here : get_or (file_bits bytes) at true ≡ has_bit (get_or bytes (at / 8) 0) (at % 8) = get_or_from_slice_get (file_bits bytes) at (has_bit (get_or bytes (at / 8) 0) (at % 8)) true (slice_get-file_bits bytes at h) in
    rw (add-one, drop-cons (file_bits bytes) at true (omega (arith, length-file_bits bytes)), here) refl

-- the bits after whole bytes are those of the bytes after them
pub drop-file_bits : (q : ℕ) (bytes : List ℕ) → drop (8 * q) (file_bits bytes) ≡ file_bits (drop q bytes)
drop-file_bits zero bytes = refl
drop-file_bits (suc q) [] = rw file_bits_none (drop_of_length-le [] (omega arith))
drop-file_bits (suc q) (b ∷ bytes) =
    let e : 8 * suc q ≡ length (low_digits 8 b) + 8 * q = omega (arith, length-low_digits 8 b) in
    rw (e, file_bits_cons) (drop-append-add (low_digits 8 b) (file_bits bytes) (8 * q) ∙ drop-file_bits q bytes)

-- bytes as a number, the first the lowest
abbrev pub worth : List ℕ → ℕ
worth [] = 0
worth (b ∷ bytes) = worth bytes * 2 ^ 8 + b

-- the bits of some bytes are the digits of the bytes as a number
pub low_digits-worth : (bytes : List ℕ) (n : ℕ) → n ≡ 8 * length bytes → AreBytes bytes → low_digits n (worth bytes) ≡ file_bits bytes
low_digits-worth [] n e h = rw (e, file_bits_none) (unfold low_digits in refl)
low_digits-worth (b ∷ bytes) n e h =
    let more : n ≡ 8 + (n - 8) = omega arith in
    let rest = low_digits-worth bytes (n - 8) (omega arith) (λ i. h (suc i)) in
    let low : b < 2 ^ 8 = omega (arith, h 0) in
    rw more (low_digits_cat 8 (n - 8) (worth bytes) b low ∙ (rw (rest, file_bits_cons) refl))
