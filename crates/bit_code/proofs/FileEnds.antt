-- The file of some bits that are kept as whole bytes and a rest.
use Rattle.std.proofs.Common.{◌≡◌, ℕ, zero, suc, ◌+◌, ◌-◌, ◌*◌, ◌/◌, ◌^◌, ◌<◌, ◌≤◌, Bool, false, List, [], ◌∷◌, ◌++◌, length, replicate, take, drop, refl, ap, sym, ◌∙◌, arith, append_assoc, append-nil, length-append}
use Rattle.std.proofs.Math.Nat.{div-eq_of_lt}
use Rattle.std.proofs.Math.Seq.{take-append_seam}
use Rattle.std.proofs.lemmas.List.{length-replicate}
use Rattle.bit_code.specs.Coder.{low_digits, file_bits}
use Rattle.bit_code.specs.Files.{IsFileOf}
use Rattle.bit_code.proofs.LowDigits.{length-low_digits, low_digits_split}
use Rattle.bit_code.proofs.FileBits.{file_bits-append, length-file_bits}
use Rattle.bit_code.proofs.Bytes.{file_bits_one, no_digits}

low_digits_one_zero : low_digits 1 0 ≡ false ∷ []
unfolding low_digits
low_digits_one_zero = refl

low_digits_zero : (k : ℕ) → low_digits k 0 ≡ replicate k false
low_digits_zero zero = unfold low_digits in refl
low_digits_zero (suc k) =
    let e : suc k ≡ 1 + k = omega arith in
    ap (λ j. low_digits j 0) e ∙ low_digits_split 1 k 0 ∙ ap (λ xs. xs ++ low_digits k 0) low_digits_one_zero ∙ ap (λ xs. false ∷ xs) (low_digits_zero k)

padded_file : (bits : List Bool) (bytes : List ℕ) (k : ℕ) → k ≤ 7 → file_bits bytes ≡ bits ++ replicate k false → IsFileOf bits bytes
padded_file bits bytes k h e =
    let size : length (file_bits bytes) ≡ length bits + k = ap length e ∙ length-append bits (replicate k false) ∙ ap (λ n. length bits + n) (length-replicate k false) in
    let left : length (file_bits bytes) - length bits ≡ k = omega arith in
    record { spelled = rw left e; padded = omega arith }

-- the rest, which some zero-bits make a byte
pub closed_file : (bits : List Bool) (bytes : List ℕ) (r rest : ℕ) → 0 < r → r < 8 → rest < 2 ^ r → file_bits bytes ++ low_digits r rest ≡ bits → IsFileOf bits (bytes ++ rest ∷ [])
closed_file bits bytes r rest some few within e =
    let sum : 8 ≡ r + (8 - r) = omega arith in
    let none : rest / 2 ^ r ≡ 0 = div-eq_of_lt within in
    let byte : low_digits 8 rest ≡ low_digits r rest ++ replicate (8 - r) false = ap (λ j. low_digits j rest) sum ∙ low_digits_split r (8 - r) rest ∙ ap (λ n. low_digits r rest ++ low_digits (8 - r) n) none ∙ ap (λ xs. low_digits r rest ++ xs) (low_digits_zero (8 - r)) in
    let whole : file_bits (bytes ++ rest ∷ []) ≡ bits ++ replicate (8 - r) false =
    file_bits-append bytes (rest ∷ [])
    ∙ ap (λ xs. file_bits bytes ++ xs) (file_bits_one rest ∙ byte)
    ∙ sym (append_assoc (file_bits bytes) (low_digits r rest) (replicate (8 - r) false))
    ∙ ap (λ xs. xs ++ replicate (8 - r) false) e in
    padded_file bits (bytes ++ rest ∷ []) (8 - r) (omega arith) whole

-- whole bytes with no rest
pub whole_file : (bits : List Bool) (bytes : List ℕ) (r rest : ℕ) → r ≡ 0 → file_bits bytes ++ low_digits r rest ≡ bits → IsFileOf bits bytes
whole_file bits bytes r rest none e =
    let bare : file_bits bytes ≡ bits = sym (no_digits (file_bits bytes) rest) ∙ (rw none at e) in
    padded_file bits bytes 0 (omega arith) (bare ∙ sym (append-nil bits))

pub length-rest : (bytes : List ℕ) (r rest : ℕ) → length (file_bits bytes ++ low_digits r rest) ≡ length bytes * 8 + r
length-rest bytes r rest = omega (arith, length-append (file_bits bytes) (low_digits r rest), length-file_bits bytes, length-low_digits r rest)

pub length-front : (bytes : List ℕ) (r rest : ℕ) → length (low_digits r rest ++ file_bits bytes) ≡ length bytes * 8 + r
length-front bytes r rest = omega (arith, length-append (low_digits r rest) (file_bits bytes), length-file_bits bytes, length-low_digits r rest)

-- a whole list that was written over
pub written_over : (n : ℕ) (xs ys : List ℕ) → length xs ≡ n → length ys ≡ n → take n (xs ++ drop (length xs) ys) ≡ xs
written_over n xs ys e h = rw (← e) (take-append_seam xs (drop (length xs) ys))
