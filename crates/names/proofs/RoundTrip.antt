-- The letters of bytes decode as the bytes, whatever comes after them.
use Rattle.std.proofs.Common.{◌≡◌, ℕ, suc, ◌+◌, ◌*◌, ◌/◌, ◌%◌, ◌<◌, ◌==◌, List, [], ◌∷◌, ◌++◌, length, take, slice_index, refl, arith, ap, ◌∙◌}
use Rattle.std.proofs.lemmas.Bool.Decides.{Decides-eqb, nat_tests}
use Rattle.net_addr.specs.NetBits.{each_below}
use Rattle.net_addr.proofs.Bits.{AllBytes}
use Rattle.names.specs.Base32.{alphabet, letter, base32}
use Rattle.names.specs.Inside.{value_of, five_bytes, bits_of, decoded}

value_at : (k : ℕ) → k < 32 → value_of (slice_index alphabet k) ≡ k
value_at k h =
    (Decides-eqb (value_of (slice_index alphabet k)) k).0
    (each_below (λ k. value_of (slice_index alphabet k) == k) 32 refl k h)

-- a letter has the value that it was made of
pub value_letter : (n : ℕ) → value_of (letter n) ≡ n % 32
value_letter n = value_at (n % 32) (omega arith)

-- a byte has a value of five bits
pub value_small : (c : ℕ) → value_of c < 32
value_small c = grind (arith, nat_tests)

-- the number of four letters
abbrev pub half : ℕ → ℕ → ℕ → ℕ → ℕ
half s t u v = ((s * 32 + t) * 32 + u) * 32 + v

half_of : (m : ℕ) → m < 1048576 → half (m / 32768 % 32) (m / 1024 % 32) (m / 32 % 32) (m % 32) ≡ m
half_of m h = omega arith

pub half_small : (s t u v : ℕ) → s < 32 → t < 32 → u < 32 → v < 32 → half s t u v < 1048576
half_small s t u v a b c d = omega arith

-- the letters of 40 bits have these bits
bits_back : (n : ℕ) → n < 1099511627776
    → bits_of (letter (n / 34359738368)) (letter (n / 1073741824)) (letter (n / 33554432)) (letter (n / 1048576)) (letter (n / 32768)) (letter (n / 1024)) (letter (n / 32)) (letter n) ≡ n
bits_back n h =
    let high = half_of (n / 1048576) (omega arith) in
    let low = half_of (n % 1048576) (omega arith) in
    (λ i. half (value_letter (n / 34359738368) i) (value_letter (n / 1073741824) i) (value_letter (n / 33554432) i) (value_letter (n / 1048576) i) * 1048576
    + half (value_letter (n / 32768) i) (value_letter (n / 1024) i) (value_letter (n / 32) i) (value_letter n i))
    ∙ omega arith

-- the number of five bytes, the first the highest
abbrev pub forty : ℕ → ℕ → ℕ → ℕ → ℕ → ℕ
forty a b c d e = (a * 65536 + b * 256 + c) * 65536 + d * 256 + e

forty_small : (a b c d e : ℕ) → a < 256 → b < 256 → c < 256 → d < 256 → e < 256 → forty a b c d e < 1099511627776
forty_small a b c d e h k l m n = omega arith

five_back : (a b c d e : ℕ) → a < 256 → b < 256 → c < 256 → d < 256 → e < 256 → five_bytes (forty a b c d e) ≡ a ∷ b ∷ c ∷ d ∷ e ∷ []
five_back a b c d e h k l m n =
    let first : forty a b c d e / 4294967296 % 256 ≡ a = omega arith in
    let second : forty a b c d e / 16777216 % 256 ≡ b = omega arith in
    let third : forty a b c d e / 65536 % 256 ≡ c = omega arith in
    let fourth : forty a b c d e / 256 % 256 ≡ d = omega arith in
    let fifth : forty a b c d e % 256 ≡ e = omega arith in
    λ i. first i ∷ second i ∷ third i ∷ fourth i ∷ fifth i ∷ []

-- the bits of letters of which the first are those of a number, rounded down to a multiple of q
one_high : (a : ℕ) (s t : ℕ) → a < 256 → s ≡ a / 8 % 32 → t ≡ a * 4 % 32
    → (u v w x y z : ℕ) → u < 32 → v < 32 → w < 32 → x < 32 → y < 32 → z < 32
    → (half s t u v * 1048576 + half w x y z) / 4294967296 % 256 ≡ a
one_high a s t h e f u v w x y z u' v' w' x' y' z' =
    let low = half_small w x y z w' x' y' z' in
    omega arith

-- the five bytes of the letters of five bytes
pub group_back : (a b c d e : ℕ) → a < 256 → b < 256 → c < 256 → d < 256 → e < 256
    → let n = forty a b c d e in
    five_bytes (bits_of (letter (n / 34359738368)) (letter (n / 1073741824)) (letter (n / 33554432)) (letter (n / 1048576)) (letter (n / 32768)) (letter (n / 1024)) (letter (n / 32)) (letter n)) ≡ a ∷ b ∷ c ∷ d ∷ e ∷ []
group_back a b c d e h k l m n =
    ap five_bytes (bits_back (forty a b c d e) (forty_small a b c d e h k l m n)) ∙ five_back a b c d e h k l m n

-- the first two bytes of the letters of two bytes and of others
two_back : (a b w x y z : ℕ) → a < 256 → b < 256
    → let n = forty a b 0 0 0 in
    take 2 (five_bytes (bits_of (letter (n / 34359738368)) (letter (n / 1073741824)) (letter (n / 33554432)) (letter (n / 1048576)) w x y z)) ≡ a ∷ b ∷ []
two_back a b w x y z h k =
    let n = forty a b 0 0 0 in
    let low = half_small (value_of w) (value_of x) (value_of y) (value_of z) (value_small w) (value_small x) (value_small y) (value_small z) in
    let high : half (value_of (letter (n / 34359738368))) (value_of (letter (n / 1073741824))) (value_of (letter (n / 33554432))) (value_of (letter (n / 1048576))) ≡ n / 1048576 =
    (λ i. half (value_letter (n / 34359738368) i) (value_letter (n / 1073741824) i) (value_letter (n / 33554432) i) (value_letter (n / 1048576) i)) ∙ omega arith in
    let whole : bits_of (letter (n / 34359738368)) (letter (n / 1073741824)) (letter (n / 33554432)) (letter (n / 1048576)) w x y z ≡ n / 1048576 * 1048576 + half (value_of w) (value_of x) (value_of y) (value_of z) =
    ap (λ m. m * 1048576 + half (value_of w) (value_of x) (value_of y) (value_of z)) high in
    let first : (n / 1048576 * 1048576 + half (value_of w) (value_of x) (value_of y) (value_of z)) / 4294967296 % 256 ≡ a = omega (arith, low) in
    let second : (n / 1048576 * 1048576 + half (value_of w) (value_of x) (value_of y) (value_of z)) / 16777216 % 256 ≡ b = omega (arith, low) in
    ap (λ m. take 2 (five_bytes m)) whole ∙ (λ i. first i ∷ second i ∷ [])

-- Bytes of which there are a multiple of five, or two more, and then at least four letters.
pub bytes_back : (xs : List ℕ) (k p q r s : ℕ) (more : List ℕ) → k < 2 → length xs % 5 ≡ 2 * k → AllBytes xs → take (length xs) (decoded (base32 xs ++ p ∷ q ∷ r ∷ s ∷ more)) ≡ xs
unfolding base32 decoded
bytes_back [] k p q r s more few l h = refl
bytes_back (a ∷ []) k p q r s more few l h = absurd (omega (arith, l))
bytes_back (a ∷ b ∷ []) k p q r s more few l h = two_back a b p q r s (h 0) (h 1)
bytes_back (a ∷ b ∷ c ∷ []) k p q r s more few l h = absurd (omega (arith, l))
bytes_back (a ∷ b ∷ c ∷ d ∷ []) k p q r s more few l h = absurd (omega (arith, l, few))
bytes_back (a ∷ b ∷ c ∷ d ∷ e ∷ xs) k p q r s more few l h =
    let later = bytes_back xs k p q r s more few (omega (arith, l)) (λ i. h (suc (suc (suc (suc (suc i)))))) in
    let here = group_back a b c d e (h 0) (h 1) (h 2) (h 3) (h 4) in
    ap (λ five. take (suc (suc (suc (suc (suc (length xs)))))) (five ++ decoded (base32 xs ++ p ∷ q ∷ r ∷ s ∷ more))) here
    ∙ ap (λ t. a ∷ b ∷ c ∷ d ∷ e ∷ t) later
