-- Sixteen bytes as a number of 128 bits, and as eight groups.
use Rattle.std.proofs.Common.{◌≡◌, ℕ, zero, suc, ◌+◌, ◌*◌, ◌/◌, ◌%◌, ◌^◌, ◌<◌, List, [], ◌∷◌, ◌++◌, length, get_or, refl, sym, ap, ◌∙◌, arith}
use Rattle.std.proofs.Math.Nat.{mod-lt}
use native.Mathlib.Nat.{div-div-eq-div-mul}
use Rattle.std.proofs.lemmas.Nat.{div-add-mod', div-mul-add, mod-mul-add, be_bytes_8, from_be_bytes-to_be_bytes_8}
use Rattle.std.proofs.NetLemmas.Arrays.{sixteen_items}
use Rattle.std.specs.Int.{w64, w128, byte_at, bytes_high_first, to_be_bytes, from_be_bytes}
use Rattle.std.specs.Net.Addr.{segments_of, octets_of}
use Rattle.net_addr.proofs.Bits.{AllBytes}

-- a byte of the high half, and one of the low half
high_byte : (n q : ℕ) → n / (18446744073709551616 * q) % 256 ≡ n / 18446744073709551616 / q % 256
high_byte n q = ap (λ m. m % 256) (sym (div-div-eq-div-mul n 18446744073709551616 q))

low_byte : (h l q m : ℕ) → 0 < q → (h * (256 * m) * q + l) / q % 256 ≡ l / q % 256
low_byte h l q m pos =
    let rest = l / q in
    let parts : h * (256 * m) * q + l ≡ (h * (256 * m) + rest) * q + l % q = omega (arith, div-add-mod' l q) in
    let whole : (h * (256 * m) * q + l) / q ≡ h * (256 * m) + rest = ap (λ x. x / q) parts ∙ div-mul-add (h * (256 * m) + rest) q (l % q) (mod-lt l pos) in
    ap (λ x. x % 256) whole ∙ omega arith

halves : (n : ℕ) → n ≡ n / 18446744073709551616 * 18446744073709551616 + n % 18446744073709551616
halves n = omega arith

low : (n q m : ℕ) → 0 < q → 256 * m * q ≡ 18446744073709551616 → n / q % 256 ≡ n % 18446744073709551616 / q % 256
low n q m pos e =
    let h = n / 18446744073709551616 in
    let parts : n ≡ h * (256 * m) * q + n % 18446744073709551616 = halves n ∙ ap (λ t. h * t + n % 18446744073709551616) (sym e) ∙ omega arith in
    ap (λ t. t / q % 256) parts ∙ low_byte h (n % 18446744073709551616) q m pos

last : (n : ℕ) → n % 256 ≡ n % 18446744073709551616 % 256
last n = omega arith

-- the bytes of a number are those of its halves
pub to_be_bytes-halves : (n : ℕ) → to_be_bytes w128 n ≡ to_be_bytes w64 (n / 18446744073709551616) ++ to_be_bytes w64 (n % 18446744073709551616)
to_be_bytes-halves n = λ i. high_byte n 72057594037927936 i ∷ high_byte n 281474976710656 i ∷ high_byte n 1099511627776 i ∷ high_byte n 4294967296 i ∷ high_byte n 16777216 i ∷ high_byte n 65536 i ∷ high_byte n 256 i ∷ (n / 18446744073709551616 % 256) ∷ low n 72057594037927936 1 (omega arith) refl i ∷ low n 281474976710656 256 (omega arith) refl i ∷ low n 1099511627776 65536 (omega arith) refl i ∷ low n 4294967296 16777216 (omega arith) refl i ∷ low n 16777216 4294967296 (omega arith) refl i ∷ low n 65536 1099511627776 (omega arith) refl i ∷ low n 256 281474976710656 (omega arith) refl i ∷ last n i ∷ []

-- and a number is that of its bytes' halves
from_halves : (a b c d e f g h i j k l m n o p : ℕ) → from_be_bytes w128 (a ∷ b ∷ c ∷ d ∷ e ∷ f ∷ g ∷ h ∷ i ∷ j ∷ k ∷ l ∷ m ∷ n ∷ o ∷ p ∷ []) ≡ from_be_bytes w64 (a ∷ b ∷ c ∷ d ∷ e ∷ f ∷ g ∷ h ∷ []) * 18446744073709551616 + from_be_bytes w64 (i ∷ j ∷ k ∷ l ∷ m ∷ n ∷ o ∷ p ∷ [])
from_halves a b c d e f g h i j k l m n o p = omega arith

below_64 : (a b c d e f g h : ℕ) → a < 256 → b < 256 → c < 256 → d < 256 → e < 256 → f < 256 → g < 256 → h < 256 → from_be_bytes w64 (a ∷ b ∷ c ∷ d ∷ e ∷ f ∷ g ∷ h ∷ []) < 18446744073709551616
below_64 a b c d e f g h a' b' c' d' e' f' g' h' = omega arith

-- sixteen bytes are those of their number
bytes_of_number : (a b c d e f g h i j k l m n o p : ℕ) → AllBytes (a ∷ b ∷ c ∷ d ∷ e ∷ f ∷ g ∷ h ∷ []) → AllBytes (i ∷ j ∷ k ∷ l ∷ m ∷ n ∷ o ∷ p ∷ []) → to_be_bytes w128 (from_be_bytes w128 (a ∷ b ∷ c ∷ d ∷ e ∷ f ∷ g ∷ h ∷ i ∷ j ∷ k ∷ l ∷ m ∷ n ∷ o ∷ p ∷ [])) ≡ a ∷ b ∷ c ∷ d ∷ e ∷ f ∷ g ∷ h ∷ i ∷ j ∷ k ∷ l ∷ m ∷ n ∷ o ∷ p ∷ []
bytes_of_number a b c d e f g h i j k l m n o p hs ls =
    let xs = a ∷ b ∷ c ∷ d ∷ e ∷ f ∷ g ∷ h ∷ [] in
    let ys = i ∷ j ∷ k ∷ l ∷ m ∷ n ∷ o ∷ p ∷ [] in
    let high = from_be_bytes w64 xs in
    let low = from_be_bytes w64 ys in
    let small : low < 18446744073709551616 = below_64 i j k l m n o p (ls 0) (ls 1) (ls 2) (ls 3) (ls 4) (ls 5) (ls 6) (ls 7) in
    let whole = from_halves a b c d e f g h i j k l m n o p in
    ap (to_be_bytes w128) whole ∙ to_be_bytes-halves (high * 18446744073709551616 + low) ∙ (λ i. to_be_bytes w64 (div-mul-add high 18446744073709551616 low small i) ++ to_be_bytes w64 (mod-mul-add high 18446744073709551616 low small i)) ∙ (λ i. be_bytes_8 xs high refl hs refl i ++ be_bytes_8 ys low refl ls refl i)

eight_below : (a b c d e f g h : ℕ) → a < 256 → b < 256 → c < 256 → d < 256 → e < 256 → f < 256 → g < 256 → h < 256 → AllBytes (a ∷ b ∷ c ∷ d ∷ e ∷ f ∷ g ∷ h ∷ [])
eight_below a b c d e f g h a' b' c' d' e' f' g' h' zero = a'
eight_below a b c d e f g h a' b' c' d' e' f' g' h' (suc zero) = b'
eight_below a b c d e f g h a' b' c' d' e' f' g' h' (suc (suc zero)) = c'
eight_below a b c d e f g h a' b' c' d' e' f' g' h' (suc (suc (suc zero))) = d'
eight_below a b c d e f g h a' b' c' d' e' f' g' h' (suc (suc (suc (suc zero)))) = e'
eight_below a b c d e f g h a' b' c' d' e' f' g' h' (suc (suc (suc (suc (suc zero))))) = f'
eight_below a b c d e f g h a' b' c' d' e' f' g' h' (suc (suc (suc (suc (suc (suc zero)))))) = g'
eight_below a b c d e f g h a' b' c' d' e' f' g' h' (suc (suc (suc (suc (suc (suc (suc zero))))))) = h'
eight_below a b c d e f g h a' b' c' d' e' f' g' h' (suc (suc (suc (suc (suc (suc (suc (suc i)))))))) = omega arith

pub to_be_bytes-from_be_bytes_16 : (xs : List ℕ) → length xs ≡ 16 → AllBytes xs → to_be_bytes w128 (from_be_bytes w128 xs) ≡ xs
to_be_bytes-from_be_bytes_16 xs l h =
    let items = sixteen_items xs l in
    ap (λ ys. to_be_bytes w128 (from_be_bytes w128 ys)) items ∙ bytes_of_number (get_or xs 0 0) (get_or xs 1 0) (get_or xs 2 0) (get_or xs 3 0) (get_or xs 4 0) (get_or xs 5 0) (get_or xs 6 0) (get_or xs 7 0) (get_or xs 8 0) (get_or xs 9 0) (get_or xs 10 0) (get_or xs 11 0) (get_or xs 12 0) (get_or xs 13 0) (get_or xs 14 0) (get_or xs 15 0) (eight_below (get_or xs 0 0) (get_or xs 1 0) (get_or xs 2 0) (get_or xs 3 0) (get_or xs 4 0) (get_or xs 5 0) (get_or xs 6 0) (get_or xs 7 0) (h 0) (h 1) (h 2) (h 3) (h 4) (h 5) (h 6) (h 7)) (eight_below (get_or xs 8 0) (get_or xs 9 0) (get_or xs 10 0) (get_or xs 11 0) (get_or xs 12 0) (get_or xs 13 0) (get_or xs 14 0) (get_or xs 15 0) (h 8) (h 9) (h 10) (h 11) (h 12) (h 13) (h 14) (h 15)) ∙ sym items

-- a number is that of its bytes
pub from_be_bytes-to_be_bytes_16 : (n : ℕ) → n < 2 ^ 128 → from_be_bytes w128 (to_be_bytes w128 n) ≡ n
from_be_bytes-to_be_bytes_16 n h =
    let high = n / 18446744073709551616 in
    let low = n % 18446744073709551616 in
    let at_high = from_be_bytes-to_be_bytes_8 high (omega arith) in
    let at_low = from_be_bytes-to_be_bytes_8 low (omega arith) in
    ap (from_be_bytes w128) (to_be_bytes-halves n) ∙ from_halves (byte_at 7 high) (byte_at 6 high) (byte_at 5 high) (byte_at 4 high) (byte_at 3 high) (byte_at 2 high) (byte_at 1 high) (byte_at 0 high) (byte_at 7 low) (byte_at 6 low) (byte_at 5 low) (byte_at 4 low) (byte_at 3 low) (byte_at 2 low) (byte_at 1 low) (byte_at 0 low) ∙ (λ i. at_high i * 18446744073709551616 + at_low i) ∙ sym (halves n)

-- each byte of a number is below 256
pub AllBytes-high_first : (k n : ℕ) → AllBytes (bytes_high_first k n)
AllBytes-high_first zero n i = omega arith
AllBytes-high_first (suc zero) n zero = omega arith
AllBytes-high_first (suc (suc k)) n zero = omega arith
AllBytes-high_first (suc k) n (suc i) = AllBytes-high_first k n i

-- groups of the bytes of groups
pub segments-octets : (xs : List ℕ) → segments_of (octets_of xs) ≡ xs
segments-octets [] = refl
segments-octets (x ∷ xs) = let here : x / 256 * 256 + x % 256 ≡ x = omega arith in λ i. here i ∷ segments-octets xs i

-- bytes of the groups of bytes
pub octets-segments : (xs : List ℕ) → length xs % 2 ≡ 0 → AllBytes xs → octets_of (segments_of xs) ≡ xs
octets-segments [] l h = refl
octets-segments (a ∷ []) l h = absurd (omega arith)
octets-segments (a ∷ b ∷ xs) l h =
    let first : (a * 256 + b) / 256 ≡ a = omega (arith, h 1) in
    let second : (a * 256 + b) % 256 ≡ b = omega (arith, h 1) in
    let later = octets-segments xs (omega arith) (λ i. h (suc (suc i))) in
    λ i. first i ∷ second i ∷ later i

-- a group of two bytes is below 2 ^ 16
pub AllSegments-of : (xs : List ℕ) → AllBytes xs → (i : ℕ) → get_or (segments_of xs) i 0 < 2 ^ 16
AllSegments-of [] h i = omega arith
AllSegments-of (a ∷ []) h i = omega arith
AllSegments-of (a ∷ b ∷ xs) h zero = omega (arith, h 0, h 1)
AllSegments-of (a ∷ b ∷ xs) h (suc i) = AllSegments-of xs (λ k. h (suc (suc k))) i

-- the number of sixteen bytes has 128 bits
pub from_be_bytes-below_16 : (xs : List ℕ) → AllBytes xs → from_be_bytes w128 xs < 2 ^ 128
from_be_bytes-below_16 xs h =
    let high = below_64 _ _ _ _ _ _ _ _ (h 0) (h 1) (h 2) (h 3) (h 4) (h 5) (h 6) (h 7) in
    let low = below_64 _ _ _ _ _ _ _ _ (h 8) (h 9) (h 10) (h 11) (h 12) (h 13) (h 14) (h 15) in
    omega (arith, from_halves (get_or xs 0 0) (get_or xs 1 0) (get_or xs 2 0) (get_or xs 3 0) (get_or xs 4 0) (get_or xs 5 0) (get_or xs 6 0) (get_or xs 7 0) (get_or xs 8 0) (get_or xs 9 0) (get_or xs 10 0) (get_or xs 11 0) (get_or xs 12 0) (get_or xs 13 0) (get_or xs 14 0) (get_or xs 15 0), high, low)
