-- Letters of base 32 are in lower case and ASCII.
use Rattle.std.proofs.Common.{◌≡◌, ℕ, ◌/◌, ◌%◌, ◌<◌, take, true, ◌==◌, nat_lt, List, [], ◌∷◌, length, map, slice_index, All, refl, arith, inl, inr}
use Rattle.std.specs.Char.{to_ascii_lowercase}
use Rattle.std.specs.Str.{IsAscii}
use Rattle.std.proofs.lemmas.Bool.{cases_lt}
use Rattle.std.proofs.lemmas.Bool.Decides.{Decides-eqb, nat_tests}
use Rattle.std.proofs.lemmas.List.{get_or_past}
use Rattle.std.proofs.lemmas.List.Elements.{All-append, All-cons, All-nil, All-head, All-tail, All-take}
use Rattle.net_addr.specs.NetBits.{each_below}
use Rattle.names.proofs.RoundTrip.{forty}
use Rattle.names.specs.Base32.{alphabet, letter, letters, letters_of, base32}

-- the byte is in lower case and ASCII
abbrev IsLow : ℕ → Type 0
IsLow c = (to_ascii_lowercase c ≡ c) × (c < 128)

low_at : (k : ℕ) → k < 32 → IsLow (slice_index alphabet k)
low_at k h = (
  (Decides-eqb (to_ascii_lowercase (slice_index alphabet k)) (slice_index alphabet k)).0
      (each_below (λ k. to_ascii_lowercase (slice_index alphabet k) == slice_index alphabet k) 32 refl k h),
  small (slice_index alphabet k) (each_below (λ k. nat_lt (slice_index alphabet k) 128) 32 refl k h),
) where
  small : (c : ℕ) → nat_lt c 128 ≡ true → c < 128
  small c e = grind (arith, nat_tests)

low : (n : ℕ) → IsLow (letter n)
low n = low_at (n % 32) (omega arith)

all_low : (ns : List ℕ) → All IsLow (map letter ns)
all_low [] = All-nil IsLow
all_low (n ∷ ns) = All-cons IsLow (letter n) (map letter ns) (low n) (all_low ns)

low_letters : (n : ℕ) → All IsLow (letters_of n)
low_letters n = all_low (n / 34359738368 ∷ n / 1073741824 ∷ n / 33554432 ∷ n / 1048576 ∷ n / 32768 ∷ n / 1024 ∷ n / 32 ∷ n ∷ [])

low_take : (k n : ℕ) → All IsLow (take k (letters_of n))
low_take k n = All-take IsLow k (letters_of n) (low_letters n)

low_base32 : (xs : List ℕ) → All IsLow (base32 xs)
unfolding base32
low_base32 [] = All-nil IsLow
low_base32 (a ∷ []) = low_take 2 (forty a 0 0 0 0)
low_base32 (a ∷ b ∷ []) = low_take 4 (forty a b 0 0 0)
low_base32 (a ∷ b ∷ c ∷ []) = low_take 5 (forty a b c 0 0)
low_base32 (a ∷ b ∷ c ∷ d ∷ []) = low_take 7 (forty a b c d 0)
low_base32 (a ∷ b ∷ c ∷ d ∷ e ∷ xs) = All-append IsLow (letters a b c d e) (base32 xs) (low_letters (forty a b c d e)) (low_base32 xs)

same_lower : (xs : List ℕ) → All IsLow xs → map to_ascii_lowercase xs ≡ xs
same_lower [] h = refl
same_lower (x ∷ xs) h =
    let here = (All-head IsLow x xs h).0 in
    let later = same_lower xs (All-tail IsLow x xs h) in
    λ i. here i ∷ later i

pub base32_lower : (xs : List ℕ) → map to_ascii_lowercase (base32 xs) ≡ base32 xs
base32_lower xs = same_lower (base32 xs) (low_base32 xs)

pub base32_ascii : (xs : List ℕ) → IsAscii (base32 xs)
base32_ascii xs i = elim (cases_lt i (length (base32 xs))) [
  | inl lt ↦ (low_base32 xs i 0 lt).1
  | inr le ↦ omega (arith, get_or_past (base32 xs) i 0 le)
]
