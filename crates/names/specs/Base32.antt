-- Base 32 of RFC 4648, section 6, with the letters in lower case and without padding.
use Rattle.std.specs.Prelude.{ℕ, ◌+◌, ◌*◌, ◌/◌, ◌%◌, List, [], ◌∷◌, ◌++◌, codes, slice_index, take}

-- the letters of the values from 0 to 31 (table 3)
abbrev pub alphabet : List ℕ
alphabet = codes "abcdefghijklmnopqrstuvwxyz234567"

-- the letter of the low five bits
abbrev pub letter : ℕ → ℕ
letter n = slice_index alphabet (n % 32)

-- the eight letters of 40 bits, the highest first
abbrev pub letters_of : ℕ → List ℕ
letters_of n =
    letter (n / 34359738368) ∷ letter (n / 1073741824) ∷ letter (n / 33554432)
    ∷ letter (n / 1048576) ∷ letter (n / 32768) ∷ letter (n / 1024) ∷ letter (n / 32)
    ∷ letter n ∷ []

-- the letters of five bytes, the first the highest
abbrev pub letters : ℕ → ℕ → ℕ → ℕ → ℕ → List ℕ
letters a b c d e = letters_of ((a * 65536 + b * 256 + c) * 65536 + d * 256 + e)

-- Five bytes are eight letters. One to four last bytes have zeros after them, and as many letters
-- as have a bit of them.
unfoldable pub base32 : List ℕ → List ℕ
base32 [] = []
base32 (a ∷ []) = take 2 (letters a 0 0 0 0)
base32 (a ∷ b ∷ []) = take 4 (letters a b 0 0 0)
base32 (a ∷ b ∷ c ∷ []) = take 5 (letters a b c 0 0)
base32 (a ∷ b ∷ c ∷ d ∷ []) = take 7 (letters a b c d 0)
base32 (a ∷ b ∷ c ∷ d ∷ e ∷ more) = letters a b c d e ++ base32 more
