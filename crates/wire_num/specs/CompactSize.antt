-- A number in one, three, five or nine bytes (`WriteCompactSize`, `ReadCompactSize` in serialize.h
-- of Bitcoin Core).
use Rattle.std.specs.Prelude.{◌≡◌, ℕ, ◌<◌, ◌^◌, List, [], ◌∷◌, ◌++◌, length, nat_lt, ◌==◌, if◌then◌else◌, ◌⊎◌}
use Rattle.std.specs.Int.{Width, w16, w32, w64, to_le_bytes}

-- a number below 2 ^ 64 in the fewest bytes that it fits, low byte first
unfoldable pub compact_size : ℕ → List ℕ
compact_size n =
    if nat_lt n 253 then n ∷ []
    else if nat_lt n (2 ^ 16) then 253 ∷ to_le_bytes w16 n
    else if nat_lt n (2 ^ 32) then 254 ∷ to_le_bytes w32 n
    else 255 ∷ to_le_bytes w64 n

-- the length in bytes of a CompactSize that begins with this byte
abbrev pub spelling_length : ℕ → ℕ
spelling_length first =
    if nat_lt first 253 then 1 else if first == 253 then 3 else if first == 254 then 5 else 9

-- the bytes end before their first CompactSize does
abbrev pub IsCut : List ℕ → Type 0
IsCut [] = Unit {0}
IsCut (first ∷ bytes) = length (first ∷ bytes) < spelling_length first

-- the bytes begin with this first byte and a whole number of the width, which is below `least`
abbrev pub IsLongIn : Width → ℕ → ℕ → List ℕ → Type 0
IsLongIn w first least bytes =
    (n : ℕ) × (rest : List ℕ) × (n < least) × (bytes ≡ first ∷ to_le_bytes w n ++ rest)

-- the bytes begin with a whole CompactSize that has more bytes than its number needs
abbrev pub IsLong : List ℕ → Type 0
IsLong bytes =
    IsLongIn w16 253 253 bytes ⊎ IsLongIn w32 254 (2 ^ 16) bytes ⊎ IsLongIn w64 255 (2 ^ 32) bytes
