-- Numbers of a fixed width at an offset, None if there are fewer bytes.
use Rattle.std.specs.Prelude.{ℕ, List, length, take, drop, Option, Some, None, nat_lt, if◌then◌else◌}
use Rattle.std.specs.Int.{w16, w32, w64, from_le_bytes, from_be_bytes}

-- The 16-bit number at an offset, lowest byte first.
abbrev pub le16_at : List ℕ → ℕ → Option ℕ
le16_at bytes at =
    if nat_lt (length (drop at bytes)) 2
    then None
    else Some (from_le_bytes w16 (take 2 (drop at bytes)))

-- The 32-bit number at an offset, lowest byte first.
abbrev pub le32_at : List ℕ → ℕ → Option ℕ
le32_at bytes at =
    if nat_lt (length (drop at bytes)) 4
    then None
    else Some (from_le_bytes w32 (take 4 (drop at bytes)))

-- The 64-bit number at an offset, lowest byte first.
abbrev pub le64_at : List ℕ → ℕ → Option ℕ
le64_at bytes at =
    if nat_lt (length (drop at bytes)) 8
    then None
    else Some (from_le_bytes w64 (take 8 (drop at bytes)))

-- The 16-bit number at an offset, highest byte first.
abbrev pub be16_at : List ℕ → ℕ → Option ℕ
be16_at bytes at =
    if nat_lt (length (drop at bytes)) 2
    then None
    else Some (from_be_bytes w16 (take 2 (drop at bytes)))
