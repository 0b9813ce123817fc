-- The fields of messages and files: bytes, numbers of a fixed width, and CompactSize. Bitcoin Core
-- writes them so in serialize.h.
use Rattle.std.specs.Prelude.{◌≡◌, ℕ, ◌<◌, ◌*◌, ◌^◌, List, [], ◌∷◌, length}
use Rattle.std.specs.Int.{Width, byte_len, to_le_bytes, to_be_bytes}
use Rattle.wire_num.specs.CompactSize.{compact_size, IsCut, IsLong}
use Rattle.wire_num.specs.Format.{Format}
use Rattle.wire_num.specs.declared.fault.WireFault.{WireFault}
use Rattle.wire_num.specs.declared.fault.WireFault.TheVariants.{Truncated, NonCanonical}

-- n bytes as they are
unfoldable pub some_bytes : ℕ → Format WireFault (List ℕ)
some_bytes n = record {
  spells = λ bytes x. (length bytes ≡ n) × (bytes ≡ x);
  shows = λ bytes f. (length bytes < n) × (f ≡ Truncated);
}

-- one byte
unfoldable pub byte : Format WireFault ℕ
byte =
    record { spells = λ bytes b. bytes ≡ b ∷ []; shows = λ bytes f. (bytes ≡ []) × (f ≡ Truncated) }

-- a number of a width, by its bytes
unfoldable pub number : Width → (ℕ → List ℕ) → Format WireFault ℕ
number w bytes_of = record {
  spells = λ bytes n. (n < 2 ^ (8 * byte_len w)) × (bytes ≡ bytes_of n);
  shows = λ bytes f. (length bytes < byte_len w) × (f ≡ Truncated);
}

-- low byte first
abbrev pub le : Width → Format WireFault ℕ
le w = number w (to_le_bytes w)

-- high byte first
abbrev pub be : Width → Format WireFault ℕ
be w = number w (to_be_bytes w)

-- why the bytes do not begin with a CompactSize in the fewest bytes
abbrev pub CompactFault : List ℕ → WireFault → Type 0
CompactFault bytes Truncated = IsCut bytes
CompactFault bytes NonCanonical = IsLong bytes

-- a number below 2 ^ 64 in the fewest bytes that it fits
unfoldable pub compact : Format WireFault ℕ
compact =
    record { spells = λ bytes n. (n < 2 ^ 64) × (bytes ≡ compact_size n); shows = CompactFault }
