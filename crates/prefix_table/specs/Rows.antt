-- The rows of a prefix table, and the AS number of the most specific row that covers an address.
-- The largest AS number is that of `ASN_BIT_SIZES` in util/asmap.cpp of Bitcoin Core.
use Rattle.std.specs.Prelude.{◌≡◌, ◌==◌, ◌⊎◌, ℕ, ◌-◌, ◌/◌, ◌%◌, ◌^◌, ◌<◌, ◌≤◌, Bool, true, List, [], ◌∷◌, Option, Some, None, All, AllPairs, Contains, filter, length, nat_lt, if◌then◌else◌}
use Rattle.std.specs.Option.{option_map_or}
use Rattle.bit_code.specs.Coder.{digits}
use Rattle.bit_code.specs.Prefixes.{begins_with}
use Rattle.prefix_table.specs.declared.rows.Row.{Row}
use Rattle.prefix_table.specs.declared.rows.TheConstants.{MAX_ASN, MAX_ROWS}

-- the first `len` of 128 bits, as a number (RFC 4291, section 2.3, and RFC 4632, section 3.1)
abbrev pub first_bits : ℕ → ℕ → ℕ
first_bits len bits = bits / 2 ^ (128 - len)

-- the row is a prefix of the address: the first `len` bits of both are the same
abbrev pub row_covers : Row → ℕ → Bool
row_covers row address = first_bits row.len address == first_bits row.len row.bits

-- the bits of the prefix, high bit first
unfoldable pub path : Row → List Bool
path row = digits row.len (first_bits row.len row.bits)

-- at most 128 bits, none set after the prefix, and an AS number that an asmap can encode
pub record IsRow (row : Row) : Type 0 where
  pub len : row.len ≤ 128
  pub bits : row.bits < 2 ^ 128
  pub clear : row.bits % 2 ^ (128 - row.len) ≡ 0
  pub some : 1 ≤ row.asn
  pub most : row.asn ≤ MAX_ASN

-- the order of the rows: by bits, then by length
abbrev pub Precedes : Row → Row → Type 0
Precedes a b = (a.bits < b.bits) ⊎ ((a.bits ≡ b.bits) × (a.len < b.len))

-- the same prefix
abbrev pub SamePrefix : Row → Row → Type 0
SamePrefix a b = (a.bits ≡ b.bits) × (a.len ≡ b.len)

-- the rows of a table
pub record IsTable (rows : List Row) : Type 0 where
  pub each : All IsRow rows
  pub rising : AllPairs Precedes rows
  pub few : length rows ≤ MAX_ROWS

-- the row, or the other one if that is longer
abbrev pub longer : Row → Option Row → Row
longer row None = row
longer row (Some other) = if nat_lt row.len other.len then other else row

-- the longest of the rows
unfoldable pub longest : List Row → Option Row
longest [] = None
longest (row ∷ rows) = Some (longer row (longest rows))

-- the AS number of the most specific row that covers the address, or 0 (RFC 4632, section 5.1)
unfoldable pub best : List Row → ℕ → ℕ
best rows address =
    option_map_or (λ row. row.asn) (longest (filter (λ row. row_covers row address) rows)) 0

-- the row is a prefix of the address, and no longer row of the table is
pub record IsLongest (rows : List Row) (address : ℕ) (row : Row) : Type 0 where
  pub is_row : Contains rows row
  pub is_prefix : row_covers row address ≡ true
  pub most : (other : Row) → Contains rows other → row_covers other address ≡ true →
      other.len ≤ row.len

-- the number of a path: that of the longest row that is the path or a prefix of it, or 0
unfoldable pub number_at : List Row → List Bool → ℕ
number_at rows p =
    option_map_or (λ row. row.asn) (longest (filter (λ row. begins_with p (path row)) rows)) 0
