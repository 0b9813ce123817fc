-- Words of the contracts inside the crate: rows that stay, and begin with a path.
use Rattle.std.specs.Prelude.{◌≡◌, ℕ, ◌+◌, ◌-◌, ◌/◌, ◌^◌, ◌<◌, ◌≤◌, Bool, false, not, ◌&&◌, List, length, filter, nat_lt}
use Rattle.bit_code.specs.Coder.{digits, has_bit}
use Rattle.bit_code.specs.Prefixes.{begins_with}
use Rattle.prefix_table.specs.declared.rows.Row.{Row}
use Rattle.prefix_table.specs.Rows.{path, IsTable, number_at}
use Rattle.asmap_compile.specs.Compiled.{rows_kept, is_row}

-- the bits of an address from one index up to another
unfoldable pub bits_between : ℕ → ℕ → ℕ → List Bool
bits_between bits from to = digits (to - from) (bits / 2 ^ (128 - to))

-- the bit of an address after the first ones
abbrev pub bit_of : ℕ → ℕ → Bool
bit_of bits depth = has_bit bits (127 - depth)

-- the row has a zero-bit after the first ones
abbrev pub is_low : ℕ → Row → Bool
is_low depth row = not (bit_of row.bits depth)

-- The rows of a table that stay and begin with a path of `depth` bits, after which at most `left`
-- bits can follow. `above` is the number of the path without its last bit. `default` holds before
-- the path, and there is none if the path has no number.
pub record IsPart (table : List Row) (p : List Bool) (left : ℕ) (part : List Row)
    (depth above default : ℕ) : Type 0 where
  pub is_table : IsTable table
  pub some : 0 < length part
  pub rows : part ≡ filter (λ row. begins_with (path row) p) (rows_kept table)
  pub long : length p ≡ depth
  pub room : 128 ≤ left + length p
  pub number : is_row (rows_kept table) p ≡ false → number_at (rows_kept table) p ≡ above
  pub none : number_at (rows_kept table) p ≡ 0 → default ≡ 0

-- the rows of a table that stay, and extend a path properly
pub record IsLonger (table : List Row) (p : List Bool) (rows : List Row) : Type 0 where
  pub are : rows
      ≡ filter (λ row. begins_with (path row) p && nat_lt (length p) row.len) (rows_kept table)
