-- Reading a number from the start of a list of bits: the inverse of the encoding.
use Rattle.std.specs.Prelude.{ℕ, ◌+◌, ◌^◌, Bool, true, false, List, [], ◌∷◌, Option, Some, None, if◌then◌else◌, nat_lt, length, take, drop}
use Rattle.bit_code.specs.Coder.{number_of, sizes, least}
use Rattle.bit_code.specs.declared.coder.Coder.{Coder}

-- the number that the first bits are the digits of, and the bits after them
unfoldable pub digits_at : ℕ → List Bool → Option (ℕ × List Bool)
digits_at size bits =
    if nat_lt (length bits) size then None else Some (number_of (take size bits), drop size bits)

-- what was read, with this many values before it
abbrev pub after_values : ℕ → Option (ℕ × List Bool) → Option (ℕ × List Bool)
after_values passed None = None
after_values passed (Some read) = Some (passed + read.0, read.1)

-- the number, counted from 0, that the bits begin with over classes of these sizes, and the bits
-- after it
unfoldable pub read_by : List ℕ → List Bool → Option (ℕ × List Bool)
read_by [] bits = None
read_by (size ∷ []) bits = digits_at size bits
read_by (size ∷ next ∷ more) [] = None
read_by (size ∷ next ∷ more) (false ∷ bits) = digits_at size bits
read_by (size ∷ next ∷ more) (true ∷ bits) = after_values (2 ^ size) (read_by (next ∷ more) bits)

-- the value of the coder that the bits begin with, and the bits after it
unfoldable pub read_value : Coder → List Bool → Option (ℕ × List Bool)
read_value coder bits = after_values (least coder) (read_by (sizes coder) bits)
