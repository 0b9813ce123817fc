-- The bits that a match wants, from its number.
use Rattle.std.specs.Prelude.{ℕ, ◌-◌, Bool, List}
use Rattle.std.specs.Int.{leading_zeros, w32}
use Rattle.bit_code.specs.Coder.{digits}

-- how many bits: the binary digits of the number after its leading one
unfoldable pub match_size : ℕ → ℕ
match_size n = 31 - leading_zeros w32 n

-- the bits, high bit first
unfoldable pub match_bits : ℕ → List Bool
match_bits n = digits (match_size n) n
