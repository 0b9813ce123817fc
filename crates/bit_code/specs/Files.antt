-- The file of some bits. Bitcoin Core allows the same padding (`SanityCheckASMap` in
-- util/asmap.cpp).
use Rattle.std.specs.Prelude.{◌≡◌, ℕ, ◌+◌, ◌-◌, ◌≤◌, Bool, false, List, ◌++◌, length, replicate}
use Rattle.bit_code.specs.Coder.{file_bits}

-- the bits of the file are these and then at most seven zero-bits, up to the end of its last byte
pub record IsFileOf (bits : List Bool) (bytes : List ℕ) : Type 0 where
  pub spelled : file_bits bytes ≡ bits ++ replicate (length (file_bits bytes) - length bits) false
  pub padded : length (file_bits bytes) ≤ length bits + 7
