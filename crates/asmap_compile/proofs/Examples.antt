-- Worked examples of the definitions, computed by the check.
use Rattle.std.proofs.Common.{◌≡◌, ◌+◌, ◌*◌, ◌^◌, true, false, List, [], ◌∷◌, ◌++◌, length, refl, replicate}
use Rattle.bit_code.specs.Coder.{digits, low_digits, file_bits, sizes, values_of, spelling, spelling_by, number_of}
use Rattle.bit_code.specs.Prefixes.{begins_with}
use Rattle.asmap_vm.specs.Code.{Return, Jump, Match, Default, code}
use Rattle.prefix_table.specs.declared.rows.Row.{Row}
use Rattle.prefix_table.specs.Rows.{path, longest, number_at}
use Rattle.asmap_compile.specs.Compiled.{stays, is_row, goes_on, stretch, matches, under_default, tree_at, compiled}

-- `::/0 AS1`
abbrev everything : List Row
everything = record { bits = 0; len = 0; asn = 1 } ∷ []

everything_tree : compiled everything ≡ Return 1
unfolding compiled tree_at matches under_default stretch goes_on is_row stays number_at longest path digits begins_with
everything_tree = refl

everything_file : file_bits (0 ∷ 0 ∷ 0 ∷ []) ≡ code (compiled everything) ++ replicate 7 false
unfolding compiled tree_at matches under_default stretch goes_on is_row stays number_at longest path digits begins_with code spelling spelling_by sizes values_of file_bits low_digits
everything_file = refl

-- `::/1 AS1` and `8000::/1 AS2`
abbrev halves : List Row
halves = record { bits = 0; len = 1; asn = 1 } ∷ record { bits = 2 ^ 127; len = 1; asn = 2 } ∷ []

halves_tree : compiled halves ≡ Jump (Return 1) (Return 2)
unfolding compiled tree_at matches under_default stretch goes_on is_row stays number_at longest path digits begins_with
halves_tree = refl

halves_file : file_bits (1 ∷ 0 ∷ 0 ∷ 0 ∷ 0 ∷ 2 ∷ []) ≡ code (compiled halves) ++ replicate 6 false
unfolding compiled tree_at matches under_default stretch goes_on is_row stays number_at longest path digits begins_with code spelling spelling_by sizes values_of file_bits low_digits
halves_file = refl

-- `::/1 AS1` and in it `::/3 AS2`: a default, and a match after it
abbrev nested : List Row
nested = record { bits = 0; len = 1; asn = 1 } ∷ record { bits = 0; len = 3; asn = 2 } ∷ []

nested_tree : compiled nested ≡ Match (false ∷ []) (Default 1 (Match (false ∷ false ∷ []) (Return 2)))
unfolding compiled tree_at matches under_default stretch goes_on is_row stays number_at longest path digits begins_with
nested_tree = refl

-- a row with the number of the row around it is dropped
abbrev idle : List Row
idle = record { bits = 0; len = 1; asn = 1 } ∷ record { bits = 0; len = 3; asn = 1 } ∷ record { bits = 2 ^ 124; len = 4; asn = 2 } ∷ []

idle_tree : compiled idle ≡ Match (false ∷ []) (Default 1 (Match (false ∷ false ∷ true ∷ []) (Return 2)))
unfolding compiled tree_at matches under_default stretch goes_on is_row stays number_at longest path digits begins_with
idle_tree = refl

-- `200::/9 AS7`: a match of eight bits, and then one of the bit that remains
abbrev nine : List Row
nine = record { bits = 2 ^ 121; len = 9; asn = 7 } ∷ []

nine_tree : compiled nine ≡ Match (false ∷ false ∷ false ∷ false ∷ false ∷ false ∷ true ∷ false ∷ []) (Match (false ∷ []) (Return 7))
unfolding compiled tree_at matches under_default stretch goes_on is_row stays number_at longest path digits begins_with
nine_tree = refl

-- `1.0.0.0/8 AS5`
abbrev mapped : List Row
mapped = record { bits = 65535 * 2 ^ 32 + 2 ^ 24; len = 104; asn = 5 } ∷ []

mapped_long : length (code (compiled mapped)) ≡ 251
unfolding compiled tree_at matches under_default stretch goes_on is_row stays number_at longest path digits begins_with code spelling spelling_by sizes values_of number_of
mapped_long = refl
