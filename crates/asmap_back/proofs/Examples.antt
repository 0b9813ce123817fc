-- Worked examples of the definitions, computed by the check.
use Rattle.std.proofs.Common.{◌≡◌, ◌*◌, ◌^◌, true, false, [], ◌∷◌, refl}
use Rattle.bit_code.specs.Coder.{number_of}
use Rattle.asmap_vm.specs.Code.{Return, Jump, Match, Default}
use Rattle.asmap_back.specs.Back.{unless_same, rows_of, rows_back}

-- the two halves of all addresses
two_halves : rows_back (Jump (Return 1) (Return 2)) ≡ record { bits = 0; len = 1; asn = 1 } ∷ record { bits = 2 ^ 127; len = 1; asn = 2 } ∷ []
unfolding rows_of unless_same number_of
two_halves = refl

-- a quarter of the first half has another number than the half
half_and_quarter : rows_back (Match (false ∷ []) (Default 1 (Match (true ∷ []) (Return 2)))) ≡ record { bits = 0; len = 1; asn = 1 } ∷ record { bits = 2 ^ 126; len = 2; asn = 2 } ∷ []
unfolding rows_of unless_same number_of
half_and_quarter = refl

-- a leaf with the number of the longest row above it has no row
number_above : rows_back (Default 5 (Match (true ∷ []) (Jump (Return 5) (Return 6)))) ≡ record { bits = 0; len = 0; asn = 5 } ∷ record { bits = 3 * 2 ^ 126; len = 2; asn = 6 } ∷ []
unfolding rows_of unless_same number_of
number_above = refl

-- a default above a fork has no row of its own, and is repeated below
default_twice : rows_back (Default 5 (Jump (Match (true ∷ []) (Return 6)) (Return 5))) ≡ record { bits = 0; len = 1; asn = 5 } ∷ record { bits = 2 ^ 126; len = 2; asn = 6 } ∷ record { bits = 2 ^ 127; len = 1; asn = 5 } ∷ []
unfolding rows_of unless_same number_of
default_twice = refl
