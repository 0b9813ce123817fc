-- Worked examples of the definitions, computed by the check.
use Rattle.std.proofs.Common.{◌≡◌, ◌+◌, map, true, false, [], ◌∷◌, Some, None, refl}
use Rattle.bit_code.specs.declared.coder.Coder.TheVariants.{Kind, Asn, Match, Jump}
use Rattle.bit_code.specs.Coder.{digits, low_digits, file_bits, least, sizes, values_of, spelling, spelling_by, number_of}
use Rattle.bit_code.specs.Reading.{read_value, read_by, digits_at}

-- the first value past those of each coder
ends : map (λ coder. least coder + values_of (sizes coder)) (Kind ∷ Asn ∷ Match ∷ Jump ∷ []) ≡ 4 ∷ 33521665 ∷ 512 ∷ 2147483633 ∷ []
unfolding sizes values_of
ends = refl

-- the second kind, and the last
kind_one : spelling Kind 1 ≡ true ∷ false ∷ []
unfolding spelling spelling_by sizes digits
kind_one = refl

kind_three : spelling Kind 3 ≡ true ∷ true ∷ true ∷ []
unfolding spelling spelling_by sizes digits
kind_three = refl

-- a match of the two bits 1 0, whose number has the digits 1 1 0
match_six : spelling Match 6 ≡ true ∷ false ∷ true ∷ false ∷ []
unfolding spelling spelling_by sizes digits
match_six = refl

-- the jump over 49 bits, the first of the second class
jump_forty_nine : spelling Jump 49 ≡ true ∷ false ∷ false ∷ false ∷ false ∷ false ∷ false ∷ false ∷ []
unfolding spelling spelling_by sizes digits
jump_forty_nine = refl

-- and the way back, with a bit after it
jump_read : read_value Jump (true ∷ false ∷ false ∷ false ∷ false ∷ false ∷ false ∷ true ∷ true ∷ []) ≡ Some (50, true ∷ [])
unfolding read_value read_by digits_at sizes number_of
jump_read = refl

-- a spelling that runs past the end
jump_cut : read_value Jump (true ∷ false ∷ false ∷ false ∷ []) ≡ None
unfolding read_value read_by digits_at sizes
jump_cut = refl

-- the low bit of a byte comes first
two_bytes : file_bits (1 ∷ 128 ∷ []) ≡ true ∷ false ∷ false ∷ false ∷ false ∷ false ∷ false ∷ false ∷ false ∷ false ∷ false ∷ false ∷ false ∷ false ∷ false ∷ true ∷ []
unfolding file_bits low_digits
two_bytes = refl

-- the digits of a number, high bit first
digits_six : digits 4 6 ≡ false ∷ true ∷ true ∷ false ∷ []
unfolding digits
digits_six = refl
