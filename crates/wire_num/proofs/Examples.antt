-- Worked examples: a CompactSize at each boundary, both ways.
use Rattle.std.proofs.Common.{◌≡◌, [], ◌∷◌, Ok, Err, refl}
use Rattle.wire_num.specs.CompactSize.{compact_size}
use Rattle.wire_num.specs.Readings.{compact_at}
use Rattle.wire_num.specs.declared.fault.WireFault.TheVariants.{Truncated, NonCanonical}

zero_in_one_byte : compact_size 0 ≡ 0 ∷ []
unfolding compact_size
zero_in_one_byte = refl

most_in_one_byte : compact_size 252 ≡ 0xfc ∷ []
unfolding compact_size
most_in_one_byte = refl

least_in_three_bytes : compact_size 253 ≡ 0xfd ∷ 0xfd ∷ 0 ∷ []
unfolding compact_size
least_in_three_bytes = refl

most_in_three_bytes : compact_size 65535 ≡ 0xfd ∷ 0xff ∷ 0xff ∷ []
unfolding compact_size
most_in_three_bytes = refl

least_in_five_bytes : compact_size 65536 ≡ 0xfe ∷ 0 ∷ 0 ∷ 1 ∷ 0 ∷ []
unfolding compact_size
least_in_five_bytes = refl

most_in_five_bytes : compact_size 4294967295 ≡ 0xfe ∷ 0xff ∷ 0xff ∷ 0xff ∷ 0xff ∷ []
unfolding compact_size
most_in_five_bytes = refl

least_in_nine_bytes : compact_size 4294967296 ≡ 0xff ∷ 0 ∷ 0 ∷ 0 ∷ 0 ∷ 1 ∷ 0 ∷ 0 ∷ 0 ∷ []
unfolding compact_size
least_in_nine_bytes = refl

bytes_may_follow : compact_at (0xfd ∷ 0xfd ∷ 0 ∷ 7 ∷ []) ≡ Ok (253, 7 ∷ [])
unfolding compact_at
bytes_may_follow = refl

too_long_in_three : compact_at (0xfd ∷ 0xfc ∷ 0 ∷ []) ≡ Err NonCanonical
unfolding compact_at
too_long_in_three = refl

too_long_in_five : compact_at (0xfe ∷ 0xff ∷ 0xff ∷ 0 ∷ 0 ∷ []) ≡ Err NonCanonical
unfolding compact_at
too_long_in_five = refl

too_long_in_nine : compact_at (0xff ∷ 0xff ∷ 0xff ∷ 0xff ∷ 0xff ∷ 0 ∷ 0 ∷ 0 ∷ 0 ∷ []) ≡ Err NonCanonical
unfolding compact_at
too_long_in_nine = refl

no_bytes : compact_at [] ≡ Err Truncated
unfolding compact_at
no_bytes = refl

cut_in_its_first_byte : compact_at (0xfd ∷ []) ≡ Err Truncated
unfolding compact_at
cut_in_its_first_byte = refl

-- a long spelling that is cut is cut
cut_before_it_is_long : compact_at (0xfe ∷ 1 ∷ 0 ∷ 0 ∷ []) ≡ Err Truncated
unfolding compact_at
cut_before_it_is_long = refl
