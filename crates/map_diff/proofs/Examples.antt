-- The definitions at single values, computed.
use Rattle.std.proofs.Common.{◌≡◌, ℕ, Bool, true, false, List, [], ◌∷◌, Some, None, codes, refl}
use Rattle.std.specs.Fmt.{digits}
use Rattle.bit_code.specs.Prefixes.{begins_with}
use Rattle.map_diff.specs.Diff.{part, joined, changes_of, unless_equal, changes, first_over, differing}
use Rattle.map_diff.specs.Text.{change_text, count_of}
use Rattle.map_diff.specs.declared.changed.ChangedPrefix.{ChangedPrefix}

-- the addresses 10 and 11 have another number
old_map : List Bool → ℕ
old_map bits = 5

new_map : List Bool → ℕ
new_map (true ∷ bits) = 6
new_map bits = 5

one_change_for_two_addresses : changes 2 old_map new_map ≡ record { path = true ∷ []; old = 5; new = 6 } ∷ []
unfolding part joined changes_of unless_equal old_map new_map
one_change_for_two_addresses = refl

two_addresses_differ : differing 2 old_map new_map ≡ 2
unfolding differing old_map new_map
two_addresses_differ = refl

it_covers_the_second_half : first_over (changes 2 old_map new_map) (true ∷ false ∷ []) ≡ Some (5, 6)
unfolding part joined changes_of unless_equal old_map new_map first_over begins_with
it_covers_the_second_half = refl

and_no_other_address : first_over (changes 2 old_map new_map) (false ∷ true ∷ []) ≡ None
unfolding part joined changes_of unless_equal old_map new_map first_over begins_with
and_no_other_address = refl

-- 1.2.0.0/16
abbrev mapped : ℕ → ℕ → ChangedPrefix
mapped old new = record { bits = 0xffff01020000; len = 112; old = old; new = new }

a_number_for_another : change_text (mapped 1 9) ≡ codes "1.2.0.0/16 AS9 # was AS1\n"
unfolding change_text digits
a_number_for_another = refl

a_number_for_none : change_text (mapped 0 9) ≡ codes "1.2.0.0/16 AS9 # was unassigned\n"
unfolding change_text digits
a_number_for_none = refl

none_for_a_number : change_text (mapped 1 0) ≡ codes "# 1.2.0.0/16 was AS1\n"
unfolding change_text digits
none_for_a_number = refl

ipv4_addresses : count_of true (mapped 1 9 ∷ []) ≡ 65536
unfolding count_of
ipv4_addresses = refl

no_other_ones : count_of false (mapped 1 9 ∷ []) ≡ 0
unfolding count_of
no_other_ones = refl
