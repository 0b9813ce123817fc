-- The definitions at single values, computed.
use Rattle.std.proofs.Common.{◌≡◌, true, false, List, [], ◌∷◌, refl}
use Rattle.prefix_table.specs.Rows.{row_covers, longest, best}
use Rattle.prefix_table.specs.Text.{row_of}
use Rattle.prefix_table.specs.Print.{is_mapped, entry_of}
use Rattle.prefix_table.specs.declared.rows.Row.{Row}
use Rattle.prefix_table.specs.declared.line.Family.TheVariants.{Ipv4}

-- 1.0.0.0/8, 1.2.0.0/16 and ::/0
abbrev wide : Row
wide = record { bits = 0xffff01000000; len = 104; asn = 5 }

abbrev narrow : Row
narrow = record { bits = 0xffff01020000; len = 112; asn = 6 }

abbrev all : Row
all = record { bits = 0; len = 0; asn = 7 }

abbrev rows : List Row
rows = all ∷ wide ∷ narrow ∷ []

covers_its_first_address : row_covers narrow 0xffff01020000 ≡ true
covers_its_first_address = refl

covers_its_last_address : row_covers narrow 0xffff0102ffff ≡ true
covers_its_last_address = refl

not_the_address_before : row_covers narrow 0xffff0101ffff ≡ false
not_the_address_before = refl

not_the_address_after : row_covers narrow 0xffff01030000 ≡ false
not_the_address_after = refl

covers_all : row_covers all 0xffffffffffffffffffffffffffffffff ≡ true
covers_all = refl

the_longest_of_three : best rows 0xffff01020304 ≡ 6
unfolding best longest
the_longest_of_three = refl

the_longest_of_two : best rows 0xffff01030001 ≡ 5
unfolding best longest
the_longest_of_two = refl

whatever_order : best (narrow ∷ all ∷ wide ∷ []) 0xffff01020304 ≡ 6
unfolding best longest
whatever_order = refl

no_row : best (wide ∷ narrow ∷ []) 0xffff02000000 ≡ 0
unfolding best longest
no_row = refl

row_of_an_ipv4_line : row_of record { family = Ipv4; address = 0x01000000; len = 8; asn = 5 } ≡ wide
row_of_an_ipv4_line = refl

a_mapped_row_is_printed_as_ipv4 : entry_of wide ≡ record { family = Ipv4; address = 0x01000000; len = 8; asn = 5 }
a_mapped_row_is_printed_as_ipv4 = refl

a_wider_row_is_not : is_mapped record { bits = 0; len = 95; asn = 1 } ≡ false
a_wider_row_is_not = refl
