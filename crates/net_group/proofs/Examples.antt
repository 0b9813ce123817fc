-- Worked examples of the definitions, each computed.
use Rattle.std.specs.Prelude.{◌≡◌, ℕ, [], ◌∷◌, ◌++◌, map, replicate, Some, None, refl}
use Rattle.std.specs.Net.Addr.{octets_of}
use Rattle.net_addr.specs.Address.{Address}
use Rattle.net_addr.specs.OldForm.{address}
use Rattle.net_addr.specs.Ranges.{in_range}
use Rattle.net_addr.specs.declared.net.Net.TheVariants.{Ipv4, Ipv6, Onion, I2p, Cjdns, Internal}
use Rattle.net_group.specs.Group.{group_of, asmap_bits}

abbrev ipv4 : ℕ → ℕ → ℕ → ℕ → Address
ipv4 a b c d = address Ipv4 (a ∷ b ∷ c ∷ d ∷ [])

-- 2001:470:abcd:.. and 2001:480:abcd:..
abbrev ipv6 : ℕ → Address
ipv6 third = address Ipv6 (0x20 ∷ 0x01 ∷ 0x04 ∷ third ∷ 0xab ∷ 0xcd ∷ replicate 10 1)

-- an IPv6 address by its first three groups
abbrev by_groups : ℕ → ℕ → ℕ → Address
by_groups a b c = address Ipv6 (octets_of (a ∷ b ∷ c ∷ []) ++ replicate 10 1)

abbrev teredo : Address
teredo = address Ipv6 (0x20 ∷ 0x01 ∷ replicate 10 0 ++ 0xfe ∷ 0xfd ∷ 0xfc ∷ 0xfb ∷ [])

two_bytes : group_of (ipv4 8 8 8 8) 0 ≡ 1 ∷ 8 ∷ 8 ∷ []
unfolding in_range
two_bytes = refl

by_number : group_of (ipv4 8 8 8 8) 5 ≡ 2 ∷ 5 ∷ 0 ∷ 0 ∷ 0 ∷ []
by_number = refl

number_low_byte_first : group_of (ipv4 10 0 0 1) 0x01020304 ≡ 2 ∷ 4 ∷ 3 ∷ 2 ∷ 1 ∷ []
number_low_byte_first = refl

unroutable_together : group_of (ipv4 10 0 0 1) 0 ≡ 0 ∷ []
unfolding in_range
unroutable_together = refl

four_bytes : group_of (ipv6 0x80) 0 ≡ 2 ∷ 0x20 ∷ 0x01 ∷ 0x04 ∷ 0x80 ∷ []
unfolding in_range
four_bytes = refl

hurricane_electric : group_of (ipv6 0x70) 0 ≡ 2 ∷ 0x20 ∷ 0x01 ∷ 0x04 ∷ 0x70 ∷ 0xaf ∷ []
unfolding in_range
hurricane_electric = refl

-- 2002:102:304::
by_linked_ipv4 : group_of (address Ipv6 (0x20 ∷ 0x02 ∷ 1 ∷ 2 ∷ 3 ∷ 4 ∷ replicate 10 0)) 0 ≡ 1 ∷ 1 ∷ 2 ∷ []
unfolding in_range
by_linked_ipv4 = refl

four_bits_of_onion : group_of (address Onion (replicate 32 0xab)) 0 ≡ 3 ∷ 0xaf ∷ []
unfolding in_range
four_bits_of_onion = refl

four_bits_of_i2p : group_of (address I2p (replicate 32 0x12)) 0 ≡ 4 ∷ 0x1f ∷ []
unfolding in_range
four_bits_of_i2p = refl

twelve_bits_of_cjdns : group_of (address Cjdns (0xfc ∷ 0x12 ∷ replicate 14 0)) 0 ≡ 5 ∷ 0xfc ∷ 0x1f ∷ []
unfolding in_range
twelve_bits_of_cjdns = refl

only_internal_addresses : group_of (address Internal (1 ∷ 2 ∷ 3 ∷ 4 ∷ 5 ∷ 6 ∷ 7 ∷ 8 ∷ 9 ∷ 10 ∷ [])) 0 ≡ 6 ∷ 1 ∷ 2 ∷ 3 ∷ 4 ∷ 5 ∷ 6 ∷ 7 ∷ 8 ∷ 9 ∷ 10 ∷ []
only_internal_addresses = refl

mapped_bits : asmap_bits (ipv4 1 2 3 4) ≡ Some 0xffff01020304
unfolding in_range
mapped_bits = refl

the_bits_of_an_ipv6_address : asmap_bits (ipv6 0x80) ≡ Some 0x20010480abcd01010101010101010101
unfolding in_range
the_bits_of_an_ipv6_address = refl

onion_not_looked_up : asmap_bits (address Onion (replicate 32 0xab)) ≡ None
unfolding in_range
onion_not_looked_up = refl

-- both ends of 2001:470::/32 have 36 bits, their neighbours 32
ends_of_hurricane_electric : map (λ a. group_of a 0) (by_groups 0x2001 0x046f 0xffff ∷ by_groups 0x2001 0x0470 0 ∷ by_groups 0x2001 0x0470 0xffff ∷ by_groups 0x2001 0x0471 0 ∷ []) ≡
    (2 ∷ 0x20 ∷ 0x01 ∷ 0x04 ∷ 0x6f ∷ []) ∷ (2 ∷ 0x20 ∷ 0x01 ∷ 0x04 ∷ 0x70 ∷ 0x0f ∷ []) ∷ (2 ∷ 0x20 ∷ 0x01 ∷ 0x04 ∷ 0x70 ∷ 0xff ∷ []) ∷ (2 ∷ 0x20 ∷ 0x01 ∷ 0x04 ∷ 0x71 ∷ []) ∷ []
unfolding in_range
ends_of_hurricane_electric = refl

-- an address of CJDNS without fc is not routable, so it has no part of its own
cjdns_without_fc : group_of (address Cjdns (0xfd ∷ 0x12 ∷ replicate 14 0)) 0 ≡ 0 ∷ []
unfolding in_range
cjdns_without_fc = refl

-- 2001::fefd:fcfb is grouped and looked up as 1.2.3.4
by_the_complement : group_of teredo 0 ≡ 1 ∷ 1 ∷ 2 ∷ []
unfolding in_range
by_the_complement = refl

looked_up_by_the_complement : asmap_bits teredo ≡ Some 0xffff01020304
unfolding in_range
looked_up_by_the_complement = refl

not_looked_up : map asmap_bits (ipv4 10 0 0 1 ∷ address I2p (replicate 32 1) ∷ address Cjdns (0xfc ∷ replicate 15 1) ∷ address Internal (replicate 10 1) ∷ []) ≡ None ∷ None ∷ None ∷ None ∷ []
unfolding in_range
not_looked_up = refl
