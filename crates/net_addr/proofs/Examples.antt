-- Worked examples of the definitions, each computed.
use Rattle.std.specs.Prelude.{◌≡◌, ℕ, [], ◌∷◌, ◌++◌, map, replicate, Some, None, codes, refl}
use Rattle.hex.specs.Hex.{encode_with, decode_pairs}
use Rattle.std.specs.Fmt.{digits}
use Rattle.std.specs.Net.Text.{hex, hex_groups_text}
use Rattle.net_addr.specs.Address.{Address, mapped_prefix, internal_prefix, torv2_prefix}
use Rattle.net_addr.specs.OldForm.{address, from_v1, v1_bytes, key_bytes}
use Rattle.net_addr.specs.Text.{ipv6_text, addr_text, peer_text, IsHexOf}
use Rattle.net_addr.specs.declared.net.Net.TheVariants.{Ipv4, Ipv6, Onion, I2p, Cjdns, Internal}
use Rattle.net_addr.specs.declared.peer.Peer.{Peer}

abbrev ipv4 : ℕ → ℕ → ℕ → ℕ → Address
ipv4 a b c d = address Ipv4 (a ∷ b ∷ c ∷ d ∷ [])

abbrev quad_eight : Peer
quad_eight = record { addr = ipv4 8 8 8 8; port = 8333 }

text_of_a_peer : peer_text quad_eight ≡ codes "8.8.8.8:8333"
unfolding digits
text_of_a_peer = refl

key_of_a_peer : key_bytes quad_eight ≡ replicate 10 0 ++ 0xff ∷ 0xff ∷ 8 ∷ 8 ∷ 8 ∷ 8 ∷ 0x20 ∷ 0x8d ∷ []
key_of_a_peer = refl

-- 2001:db8:0:0:1:0:0:1, with two runs of two zero groups
text_with_the_first_longest_run : addr_text (address Ipv6 (0x20 ∷ 0x01 ∷ 0x0d ∷ 0xb8 ∷ 0 ∷ 0 ∷ 0 ∷ 0 ∷ 0 ∷ 1 ∷ 0 ∷ 0 ∷ 0 ∷ 0 ∷ 0 ∷ 1 ∷ [])) ≡ codes "[2001:db8::1:0:0:1]"
unfolding hex_groups_text hex
text_with_the_first_longest_run = refl

-- a single zero group is written out
text_with_one_zero_group : addr_text (address Ipv6 (0x20 ∷ 0x01 ∷ 0x0d ∷ 0xb8 ∷ 0 ∷ 0 ∷ 0 ∷ 1 ∷ 0 ∷ 2 ∷ 0 ∷ 3 ∷ 0 ∷ 4 ∷ 0xab ∷ 0xcd ∷ [])) ≡ codes "[2001:db8:0:1:2:3:4:abcd]"
unfolding hex_groups_text hex
text_with_one_zero_group = refl

-- :: is a run of eight, ::1 of seven at the start, 1:: of seven at the end
text_of_zeros : map addr_text (address Ipv6 (replicate 16 0) ∷ address Ipv6 (replicate 15 0 ++ 1 ∷ []) ∷ address Ipv6 (0 ∷ 1 ∷ replicate 14 0) ∷ []) ≡ codes "[::]" ∷ codes "[::1]" ∷ codes "[1::]" ∷ []
unfolding hex_groups_text hex
text_of_zeros = refl

-- the longer of two runs comes last
text_with_the_last_longest_run : ipv6_text (0 ∷ 1 ∷ 0 ∷ 0 ∷ 0 ∷ 0 ∷ 0 ∷ 4 ∷ 0 ∷ 0 ∷ 0 ∷ 0 ∷ 0 ∷ 0 ∷ 0 ∷ 8 ∷ []) ≡ codes "1:0:0:4::8"
unfolding hex_groups_text hex
text_with_the_last_longest_run = refl

text_of_an_onion : addr_text (address Onion (replicate 32 0xab)) ≡ codes "onion:abababababababababababababababababababababababababababababababab"
unfolding encode_with
text_of_an_onion = refl

text_of_an_internal_name : addr_text (address Internal (1 ∷ 2 ∷ 3 ∷ 4 ∷ 5 ∷ 6 ∷ 7 ∷ 8 ∷ 9 ∷ 10 ∷ [])) ≡ codes "internal:0102030405060708090a"
unfolding encode_with
text_of_an_internal_name = refl

-- digits are read in either case
upper_case_digits : IsHexOf Internal (codes "01020304aBcDEf08090A") (address Internal (1 ∷ 2 ∷ 3 ∷ 4 ∷ 0xab ∷ 0xcd ∷ 0xef ∷ 8 ∷ 9 ∷ 10 ∷ []))
unfolding decode_pairs
upper_case_digits = record { network = refl; bytes = refl }

-- the keys of the networks that have no old form are their own bytes and the port
keys_without_old_form : map (λ a. key_bytes (record { addr = a; port = 0x208d })) (address Onion (replicate 32 1) ∷ address I2p (replicate 32 2) ∷ address Cjdns (0xfc ∷ replicate 15 3) ∷ []) ≡ (replicate 32 1 ++ 0x20 ∷ 0x8d ∷ []) ∷ (replicate 32 2 ++ 0x20 ∷ 0x8d ∷ []) ∷ (0xfc ∷ replicate 15 3 ++ 0x20 ∷ 0x8d ∷ []) ∷ []
keys_without_old_form = refl

key_of_an_internal_name : key_bytes (record { addr = address Internal (replicate 10 7); port = 1 }) ≡ internal_prefix ++ replicate 10 7 ++ 0 ∷ 1 ∷ []
key_of_an_internal_name = refl

old_forms : map v1_bytes (ipv4 1 2 3 4 ∷ address Ipv6 (replicate 16 9) ∷ address Internal (replicate 10 7) ∷ address Onion (replicate 32 1) ∷ address I2p (replicate 32 2) ∷ address Cjdns (0xfc ∷ replicate 15 3) ∷ []) ≡ Some (mapped_prefix ++ 1 ∷ 2 ∷ 3 ∷ 4 ∷ []) ∷ Some (replicate 16 9) ∷ Some (internal_prefix ++ replicate 10 7) ∷ None ∷ None ∷ None ∷ []
old_forms = refl

mapped_is_ipv4 : from_v1 (mapped_prefix ++ 1 ∷ 2 ∷ 3 ∷ 4 ∷ []) ≡ ipv4 1 2 3 4
mapped_is_ipv4 = refl

internal_has_its_prefix : from_v1 (internal_prefix ++ replicate 10 7) ≡ address Internal (replicate 10 7)
internal_has_its_prefix = refl

torv2_is_zero : from_v1 (torv2_prefix ++ replicate 10 7) ≡ address Ipv6 (replicate 16 0)
torv2_is_zero = refl

-- one bit before the mapped prefix is IPv6
next_to_mapped : from_v1 (replicate 10 0 ++ 0xff ∷ 0xfe ∷ 1 ∷ 2 ∷ 3 ∷ 4 ∷ []) ≡ address Ipv6 (replicate 10 0 ++ 0xff ∷ 0xfe ∷ 1 ∷ 2 ∷ 3 ∷ 4 ∷ [])
next_to_mapped = refl
