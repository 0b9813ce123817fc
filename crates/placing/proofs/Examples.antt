-- Worked examples of the definitions, each computed.
use Rattle.std.specs.Prelude.{◌≡◌, ℕ, List, [], ◌∷◌, replicate, reverse, Some, None, codes, refl}
use Rattle.sha2.specs.Sha256.{sha256, digest_bytes, hash_after, compress, rounds, schedule, first_words}
use Rattle.wire_num.specs.CompactSize.{compact_size}
use Rattle.bit_code.specs.Coder.{low_digits, file_bits}
use Rattle.net_addr.specs.Address.{Address}
use Rattle.net_addr.specs.OldForm.{address}
use Rattle.net_addr.specs.Ranges.{in_range}
use Rattle.net_addr.specs.declared.net.Net.TheVariants.{Ipv4, Ipv6, Onion, I2p, Cjdns}
use Rattle.net_addr.specs.declared.peer.Peer.{Peer}
use Rattle.asmap_vm.specs.Code.{asn_of, meaning}
use Rattle.asmap_vm.specs.Code.Tree.{Return}
use Rattle.asmap_vm.specs.Asmap.{Asmap}
use Rattle.placing.specs.declared.sum.SumRule.TheVariants.{Bytes, Bits}
use Rattle.placing.specs.Places.{Places, double_sha256, cheap_hash, group, sum_input, sum_by, sum_of, new_bucket, new_slot, tried_bucket, tried_slot}

abbrev ipv4 : ℕ → ℕ → ℕ → ℕ → Address
ipv4 a b c d = address Ipv4 (a ∷ b ∷ c ∷ d ∷ [])

-- the key of Bitcoin Core's own tests, the double hash of 01 00 00 00
abbrev core_key : List ℕ
core_key =
    0x41 ∷ 0xf7 ∷ 0x58 ∷ 0xf2 ∷ 0xe5 ∷ 0xcc ∷ 0x07 ∷ 0x8d ∷ 0x37 ∷ 0x95 ∷ 0xb4 ∷ 0xfc ∷ 0x0c ∷ 0xb6 ∷ 0x0c ∷ 0x2d ∷ 0x73 ∷ 0x5f ∷ 0xa9 ∷ 0x2c ∷ 0xc0 ∷ 0x20 ∷ 0x57 ∷ 0x2b ∷ 0xdc ∷ 0x98 ∷ 0x2d ∷ 0xd2 ∷ 0xd5 ∷ 0x64 ∷ 0xd1 ∷ 0x1b ∷ []

-- its placer without an asmap
abbrev core : Places
core = record { key = core_key; map = None; rule = Bytes }

abbrev one : Peer
one = record { addr = ipv4 250 1 1 1; port = 8333 }

abbrev two : Peer
two = record { addr = ipv4 250 1 2 1; port = 8333 }

core_key_is : double_sha256 (1 ∷ 0 ∷ 0 ∷ 0 ∷ []) ≡ core_key
unfolding double_sha256 sha256 digest_bytes hash_after compress rounds schedule first_words
core_key_is = refl

hash_of_hello : cheap_hash (codes "hello") ≡ 0x48510790dfc99595
unfolding cheap_hash double_sha256 sha256 digest_bytes hash_after compress rounds schedule first_words
hash_of_hello = refl

-- as `caddrinfo_get_tried_bucket_legacy` and `caddrinfo_get_new_bucket_legacy` of Bitcoin Core's
-- tests have them
core_tried_bucket : tried_bucket core one ≡ 40
unfolding tried_bucket compact_size in_range cheap_hash double_sha256 sha256 digest_bytes hash_after compress rounds schedule first_words
core_tried_bucket = refl

core_new_bucket : new_bucket core two two.addr ≡ 786
unfolding new_bucket compact_size in_range cheap_hash double_sha256 sha256 digest_bytes hash_after compress rounds schedule first_words
core_new_bucket = refl

core_tried_slot : tried_slot core one 40 ≡ 28
unfolding tried_slot compact_size cheap_hash double_sha256 sha256 digest_bytes hash_after compress rounds schedule first_words
core_tried_slot = refl

core_new_slot : new_slot core two 786 ≡ 55
unfolding new_slot compact_size cheap_hash double_sha256 sha256 digest_bytes hash_after compress rounds schedule first_words
core_new_slot = refl

-- an asmap that gives 7 to every address
abbrev everything : Asmap
everything = record { file = 0 ∷ 0 ∷ 0 ∷ []; tree = Return 7 }

abbrev by_map : Places
by_map = record { key = replicate 32 0; map = Some everything; rule = Bytes }

group_by_the_map : group by_map (ipv4 8 8 8 8) ≡ 2 ∷ 7 ∷ 0 ∷ 0 ∷ 0 ∷ []
unfolding in_range asn_of meaning
group_by_the_map = refl

-- the checksum is that of the file's bytes, or of its bits after their number
sum_of_the_map : sum_of by_map ≡ double_sha256 (0 ∷ 0 ∷ 0 ∷ [])
sum_of_the_map = refl

sum_of_the_bits : sum_by Bits (Some everything) ≡ double_sha256 (24 ∷ replicate 24 0)
unfolding compact_size file_bits low_digits
sum_of_the_bits = refl

low_bit_first : sum_input Bits (0x05 ∷ []) ≡ 8 ∷ 1 ∷ 0 ∷ 1 ∷ 0 ∷ 0 ∷ 0 ∷ 0 ∷ 0 ∷ []
unfolding compact_size file_bits low_digits
low_bit_first = refl

-- the asmap of Bitcoin Core's own tests, and its checksum as feature_asmap.py has it, the last byte
-- first
abbrev core_file : List ℕ
core_file =
    0xfb ∷ 0x03 ∷ 0xec ∷ 0x0f ∷ 0xb0 ∷ 0x3f ∷ 0xc0 ∷ 0xfe ∷ 0x00 ∷ 0xfb ∷ 0x03 ∷ 0xec
    ∷ 0x0f ∷ 0xb0 ∷ 0x3f ∷ 0xc0 ∷ 0xfe ∷ 0x00 ∷ 0xfb ∷ 0x03 ∷ 0xec ∷ 0x0f ∷ 0xb0 ∷ 0xff
    ∷ 0xff ∷ 0xfe ∷ 0xff ∷ 0xed ∷ 0xb0 ∷ 0xff ∷ 0xd4 ∷ 0x86 ∷ 0xe6 ∷ 0x28 ∷ 0x29 ∷ 0x00
    ∷ 0x00 ∷ 0x40 ∷ 0x00 ∷ 0x00 ∷ 0x40 ∷ 0x00 ∷ 0x40 ∷ 0x99 ∷ 0x01 ∷ 0x00 ∷ 0x80 ∷ 0x01
    ∷ 0x80 ∷ 0x04 ∷ 0x00 ∷ 0x00 ∷ 0x05 ∷ 0x00 ∷ 0x06 ∷ 0x00 ∷ 0x1c ∷ 0xf0 ∷ 0x39 ∷ []

abbrev printed_sum : List ℕ
printed_sum =
    0xfe ∷ 0xc6 ∷ 0x1f ∷ 0xa2 ∷ 0x1a ∷ 0x9f ∷ 0x46 ∷ 0xf3 ∷ 0xb1 ∷ 0x7b ∷ 0xdc ∷ 0xd6
    ∷ 0x60 ∷ 0xd7 ∷ 0xf4 ∷ 0xcd ∷ 0x90 ∷ 0xb9 ∷ 0x66 ∷ 0xaa ∷ 0xd3 ∷ 0xae ∷ 0xc5 ∷ 0x93
    ∷ 0xc9 ∷ 0x9b ∷ 0x35 ∷ 0xf0 ∷ 0xac ∷ 0xa1 ∷ 0x58 ∷ 0x53 ∷ []

sum_of_core_file : reverse (double_sha256 (sum_input Bits core_file)) ≡ printed_sum
unfolding compact_size file_bits low_digits double_sha256 sha256 digest_bytes hash_after compress rounds schedule first_words
sum_of_core_file = refl

-- an address that is not looked up, and one without an asmap
not_looked_up : group by_map (address Onion (replicate 32 0xab)) ≡ 3 ∷ 0xaf ∷ []
unfolding in_range
not_looked_up = refl

no_map : group core (ipv4 8 8 8 8) ≡ 1 ∷ 8 ∷ 8 ∷ []
unfolding in_range
no_map = refl

sum_without_a_map : sum_of core ≡ replicate 32 0
sum_without_a_map = refl

-- The eight places of Bitcoin Core's functional test of `getrawaddrman` (rpc_net.py): under the key
-- 1, each peer announced by itself.
abbrev one_key : List ℕ
one_key = 1 ∷ replicate 31 0

abbrev under_one : Places
under_one = record { key = one_key; map = None; rule = Bytes }

abbrev new_place : Peer → ℕ × ℕ
new_place peer =
    let bucket = new_bucket under_one peer peer.addr in (bucket, new_slot under_one peer bucket)

abbrev tried_place : Peer → ℕ × ℕ
tried_place peer =
    let bucket = tried_bucket under_one peer in (bucket, tried_slot under_one peer bucket)

abbrev peer_of : Address → ℕ → Peer
peer_of addr port = record { addr = addr; port = port }

-- 2.0.0.0:8333
new_ipv4 : new_place (peer_of (address Ipv4
    (0x02 ∷ 0x00 ∷ 0x00 ∷ 0x00 ∷ [])) 8333) ≡ (82, 8)
unfolding new_bucket new_slot compact_size in_range cheap_hash double_sha256 sha256 digest_bytes hash_after compress rounds schedule first_words
new_ipv4 = refl

-- fc00:1:2:3:4:5:6:7, port 8333
new_cjdns : new_place (peer_of (address Cjdns
    (0xfc ∷ 0x00 ∷ 0x00 ∷ 0x01 ∷ 0x00 ∷ 0x02 ∷ 0x00 ∷ 0x03 ∷ 0x00 ∷ 0x04 ∷ 0x00 ∷ 0x05
    ∷ 0x00 ∷ 0x06 ∷ 0x00 ∷ 0x07 ∷ [])) 8333) ≡ (336, 24)
unfolding new_bucket new_slot compact_size in_range cheap_hash double_sha256 sha256 digest_bytes hash_after compress rounds schedule first_words
new_cjdns = refl

-- c4gfnttsuwqomiygupdqqqyy5y5emnk5c73hrfvatri67prd7vyq.b32.i2p:8333
new_i2p : new_place (peer_of (address I2p
    (0x17 ∷ 0x0c ∷ 0x56 ∷ 0xce ∷ 0x72 ∷ 0xa5 ∷ 0xa0 ∷ 0xe6 ∷ 0x23 ∷ 0x06 ∷ 0xa3 ∷ 0xc7
    ∷ 0x08 ∷ 0x43 ∷ 0x18 ∷ 0xee ∷ 0x3a ∷ 0x46 ∷ 0x35 ∷ 0x5d ∷ 0x17 ∷ 0xf6 ∷ 0x78 ∷ 0x96
    ∷ 0xa0 ∷ 0x9c ∷ 0x51 ∷ 0xef ∷ 0xbe ∷ 0x23 ∷ 0xfd ∷ 0x71 ∷ [])) 8333) ≡ (963, 46)
unfolding new_bucket new_slot compact_size in_range cheap_hash double_sha256 sha256 digest_bytes hash_after compress rounds schedule first_words
new_i2p = refl

-- [2803:0:1234:abcd::1]:45324
new_ipv6 : new_place (peer_of (address Ipv6
    (0x28 ∷ 0x03 ∷ 0x00 ∷ 0x00 ∷ 0x12 ∷ 0x34 ∷ 0xab ∷ 0xcd ∷ 0x00 ∷ 0x00 ∷ 0x00 ∷ 0x00
    ∷ 0x00 ∷ 0x00 ∷ 0x00 ∷ 0x01 ∷ [])) 45324) ≡ (613, 6)
unfolding new_bucket new_slot compact_size in_range cheap_hash double_sha256 sha256 digest_bytes hash_after compress rounds schedule first_words
new_ipv6 = refl

-- 1.2.3.4:8333
tried_ipv4 : tried_place (peer_of (address Ipv4
    (0x01 ∷ 0x02 ∷ 0x03 ∷ 0x04 ∷ [])) 8333) ≡ (6, 33)
unfolding tried_bucket tried_slot compact_size in_range cheap_hash double_sha256 sha256 digest_bytes hash_after compress rounds schedule first_words
tried_ipv4 = refl

-- [1233:3432:2434:2343:3234:2345:6546:4534]:8333
tried_ipv6 : tried_place (peer_of (address Ipv6
    (0x12 ∷ 0x33 ∷ 0x34 ∷ 0x32 ∷ 0x24 ∷ 0x34 ∷ 0x23 ∷ 0x43 ∷ 0x32 ∷ 0x34 ∷ 0x23 ∷ 0x45
    ∷ 0x65 ∷ 0x46 ∷ 0x45 ∷ 0x34 ∷ [])) 8333) ≡ (197, 34)
unfolding tried_bucket tried_slot compact_size in_range cheap_hash double_sha256 sha256 digest_bytes hash_after compress rounds schedule first_words
tried_ipv6 = refl

-- pg6mmjiyjmcrsslvykfwnntlaru7p5svn6y2ymmju6nubxndf4pscryd.onion:8333
tried_onion : tried_place (peer_of (address Onion
    (0x79 ∷ 0xbc ∷ 0xc6 ∷ 0x25 ∷ 0x18 ∷ 0x4b ∷ 0x05 ∷ 0x19 ∷ 0x49 ∷ 0x75 ∷ 0xc2 ∷ 0x8b
    ∷ 0x66 ∷ 0xb6 ∷ 0x6b ∷ 0x04 ∷ 0x69 ∷ 0xf7 ∷ 0xf6 ∷ 0x55 ∷ 0x6f ∷ 0xb1 ∷ 0xac ∷ 0x31
    ∷ 0x89 ∷ 0xa7 ∷ 0x9b ∷ 0x40 ∷ 0xdd ∷ 0xa3 ∷ 0x2f ∷ 0x1f ∷ [])) 8333) ≡ (72, 61)
unfolding tried_bucket tried_slot compact_size in_range cheap_hash double_sha256 sha256 digest_bytes hash_after compress rounds schedule first_words
tried_onion = refl

-- nrfj6inpyf73gpkyool35hcmne5zwfmse3jl3aw23vk7chdemalyaqad.onion:45324
tried_other_onion : tried_place (peer_of (address Onion
    (0x6c ∷ 0x4a ∷ 0x9f ∷ 0x21 ∷ 0xaf ∷ 0xc1 ∷ 0x7f ∷ 0xb3 ∷ 0x3d ∷ 0x58 ∷ 0x73 ∷ 0x97
    ∷ 0xbe ∷ 0x9c ∷ 0x4c ∷ 0x69 ∷ 0x3b ∷ 0x9b ∷ 0x15 ∷ 0x92 ∷ 0x26 ∷ 0xd2 ∷ 0xbd ∷ 0x82
    ∷ 0xda ∷ 0xdd ∷ 0x55 ∷ 0xf1 ∷ 0x1c ∷ 0x64 ∷ 0x60 ∷ 0x17 ∷ [])) 45324) ≡ (139, 46)
unfolding tried_bucket tried_slot compact_size in_range cheap_hash double_sha256 sha256 digest_bytes hash_after compress rounds schedule first_words
tried_other_onion = refl
