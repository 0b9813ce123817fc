-- Base 32 of RFC 4648, section 10, in lower case and without padding, and names from Bitcoin Core's
-- unit tests (net_tests.cpp), computed over the definitions.
use Rattle.std.proofs.Common.{◌≡◌, [], ◌∷◌, codes, refl}
use Rattle.net_addr.specs.declared.net.Net.TheVariants.{Onion, I2p}
use Rattle.names.specs.Keccak.{block_lane, chi, digest, keccak_f, lanes, moved, padded_block, padded_byte, parity, sha3_256, theta}
use Rattle.names.specs.Base32.{base32}
use Rattle.names.specs.Name.{encoded, name_by}

base32_of_nothing : base32 [] ≡ []
unfolding base32
base32_of_nothing = refl

base32_of_f : base32 (codes "f") ≡ codes "my"
unfolding base32
base32_of_f = refl

base32_of_fo : base32 (codes "fo") ≡ codes "mzxq"
unfolding base32
base32_of_fo = refl

base32_of_foo : base32 (codes "foo") ≡ codes "mzxw6"
unfolding base32
base32_of_foo = refl

base32_of_foob : base32 (codes "foob") ≡ codes "mzxw6yq"
unfolding base32
base32_of_foob = refl

base32_of_fooba : base32 (codes "fooba") ≡ codes "mzxw6ytb"
unfolding base32
base32_of_fooba = refl

base32_of_foobar : base32 (codes "foobar") ≡ codes "mzxw6ytboi"
unfolding base32
base32_of_foobar = refl

onion_of_core : name_by Onion (0x79 ∷ 0xbc ∷ 0xc6 ∷ 0x25 ∷ 0x18 ∷ 0x4b ∷ 0x05 ∷ 0x19 ∷ 0x49 ∷ 0x75 ∷ 0xc2 ∷ 0x8b ∷ 0x66 ∷ 0xb6 ∷ 0x6b ∷ 0x04 ∷ 0x69 ∷ 0xf7 ∷ 0xf6 ∷ 0x55 ∷ 0x6f ∷ 0xb1 ∷ 0xac ∷ 0x31 ∷ 0x89 ∷ 0xa7 ∷ 0x9b ∷ 0x40 ∷ 0xdd ∷ 0xa3 ∷ 0x2f ∷ 0x1f ∷ [])
    ≡ codes "pg6mmjiyjmcrsslvykfwnntlaru7p5svn6y2ymmju6nubxndf4pscryd.onion"
unfolding parity theta moved chi keccak_f padded_byte padded_block block_lane lanes digest sha3_256 base32 encoded
onion_of_core = refl

i2p_of_core : name_by I2p (0xa2 ∷ 0x89 ∷ 0x4d ∷ 0xab ∷ 0xae ∷ 0xc0 ∷ 0x8c ∷ 0x00 ∷ 0x51 ∷ 0xa4 ∷ 0x81 ∷ 0xa6 ∷ 0xda ∷ 0xc8 ∷ 0x8b ∷ 0x64 ∷ 0xf9 ∷ 0x82 ∷ 0x32 ∷ 0xae ∷ 0x42 ∷ 0xd4 ∷ 0xb6 ∷ 0xfd ∷ 0x2f ∷ 0xa8 ∷ 0x19 ∷ 0x52 ∷ 0xdf ∷ 0xe3 ∷ 0x6a ∷ 0x87 ∷ [])
    ≡ codes "ukeu3k5oycgaauneqgtnvselmt4yemvoilkln7jpvamvfx7dnkdq.b32.i2p"
unfolding base32 encoded
i2p_of_core = refl
