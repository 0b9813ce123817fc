-- The tables against the standard's algorithms, and digests, so that a wrong constant or step in
-- the spec does not check.
use Rattle.std.proofs.Common.{◌≡◌, ℕ, zero, suc, ◌+◌, ◌-◌, ◌*◌, ◌/◌, ◌%◌, ◌^◌, ◌==◌, List, [], ◌∷◌, cond, codes, replicate, refl, set, map}
use Rattle.std.specs.List.{range_with_len}
use Rattle.std.specs.Prelude.{bit_xor}
use Rattle.names.specs.Keccak.{chi, digest, keccak_f, lanes, moved, offsets, padded_block, padded_byte, block_lane, parity, round_constants, sha3_256, theta}

-- algorithm 2: from (x, y) at step t on, n steps (3.2.2)
offsets_by : List ℕ → ℕ → ℕ → ℕ → ℕ → List ℕ
offsets_by o zero t x y = o
offsets_by o (suc n) t x y =
    offsets_by (set o (x + 5 * y) ((t + 1) * (t + 2) / 2 % 64)) n (t + 1) y ((2 * x + 3 * y) % 5)

offsets-standard : offsets_by (replicate 25 0) 24 0 1 0 ≡ offsets
unfolding offsets_by
offsets-standard = refl

-- the register of algorithm 5 after n steps, its bit of the weight 2 ^ i the standard's R[i]
register : ℕ → ℕ
register zero = 1
register (suc n) = let r = register n * 2 in cond (256 == r / 256 * 256) (bit_xor r 0x171) r

-- RC of a round: the bit 2 ^ j - 1 is rc (j + 7 index) (3.2.5)
constant_by : ℕ → ℕ → ℕ
constant_by index zero = 0
constant_by index (suc j) = constant_by index j + register (j + 7 * index) % 2 * 2 ^ (2 ^ j - 1)

round_constants-standard : map (λ i. constant_by i 7) (range_with_len 0 24) ≡ round_constants
unfolding register constant_by
round_constants-standard = refl

digest_of_nothing : sha3_256 [] ≡
    0xa7 ∷ 0xff ∷ 0xc6 ∷ 0xf8 ∷ 0xbf ∷ 0x1e ∷ 0xd7 ∷ 0x66 ∷ 0x51 ∷ 0xc1 ∷ 0x47 ∷ 0x56 ∷ 0xa0 ∷
    0x61 ∷ 0xd6 ∷ 0x62 ∷ 0xf5 ∷ 0x80 ∷ 0xff ∷ 0x4d ∷ 0xe4 ∷ 0x3b ∷ 0x49 ∷ 0xfa ∷ 0x82 ∷ 0xd8 ∷
    0x0a ∷ 0x4b ∷ 0x80 ∷ 0xf8 ∷ 0x43 ∷ 0x4a ∷ []
unfolding parity theta moved chi keccak_f padded_byte padded_block block_lane lanes digest sha3_256
digest_of_nothing = refl

digest_of_abc : sha3_256 (codes "abc") ≡
    0x3a ∷ 0x98 ∷ 0x5d ∷ 0xa7 ∷ 0x4f ∷ 0xe2 ∷ 0x25 ∷ 0xb2 ∷ 0x04 ∷ 0x5c ∷ 0x17 ∷ 0x2d ∷ 0x6b ∷ 0xd3 ∷ 0x90 ∷ 0xbd ∷
    0x85 ∷ 0x5f ∷ 0x08 ∷ 0x6e ∷ 0x3e ∷ 0x9d ∷ 0x52 ∷ 0x5b ∷ 0x46 ∷ 0xbf ∷ 0xe2 ∷ 0x45 ∷ 0x11 ∷ 0x43 ∷ 0x15 ∷ 0x32 ∷ []
unfolding parity theta moved chi keccak_f padded_byte padded_block block_lane lanes digest sha3_256
digest_of_abc = refl
