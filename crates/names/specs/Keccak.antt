-- Keccak-f[1600] and SHA3-256 (FIPS 202) on messages of at most 135 bytes, which have one block. A
-- state is a list of 25 lanes, the lane of x and y at the index x + 5 y; a lane is a number below
-- 2 ^ 64, whose bit z has the weight 2 ^ z (3.1.2). Section numbers are the standard's.
use Rattle.std.specs.Prelude.{ℕ, zero, suc, ◌==◌, ◌+◌, ◌*◌, ◌/◌, ◌%◌, List, [], ◌∷◌, ◌++◌, length, map, bit_and, bit_xor, slice_index, slice_set, if◌then◌else◌, nat_le, nat_lt}
use Rattle.std.specs.List.{range_with_len}
use Rattle.std.specs.Int.{w64, bit_not, rotate_left, from_le_bytes, to_le_bytes}

-- the rotation of each lane, by its index (3.2.2)
abbrev pub offsets : List ℕ
offsets =
    0 ∷ 1 ∷ 62 ∷ 28 ∷ 27 ∷ 36 ∷ 44 ∷ 6 ∷ 55 ∷ 20 ∷ 3 ∷ 10 ∷ 43 ∷ 25 ∷ 39 ∷ 41 ∷ 45 ∷ 15 ∷ 21 ∷ 8
    ∷ 18 ∷ 2 ∷ 61 ∷ 56 ∷ 14 ∷ []

-- RC 0, …, RC 23 (3.2.5)
abbrev pub round_constants : List ℕ
round_constants =
    0x0000000000000001 ∷ 0x0000000000008082 ∷ 0x800000000000808a ∷ 0x8000000080008000 ∷
    0x000000000000808b ∷ 0x0000000080000001 ∷ 0x8000000080008081 ∷ 0x8000000000008009 ∷
    0x000000000000008a ∷ 0x0000000000000088 ∷ 0x0000000080008009 ∷ 0x000000008000000a ∷
    0x000000008000808b ∷ 0x800000000000008b ∷ 0x8000000000008089 ∷ 0x8000000000008003 ∷
    0x8000000000008002 ∷ 0x8000000000000080 ∷ 0x000000000000800a ∷ 0x800000008000000a ∷
    0x8000000080008081 ∷ 0x8000000000008080 ∷ 0x0000000080000001 ∷ 0x8000000080008008 ∷ []

-- C x (3.2.1, step 1)
unfoldable pub parity : List ℕ → ℕ → ℕ
parity a x =
    bit_xor (bit_xor (bit_xor (bit_xor (slice_index a x) (slice_index a (x + 5)))
    (slice_index a (x + 10))) (slice_index a (x + 15))) (slice_index a (x + 20))

-- θ of the lane at an index (3.2.1, steps 2 and 3)
abbrev pub theta_lane : List ℕ → ℕ → ℕ
theta_lane a i =
    bit_xor (slice_index a i)
    (bit_xor (parity a ((i + 4) % 5)) (rotate_left w64 (parity a ((i + 1) % 5)) 1))

-- θ of all lanes (3.2.1).
unfoldable pub theta : List ℕ → List ℕ
theta a = map (theta_lane a) (range_with_len 0 25)

-- where the lane that π puts at an index comes from: (x, y) from ((x + 3 y) mod 5, x) (3.2.3)
abbrev pub origin : ℕ → ℕ
origin i = (i % 5 + 3 * (i / 5)) % 5 + 5 * (i % 5)

-- π of ρ of the lane at an index (3.2.2, 3.2.3)
abbrev pub moved_lane : List ℕ → ℕ → ℕ
moved_lane a i = rotate_left w64 (slice_index a (origin i)) (slice_index offsets (origin i))

-- π of ρ of all lanes (3.2.2, 3.2.3).
unfoldable pub moved : List ℕ → List ℕ
moved a = map (moved_lane a) (range_with_len 0 25)

-- χ of the lane at an index (3.2.4)
abbrev pub chi_lane : List ℕ → ℕ → ℕ
chi_lane a i =
    bit_xor (slice_index a i)
    (bit_and (bit_not w64 (slice_index a (i / 5 * 5 + (i + 1) % 5)))
    (slice_index a (i / 5 * 5 + (i + 2) % 5)))

-- χ of all lanes (3.2.4).
unfoldable pub chi : List ℕ → List ℕ
chi a = map (chi_lane a) (range_with_len 0 25)

-- ι of a round (3.2.5)
abbrev pub iota : List ℕ → ℕ → List ℕ
iota a index = slice_set a 0 (bit_xor (slice_index a 0) (slice_index round_constants index))

-- Rnd (3.3)
abbrev pub round : List ℕ → ℕ → List ℕ
round a index = iota (chi (moved (theta a))) index

-- the state after the first n rounds (3.3)
unfoldable pub keccak_f : List ℕ → ℕ → List ℕ
keccak_f a zero = a
keccak_f a (suc n) = round (keccak_f a n) n

-- a byte of a message of at most 135 bytes with its padding: 6 after the message, which are the two
-- bits 01 of SHA-3 and the first one of the padding, then zeros, and 128 added to the last byte
-- (6.1, 5.1, B.2)
unfoldable pub padded_byte : List ℕ → ℕ → ℕ
padded_byte m i =
    if nat_lt i (length m) then slice_index m i
    else ((if i == length m then 6 else 0) + (if i == 135 then 128 else 0))

-- the block of a message of at most 135 bytes
unfoldable pub padded_block : List ℕ → List ℕ
padded_block m = map (padded_byte m) (range_with_len 0 136)

-- the lane at an index of a block; the capacity is zero (4, 3.1.2)
unfoldable pub block_lane : List ℕ → ℕ → ℕ
block_lane b i = if nat_le 17 i then 0 else
    from_le_bytes w64 (slice_index b (8 * i) ∷ slice_index b (8 * i + 1) ∷ slice_index b (8 * i + 2)
    ∷ slice_index b (8 * i + 3) ∷ slice_index b (8 * i + 4) ∷ slice_index b (8 * i + 5)
    ∷ slice_index b (8 * i + 6) ∷ slice_index b (8 * i + 7) ∷ [])

-- The lanes of a block (3.1.2).
unfoldable pub lanes : List ℕ → List ℕ
lanes b = map (block_lane b) (range_with_len 0 25)

-- the bytes of the first n lanes (4, 3.1.3)
unfoldable pub digest : List ℕ → ℕ → List ℕ
digest s zero = []
digest s (suc n) = digest s n ++ to_le_bytes w64 (slice_index s n)

-- SHA3-256 of a message of at most 135 bytes (6.1)
unfoldable pub sha3_256 : List ℕ → List ℕ
sha3_256 m = digest (keccak_f (lanes (padded_block m)) 24) 4
