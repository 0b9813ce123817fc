-- Buckets and slots: where in the tables a peer can be (`AddrInfo::GetNewBucket`, `GetTriedBucket`
-- and `GetBucketPosition` in addrman.cpp of Bitcoin Core).
use Rattle.std.specs.Prelude.{◌≡◌, ℕ, ◌<◌, ◌%◌, List, [], ◌∷◌, ◌++◌, length, take, map, replicate, All, Option, Some, None, IfSome, Bool, true, false, if◌then◌else◌, refl}
use Rattle.std.specs.Int.{w32, w64, to_le_bytes, from_le_bytes, from_bool}
use Rattle.std.specs.List.{concat, range_with_len}
use Rattle.std.specs.Coded.{Coded, code_by, coded×, coded_ℕ, coded_bool, coded_list, coded_option}
use Rattle.sha2.specs.Sha256.{sha256}
use Rattle.bit_code.specs.Coder.{file_bits}
use Rattle.slot_grid.specs.declared.sizes.TheConstants.{NEW_BUCKETS, SLOTS, TRIED_BUCKETS}
use Rattle.wire_num.specs.CompactSize.{compact_size}
use Rattle.net_addr.specs.Address.{Address}
use Rattle.net_addr.specs.OldForm.{key_bytes}
use Rattle.net_addr.specs.declared.peer.Peer.{Peer}
use Rattle.net_group.specs.Group.{group_of, asmap_bits}
use Rattle.asmap_vm.specs.Code.{Tree, asn_of}
use Rattle.asmap_vm.specs.Asmap.{Asmap, IsAsmap, coded_asmap}
use Rattle.placing.specs.declared.placer.TheConstants.{GROUP_BUCKETS, SOURCE_BUCKETS}
use Rattle.placing.specs.declared.sum.SumRule.{SumRule}
use Rattle.placing.specs.declared.sum.SumRule.TheVariants.{Bytes, Bits}

-- SHA-256 of SHA-256 (FIPS 180-4)
unfoldable pub double_sha256 : List ℕ → List ℕ
double_sha256 bytes = sha256 (sha256 bytes)

-- the first eight bytes of the double hash, the low byte first (`HashWriter::GetCheapHash`)
unfoldable pub cheap_hash : List ℕ → ℕ
cheap_hash bytes = from_le_bytes w64 (take 8 (double_sha256 bytes))

-- in a hash, a byte list comes after its length
abbrev pub sized : List ℕ → List ℕ
sized bytes = compact_size (length bytes) ++ bytes

-- the hash of some parts in order
abbrev pub hash_of : List (List ℕ) → ℕ
hash_of parts = cheap_hash (concat parts)

-- a rule is stored as whether it is the one of bits
abbrev is_bits : SumRule → Bool
is_bits Bytes = false
is_bits Bits = true

-- The rule follows from how it is stored.
pub rule_of_is_bits : (rule : SumRule) → (if is_bits rule then Bits else Bytes) ≡ rule
rule_of_is_bits Bytes = refl
rule_of_is_bits Bits = refl

-- The code of a rule, so that it can be part of the value of a model.
abbrev coded_rule : Coded SumRule
coded_rule =
    code_by Bool coded_bool is_bits (λ bits. if bits then Bits else Bytes) rule_of_is_bits

-- what buckets and slots depend on: a node's secret key of 32 bytes, and its asmap if it has one;
-- and what of the asmap's file is hashed for its checksum
pub record Places : Type 0 where
  pub key : List ℕ
  pub map : Option Asmap
  pub rule : SumRule

-- The code of places, so that they can be part of the value of a model.
abbrev pub coded_places : Coded Places
coded_places =
    code_by (List ℕ × (Option Asmap × SumRule))
    (coded× (coded_list coded_ℕ) (coded× (coded_option coded_asmap) coded_rule))
    (λ p. (p.key, (p.map, p.rule)))
    (λ p. record { key = p.0; map = p.1.0; rule = p.1.1 }) (λ _. refl)

-- the key has 32 bytes, and the asmap is one that is accepted
pub record IsPlaces (places : Places) : Type 0 where
  pub key_length : length places.key ≡ 32
  pub key_bytes : All (λ b. b < 256) places.key
  pub map : IfSome places.map IsAsmap

-- the number that an asmap's tree gives for the bits that are looked up, 0 if none are
abbrev pub number_by : Tree → Option ℕ → ℕ
number_by tree None = 0
number_by tree (Some bits) = asn_of tree bits

-- the number of the autonomous system that announces the address, 0 if none is known
-- (`NetGroupManager::GetMappedAS`)
abbrev pub asn : Option Asmap → Address → ℕ
asn None a = 0
asn (Some m) a = number_by m.tree (asmap_bits a)

-- the bits of a file, one byte each
abbrev pub bit_bytes : List ℕ → List ℕ
bit_bytes file = map from_bool (file_bits file)

-- what of an asmap's file is hashed: its bytes; or its bits, one byte each, after their number
-- (`NetGroupManager::GetAsmapChecksum` of Bitcoin Core 24 to 30, from memory)
abbrev pub sum_input : SumRule → List ℕ → List ℕ
sum_input Bytes file = file
sum_input Bits file = sized (bit_bytes file)

-- the checksum of an asmap by a rule, 32 zero bytes if there is none
abbrev pub sum_by : SumRule → Option Asmap → List ℕ
sum_by rule None = replicate 32 0
sum_by rule (Some m) = double_sha256 (sum_input rule m.file)

-- the checksum of a node's asmap
abbrev pub sum_of : Places → List ℕ
sum_of places = sum_by places.rule places.map

-- The group of an address by the node's asmap (`NetGroupManager::GetGroup` in netgroup.cpp of
-- Bitcoin Core).
abbrev pub group : Places → Address → List ℕ
group places a = group_of a (asn places.map a)

-- The bucket of the new table that has this index among the buckets for peers that sources of one
-- group announce.
abbrev pub source_bucket : Places → List ℕ → ℕ → ℕ
source_bucket places source_group i =
    hash_of (places.key ∷ sized source_group ∷ to_le_bytes w64 i ∷ []) % NEW_BUCKETS

-- The buckets of the new table for peers that sources of one group announce, at most 64 different
-- ones (`ADDRMAN_NEW_BUCKETS_PER_SOURCE_GROUP`).
abbrev pub source_buckets : Places → List ℕ → List ℕ
source_buckets places source_group =
    map (source_bucket places source_group) (range_with_len 0 SOURCE_BUCKETS)

-- The bucket of the tried table that has this index among the buckets for peers of one group.
abbrev pub group_bucket : Places → List ℕ → ℕ → ℕ
group_bucket places peer_group i =
    hash_of (places.key ∷ sized peer_group ∷ to_le_bytes w64 i ∷ []) % TRIED_BUCKETS

-- The buckets of the tried table for peers of one group, at most 8 different ones
-- (`ADDRMAN_TRIED_BUCKETS_PER_GROUP`).
abbrev pub group_buckets : Places → List ℕ → List ℕ
group_buckets places peer_group =
    map (group_bucket places peer_group) (range_with_len 0 GROUP_BUCKETS)

-- the index, among the source group's buckets, of the bucket for peers of `peer_group`
abbrev pub source_choice : Places → List ℕ → List ℕ → ℕ
source_choice places peer_group source_group =
    hash_of (places.key ∷ sized peer_group ∷ sized source_group ∷ []) % SOURCE_BUCKETS

-- the bucket of the new table for a peer that a source announces
unfoldable pub new_bucket : Places → Peer → Address → ℕ
new_bucket places peer source =
    source_bucket places (group places source)
    (source_choice places (group places peer.addr) (group places source))

-- the index, among the buckets of its group, of a peer's bucket
abbrev pub group_choice : Places → Peer → ℕ
group_choice places peer = hash_of (places.key ∷ sized (key_bytes peer) ∷ []) % GROUP_BUCKETS

-- the bucket of the tried table for a peer
unfoldable pub tried_bucket : Places → Peer → ℕ
tried_bucket places peer = group_bucket places (group places peer.addr) (group_choice places peer)

-- the slot of a peer in a bucket; the letter of the table is N for new and K for tried
abbrev pub slot : ℕ → Places → Peer → ℕ → ℕ
slot letter places peer bucket =
    hash_of (places.key ∷ (letter ∷ []) ∷ to_le_bytes w32 bucket ∷ sized (key_bytes peer) ∷ [])
    % SLOTS

-- The slot of a peer in a bucket of the new table.
unfoldable pub new_slot : Places → Peer → ℕ → ℕ
new_slot places peer bucket = slot 0x4e places peer bucket

-- The slot of a peer in a bucket of the tried table.
unfoldable pub tried_slot : Places → Peer → ℕ → ℕ
tried_slot places peer bucket = slot 0x4b places peer bucket
