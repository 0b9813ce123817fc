-- The layout of peers.dat in formats 1 to 4, field by field, and the fault that each field may show
-- (`AddrManImpl::Serialize` and `Unserialize` in addrman.cpp, `AddrInfo` in addrman_impl.h and
-- `CAddress` in protocol.h of Bitcoin Core).
use Rattle.std.specs.Prelude.{◌≡◌, ℕ, ◌-◌, ◌/◌, ◌^◌, List, [], ◌∷◌, length, take, drop, replicate, Bool, true, false, not, ◌&&◌, ◌==◌, nat_lt, nat_le, bytes_eq, Option, Some, None, unwrap_or, filter, map, if◌then◌else◌, ◌⊎◌}
use Rattle.std.specs.List.{flat_map}
use Rattle.std.specs.Int.{w16, w32, w64, cast_signed, to_be_bytes}
use Rattle.std.specs.Int.Bits.{bit_xor}
use Rattle.net_addr.specs.Address.{Address}
use Rattle.net_addr.specs.OldForm.{address, from_v1}
use Rattle.net_addr.specs.declared.net.Net.TheVariants.{Ipv6}
use Rattle.wire_num.specs.declared.fault.WireFault.{WireFault}
use Rattle.wire_num.specs.Format.{Format, ◌>>=◌, value, check, times, map_fault, HasFault}
use Rattle.wire_num.specs.Fields.{some_bytes, byte, le, be, compact}
use Rattle.addr_codecs.specs.Layout.{addrv2_address}
use Rattle.placing.specs.Places.{double_sha256}
use Rattle.peer_rec.specs.declared.file_rec.FileRec.{FileRec}
use Rattle.peer_rec.specs.declared.snapshot.TheConstants.{MAX_NEW, MAX_TRIED, MAX_BUCKETS}
use Rattle.peer_rec.specs.Snapshot.{Snapshot, snapshot}
use Rattle.peers_file.specs.Faults.{of_field, of_number, of_address}
use Rattle.peers_file.specs.declared.head.Head.{Head}
use Rattle.peers_file.specs.declared.chain.Chain.{Chain}
use Rattle.peers_file.specs.declared.chain.Chain.TheVariants.{Main, Test, Testnet4, Signet, Regtest, Other}
use Rattle.peers_file.specs.declared.fault.Which.{Which}
use Rattle.peers_file.specs.declared.fault.Which.TheVariants as which
use Rattle.peers_file.specs.declared.fault.RecordCause.TheVariants as cause
use Rattle.peers_file.specs.declared.fault.FileFault.{FileFault}
use Rattle.peers_file.specs.declared.fault.FileFault.TheVariants.{Truncated, BadMagic, BadSum, Compat, Version, Count, Record, Buckets, Time, Attempts, Trailing, TooLarge, Memory}

-- The bytes that begin the files of a chain (`pchMessageStart` in kernel/chainparams.cpp of Bitcoin
-- Core).
abbrev pub magic_of : Chain → List ℕ
magic_of Main = 0xf9 ∷ 0xbe ∷ 0xb4 ∷ 0xd9 ∷ []
magic_of Test = 0x0b ∷ 0x11 ∷ 0x09 ∷ 0x07 ∷ []
magic_of Testnet4 = 0x1c ∷ 0x16 ∷ 0x3f ∷ 0x28 ∷ []
magic_of Signet = 0x0a ∷ 0x03 ∷ 0xcf ∷ 0x40 ∷ []
magic_of Regtest = 0xfa ∷ 0xbf ∷ 0xb5 ∷ 0xda ∷ []
magic_of (Other magic) = to_be_bytes w32 magic

-- A format of wire_num as a field of the file: its faults are those of a file.
abbrev pub field : {A : Type 0} → Format WireFault A → Format FileFault A
field p = map_fault of_field p

-- an address that a node does not have is read as IPv6 all zero
abbrev pub or_zero : Option Address → Address
or_zero a = unwrap_or a (address Ipv6 (replicate 16 0))

-- The record with these fields.
abbrev pub file_rec : Address → ℕ → Address → ℕ → ℕ → ℕ → ℕ → FileRec
file_rec addr port source time services last_success attempts = record {
  peer = record { addr = addr; port = port };
  source = source;
  time = time;
  services = services;
  last_success = last_success;
  attempts = attempts;
}

-- the first field of a record, of which all but the low 19 bits say how the record is laid out
unfoldable pub layout_field : ℕ → ℕ → Format FileFault ℕ
layout_field i high = do
  n ← field (le w32)
  check (n / 2 ^ 19 == high) (Record i cause.Version) n

-- the last success, a time of 64 bits with a sign that has to be one of 32 bits without
unfoldable pub success_field : ℕ → Format FileFault ℕ
success_field i = do
  n ← field (le w64)
  check (nat_lt n (2 ^ 32)) (Time i) n

-- the attempts, a number of 32 bits with a sign that may not be negative
unfoldable pub attempts_field : ℕ → Format FileFault ℕ
attempts_field i = do
  n ← field (le w32)
  check (nat_lt n (2 ^ 31)) (Attempts i) n

-- a record of formats 3 and 4, with addresses as `addrv2` has them (BIP 155)
unfoldable pub record_format : ℕ → Format FileFault FileRec
record_format i = do
  _ ← layout_field i (2 ^ 10)
  time ← field (le w32)
  services ← map_fault (of_number i) compact
  peer ← map_fault (of_address i) addrv2_address
  port ← field (be w16)
  source ← map_fault (of_address i) addrv2_address
  success ← success_field i
  attempts ← attempts_field i
  value (file_rec (or_zero peer) port (or_zero source) time services success attempts)

-- a record of formats 1 and 2, with addresses of sixteen bytes
unfoldable pub old_record_format : ℕ → Format FileFault FileRec
old_record_format i = do
  _ ← layout_field i 0
  time ← field (le w32)
  services ← field (le w64)
  peer ← field (some_bytes 16)
  port ← field (be w16)
  source ← field (some_bytes 16)
  success ← success_field i
  attempts ← attempts_field i
  value (file_rec (from_v1 peer) port (from_v1 source) time services success attempts)

-- one of two formats of a value
abbrev pub either : {F A : Type 0} → Bool → Format F A → Format F A → Format F A
either true p q = p
either false p q = q

-- a record of a file's format, by its index
abbrev pub record_in : ℕ → ℕ → Format FileFault FileRec
record_in format i = either (nat_lt format 3) (old_record_format i) (record_format i)

-- a number of records, at most so many; a negative one counts as above the limit
unfoldable pub count_field : Which → ℕ → Format FileFault ℕ
count_field kind limit = do
  n ← field (le w32)
  check (nat_le n limit) (Count kind (cast_signed w32 n)) n

-- the number of buckets, with its bit 30 flipped; a negative one counts as above the limit
unfoldable pub buckets_field : Format FileFault ℕ
buckets_field = do
  coded ← field (le w32)
  check (nat_le (bit_xor coded (2 ^ 30)) MAX_BUCKETS)
      (Buckets (cast_signed w32 (bit_xor coded (2 ^ 30)))) (bit_xor coded (2 ^ 30))

-- how many entries are read after this count of them: none if it is negative
abbrev pub entries_of : ℕ → ℕ
entries_of n = if nat_lt n (2 ^ 31) then n else 0

-- the indexes that a bucket lists, as pairs; indexes of no new record are passed over
abbrev pub pairs_with : ℕ → ℕ → List ℕ → List (ℕ × ℕ)
pairs_with new_count bucket indexes =
    map (λ i. (bucket, i)) (filter (λ i. nat_lt i new_count) indexes)

-- a bucket: the number of its entries, and the index of a new record in each
unfoldable pub bucket_of : ℕ → ℕ → Format FileFault (List (ℕ × ℕ))
bucket_of new_count bucket = do
  entries ← field (le w32)
  indexes ← times 0 (entries_of entries) (λ _. field (le w32))
  value (pairs_with new_count bucket indexes)

-- the checksum of an asmap, which format 1 does not have
abbrev pub sum_in : ℕ → Format FileFault (List ℕ)
sum_in format = either (format == 1) (value (replicate 32 0)) (field (some_bytes 32))

-- The head with these fields.
abbrev pub head_with : ℕ → List ℕ → ℕ → ℕ → ℕ → Head
head_with format key new_count tried_count bucket_count = record {
  format = format;
  key = key;
  new_count = new_count;
  tried_count = tried_count;
  bucket_count = bucket_count;
}

-- the format; 32 plus the least format that a reader of the file has to know; the key; and the
-- counts
unfoldable pub head : Format FileFault Head
head = do
  format ← field byte
  compat ← field byte
  _ ← check (nat_le 32 compat && nat_le compat 36) (Compat compat) compat
  _ ← check (nat_le 1 format && nat_le format 4) (Version format) format
  key ← field (some_bytes 32)
  new_count ← count_field which.New MAX_NEW
  tried_count ← count_field which.Tried MAX_TRIED
  bucket_count ← buckets_field
  value (head_with format key new_count tried_count bucket_count)

-- the buckets from 0 on, as one list of pairs
unfoldable pub buckets_of : ℕ → ℕ → Format FileFault (List (ℕ × ℕ))
buckets_of new_count bucket_count = do
  listed ← times 0 bucket_count (bucket_of new_count)
  value (flat_map (λ pairs. pairs) listed)

-- what is between the magic and the sum of the file
unfoldable pub body : Format FileFault Snapshot
body = do
  h ← head
  new_recs ← times 0 h.new_count (record_in h.format)
  tried_recs ← times h.new_count h.tried_count (record_in h.format)
  listed ← buckets_of h.new_count h.bucket_count
  sum ← sum_in h.format
  value (snapshot h.key new_recs tried_recs h.bucket_count listed sum)

-- the bytes after the magic and before the sum of the file
abbrev pub between : List ℕ → List ℕ
between bytes = drop 4 (take (length bytes - 32) bytes)

-- the tests of a file as a whole, the first that fails
unfoldable pub whole_fault : Chain → List ℕ → Option FileFault
whole_fault chain bytes =
    let before_sum = take (length bytes - 32) bytes in
    if nat_lt 33554432 (length bytes) then Some (TooLarge (length bytes))
    else if nat_lt (length bytes) 36 then Some Truncated
    else if not (bytes_eq (take 4 bytes) (magic_of chain)) then Some BadMagic
    else if not (bytes_eq (drop (length bytes - 32) bytes) (double_sha256 before_sum))
    then Some BadSum
    else None

-- the bytes are the file of the snapshot
abbrev pub IsFile : Chain → List ℕ → Snapshot → Type 0
IsFile chain bytes snap = (whole_fault chain bytes ≡ None) × body.spells (between bytes) snap

-- the first fault of bytes that are to be a file
abbrev pub HasFileFault : Chain → List ℕ → FileFault → Type 0
HasFileFault chain bytes f =
    (whole_fault chain bytes ≡ Some f)
    ⊎ ((whole_fault chain bytes ≡ None) × HasFault body Trailing (between bytes) f)

-- the bytes are the file of one snapshot or have one fault, and never both; that memory runs out is
-- no fault of bytes
pub record HasOneMeaning (chain : Chain) (bytes : List ℕ) : Type 0 where
  pub some : ((snap : Snapshot) × IsFile chain bytes snap)
      ⊎ ((f : FileFault) × HasFileFault chain bytes f)
  pub one_snapshot : (a b : Snapshot) → IsFile chain bytes a → IsFile chain bytes b → a ≡ b
  pub one_fault : (f g : FileFault) → HasFileFault chain bytes f → HasFileFault chain bytes g
      → f ≡ g
  pub never_both : (a : Snapshot) (f : FileFault) → IsFile chain bytes a
      → HasFileFault chain bytes f → ⊥
  pub no_memory : HasFileFault chain bytes Memory → ⊥
