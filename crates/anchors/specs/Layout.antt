-- The layout of anchors.dat, field by field, and the fault that each field may show (`DumpAnchors`
-- in addrdb.cpp and `CAddress` in protocol.h of Bitcoin Core).
use Rattle.std.specs.Prelude.{◌≡◌, ℕ, ◌-◌, ◌/◌, ◌^◌, List, length, take, drop, replicate, unwrap_or, not, ◌==◌, nat_lt, nat_le, bytes_eq, Option, Some, None, if◌then◌else◌, ◌⊎◌}
use Rattle.std.specs.Int.{w16, w32}
use Rattle.net_addr.specs.Address.{Address}
use Rattle.net_addr.specs.OldForm.{address}
use Rattle.net_addr.specs.declared.peer.Entry.{Entry}
use Rattle.net_addr.specs.declared.net.Net.TheVariants.{Ipv6}
use Rattle.wire_num.specs.Format.{Format, ◌>>=◌, value, check, times, map_fault, HasFault}
use Rattle.wire_num.specs.Fields.{le, be, compact}
use Rattle.addr_codecs.specs.Layout.{addrv2_address, entry}
use Rattle.placing.specs.Places.{double_sha256}
use Rattle.anchors.specs.Faults.{of_address, of_count, of_number}
use Rattle.anchors.specs.declared.fault.AnchorCause.TheVariants as cause
use Rattle.anchors.specs.declared.fault.AnchorsFault.{AnchorsFault}
use Rattle.anchors.specs.declared.fault.AnchorsFault.TheVariants.{Truncated, BadMagic, BadSum, TooMany, Anchor, Trailing, TooLarge, Memory}
use Rattle.anchors.specs.declared.read.TheConstants.{MAX_ANCHORS}

-- an address that a node does not have is read as IPv6 all zero
abbrev pub or_zero : Option Address → Address
or_zero a = unwrap_or a (address Ipv6 (replicate 16 0))

-- the first field of an anchor, of which all but the low 19 bits say that its address is laid out
-- as in `addrv2`
unfoldable pub layout_field : ℕ → Format AnchorsFault ℕ
layout_field i = do
  n ← map_fault (of_number i) (le w32)
  check (n / 2 ^ 19 == 2 ^ 10) (Anchor i cause.Version) n

-- the anchor of an index
unfoldable pub anchor_format : ℕ → Format AnchorsFault Entry
anchor_format i = do
  _ ← layout_field i
  time ← map_fault (of_number i) (le w32)
  services ← map_fault (of_number i) compact
  addr ← map_fault (of_address i) addrv2_address
  port ← map_fault (of_number i) (be w16)
  value (entry time services port (or_zero addr))

-- the number of anchors, at most MAX_ANCHORS
unfoldable pub count_field : Format AnchorsFault ℕ
count_field = do
  n ← map_fault of_count compact
  check (nat_le n MAX_ANCHORS) (TooMany n) n

-- what is between the magic and the sum of the file
unfoldable pub body : Format AnchorsFault (List Entry)
body = do
  count ← count_field
  times 0 count anchor_format

-- the bytes after the magic and before the sum of the file
abbrev pub between : List ℕ → List ℕ
between bytes = drop 4 (take (length bytes - 32) bytes)

-- the tests of a file as a whole, the first that fails; the magic is that of its chain
unfoldable pub whole_fault : List ℕ → List ℕ → Option AnchorsFault
whole_fault magic bytes =
    let before_sum = take (length bytes - 32) bytes in
    if nat_lt 1048576 (length bytes) then Some (TooLarge (length bytes))
    else if nat_lt (length bytes) 36 then Some Truncated
    else if not (bytes_eq (take 4 bytes) magic) then Some BadMagic
    else if not (bytes_eq (drop (length bytes - 32) bytes) (double_sha256 before_sum))
    then Some BadSum
    else None

-- the bytes are the file of the anchors
abbrev pub IsFile : List ℕ → List ℕ → List Entry → Type 0
IsFile magic bytes anchors =
    (whole_fault magic bytes ≡ None) × body.spells (between bytes) anchors

-- the first fault of bytes that are to be a file
abbrev pub HasFileFault : List ℕ → List ℕ → AnchorsFault → Type 0
HasFileFault magic bytes f =
    (whole_fault magic bytes ≡ Some f)
    ⊎ ((whole_fault magic bytes ≡ None) × HasFault body Trailing (between bytes) f)

-- the bytes are the file of one list of anchors or have one fault, and never both; that memory runs
-- out is no fault of bytes
pub record HasOneMeaning (magic bytes : List ℕ) : Type 0 where
  pub some : ((anchors : List Entry) × IsFile magic bytes anchors)
      ⊎ ((f : AnchorsFault) × HasFileFault magic bytes f)
  pub one_list : (a b : List Entry) → IsFile magic bytes a → IsFile magic bytes b → a ≡ b
  pub one_fault : (f g : AnchorsFault) → HasFileFault magic bytes f → HasFileFault magic bytes g
      → f ≡ g
  pub never_both : (a : List Entry) (f : AnchorsFault) → IsFile magic bytes a
      → HasFileFault magic bytes f → ⊥
  pub no_memory : HasFileFault magic bytes Memory → ⊥
