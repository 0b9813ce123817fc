-- How anchors.dat is written: each number and each length in the fewest bytes that it fits.
-- `DumpAnchors` in addrdb.cpp of Bitcoin Core writes the same.
use Rattle.std.specs.Prelude.{ℕ, List, ◌++◌, length}
use Rattle.std.specs.List.{flat_map}
use Rattle.std.specs.Int.{w16, w32, to_le_bytes, to_be_bytes}
use Rattle.net_addr.specs.declared.peer.Entry.{Entry}
use Rattle.wire_num.specs.CompactSize.{compact_size}
use Rattle.addr_codecs.specs.Texts.{address_text}
use Rattle.placing.specs.Places.{double_sha256}

-- the first two fields of an anchor
abbrev pub front_text : Entry → List ℕ
front_text e = to_le_bytes w32 0x20035b60 ++ to_le_bytes w32 e.time

-- an anchor
unfoldable pub anchor_text : Entry → List ℕ
anchor_text e =
    front_text e ++ (compact_size e.services
    ++ (address_text e.peer.addr ++ to_be_bytes w16 e.peer.port))

-- what is between the magic and the sum of the file
unfoldable pub body_text : List Entry → List ℕ
body_text es = compact_size (length es) ++ flat_map anchor_text es

-- the file: the magic, the body, and the sum of both
unfoldable pub file_text : List ℕ → List Entry → List ℕ
file_text magic es =
    let before_sum = magic ++ body_text es in before_sum ++ double_sha256 before_sum
