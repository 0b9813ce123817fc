-- What a value says of a record (`AddrmanEntryToJSON` in rpc/net.cpp of Bitcoin Core). Other
-- members count for nothing, and of two members of one name the last one counts (RFC 8259, section
-- 4).
use Rattle.std.specs.Prelude.{◌≡◌, ℕ, ◌≤◌, List, Bool, true, false, codes, decimal, bytes_eq, Option, Some, None, option_and_then}
use Rattle.std.specs.Int.{w128, to_be_bytes}
use Rattle.json.specs.Json.{Json}
use Rattle.json.specs.Find.{get, as_str, as_number}
use Rattle.names.specs.Name.{IsName}
use Rattle.names.specs.Text.{OrElse}
use Rattle.net_addr.specs.Address.{Address}
use Rattle.net_addr.specs.OldForm.{from_v1}
use Rattle.net_addr.specs.Text.{IsIpv6Text}
use Rattle.peer_rec.specs.declared.file_rec.FileRec.{FileRec}
use Rattle.raw_read.specs.declared.raw.Field.{Field}
use Rattle.raw_read.specs.declared.raw.Field.TheVariants.{Address as an_address, Port, Services, Time, Source}

-- the text under a name
abbrev pub text_at : List ℕ → Json → Option (List ℕ)
text_at name j = option_and_then as_str (get name j)

-- The number under a name, at most this one: decimal digits, with no sign, point or exponent.
pub record IsNumberAt (name : List ℕ) (max : ℕ) (j : Json) (n : ℕ) : Type 0 where
  pub below : n ≤ max
  pub digits : option_and_then as_number (get name j) ≡ Some (decimal n)

-- the address is said not to be routable
abbrev pub is_local : Option (List ℕ) → Bool
is_local None = false
is_local (Some network) = bytes_eq network (codes "not_publicly_routable")

-- an IPv6 text: its bytes are in the old form
pub record IsPlainText (text : List ℕ) (a : Address) : Type 0 where
  pub bits : ℕ
  pub bits_text : IsIpv6Text text bits
  pub address : a ≡ from_v1 (to_be_bytes w128 bits)

-- The name of the address. An IPv6 text under fc00::/8 is one of CJDNS, which is routed, unless the
-- network says otherwise.
abbrev pub IsRawName : Bool → List ℕ → Address → Type 0
IsRawName false text = IsName text
IsRawName true text = OrElse (IsPlainText text) (IsName text)

-- the address under a name, beside its network
pub record IsAddressAt (name network : List ℕ) (j : Json) (a : Address) : Type 0 where
  pub text : List ℕ
  pub found : text_at name j ≡ Some text
  pub named : IsRawName (is_local (text_at network j)) text a

-- The address of the record's peer.
abbrev pub IsPeerAddress : Json → Address → Type 0
IsPeerAddress = IsAddressAt (codes "address") (codes "network")

-- The port of the record's peer, a number below 65,536.
abbrev pub IsPort : Json → ℕ → Type 0
IsPort = IsNumberAt (codes "port") 65535

-- The services of the record, a number of 64 bits.
abbrev pub AreServices : Json → ℕ → Type 0
AreServices = IsNumberAt (codes "services") 18446744073709551615

-- seconds since 1970
abbrev pub IsTime : Json → ℕ → Type 0
IsTime = IsNumberAt (codes "time") 4294967295

-- the address that announced the peer
abbrev pub IsSource : Json → Address → Type 0
IsSource = IsAddressAt (codes "source") (codes "source_network")

-- the value says this of a record; the last success and the tries since are not known
pub record IsRec (j : Json) (r : FileRec) : Type 0 where
  pub address : IsPeerAddress j r.peer.addr
  pub port : IsPort j r.peer.port
  pub services : AreServices j r.services
  pub time : IsTime j r.time
  pub source : IsSource j r.source
  pub last_success : r.last_success ≡ 0
  pub attempts : r.attempts ≡ 0

-- some value of a field is there
abbrev pub HasField : Json → Field → Type 0
HasField j an_address = (a : Address) × IsPeerAddress j a
HasField j Port = (n : ℕ) × IsPort j n
HasField j Services = (n : ℕ) × AreServices j n
HasField j Time = (n : ℕ) × IsTime j n
HasField j Source = (a : Address) × IsSource j a

-- the fields before this one are there
abbrev pub HasBefore : Json → Field → Type 0
HasBefore j an_address = Unit {0}
HasBefore j Port = HasField j an_address
HasBefore j Services = HasField j an_address × HasField j Port
HasBefore j Time = HasField j an_address × HasField j Port × HasField j Services
HasBefore j Source =
    HasField j an_address × HasField j Port × HasField j Services × HasField j Time

-- the field is the first one that is missing
abbrev pub Lacks : Json → Field → Type 0
Lacks j field = HasBefore j field × ¬ HasField j field
