-- The text of subnets: how each is printed, and which texts parse as one.
use Rattle.std.specs.Prelude.{◌≡◌, ◌⊎◌, ℕ, ◌≤◌, List, [], ◌++◌, codes, decimal}
use Rattle.names.specs.Name.{IsName, name_text}
use Rattle.net_addr.specs.Address.{Address, IsAddress}
use Rattle.net_addr.specs.OldForm.{address}
use Rattle.net_addr.specs.Text.{ipv6_text, text_by, IsDottedText, IsBracketText, IsAddrText}
use Rattle.net_addr.specs.declared.net.Net.{Net}
use Rattle.net_addr.specs.declared.net.Net.TheVariants.{Ipv4, Ipv6}
use Rattle.ban_list.specs.Subnet.{width, clear, IsWhole}
use Rattle.ban_list.specs.declared.ban.BanRule.{BanRule}
use Rattle.ban_list.specs.declared.ban.BanRule.TheVariants.{Labels, Names}
use Rattle.ban_list.specs.declared.subnet.Subnet.{Subnet}

-- a text of an address of the network that has lengths. IPv6 has no brackets here; its bytes are in
-- the old form, so the text of a mapped IPv4 address or of an internal name is none of these, and
-- that of a Tor v2 address is the subnet of `::`
abbrev pub IsIpText : Net → List ℕ → Address → Type 0
IsIpText Ipv4 text a = IsDottedText text a
IsIpText Ipv6 text a = IsBracketText (codes "[" ++ text ++ codes "]") a × (a.net ≡ Ipv6)
IsIpText other text a = ⊥

-- what follows an address: nothing, for its whole length, or a slash and a length
abbrev pub IsLength : Net → List ℕ → ℕ → Type 0
IsLength net tail len =
    ((tail ≡ []) × (len ≡ width net)) ⊎ ((tail ≡ codes "/" ++ decimal len) × (len ≤ width net))

-- the subnet of the address's first `len` bits, if these bits and zeros are an address of the
-- network: those of an internal name are not
pub record IsMaskedFrom (a : Address) (len : ℕ) (s : Subnet) : Type 0 where
  pub size : s.len ≡ len
  pub addr : s.addr ≡ address a.net (clear len a.bytes)
  pub is_address : IsAddress s.addr

-- an IPv4 or IPv6 address and its length; bits after the length are cleared
pub record IsMaskedSubnet (net : Net) (text : List ℕ) (s : Subnet) : Type 0 where
  pub ip : List ℕ
  pub tail : List ℕ
  pub addr : Address
  pub spelled : text ≡ ip ++ tail
  pub ip_text : IsIpText net ip addr
  pub length : IsLength net tail s.len
  pub masked : IsMaskedFrom addr s.len s

-- the subnet of an address that is banned whole
pub record IsWholeOf (a : Address) (s : Subnet) : Type 0 where
  pub addr : s.addr ≡ a
  pub network : IsWhole a.net
  pub length : s.len ≡ width a.net

-- an address of Tor v3, I2P or CJDNS
pub record IsWholeSubnet (text : List ℕ) (s : Subnet) : Type 0 where
  pub addr_text : IsAddrText text s.addr
  pub network : IsWhole s.addr.net
  pub length : s.len ≡ width s.addr.net

-- a text that parses as the subnet
pub data IsSubnetText (text : List ℕ) (s : Subnet) : Type 0 where
  ipv4 : IsMaskedSubnet Ipv4 text s → IsSubnetText text s
  ipv6 : IsMaskedSubnet Ipv6 text s → IsSubnetText text s
  whole : IsWholeSubnet text s → IsSubnetText text s

-- an address of Tor v3, I2P or CJDNS by its name (`LookupSubNet` in netbase.cpp). A text of
-- fc00::/8 without a length is an address of CJDNS: Bitcoin Core prints an IPv6 subnet with its
-- length, and an address of CJDNS without one
pub record IsNamedSubnet (text : List ℕ) (s : Subnet) : Type 0 where
  pub name : IsName text s.addr
  pub own : IsAddress s.addr
  pub network : IsWhole s.addr.net
  pub length : s.len ≡ width s.addr.net

-- a name, or else an IPv4 or IPv6 address with or without a length
abbrev pub IsNamedText : List ℕ → Subnet → Type 0
IsNamedText text s =
    IsNamedSubnet text s
    ⊎ (((named : Subnet) → IsNamedSubnet text named → ⊥) × IsSubnetText text s
    × (IsWhole s.addr.net → ⊥))

-- a text that parses as the subnet, by the rule of the list
abbrev pub IsSubnetTextBy : BanRule → List ℕ → Subnet → Type 0
IsSubnetTextBy Labels text s = IsSubnetText text s
IsSubnetTextBy Names text s = IsNamedText text s

-- the address of a subnet's text; IPv6 has no brackets
abbrev pub ip_by : Net → List ℕ → List ℕ
ip_by Ipv6 bytes = ipv6_text bytes
ip_by other bytes = text_by other bytes

-- what follows it
abbrev pub length_by : Net → ℕ → List ℕ
length_by Ipv4 len = codes "/" ++ decimal len
length_by Ipv6 len = codes "/" ++ decimal len
length_by other len = []

-- how a subnet is printed
abbrev pub subnet_text : Subnet → List ℕ
subnet_text s = ip_by s.addr.net s.addr.bytes ++ length_by s.addr.net s.len

-- the name of a subnet: an IPv4 or IPv6 address, a slash and the length, or only the name of an
-- address (`CSubNet::ToString` in netaddress.cpp)
abbrev pub subnet_name : Subnet → List ℕ
subnet_name s = name_text s.addr ++ length_by s.addr.net s.len

-- how a subnet is printed, by the rule of the list
abbrev pub subnet_text_by : BanRule → Subnet → List ℕ
subnet_text_by Labels s = subnet_text s
subnet_text_by Names s = subnet_name s
