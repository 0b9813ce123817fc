-- Sets of addresses: which ones they have, and their texts.
use Rattle.std.specs.Prelude.{◌≡◌, ◌≢◌, ℕ, ◌≤◌, ◌<◌, ◌^◌, ◌==◌, Bool, List, ◌++◌, codes, decimal, ⊤}
use Rattle.std.specs.List.{list_any}
use Rattle.ban_list.specs.Subnet.{IsProper, covers}
use Rattle.ban_list.specs.SubnetText.{IsSubnetText, subnet_text}
use Rattle.net_addr.specs.Address.{Address}
use Rattle.net_addr.specs.declared.peer.Peer.{Peer}
use Rattle.placing.specs.Places.{Places, asn}
use Rattle.risk_parts.specs.declared.addr_set.AddrSet.{AddrSet}
use Rattle.risk_parts.specs.declared.addr_set.AddrSet.TheVariants.{Subnet, Number}

-- the set has an address that the autonomous system of the number announces
abbrev pub set_by : AddrSet → Address → ℕ → Bool
set_by (Subnet s) a number = covers s a
set_by (Number own) a number = own == number

-- one of the sets has the address
abbrev pub any_by : List AddrSet → Address → ℕ → Bool
any_by sets a number = list_any (λ set. set_by set a number) sets

-- one of the sets has the peer's address, under the asmap
abbrev pub is_among : Places → List AddrSet → Peer → Bool
is_among places sets peer = any_by sets peer.addr (asn places.map peer.addr)

-- a subnet that can be banned, or any number
abbrev pub IsProperSet : AddrSet → Type 0
IsProperSet (Subnet s) = IsProper s
IsProperSet (Number n) = ⊤

-- The text is `AS` and a number of 32 bits other than 0, or else that of the subnet.
abbrev pub IsSetText : List ℕ → AddrSet → Type 0
IsSetText text (Subnet s) = ((rest : List ℕ) → text ≢ codes "AS" ++ rest) × IsSubnetText text s
IsSetText text (Number n) = (1 ≤ n) × (n < 2 ^ 32) × (text ≡ codes "AS" ++ decimal n)

-- how a set is printed
abbrev pub set_text : AddrSet → List ℕ
set_text (Subnet s) = subnet_text s
set_text (Number n) = codes "AS" ++ decimal n
