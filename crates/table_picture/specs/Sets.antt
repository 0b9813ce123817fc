-- The sets of addresses that a picture marks: each has an address, or is that of an AS.
use Rattle.std.specs.Prelude.{⊤}
use Rattle.net_addr.specs.Address.{IsAddress}
use Rattle.risk_parts.specs.declared.addr_set.AddrSet.{AddrSet}
use Rattle.risk_parts.specs.declared.addr_set.AddrSet.TheVariants.{Subnet, Number}

-- a subnet has an address
abbrev pub HasAddress : AddrSet → Type 0
HasAddress (Subnet s) = IsAddress s.addr
HasAddress (Number n) = ⊤
