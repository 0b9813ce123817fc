-- Bans that a file by the rule of Bitcoin Core can have.
use Rattle.std.specs.Prelude.{◌≤◌}
use Rattle.net_addr.specs.Address.{IsAddress}
use Rattle.names.specs.Name.{HasOwnName}
use Rattle.ban_list.specs.BanFile.{max_time}
use Rattle.ban_list.specs.Subnet.{IsWhole}
use Rattle.ban_list.specs.declared.ban.Ban.{Ban}
use Rattle.ban_list.specs.declared.subnet.Subnet.{Subnet}

-- both times of the ban are numbers of 32 bits, as those of every `Ban` of the program are
abbrev pub HasTimes : Ban → Type 0
HasTimes ban = (ban.created ≤ max_time) × (ban.until ≤ max_time)

-- the subnet is of an address, and if that is banned whole, its name is that of no other: an
-- address of CJDNS is in fc00::/8
pub record HasName (s : Subnet) : Type 0 where
  pub address : IsAddress s.addr
  pub own : IsWhole s.addr.net → HasOwnName s.addr
